-- The bank was erased, and the cells before this one are copied.
use Rattle.std.proofs.Common.{◌≡◌, ◌≤◌, ℕ, true, take}
use Rattle.seal_parts.specs.declared.PartClass.TheVariants.{Blanks}
use Rattle.seal_parts.specs.declared.UnitKind.TheVariants.{Line}
use Rattle.seal_parts.specs.Parts.{blank_unit}
use Rattle.seal_parts.specs.State.{PartRuns}
use Rattle.seal_parts.specs.Designs.{DoesPartWrites}
use Rattle.seal_laws.specs.Writes.{copy_writes}
use Rattle.seal_store.proofs.writing.write_copy.Given as goal

abbrev pub invariant-loop-i : goal.invariant-loop-i
invariant-loop-i g l = record {
  runs : PartRuns (g.P.SealPart.state l.fn.part) (g.P.SealPart.state l.part);
  count : (g.P.SealPart.state l.part).faults ≡ (g.P.SealPart.state l.fn.part).faults;
  done : DoesPartWrites Blanks (copy_writes l.bank l.generation (take l.i l.cells)) (g.P.SealPart.state l.fn.part).flash (g.P.SealPart.state l.part).flash;
  erased : (g.P.SealPart.state l.part).flash.is_erased l.bank ≡ true;
  blank : (k : ℕ) → l.i ≤ k → (g.P.SealPart.state l.part).flash.unit l.bank k Line ≡ blank_unit;
}
