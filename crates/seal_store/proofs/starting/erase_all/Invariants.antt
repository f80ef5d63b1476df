-- The banks before this one are erased, and those that aren't there are blank.
use Rattle.std.proofs.Common.{◌≡◌, ◌<◌, ℕ, true}
use Rattle.seal_parts.specs.declared.UnitKind.{UnitKind}
use Rattle.seal_parts.specs.Parts.{blank_unit}
use Rattle.seal_parts.specs.State.{PartRuns}
use Rattle.seal_store.proofs.starting.erase_all.Given as goal

abbrev pub invariant-loop-bank : goal.invariant-loop-bank
invariant-loop-bank g l = record {
  runs : PartRuns (g.P.SealPart.state l.fn.part) (g.P.SealPart.state l.part);
  count : (g.P.SealPart.state l.part).faults ≡ (g.P.SealPart.state l.fn.part).faults;
  blank : (bank k : ℕ) (kind : UnitKind) → bank < l.bank → (g.P.SealPart.state l.part).flash.unit bank k kind ≡ blank_unit;
  erased : (bank : ℕ) → bank < l.bank → (g.P.SealPart.state l.part).flash.is_erased bank ≡ true;
}
