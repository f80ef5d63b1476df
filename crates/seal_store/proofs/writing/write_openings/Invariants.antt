-- The deeds before this one are programmed, and the others may be.
use Rattle.std.proofs.Common.{◌≡◌, ◌+◌, ℕ}
use Rattle.seal_parts.specs.declared.PartClass.TheVariants.{Blanks}
use Rattle.seal_parts.specs.State.{PartRuns}
use Rattle.seal_parts.specs.Designs.{DoesPartWrites, MayDoPartWrites}
use Rattle.seal_laws.specs.Writes.{opening_writes, last_after}
use Rattle.seal_store.proofs.writing.write_openings.Given as goal

abbrev pub invariant-loop-i : goal.invariant-loop-i
invariant-loop-i g l = record {
  runs : PartRuns (g.P.SealPart.state l.fn.part) (g.P.SealPart.state l.part);
  count : (g.P.SealPart.state l.part).faults ≡ (g.P.SealPart.state l.fn.part).faults;
  last : l.last ≡ last_after l.point.next l.point.last l.i;
  done : DoesPartWrites Blanks (opening_writes Blanks l.point.bank l.point.generation l.point.next l.point.last l.i) (g.P.SealPart.state l.fn.part).flash (g.P.SealPart.state l.part).flash;
  may : (m : ℕ) → l.point.lacking ≡ l.i + m → MayDoPartWrites Blanks (opening_writes Blanks l.point.bank l.point.generation (l.point.next + l.i) l.last m) (g.P.SealPart.state l.part).flash;
}
