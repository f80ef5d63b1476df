-- The bytes that the place makes are those of the cell.
use Rattle.std.proofs.Common.{sym, ◌∙◌}
use Rattle.std.specs.Cmp.Lexicographic.{same_text}
use Rattle.key_campaign.proofs.cell.place_in.Goals as goal

pub returns-then-eq : goal.returns-then-eq
returns-then-eq c = record {
  is_place = c.in_ok-place.ensures.place;
  cell_is = sym (same_text _ _ c.if-eq.ensures) ∙ c.place_bytes.ensures;
}
