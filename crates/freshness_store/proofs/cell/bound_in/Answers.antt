-- The bytes that the bound makes are those of the cell, or no bound makes them.
use Rattle.std.proofs.Common.{◌≡◌, ◌∷◌, [], refl, sym, ap, get_or, ◌∙◌, arith}
use Rattle.std.specs.Cmp.Lexicographic.{same_text, other_text}
use Rattle.basics.proofs.CallerLemmas.{from_be_bytes-64}
use Rattle.freshness_store.specs.Bound.{bound_cell}
use Rattle.freshness_store.proofs.CellLaws.{bound_is}
use Rattle.freshness_store.proofs.cell.bound_in.Goals as goal

pub returns-then-eq : goal.returns-then-eq
returns-then-eq c = record {
  id_fits = omega arith;
  bound_fits = omega arith;
  cell_is = sym (same_text _ _ c.if-eq.ensures) ∙ c.bound_bytes.ensures;
}

pub returns-else-eq : goal.returns-else-eq
returns-else-eq c bound h =
    let cell = c.args.cell.now in
    let is : c.from_be_bytes-bound.result ≡ bound = c.from_be_bytes-bound.ensures ∙ from_be_bytes-64 (get_or cell 4 0 ∷ get_or cell 5 0 ∷ get_or cell 6 0 ∷ get_or cell 7 0 ∷ get_or cell 8 0 ∷ get_or cell 9 0 ∷ get_or cell 10 0 ∷ get_or cell 11 0 ∷ []) refl ∙ bound_is _ _ _ _ h in
    other_text _ _ c.if-eq.ensures (c.bound_bytes.ensures ∙ ap (bound_cell c.args.id c.args.direction) is ∙ sym h.cell_is)
