use Rattle.std.proofs.Common.{◌≡◌, inl, inr, sym, subst, ◌∙◌, arith}
use Rattle.std.proofs.lemmas.Bool.{cases_lt, true≢false, false≢true}
use Rattle.rathonsi_c.specs.Stale.{CellFalls}
use Rattle.rathonsi_c.proofs.stale.is_stale.Goals as goal

pub cell_falls-requires : goal.cell_falls-requires
cell_falls-requires c = (c.requires, ((c.counted-cell-end.ensures c.loop-cell.cell).0 (let t = c.loop-cell-test.true in omega arith)).room)

pub loop-cell-preserved : goal.loop-cell-preserved
loop-cell-preserved c = λ i b h.
    let cell = c.loop-cell.cell in
    elim (cases_lt i cell) [
      | inl before ↦ c.loop-cell.invariant i before h
      | inr end ↦
          let e : i ≡ cell = omega arith in
          true≢false (sym (c.cell_falls.ensures.1 (subst (λ j. CellFalls c.args.image.now c.args.plan.now j) e h)) ∙ c.if-cell_falls.false)
    ]

pub returns : goal.returns
returns c = (
  λ e. absurd (false≢true e),
  λ s. absurd (c.loop-cell.invariant s.place (let b = (c.counted-cell-end.ensures s.place).1 s.counted in let t = c.loop-cell-test.false in omega arith) s.falls),
)
