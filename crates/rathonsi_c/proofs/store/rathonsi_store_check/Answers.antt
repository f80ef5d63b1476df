use Rattle.std.proofs.Common.{◌≡◌, inl, inr, Err, refl, sym, ap, subst, ◌∙◌, arith}
use Rattle.std.specs.Prelude.{is_some}
use Rattle.std.proofs.lemmas.Bool.{false≢true}
use Rattle.cell_store.specs.declared.kinds.Version.TheVariants.{One}
use Rattle.cell_store.specs.Layout.{twin_layout}
use Rattle.cell_store.specs.Store.{HasHeader}
use Rattle.rathonsi_c.proofs.AnswerLaws.{one_size}
use Rattle.rathonsi_c.proofs.store.rathonsi_store_check.Goals as goal

pub returns-in-Ok-clause-whole : goal.returns-in-Ok-clause-whole
returns-in-Ok-clause-whole c = λ _. record {
  count = c.in-Some.cells;
  size = c.in-Some.ensures;
  head = c.in-Ok.ensures.head refl;
  cells = c.in-Ok.ensures.whole refl;
}

pub returns-in-Ok-clause-answer : goal.returns-in-Ok-clause-answer
returns-in-Ok-clause-answer c = inr (
  (λ none. none c.in-Some.cells c.in-Some.ensures),
  inr (
    (λ foreign. foreign c.in-Some.cells c.in-Some.ensures (c.in-Ok.ensures.head refl)),
    inr (
      (λ damage.
          let same : damage.count ≡ c.in-Some.cells = one_size damage.count c.in-Some.cells _ damage.size c.in-Some.ensures in
          false≢true (sym (ap is_some damage.none) ∙ c.in-Ok.ensures.whole refl damage.cell (let b = damage.below in omega arith))),
      refl,
    ),
  ),
)

pub returns-in-Err-NoStore-clause-answer : goal.returns-in-Err-NoStore-clause-answer
returns-in-Err-NoStore-clause-answer c = inr (
  (λ none. none c.in-Some.cells c.in-Some.ensures),
  inl ((λ n is. subst (λ k. ¬ HasHeader (twin_layout One) k c.args.image.now) (one_size c.in-Some.cells n _ c.in-Some.ensures is) (c.in-Err-NoStore.ensures.no_store.0 (ap Err c.in-Err-NoStore.field-0-is))), refl),
)

pub returns-in-Err-Damaged-clause-answer : goal.returns-in-Err-Damaged-clause-answer
returns-in-Err-Damaged-clause-answer c =
    let damaged = c.in-Err-Damaged.ensures.damaged.0 (ap Err c.in-Err-Damaged.field-0-is) in
    inr (
      (λ none. none c.in-Some.cells c.in-Some.ensures),
      inr (
        (λ foreign. foreign c.in-Some.cells c.in-Some.ensures damaged.0),
        inl (record { count = c.in-Some.cells; size = c.in-Some.ensures; cell = damaged.1.0; below = damaged.1.1.0; none = damaged.1.1.1 }, refl),
      ),
    )
