use Rattle.std.proofs.Common.{inl, inr, refl, sym, subst, ◌∙◌, FitsSigned, w32, rules}
use Rattle.std.proofs.lemmas.Bool.{true≢false}
use Rattle.std.proofs.lemmas.Int.{to_z-of_z}
use Rattle.cell_store.specs.declared.kinds.Version.TheVariants.{One}
use Rattle.cell_store.specs.Layout.{twin_layout}
use Rattle.cell_store.specs.Store.{HasHeader}
use Rattle.rathonsi_c.specs.Looking.{LookAnswers, TellsCell, FirstOdd}
use Rattle.rathonsi_c.proofs.AnswerLaws.{one_size}
use Rattle.rathonsi_c.proofs.looking.rathonsi_store_look.Goals as goal

pub returns-in_default-clause-named : goal.returns-in_default-clause-named
returns-in_default-clause-named c = record { named = λ n size head odd. absurd (c.in_default.ensures n size); left = λ _. refl }

pub returns-then-not-has_header-clause-answer : goal.returns-then-not-has_header-clause-answer
returns-then-not-has_header-clause-answer c = inr (
  (λ none. none c.in-Some.cells c.in-Some.ensures),
  inl (
    (λ has.
        let head = subst (λ n. HasHeader (twin_layout One) n c.args.image.now) (one_size has.0 c.in-Some.cells _ has.1.0 c.in-Some.ensures) has.1.1 in
        true≢false (sym (c.has_header.ensures.1 head) ∙ c.if-not-has_header.true)),
    refl,
  ),
)

pub returns-then-not-has_header-clause-named : goal.returns-then-not-has_header-clause-named
returns-then-not-has_header-clause-named c = record {
  named = λ n size head odd.
      let own = subst (λ m. HasHeader (twin_layout One) m c.args.image.now) (one_size n c.in-Some.cells _ size c.in-Some.ensures) head in
      absurd (true≢false (sym (c.has_header.ensures.1 own) ∙ c.if-not-has_header.true));
  left = λ _. refl;
}

pub returns-in-Some-first_odd-clause-answer : goal.returns-in-Some-first_odd-clause-answer
returns-in-Some-first_odd-clause-answer c =
    let cells = c.in-Some.cells in
    let odd = c.in-Some-first_odd.odd in
    let head = c.has_header.ensures.0 c.if-not-has_header.false in
    let fits : FitsSigned w32 odd.status = search rules in
    subst (λ s. LookAnswers c.args.image.now s) (sym (to_z-of_z w32 odd.status fits)) (inr (
      (λ none. none cells c.in-Some.ensures),
      inr ((λ headless. headless (cells, (c.in-Some.ensures, head))), (cells, (c.in-Some.ensures, inr (odd.cell, c.in-Some-first_odd.ensures.some)))),
    ))

pub returns-in-Some-first_odd-clause-named : goal.returns-in-Some-first_odd-clause-named
returns-in-Some-first_odd-clause-named c =
    let cells = c.in-Some.cells in
    let odd = c.in-Some-first_odd.odd in
    let image = c.args.image.now in
    let head = c.has_header.ensures.0 c.if-not-has_header.false in
    let first : FirstOdd image cells odd.cell odd.status = c.in-Some-first_odd.ensures.some in
    let fits : FitsSigned w32 odd.status = search rules in
    subst (λ s. TellsCell image s c.args.cell.now odd.cell) (sym (to_z-of_z w32 odd.status fits)) (record {
      named = λ n size _ _. subst (λ m. FirstOdd image m odd.cell odd.status) (one_size cells n _ c.in-Some.ensures size) first;
      left = λ why. absurd (elim why [
        | inl none ↦ none cells c.in-Some.ensures
        | inr more ↦ elim more [
          | inl headless ↦ headless (cells, (c.in-Some.ensures, head))
          | inr ok ↦ first.odd ok
        ]
      ]);
    })

pub returns-in-None-clause-answer : goal.returns-in-None-clause-answer
returns-in-None-clause-answer c =
    let cells = c.in-Some.cells in
    let head = c.has_header.ensures.0 c.if-not-has_header.false in
    inr (
      (λ none. none cells c.in-Some.ensures),
      inr ((λ headless. headless (cells, (c.in-Some.ensures, head))), (cells, (c.in-Some.ensures, inl (c.in-None.ensures.none, refl)))),
    )
