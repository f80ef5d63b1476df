use Rattle.std.proofs.Common.{◌≡◌, ℕ, ◌+◌, ◌-◌, List, sym, ap, ◌∙◌, take, drop, arith, rules, refl}
use Rattle.std.proofs.lemmas.Option.{none-some}
use Rattle.cell_store.proofs.CallerLemmas.{cell_at-kept, kept-of, damaged-of, halves}
use Rattle.cell_store.specs.declared.copies.Side.TheVariants.{First, Second}
use Rattle.cell_store.specs.Layout.{part}
use Rattle.cell_store.specs.Twin.{first_at}
use Rattle.cell_store.specs.Copies.{copy}
use Rattle.cell_store.specs.Held.{held_of}
use Rattle.store_plan.proofs.planning.cell_held.Goals as goal

-- what is held of the bytes that were taken is what is held of the copies
of_pair : (x new : List ℕ) (i at : ℕ) → at ≡ first_at i → new ≡ take (at + 68 - at) (drop at x) → held_of (take 34 new) (drop 34 new) ≡ held_of (copy x i First) (copy x i Second)
of_pair x new i at place is =
    let n : at + 68 - at ≡ 68 = omega arith in
    halves x new i (is ∙ (ap (λ m. take m (drop at x)) n ∙ ap (λ a. part a 68 x) place))

pub returns-in-Some-clause-keeps : goal.returns-in-Some-clause-keeps
returns-in-Some-clause-keeps c =
    kept-of c.args.image.now c.args.cell c.in-Some.held (sym (of_pair c.args.image.now c.copy_from_slice.new.self c.args.cell c.pair_place-at.result c.pair_place-at.ensures c.copy_from_slice.ensures.after) ∙ (sym c.held_in.ensures ∙ c.in-Some.is))

pub returns-in-None-clause-damaged : goal.returns-in-None-clause-damaged
returns-in-None-clause-damaged c = (
  λ _. (
    search rules,
    damaged-of c.args.image.now c.args.cell (sym (of_pair c.args.image.now c.copy_from_slice.new.self c.args.cell c.pair_place-at.result c.pair_place-at.ensures c.copy_from_slice.ensures.after) ∙ (sym c.held_in.ensures ∙ c.in-None.is)),
  ),
  λ _. refl,
)

pub returns-in-None-clause-none : goal.returns-in-None-clause-none
returns-in-None-clause-none c =
    λ _ _. damaged-of c.args.image.now c.args.cell (sym (of_pair c.args.image.now c.copy_from_slice.new.self c.args.cell c.pair_place-at.result c.pair_place-at.ensures c.copy_from_slice.ensures.after) ∙ (sym c.held_in.ensures ∙ c.in-None.is))

pub returns-in-Some-clause-held : goal.returns-in-Some-clause-held
returns-in-Some-clause-held c = cell_at-kept c.args.image.now c.args.cell c.in-Some.held (returns-in-Some-clause-keeps c)

pub returns-in-Some-clause-damaged : goal.returns-in-Some-clause-damaged
returns-in-Some-clause-damaged c = (λ e. cc, λ (_, none). absurd (none-some c.in-Some.held.payload (sym none ∙ returns-in-Some-clause-held c)))
