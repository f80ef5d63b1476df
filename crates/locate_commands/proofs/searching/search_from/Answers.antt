use Rattle.std.proofs.Common.{◌≡◌, ℕ, List, ◌+◌, ◌*◌, ◌%◌, ◌<◌, ◌≤◌, false, sym, ◌∙◌, subst, arith, inl, inr}
use Rattle.std.specs.Prelude.{slice_index}
use Rattle.std.proofs.lemmas.Bool.{cases_lt}
use Rattle.explain_commands.specs.declared.trials.KnownReceiver.{KnownReceiver}
use Rattle.locate_commands.specs.Locating.{fit_first}
use Rattle.locate_commands.proofs.Fitting.{low_on, apart, fails_low}
use Rattle.locate_commands.proofs.searching.search_from.Goals as goal

pub returns-then-start-last : goal.returns-then-start-last
returns-then-start-last c = λ w from to. absurd (omega (arith, c.if-start-last.true, from, to))

pub loop-step-init : goal.loop-step-init
loop-step-init c = λ w from less. absurd (omega (arith, from, less))

pub fit-requires-clause-low : goal.fit-requires-clause-low
fit-requires-clause-low c = low_on c.args.start c.loop-step.step (slice_index c.args.first.now c.args.receiver.now.size) c.requires.low

pub returns-then-fit : goal.returns-then-fit
returns-then-fit c = (
  omega arith,
  omega (arith, c.loop-step-test.true, c.if-start-last.false),
  sym c.fit.ensures ∙ c.if-fit.true,
  c.loop-step.invariant,
)

-- the value of this turn doesn't fit, and none between it and that of the next
turn : (r : KnownReceiver) (first : List ℕ) (rest : List (List ℕ)) (v w : ℕ) → v % 256 ≡ slice_index first r.size → fit_first r first rest v ≡ false
    → v ≤ w → w < v + 256 → fit_first r first rest w ≡ false
turn r first rest v w low fails from less = elim (cases_lt v w) [
  | inl more ↦ fails_low r first rest w (apart v w (slice_index first r.size) low more less)
  | inr same ↦
      let is : v ≡ w = omega (arith, from, same) in subst (λ (x : ℕ). fit_first r first rest x ≡ false) is fails
]

pub loop-step-preserved : goal.loop-step-preserved
loop-step-preserved c = λ w from less.
    let r : KnownReceiver = c.args.receiver.now in
    let first : List ℕ = c.args.first.now in
    let v : ℕ = c.args.start + 256 * c.loop-step.step in
    elim (cases_lt w v) [
      | inl before ↦ c.loop-step.invariant w from before
      | inr after ↦
          turn r first c.args.rest.now v w (low_on c.args.start c.loop-step.step (slice_index first r.size) c.requires.low)
          (sym c.fit.ensures ∙ c.if-fit.false) after (omega (arith, less))
    ]

pub returns : goal.returns
returns c = λ w from to. c.loop-step.invariant w from (omega (arith, to, c.loop-step-test.false, c.if-start-last.false))
