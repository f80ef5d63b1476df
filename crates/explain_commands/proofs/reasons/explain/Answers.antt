use Rattle.std.proofs.Common.{ℕ, ◌+◌, ◌<◌, length, get_or, sym, ap, ◌∙◌, arith, add-zero}
use Rattle.explain_commands.specs.declared.kinds.Reason.{Reason}
use Rattle.explain_commands.specs.declared.kinds.ReasonKind.TheVariants as kind
use Rattle.explain_commands.specs.Reasons.{Failing, all_kinds, first_reason}
use Rattle.explain_commands.proofs.Searching.{agreeing_within, tries_on, reason_found, tries_found, reason_next, tries_next, reason_none, tries_none}
use Rattle.explain_commands.proofs.reasons.explain.Goals as goal

pub reason-requires : goal.reason-requires
reason-requires c =
    agreeing_within c.args.case.now (get_or all_kinds c.loop-kind.kind-index kind.Replay) c.in-Some.at (sym c.search-searched.ensures.found ∙ c.in-Some.is)

pub returns-in-Some : goal.returns-in-Some
returns-in-Some c =
    let f : Failing = c.args.case.now in
    let i : ℕ = c.loop-kind.kind-index in
    let inside : i < length all_kinds = omega (arith, c.loop-kind-test.true) in
    ap (λ (r : Reason). record { reason = r; tries = c.loop-kind.tries + c.search-searched.result.tries })
    (c.reason.ensures ∙ sym (c.loop-kind.invariant.reason_is ∙ reason_found f all_kinds i _ inside c.in-Some.at (sym c.search-searched.ensures.found ∙ c.in-Some.is)))
    ∙ ap (λ (n : ℕ). record { reason = first_reason f all_kinds; tries = n })
    (ap (λ n. c.loop-kind.tries + n) (c.search-searched.ensures.tries ∙ sym (tries_found f all_kinds i _ inside c.in-Some.at (sym c.search-searched.ensures.found ∙ c.in-Some.is)))
    ∙ sym c.loop-kind.invariant.tries_are)

pub loop-kind-preserved : goal.loop-kind-preserved
loop-kind-preserved c =
    let f : Failing = c.args.case.now in
    let i : ℕ = c.loop-kind.kind-index in
    let inside : i < length all_kinds = omega (arith, c.loop-kind-test.true) in
    let none = sym c.search-searched.ensures.found ∙ c.in_default.is in
    record {
      reason_is = c.loop-kind.invariant.reason_is ∙ reason_next f all_kinds i _ inside none;
      tries_are = tries_on _ _ _ _ _ _ c.loop-kind.invariant.tries_are (tries_next f all_kinds i _ inside none) c.search-searched.ensures.tries;
      few = omega (arith, c.loop-kind.invariant.few, c.search-searched.ensures.few);
    }

pub returns : goal.returns
returns c =
    let f : Failing = c.args.case.now in
    let i : ℕ = c.loop-kind.kind-index in
    ap (λ (r : Reason). record { reason = r; tries = c.loop-kind.tries })
    (c.last_reason.ensures ∙ sym (c.loop-kind.invariant.reason_is ∙ reason_none f all_kinds i (omega (arith, c.loop-kind-test.false))))
    ∙ ap (λ (n : ℕ). record { reason = first_reason f all_kinds; tries = n })
    (sym (c.loop-kind.invariant.tries_are ∙ ap (λ n. c.loop-kind.tries + n) (tries_none f all_kinds i (omega (arith, c.loop-kind-test.false))) ∙ add-zero c.loop-kind.tries))
