use Rattle.std.proofs.Common.{◌≡◌, ℕ, List, ◌&&◌, Bool, true, false, sym, ap, ◌∙◌, arith}
use Rattle.std.specs.Prelude.{nat_le}
use Rattle.explain_commands.specs.declared.trials.KnownReceiver.{KnownReceiver}
use Rattle.explain_commands.specs.declared.trials.Making.TheVariants as making
use Rattle.explain_commands.specs.Trials.{tag_trial, agrees}
use Rattle.locate_commands.specs.Locating.{accepted_count}
use Rattle.locate_commands.proofs.Fitting.{some_room, fit_tried}
use Rattle.locate_commands.proofs.searching.fit.Goals as goal

-- the test of the count that was found is that of the count
at_least_two : (found count : ℕ) → found ≡ count → nat_le 2 found ≡ nat_le 2 count
at_least_two found count is = ap (nat_le 2) is

pub returns-then-not-agrees : goal.returns-then-not-agrees
returns-then-not-agrees c =
    let r : KnownReceiver = c.args.receiver.now in
    let first : List ℕ = c.args.first.now in
    let v : ℕ = c.args.v in
    let fails : agrees (tag_trial making.Standard r first v) ≡ false = ap agrees (sym c.tag_trial_by.ensures) ∙ sym c.agrees.ensures ∙ c.if-not-agrees.true in
    sym (fit_tried r first c.args.rest.now v (some_room r.size first c.requires.some c.requires.few c.requires.enough) c.requires.low
    (omega (arith, c.ranges.v.fits))
    ∙ ap (λ (b : Bool). b && nat_le 2 (accepted_count r v c.args.rest.now)) fails)

pub returns : goal.returns
returns c =
    let r : KnownReceiver = c.args.receiver.now in
    let first : List ℕ = c.args.first.now in
    let v : ℕ = c.args.v in
    let passes : agrees (tag_trial making.Standard r first v) ≡ true = ap agrees (sym c.tag_trial_by.ensures) ∙ sym c.agrees.ensures ∙ c.if-not-agrees.false in
    at_least_two c.accepted_count.result (accepted_count r v c.args.rest.now) c.accepted_count.ensures
    ∙ sym (fit_tried r first c.args.rest.now v (some_room r.size first c.requires.some c.requires.few c.requires.enough) c.requires.low
    (omega (arith, c.ranges.v.fits))
    ∙ ap (λ (b : Bool). b && nat_le 2 (accepted_count r v c.args.rest.now)) passes)
