use Rattle.std.proofs.Common.{◌≡◌, ◌+◌, ◌<◌, ℕ, List, length, get_or, sym, ap, ◌∙◌, arith}
use Rattle.explain_commands.specs.declared.trials.KnownReceiver.{KnownReceiver}
use Rattle.explain_commands.specs.Trials.{accepted_freshness}
use Rattle.locate_commands.specs.Locating.{knowing}
use Rattle.locate_commands.proofs.Fitting.{count_accepted, count_refused, count_end}
use Rattle.locate_commands.proofs.searching.accepted_count.Goals as goal
use Rattle.locate_commands.proofs.searching.accepted_count.Goals.{in-Some, in_default}

pub loop-frame-preserved : goal.loop-frame-preserved
loop-frame-preserved c =
    let r : KnownReceiver = c.args.receiver.now in
    let rest : List (List ℕ) = c.args.rest.now in
    let k : ℕ = c.loop-frame.frame-index in
    let counter : ℕ = c.loop-frame.counter in
    let within : k < length rest = omega (arith, c.loop-frame-test.true) in
    let tried : c.accepted_freshness.result ≡ accepted_freshness (knowing counter r) (get_or rest k c.frame-item.result) =
    c.accepted_freshness.ensures
    ∙ ap (λ (x : KnownReceiver). accepted_freshness x c.bytes.result.now) c.knowing.ensures
    ∙ ap (accepted_freshness (knowing counter r)) (c.bytes.ensures.value ∙ c.frame-item.is) in
    elim c.match-accepted_freshness.branch [
      | in-Some w ↦ record {
        few = omega (arith, w.count-is, c.loop-frame.invariant.few);
        all = rw (w.count-is, w.counter-is)
            (count_accepted r _ c.loop-frame.count counter w.in-Some.next k rest c.frame-item.result within c.loop-frame.invariant.all (sym tried ∙ w.in-Some.is));
      }
      | in_default w ↦ record {
        few = omega (arith, w.count-is, c.loop-frame.invariant.few);
        all = rw (w.count-is, w.counter-is)
            (count_refused r _ c.loop-frame.count counter k rest c.frame-item.result within c.loop-frame.invariant.all (sym tried ∙ w.in_default.is));
      }
    ]

pub returns : goal.returns
returns c =
    sym (c.loop-frame.invariant.all
    ∙ ap (λ (n : ℕ). c.loop-frame.count + n) (count_end c.args.receiver.now c.loop-frame.counter c.loop-frame.frame-index c.args.rest.now (omega arith))
    ∙ omega arith)
