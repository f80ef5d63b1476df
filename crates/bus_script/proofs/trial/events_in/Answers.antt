use Rattle.std.proofs.Common.{◌≡◌, ◌+◌, ◌*◌, List, length, sym, ap, ◌∙◌, arith}
use Rattle.bus_config.specs.declared.node_lines.NodeLine.{NodeLine}
use Rattle.bus_machine.specs.declared.events.Event.{Event}
use Rattle.bus_script.specs.Trials.{keys_of_bus, trial_events}
use Rattle.bus_script.proofs.TrialLists.{events_and_left, events_more, events_done, events_first}
use Rattle.bus_script.proofs.trial.events_in.Goals as goal

pub loop-done-preserved : goal.loop-done-preserved
loop-done-preserved c =
    let nodes = c.args.bus.now.nodes in
    let long : length c.nodes.result.now ≡ length nodes = ap (λ (l : List NodeLine). length l) c.nodes.ensures.value in
    let numbered : length c.nodes.result.now * 10 + 1 + c.loop-done.done ≡ 10 * length nodes + 1 + c.loop-done.done = omega (arith, long) in
    ap (λ (l : List Event). events_and_left nodes c.args.count (c.loop-done.done + 1) l c.draw_event.new.draws) c.in_ok-push.ensures.items
    ∙ sym (events_more nodes c.loop-done.events.items c.args.count c.loop-done.done (length c.nodes.result.now * 10 + 1 + c.loop-done.done) c.loop-done.draws
    c.draw_event.new.draws c.in_ok-draw_event.field-0 c.loop-done-test.true numbered c.in_ok-draw_event.ensures)
    ∙ c.loop-done.invariant

pub returns : goal.returns
unfolding trial_events
returns c =
    events_done c.args.bus.now.nodes c.loop-done.events.items c.args.count c.loop-done.done c.loop-done.draws c.loop-done-test.false ∙ c.loop-done.invariant
    ∙ events_first c.args.bus.now.nodes (keys_of_bus c.args.bus.now.nodes) c.args.count c.args.seed
