use Rattle.std.proofs.Common.{List, ◌++◌, sym, ap, ◌∙◌, append_assoc}
use Rattle.std.specs.List.{flat_map, range_with_len}
use Rattle.bus_machine.specs.declared.events.Event.{Event}
use Rattle.bus_script.specs.Trials.{keys_of_node}
use Rattle.bus_script.proofs.TrialLists.{keys_more}
use Rattle.bus_script.proofs.trial.push_keys.Goals as goal

pub loop-place-preserved : goal.loop-place-preserved
loop-place-preserved c =
    let nodes = c.args.bus.now.nodes in
    let place = c.loop-place.place in
    let before = c.args.events.now.items in
    c.in_ok-push_node_keys.ensures
    ∙ ap (λ (l : List Event). l ++ keys_of_node nodes place) c.loop-place.invariant
    ∙ append_assoc before (flat_map (keys_of_node nodes) (range_with_len 0 place)) (keys_of_node nodes place)
    ∙ ap (λ (l : List Event). before ++ l) (sym (keys_more nodes place))
