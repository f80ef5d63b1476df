use Rattle.std.proofs.Common.{◌≡◌, ℕ, List, [], ◌∷◌, ◌++◌, replicate, ap, ◌∙◌, arith}
use Rattle.bus_machine.specs.declared.events.Event.{Event}
use Rattle.bus_script.specs.Trials.{key_for}
use Rattle.bus_script.proofs.TrialLists.{keys_below, slot_more}
use Rattle.bus_script.proofs.trial.push_node_keys.Goals as goal

pub loop-slot-preserved : goal.loop-slot-preserved
loop-slot-preserved c =
    let nodes = c.args.bus.now.nodes in
    let slot = c.loop-slot.slot in
    let before = c.args.events.now.items in
    c.in_ok-push.ensures.items
    ∙ ap (λ (e : Event). c.loop-slot.events.items ++ e ∷ []) (c.key_for_slot.ensures ∙ ap (λ (k : List ℕ). key_for nodes c.args.node slot 1 k) c.of.ensures.value)
    ∙ ap (λ (l : List Event). l ++ key_for nodes c.args.node slot 1 (replicate 16 255) ∷ []) c.loop-slot.invariant
    ∙ slot_more nodes c.args.node slot before (omega (arith, c.loop-slot.auto.slot))

pub returns : goal.returns
returns c =
    let last : c.loop-slot.slot ≡ 14 = omega (arith, c.loop-slot-test.false, c.loop-slot.auto.slot-end) in
    c.loop-slot.invariant ∙ ap (λ n. c.args.events.now.items ++ keys_below c.args.bus.now.nodes c.args.node n) last
