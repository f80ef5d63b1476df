use Rattle.std.specs.Prelude.{◌≡◌, ◌<◌, Some, length, set, slice_get}
use Rattle.std.proofs.Common.{refl, sym, subst, arith, ◌∙◌}
use Rattle.std.proofs.lemmas.Option.{get_or_from_slice_get}
use Rattle.machine_runs.specs.Members.{MemberSteps}
use Rattle.bus_machine.specs.Bus.{node_of}
use Rattle.secoc_node.specs.State.{NodeState}
use Rattle.bus_world.specs.Turns.{duty_of, NodeTurn, HearsBrought}
use Rattle.bus_world.specs.Worlds.{BusState, world_of, Turned, NodeHears}
use Rattle.bus_world.proofs.Stepping.{MemberSteps_at}
use Rattle.bus_world.proofs.SoundLaws.{sound_there, sound_set}
use Rattle.bus_world.proofs.world.World.turn.Goals as goal

pub returns-clause-turned : goal.returns-clause-turned
returns-clause-turned g c =
    let nodes = c.self.inside.nodes.items in
    let history = c.self.inside.history in
    let before : BusState = record { nodes = nodes; events = history.events; most = history.most; sent = history.lines } in
    let place = c.node_of-place.result in
    let y = c.take_turn.new.node in
    let after : BusState = record { nodes = set nodes place y; events = history.events; most = history.most; sent = history.lines } in
    subst (λ s. Turned s c.args.event.now c.take_turn.result after) c.self.view_is
    (record {
      one = subst (λ p. MemberSteps NodeTurn nodes p (duty_of (world_of before) c.args.event.now) c.take_turn.result (set nodes place y)) c.node_of-place.ensures
          (MemberSteps_at NodeTurn nodes place c.index_mut.result.now y (duty_of (world_of before) c.args.event.now) c.take_turn.result
          (omega (arith, c.node_of-place.ensures, subst (λ s. node_of c.args.event.now < length s.nodes) (sym c.self.view_is) c.requires.of_bus.of_bus))
          c.index_mut.ensures.value (c.take_turn.ensures.turn (world_of before) refl));
      source = c.take_turn.ensures.source (world_of before) refl;
      events = refl;
      most = refl;
      sent = refl;
    })

pub returns-clause-honest : goal.returns-clause-honest
returns-clause-honest g c =
    let nodes = c.self.inside.nodes.items in
    let history = c.self.inside.history in
    let before : BusState = record { nodes = nodes; events = history.events; most = history.most; sent = history.lines } in
    let place = c.node_of-place.result in
    let event = c.args.event.now in
    subst (λ s. NodeHears s event c.take_turn.result) c.self.view_is
    (λ old was.
    let same = c.index_mut.ensures.value ∙ get_or_from_slice_get nodes place old c.index_mut.result.now (subst (λ p. slice_get nodes p ≡ Some old) (sym c.node_of-place.ensures) was) in
    subst (λ (n : NodeState). HearsBrought (world_of before) event n.node c.take_turn.result) same (c.take_turn.ensures.honest (world_of before) refl))

pub invariant_of-self : goal.invariant_of-self
invariant_of-self g c =
    let nodes = c.self.inside.nodes.items in
    let history = c.self.inside.history in
    let before : BusState = record { nodes = nodes; events = history.events; most = history.most; sent = history.lines } in
    let place = c.node_of-place.result in
    let inside : place < length nodes = omega (arith, c.node_of-place.ensures, subst (λ s. node_of c.args.event.now < length s.nodes) (sym c.self.view_is) c.requires.of_bus.of_bus) in
    sound_set (world_of before) (world_of before) nodes place c.take_turn.new.node c.self.invariant inside
    ((c.take_turn.ensures.turn (world_of before) refl).sound (sound_there (world_of before) nodes place c.index_mut.result.now c.self.invariant inside c.index_mut.ensures.value))
