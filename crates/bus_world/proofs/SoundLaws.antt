-- Nodes of a world that are sound
use Rattle.std.specs.Prelude.{◌≡◌, ℕ, ◌<◌, List, [], ◌∷◌, length, map, set, get_or}
use Rattle.std.proofs.Common.{sym, ap, ◌∙◌, subst, arith, inl, inr, get_or-set_same, get_or-set_other}
use Rattle.std.proofs.lemmas.Bool.Decides.{eqb_tells}
use Rattle.std.proofs.lemmas.List.{length-map, length-set, get_or-map}
use Rattle.std.proofs.lemmas.Option.{get_or_from_slice_get, slice_get_within}
use Rattle.cut_disk.specs.State.{DiskState}
use Rattle.bus_config.specs.Buses.{NamedBus}
use Rattle.machine_runs.specs.Run.{Moment, Run}
use Rattle.bus_machine.specs.declared.events.Event.{Event}
use Rattle.bus_machine.specs.declared.lines.Line.{Line}
use Rattle.bus_machine.specs.Node.{first_node}
use Rattle.bus_machine.specs.Sound.{Sound}
use Rattle.bus_machine.specs.Bus.{World, no_config, node_of, SoundBus}
use Rattle.secoc_node.specs.State.{NodeState}
use Rattle.bus_world.specs.declared.start.Start.{Start}
use Rattle.bus_world.specs.Starts.{OpensNodes}
use Rattle.bus_world.specs.Worlds.{BusState, world_of, BusTurn}

-- a world with these nodes
abbrev pub with_nodes : World → List NodeState → World
with_nodes world nodes = record { nodes = map (λ n. n.node) nodes; events = world.events; sent = world.sent }

-- of sound nodes
pub sound_nodes : (world : World) (nodes : List NodeState) (d : NodeState) → ((i : ℕ) → i < length nodes → Sound (get_or nodes i d).node) → SoundBus (with_nodes world nodes)
sound_nodes world nodes d each i inside =
    let within : i < length nodes = subst (λ n. i < n) (length-map nodes (λ n. n.node)) inside in
    subst Sound (sym (get_or-map (λ n. n.node) nodes i d (first_node no_config) within)) (each i within)

-- the node at a place
pub sound_there : (world : World) (nodes : List NodeState) (place : ℕ) (n : NodeState) → SoundBus (with_nodes world nodes) → place < length nodes → n ≡ get_or nodes place n → Sound n.node
sound_there world nodes place n sound inside is =
    subst Sound (get_or-map (λ n. n.node) nodes place n (first_node no_config) inside ∙ ap (λ (m : NodeState). m.node) (sym is))
    (sound place (subst (λ k. place < k) (sym (length-map nodes (λ n. n.node))) inside))

-- one node is replaced by a sound one
pub sound_set : (world later : World) (nodes : List NodeState) (place : ℕ) (n : NodeState) → SoundBus (with_nodes world nodes) → place < length nodes → Sound n.node
    → SoundBus (with_nodes later (set nodes place n))
sound_set world later nodes place n sound inside there =
    let d = n in
    sound_nodes later (set nodes place n) d (λ i within.
    let i_inside : i < length nodes = subst (λ k. i < k) (length-set nodes place n) within in
    elim (eqb_tells i place) [
      | inl same ↦
          subst (λ (m : NodeState). Sound m.node) (sym (ap (λ j. get_or (set nodes place n) j d) same.1 ∙ get_or-set_same nodes place n d inside)) there
      | inr other ↦
          subst (λ (m : NodeState). Sound m.node) (sym (get_or-set_other nodes place i n d other.1))
          (subst Sound (get_or-map (λ n. n.node) nodes i d (first_node no_config) i_inside) (sound i (subst (λ k. i < k) (sym (length-map nodes (λ n. n.node))) i_inside)))
    ])

-- nodes that were opened
pub opened_sound : (world : World) (start : Start) (bus : NamedBus) (before : List DiskState) (nodes : List NodeState) → OpensNodes start bus before nodes → SoundBus (with_nodes world nodes)
opened_sound world start bus before [] opens = λ i inside. absurd (let no : ⊥ = omega (arith, inside) in no)
opened_sound world start bus before (n ∷ ns) opens =
    sound_nodes world (n ∷ ns) n
    (λ i inside. (opens.opened.opened i (record { name = []; config = no_config }) n.store.disk n (omega (arith, inside, opens.opened.count))).sound)

-- a turn
turn_keeps_sound : (before : BusState) (e : Event) (line : Line) (after : BusState) → BusTurn before e line after → SoundBus (world_of before) → SoundBus (world_of after)
turn_keeps_sound before e line after turn sound =
    let one = turn.one in
    let place = node_of e in
    let inside = slice_get_within before.nodes place one.before one.was in
    let is : one.before ≡ get_or before.nodes place one.before = sym (get_or_from_slice_get before.nodes place one.before one.before one.was) in
    subst (λ nodes. SoundBus (with_nodes (world_of after) nodes)) (sym one.others)
    (sound_set (world_of before) (world_of after) before.nodes place one.after sound inside (one.step.sound (sound_there (world_of before) before.nodes place one.before sound inside is)))

pub turns_keep_sound : (start now : BusState) (moments : List (Moment Event Line BusState)) → SoundBus (world_of start) → Run BusTurn start moments now → SoundBus (world_of now)
turns_keep_sound start now [] sound run = subst (λ s. SoundBus (world_of s)) (sym run) sound
turns_keep_sound start now (m ∷ ms) sound run = turns_keep_sound m.after now ms (turn_keeps_sound start m.command m.line m.after run.0 sound) run.1
