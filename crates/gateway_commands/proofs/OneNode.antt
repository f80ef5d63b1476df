-- The second phase: the one node
use Rattle.std.specs.Prelude.{◌≡◌, ℕ, List, [], ◌∷◌, ◌++◌, length, drop, get_or, Result}
use Rattle.std.proofs.Common.{refl, sym, ap, ◌∙◌, subst, arith}
use Rattle.std.proofs.lemmas.List.{length-append}
use Rattle.bus_port.specs.Sink.{SinkState}
use Rattle.cut_disk.specs.State.{DiskState}
use Rattle.freshness_routes.specs.Config.{Config}
use Rattle.run_driver.specs.declared.printing.Unwritten.{Unwritten}
use Rattle.bus_machine.specs.Node.{Node}
use Rattle.bus_machine.specs.declared.events.Event.{Event}
use Rattle.bus_config.specs.Buses.{NamedBus, IsNamedBus}
use Rattle.bus_script.specs.EventForms.{no_node}
use Rattle.secoc_node.specs.State.{NodeState}
use Rattle.bus_world.specs.declared.start.Start.TheVariants.{Format}
use Rattle.bus_world.specs.Starts.{OpensNodes, Opened, disks_of}
use Rattle.secoc_gateway.specs.Pairs.{AreGood}
use Rattle.gateway_commands.specs.Inputs.{TakesPairs, gate_config}
use Rattle.gateway_commands.specs.Runs.{RanGateway}
use Rattle.gateway_commands.specs.Steps.{PrintsTurns}

-- ---- the one node

-- the last of one node is the first, and none is left
pub last_one : (nodes rest : List NodeState) (node d : NodeState) → nodes ≡ rest ++ node ∷ [] → length nodes ≡ 1 → node ≡ get_or nodes 0 d
last_one nodes [] node d is one = sym (ap (λ (ns : List NodeState). get_or ns 0 d) is)
last_one nodes (r ∷ rs) node d is one =
    absurd (let no : ⊥ = omega (arith, ap (λ (ns : List NodeState). length ns) is, length-append rs (node ∷ []), one) in no)

pub none_left : (nodes rest : List NodeState) (node : NodeState) → nodes ≡ rest ++ node ∷ [] → length nodes ≡ 1 → rest ≡ []
none_left nodes [] node is one = refl
none_left nodes (r ∷ rs) node is one =
    absurd (let no : ⊥ = omega (arith, ap (λ (ns : List NodeState). length ns) is, length-append rs (node ∷ []), one) in no)

module _ (bus : NamedBus) (pairs : List (ℕ × ℕ)) (before : List DiskState) (nodes : List NodeState) (takes : TakesPairs bus pairs) (opens : OpensNodes Format bus before nodes) where
  pub one_node : length nodes ≡ 1
  one_node = opens.opened.count ∙ takes.one

  pub opened_one : (node : NodeState) (d : DiskState) → node ≡ get_or nodes 0 node → Opened Format bus.kind bus.version (gate_config bus) (get_or before 0 d) node
  opened_one node d is =
      subst (Opened Format bus.kind bus.version (gate_config bus) (get_or before 0 d)) (sym is) (opens.opened.opened 0 no_node d node (omega (arith, takes.one)))

  pub good_pairs : (node : NodeState) (d : DiskState) → node ≡ get_or nodes 0 node → AreGood node.node.config.routes pairs
  good_pairs node d is = subst (λ (c : Config). AreGood c.routes pairs) (sym (ap (λ (n : Node). n.config) (opened_one node d is).just_powered)) takes.good

  -- what was done over it
  pub ran_gateway : (node after : NodeState) (left : List DiskState) (events : List Event) (sink_before sink_after : SinkState) (result : Result (Unit {0}) Unwritten)
      → IsNamedBus bus → node ≡ get_or nodes 0 node → PrintsTurns node pairs events sink_before sink_after after result
      → left ≡ disks_of (after ∷ []) ++ drop (length bus.nodes) before → RanGateway bus pairs before left events sink_before sink_after result
  ran_gateway node after left events sink_before sink_after result is_bus is turns back = record {
    is_bus = is_bus;
    takes = takes;
    room = opens.room;
    start = turns.start;
    now = turns.now;
    opened = λ d. subst (Opened Format bus.kind bus.version (gate_config bus) (get_or before 0 d)) (sym turns.over_node) (opened_one node d is);
    pairs_are = turns.pairs_are;
    printed = turns.printed;
    disks = back ∙ ap (λ (n : ℕ). after.store.disk ∷ drop n before) takes.one
        ∙ ap (λ (n : NodeState). n.store.disk ∷ drop 1 before) (sym turns.handed_back);
  }
