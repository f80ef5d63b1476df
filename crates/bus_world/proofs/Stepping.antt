-- The step of a world, from the turn of its node
use Rattle.std.specs.Prelude.{◌≡◌, ℕ, ◌<◌, Some, List, length, get_or, set, slice_get}
use Rattle.std.proofs.Common.{refl, sym, ap, ◌∙◌, subst}
use Rattle.std.proofs.lemmas.List.{get_or-set_same}
use Rattle.std.proofs.lemmas.Option.{slice_get-get_or, slice_get_within, get_or_from_slice_get, same_Some}
use Rattle.machine_runs.specs.Members.{MemberSteps}
use Rattle.bus_machine.specs.declared.events.Event.{Event}
use Rattle.bus_machine.specs.declared.lines.Line.{Line}
use Rattle.bus_machine.specs.Bus.{node_of}
use Rattle.secoc_node.specs.State.{NodeState}
use Rattle.bus_world.specs.Turns.{duty_of, NodeTurn, TellsFaults}
use Rattle.bus_world.specs.Worlds.{BusState, world_of, HearsInTime, NodeHears}

-- the step of the value at a place of a list is the step of a member
pub MemberSteps_at : {C L S : Type 0} (steps : S → C → L → S → Type 0) (xs : List S) (place : ℕ) (x y : S) (command : C) (line : L)
    → place < length xs → x ≡ get_or xs place x → steps x command line y → MemberSteps steps xs place command line (set xs place y)
MemberSteps_at steps xs place x y command line fits is step = record {
  before = x;
  after = y;
  was = slice_get-get_or xs place x fits ∙ ap Some (sym is);
  step = step;
  others = refl;
}

-- the member at the place, before its step and after it
member_before : {C L S : Type 0} (steps : S → C → L → S → Type 0) (xs ys : List S) (place : ℕ) (command : C) (line : L) (x : S)
    → (m : MemberSteps steps xs place command line ys) → slice_get xs place ≡ Some x → m.before ≡ x
member_before steps xs ys place command line x m was = same_Some m.before x (sym m.was ∙ was)

member_after : {C L S : Type 0} (steps : S → C → L → S → Type 0) (xs ys : List S) (place : ℕ) (command : C) (line : L) (y : S)
    → (m : MemberSteps steps xs place command line ys) → slice_get ys place ≡ Some y → m.after ≡ y
member_after steps xs ys place command line y m is =
    sym (get_or-set_same xs place m.after y (slice_get_within xs place m.before m.was))
    ∙ ap (λ zs. get_or zs place y) (sym m.others) ∙ get_or_from_slice_get ys place y y is

-- a node that hears, in a turn that tells the faults of its disk
pub in_time : (before after : BusState) (event : Event) (line : Line) → MemberSteps NodeTurn before.nodes (node_of event) (duty_of (world_of before) event) line after.nodes
    → NodeHears before event line → HearsInTime before event line after
in_time before after event line m hears s old new brings was is fits =
    let from = member_before NodeTurn before.nodes after.nodes (node_of event) (duty_of (world_of before) event) line old m was in
    let to = member_after NodeTurn before.nodes after.nodes (node_of event) (duty_of (world_of before) event) line new m is in (
      hears old was s brings fits,
      subst (λ (n : NodeState). TellsFaults line n.store.disk.faults new.store.disk.faults) from
          (subst (λ (n : NodeState). TellsFaults line m.before.store.disk.faults n.store.disk.faults) to m.step.faults),
    )
