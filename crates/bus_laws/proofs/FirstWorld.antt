-- First worlds
use Rattle.std.specs.Prelude.{◌≡◌, ℕ, ◌<◌, true, None, List, [], ◌∷◌, length, map, replicate, All, zero, suc}
use Rattle.std.proofs.Common.{refl, subst, ap, inl, inr}
use Rattle.std.proofs.lemmas.Bool.{cases_lt}
use Rattle.std.proofs.lemmas.List.{length-map, get_or_past}
use Rattle.std.proofs.lemmas.List.Elements.{All-nil, All-cons}
use Rattle.key_slots.specs.declared.memory.Slot.TheVariants.{Empty}
use Rattle.secure_boot.specs.declared.state.BootState.TheVariants.{Undecided}
use Rattle.freshness_routes.specs.declared.routes.Direction.TheVariants.{Sends}
use Rattle.freshness_routes.specs.Config.{Config}
use Rattle.bus_machine.specs.Node.{Node, first_node, HasRoute}
use Rattle.bus_machine.specs.Bus.{World, First, IsBus, node_at, no_config, SoundBus}
use Rattle.bus_laws.proofs.BusSteps.{Sound-first, first_at}
use Rattle.bus_laws.specs.Laws.{IsFirst, OneSender, HasNodesOf}

pub sound_first : (bus : List Config) → IsBus bus → SoundBus (First bus)
sound_first bus is = Sound-first bus is.configs

pub one_sender : (bus : List Config) → IsBus bus → OneSender (First bus)
one_sender bus is i j id fits fits' r r' =
    let a : i < length bus = subst (λ n. i < n) (length-map bus first_node) fits in
    let b : j < length bus = subst (λ n. j < n) (length-map bus first_node) fits' in
    is.one_sender i j id a b
    (subst (λ n. HasRoute n id Sends) (first_at bus i a) r)
    (subst (λ n. HasRoute n id Sends) (first_at bus j b) r')

first_up : (bus : List Config) (i : ℕ) → (node_at (First bus) i).up ≡ true
first_up [] i = refl
first_up (c ∷ cs) zero = refl
first_up (c ∷ cs) (suc i) = first_up cs i

first_at_bounds : (bus : List Config) (i : ℕ) → (node_at (First bus) i).counters ≡ (node_at (First bus) i).kept.bounds
first_at_bounds [] i = refl
first_at_bounds (c ∷ cs) zero = refl
first_at_bounds (c ∷ cs) (suc i) = first_at_bounds cs i

pub is_first : (bus : List Config) → IsBus bus → IsFirst (First bus)
is_first bus is = record {
  no_event = refl;
  nothing_sent = refl;
  sound = sound_first bus is;
  up = λ i inside. first_up bus i;
  at_bounds = λ i inside. first_at_bounds bus i;
}

-- its nodes
configs_back : (bus : List Config) → map (λ node. node.config) (map first_node bus) ≡ bus
configs_back [] = refl
configs_back (c ∷ cs) = ap (λ (l : List Config). c ∷ l) (configs_back cs)

-- what holds of the first node of each configuration holds of each
each_first : (P : Node → Type 0) → ((c : Config) → P (first_node c)) → (bus : List Config) → All P (map first_node bus)
each_first P f [] = All-nil P
each_first P f (c ∷ cs) = All-cons P (first_node c) (map first_node cs) (f c) (each_first P f cs)

pub has_nodes : (bus : List Config) → HasNodesOf bus (First bus)
has_nodes bus = record {
  configs = configs_back bus;
  slots = each_first (λ node. node.kept.slots ≡ replicate 14 Empty) (λ c. refl) bus;
  bounds = each_first (λ node. node.kept.bounds ≡ map (λ route. route.start) node.config.routes) (λ c. refl) bus;
  unbooted = each_first (λ node. node.boot ≡ Undecided) (λ c. refl) bus;
}

-- in a first world no node has a change pending
pub calm : (start : World) (i : ℕ) → IsFirst start → (node_at start i).pending ≡ None
calm start i first = elim (cases_lt i (length start.nodes)) [
  | inl inside ↦ (first.sound i inside).settled (first.up i inside)
  | inr past ↦ ap (λ node. node.pending) (get_or_past start.nodes i (first_node no_config) past)
]
