-- Names, and the nodes that have them
use Rattle.std.proofs.Common.{◌≡◌, ◌≢◌, ℕ, ◌+◌, ◌<◌, Bool, true, false, cond, Some, None, List, length, take, get_or, ltb, All, AllPairs, refl, sym, ap, subst, ◌∙◌, arith, inl, inr}
use Rattle.std.specs.Prelude.{bytes_eq, ◌≤◌, IsTrue}
use Rattle.std.specs.List.{position_or_len}
use Rattle.std.proofs.lemmas.Bool.{cases_Bool, both_ways, cases_eq, ltb-false}
use Rattle.std.proofs.lemmas.Slice.Eq.{bytes_eq-Decides}
use Rattle.std.proofs.lemmas.List.Sums.{position_or_len_is, fails_before_first}
use Rattle.std.proofs.lemmas.List.Quantifiers.{position-Some}
use Rattle.std.proofs.lemmas.List.{get_or-take, length-take-le, get_or_default}
use Rattle.bus_config.specs.declared.node_lines.NodeLine.{NodeLine}
use Rattle.bus_config.specs.Names.{is_name}
use Rattle.bus_config.specs.Buses.{NamedBus, IsNamedBus, place_named}

abbrev pub has_name : List ℕ → NodeLine → Bool
has_name name node = bytes_eq node.name name

-- what is found has the name
pub named_there : (nodes : List NodeLine) (name : List ℕ) (i : ℕ) (d : NodeLine) → place_named nodes name ≡ Some i → (i < length nodes) × ((get_or nodes i d).name ≡ name)
named_there nodes name i d found =
    let there : (i < length nodes) × (has_name name (get_or nodes i d) ≡ true) × ((k : ℕ) → k < i → has_name name (get_or nodes k d) ≡ false) =
    position-Some (has_name name) nodes i d found in
    (there.0, (bytes_eq-Decides (get_or nodes i d).name name).0 there.1)

-- the first node with a name is found
pub found_first : (nodes : List NodeLine) (name : List ℕ) (i : ℕ) (d : NodeLine) → i < length nodes
    → ((k : ℕ) → k < i → (get_or nodes k d).name ≢ name) → (get_or nodes i d).name ≡ name → place_named nodes name ≡ Some i
found_first nodes name i d inside before here =
    let at : position_or_len (has_name name) nodes ≡ i =
    position_or_len_is (has_name name) nodes i d (omega (arith, inside))
    (λ k below. differs (get_or nodes k d).name (before k below))
    (λ l. (bytes_eq-Decides (get_or nodes i d).name name).1 here) in
    grind (arith, at, inside)
  where
    differs : (other : List ℕ) → other ≢ name → bytes_eq other name ≡ false
    differs other not = elim (cases_Bool (bytes_eq other name)) [
      | inl same ↦ absurd (not ((bytes_eq-Decides other name).0 same))
      | inr e ↦ e
    ]

-- if no node with a name is found, no node has it
none_past : (m n : ℕ) → cond (ltb m n) (Some m) None ≡ None → n ≤ m
none_past m n e = elim (cases_Bool (ltb m n)) [
  | inl less ↦ absurd (some_not_none m (sym (ap (λ b. cond b (Some m) None) less) ∙ e))
  | inr not ↦ ltb-false m n not
]
  where
    some_not_none : (m : ℕ) → Some m ≡ None → ⊥
    some_not_none m e = cc

pub nowhere : (nodes : List NodeLine) (name : List ℕ) → place_named nodes name ≡ None → All (λ n. n.name ≢ name) nodes
nowhere nodes name none k d inside same =
    let past : length nodes ≤ position_or_len (has_name name) nodes = none_past (position_or_len (has_name name) nodes) (length nodes) none in
    both_ways (has_name name (get_or nodes k d))
    (fails_before_first (has_name name) nodes k d (omega (arith, inside, past)))
    ((bytes_eq-Decides (get_or nodes k d).name name).1 same)

-- ---- names that differ, one more node at a time

abbrev pub OwnNames : List NodeLine → Type 0
OwnNames nodes = AllPairs (λ m n. m.name ≢ n.name) nodes

-- those of the first n nodes
abbrev pub OwnNamesBelow : List NodeLine → ℕ → Type 0
OwnNamesBelow nodes n = (j k : ℕ) (d : NodeLine) → j < k → k < n → (get_or nodes j d).name ≢ (get_or nodes k d).name

pub own_more : (nodes : List NodeLine) (i : ℕ) (x : NodeLine) → i < length nodes → get_or nodes i x ≡ x → OwnNamesBelow nodes i → place_named (take i nodes) x.name ≡ None → OwnNamesBelow nodes (i + 1)
own_more nodes i x inside here own none j k d before below same = elim (cases_eq k i) [
  | inl is ↦
      let at : get_or nodes i d ≡ x = get_or_default nodes i d x inside ∙ here in
      let first : j < i = omega (arith, is, before) in
      nowhere (take i nodes) x.name none j d (omega (arith, first, length-take-le i nodes (omega (arith, inside))))
      (ap (λ n. n.name) (get_or-take i nodes j d first) ∙ same ∙ ap (λ m. (get_or nodes m d).name) is ∙ ap (λ n. n.name) at)
  | inr other ↦ own j k d before (omega (arith, other, below)) same
]

-- a name that stands before is there twice
pub not_own : (nodes : List NodeLine) (i place : ℕ) (x : NodeLine) → i < length nodes → get_or nodes i x ≡ x → place_named (take i nodes) x.name ≡ Some place → OwnNames nodes → ⊥
not_own nodes i place x inside here found own =
    let there = named_there (take i nodes) x.name place x found in
    let before : place < i = omega (arith, there.0, length-take-le i nodes (omega (arith, inside))) in
    own place i x before inside (ap (λ n. n.name) (sym (get_or-take i nodes place x before)) ∙ there.1 ∙ sym (ap (λ n. n.name) here))

pub own_name_found : (bus : NamedBus) → IsNamedBus bus → (i : ℕ) (d : NodeLine) → i < length bus.nodes → place_named bus.nodes (get_or bus.nodes i d).name ≡ Some i
own_name_found bus is i d inside =
    found_first bus.nodes (get_or bus.nodes i d).name i d inside (λ k below. is.own_names k i d below inside) refl

-- each of the first n nodes has a name
abbrev pub NamedBelow : List NodeLine → ℕ → Type 0
NamedBelow nodes n = (k : ℕ) (d : NodeLine) → k < n → IsTrue (is_name (get_or nodes k d).name)

pub named_more : (nodes : List NodeLine) (i : ℕ) (x : NodeLine) → i < length nodes → get_or nodes i x ≡ x → NamedBelow nodes i → IsTrue (is_name x.name) → NamedBelow nodes (i + 1)
named_more nodes i x inside here named mine k d below = elim (cases_eq k i) [
  | inl is ↦
      let at : get_or nodes k d ≡ x = ap (λ m. get_or nodes m d) is ∙ get_or_default nodes i d x inside ∙ here in
      subst (λ n. IsTrue (is_name n.name)) (sym at) mine
  | inr other ↦ named k d (omega (arith, other, below))
]
