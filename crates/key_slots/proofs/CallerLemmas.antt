-- The lemmas that crates above cite.
use Rattle.std.specs.Prelude.{◌≡◌, ℕ, ◌<◌, ◌≤◌, List, [], ◌∷◌, ◌++◌, Bool, true, false, nat_lt, Option, Some, None}
use Rattle.std.specs.Prelude.{refl, ◌/◌, ◌%◌, ◌==◌, zero, suc}
use Rattle.std.specs.List.{All, list_all}
use Rattle.std.proofs.Common.{rules, arith, ap, sym, ◌∙◌, length, get_or, ◌&&◌, nat_le, Contains, inl, inr, ◌↔◌, IsTrue}
use Rattle.std.proofs.lemmas.Bool.Decides.{nat_tests, Decides-eqb}
use Rattle.std.proofs.lemmas.List.Elements.{All-head, All-tail}
use Rattle.std.proofs.lemmas.Bool.{cases_Bool, false≢true, and_parts, and_from}
use Rattle.std.proofs.lemmas.List.Folds.{list_all_at, list_any_at}
use Rattle.std.proofs.lemmas.Map.Views.{Contains-from_any}
use Rattle.key_slots.specs.declared.memory.Slot.{Slot}
use Rattle.key_slots.specs.declared.refusals.Erc.{Erc}
use Rattle.key_slots.specs.declared.refusals.Erc.TheVariants.{KeyInvalid}
use Rattle.key_slots.specs.declared.usage.Purpose.{Purpose}
use Rattle.key_slots.specs.Slots.{slot_at, IsSlot}
use Rattle.key_slots.specs.Usage.{first_applying, slot_refusals, usable}
use Rattle.key_slots.specs.declared.memory.Flags.{Flags}
use Rattle.key_slots.specs.Flags.{bit, flags_number, flags_from}
use Rattle.key_slots.specs.Authority.{pairs, is_pair, same_pair}
use Rattle.key_slots.specs.Names.{erc_name}

-- ---- the slot's number decides first, and then the slot's own refusals

-- slots 0 to 3 serve no MAC and no cipher call
pub usable_below_four : (slots : List Slot) (s : ℕ) (good : Bool) (purpose : Purpose) → s < 4
    → usable slots s good purpose ≡ Some KeyInvalid
unfolding usable
usable_below_four slots s good purpose low = let e : nat_lt s 4 ≡ true = search (rules, nat_tests) in rw e

-- from slot 4 on the slot's own refusals decide
pub usable_at_slot : (slots : List Slot) (s : ℕ) (slot : Slot) (good : Bool) (purpose : Purpose) (answer : Option Erc)
    → 4 ≤ s → slot_at slots s ≡ slot → answer ≡ first_applying (slot_refusals slot good purpose)
    → answer ≡ usable slots s good purpose
unfolding usable
usable_at_slot slots s slot good purpose answer high at is =
    let e : nat_lt s 4 ≡ false = search (rules, nat_tests) in
    rw (e, at) is

-- if no refusal applies, the first test fails, and none of the rest applies
pub none_of_first : (test : Bool) (refusal : Erc) (rest : List (Bool × Erc))
    → first_applying ((test, refusal) ∷ rest) ≡ None → (test ≡ false) × (first_applying rest ≡ None)
none_of_first true refusal rest none = cc
none_of_first false refusal rest none = (refl, none)

-- if none of the first refusals applies, the others decide
pub first_applying-append : (first rest : List (Bool × Erc)) → first_applying first ≡ None
    → first_applying (first ++ rest) ≡ first_applying rest
first_applying-append [] rest none = refl
first_applying-append ((true, refusal) ∷ first) rest none = cc
first_applying-append ((false, refusal) ∷ first) rest none = first_applying-append first rest none

-- if no refusal of a list applies, none of its first part applies, and none of the rest
pub none_of_append : (first rest : List (Bool × Erc)) → first_applying (first ++ rest) ≡ None
    → (first_applying first ≡ None) × (first_applying rest ≡ None)
none_of_append [] rest none = (refl, none)
none_of_append ((true, refusal) ∷ first) rest none = cc
none_of_append ((false, refusal) ∷ first) rest none = none_of_append first rest none

-- ---- the flags and their number: each gives the other

bit-lt : (b : Bool) → bit b < 2
bit-lt true = omega arith
bit-lt false = omega arith

pub flags_number-lt : (f : Flags) → flags_number f < 32
flags_number-lt f =
    omega (arith, bit-lt f.write, bit-lt f.boot, bit-lt f.debugger, bit-lt f.usage, bit-lt f.wildcard)

bit_back : (b : Bool) (n : ℕ) → n ≡ bit b → (n == 1) ≡ b
bit_back true n e = rw e
bit_back false n e = rw e

bit_of : (n : ℕ) → n < 2 → bit (n == 1) ≡ n
bit_of n below = grind (arith, nat_tests)

pub flags_from-number : (f : Flags) → flags_from (flags_number f) ≡ f
flags_from-number f =
    let n : ℕ = flags_number f in
    let small : (b : Bool) → bit b < 2 = bit-lt in
    let a = bit_back f.write (n / 16 % 2)
    (omega (arith, small f.write, small f.boot, small f.debugger, small f.usage, small f.wildcard)) in
    let b = bit_back f.boot (n / 8 % 2)
    (omega (arith, small f.write, small f.boot, small f.debugger, small f.usage, small f.wildcard)) in
    let c = bit_back f.debugger (n / 4 % 2)
    (omega (arith, small f.write, small f.boot, small f.debugger, small f.usage, small f.wildcard)) in
    let d = bit_back f.usage (n / 2 % 2)
    (omega (arith, small f.write, small f.boot, small f.debugger, small f.usage, small f.wildcard)) in
    let e = bit_back f.wildcard (n % 2)
    (omega (arith, small f.write, small f.boot, small f.debugger, small f.usage, small f.wildcard)) in
    rw (a, b, c, d, e) refl

pub flags_number-from : (n : ℕ) → n < 32 → flags_number (flags_from n) ≡ n
flags_number-from n below =
    omega (
      arith,
      bit_of (n / 16 % 2) (omega arith),
      bit_of (n / 8 % 2) (omega arith),
      bit_of (n / 4 % 2) (omega arith),
      bit_of (n / 2 % 2) (omega arith),
      bit_of (n % 2) (omega arith),
    )

-- the number tells the flags apart
pub same_flags : (f g : Flags) → flags_number f ≡ flags_number g → f ≡ g
same_flags f g e = sym (flags_from-number f) ∙ ap flags_from e ∙ flags_from-number g

-- ---- every slot of a key memory is one

pub IsSlot-slot_at : (slots : List Slot) (number : ℕ) → All IsSlot slots → IsSlot (slot_at slots number)
IsSlot-slot_at [] number all = tt
IsSlot-slot_at (slot ∷ slots) zero all = All-head IsSlot slot slots all
IsSlot-slot_at (slot ∷ slots) (suc number) all = IsSlot-slot_at slots number (All-tail IsSlot slot slots all)

-- ---- the pairs as a set and as a test

same_self : (target auth : ℕ) → same_pair (target, auth) (target, auth) ≡ true
same_self target auth =
    and_from (target == target) (auth == auth) ((Decides-eqb target target).1 refl) ((Decides-eqb auth auth).1 refl)

same_is : (p q : ℕ × ℕ) → same_pair p q ≡ true → p ≡ q
same_is p q e =
    let x = and_parts (p.0 == q.0) (p.1 == q.1) e in
    let Make : ℕ → ℕ → ℕ × ℕ = λ a b. (a, b) in
    ap (λ a. Make a p.1) ((Decides-eqb p.0 q.0).0 x.0) ∙ ap (Make q.0) ((Decides-eqb p.1 q.1).0 x.1)

pub is_pair_listed : (target auth : ℕ) → is_pair target auth ≡ true → Contains pairs (target, auth)
unfolding is_pair
is_pair_listed target auth e = Contains-from_any same_is (target, auth) pairs e

pub listed_is_pair : (target auth : ℕ) → Contains pairs (target, auth) → is_pair target auth ≡ true
unfolding is_pair
listed_is_pair target auth c =
    list_any_at (same_pair (target, auth)) pairs c.0 (target, auth) c.1
    (ap (same_pair (target, auth)) c.2 ∙ same_self target auth)

not_true : (b : Bool) → (b ≡ true → ⊥) → false ≡ b
not_true true h = absurd (h refl)
not_true false h = refl

-- an answer that is true exactly for the listed pairs is the test
pub answer_is_pair : (answer : Bool) (target auth : ℕ) → (IsTrue answer ↔ Contains pairs (target, auth))
    → answer ≡ is_pair target auth
answer_is_pair true target auth decides = sym (listed_is_pair target auth (decides.0 refl))
answer_is_pair false target auth decides =
    not_true (is_pair target auth) (λ e. let impossible : false ≡ true = decides.1 (is_pair_listed target auth e) in cc)

-- what a test says of a list's items
pub passes_at : {X : Type 0} (p : X → Bool) (xs : List X) (i : ℕ) (d : X) → i < length xs → list_all p xs ≡ true
    → p (get_or xs i d) ≡ true
passes_at p xs i d within all = elim (cases_Bool (p (get_or xs i d))) [
  | inl e ↦ e
  | inr e ↦ absurd (false≢true (sym (list_all_at p xs i d within e) ∙ all))
]

below_fourteen : (target auth : ℕ) → nat_le target 13 && nat_le auth 13 ≡ true → (target < 14) × (auth < 14)
below_fourteen target auth e = grind (arith, nat_tests)

-- both of a pair are slots
pub slots_of_pair : (target auth : ℕ) → is_pair target auth ≡ true → (target < 14) × (auth < 14)
slots_of_pair target auth e =
    let c = is_pair_listed target auth e in
    let small : ℕ × ℕ → Bool = λ p. nat_le p.0 13 && nat_le p.1 13 in
    below_fourteen target auth (ap small (sym c.2) ∙ passes_at small pairs c.0 (target, auth) c.1 refl)

-- ---- a printed name is that of one refusal

pub same_from_erc_name : (refusal other : Erc) → erc_name refusal ≡ erc_name other → refusal ≡ other
same_from_erc_name refusal other e = search rules
