-- The keys of slots, and of those whose use isn't refused.
use Rattle.std.proofs.Common.{◌≡◌, ℕ, ◌+◌, ◌<◌, Bool, false, nat_lt, List, [], ◌∷◌, ◌++◌, length, set, take, map, sym, ap, ◌∙◌, refl}
use Rattle.std.specs.Prelude.{Option, Some, None}
use Rattle.std.proofs.lemmas.List.{take_more, take_more_set, map-append}
use Rattle.key_slots.specs.declared.memory.Slot.{Slot}
use Rattle.key_slots.specs.declared.memory.Slot.TheVariants.{Empty, Filled}
use Rattle.key_slots.specs.declared.refusals.Erc.TheVariants.{KeyInvalid, KeyEmpty}
use Rattle.key_slots.specs.declared.usage.Purpose.{Purpose}
use Rattle.key_slots.specs.Slots.{slot_at, is_empty, key_of}
use Rattle.key_slots.specs.Usage.{usable, slot_refusals}
use Rattle.key_slots.proofs.CallerLemmas.{none_of_first}
use Rattle.memory_update.specs.Loading.{key_in}

pub not_empty : (slots : List Slot) (s : ℕ) (good : Bool) (purpose : Purpose) → usable slots s good purpose ≡ None → is_empty (slot_at slots s) ≡ false
unfolding usable
not_empty slots s good purpose none =
    let rest = (none_of_first (nat_lt s 4) KeyInvalid (slot_refusals (slot_at slots s) good purpose) none).1 in
    (none_of_first (is_empty (slot_at slots s)) KeyEmpty _ rest).0

-- a slot that isn't empty has its key
pub key_there : (slot : Slot) → is_empty slot ≡ false → key_of slot ≡ Some (key_in slot)
key_there Empty filled = cc
key_there (Filled key counter flags) filled = refl

pub key_is : (slot : Slot) (key : List ℕ) → key_of slot ≡ Some key → key ≡ key_in slot
key_is Empty key is = cc
key_is (Filled k counter flags) key is = cc

pub no_key : (slots : List Slot) (s : ℕ) (good : Bool) (purpose : Purpose) → usable slots s good purpose ≡ None → key_of (slot_at slots s) ≡ None → ⊥
no_key slots s good purpose none is =
    let there = key_there (slot_at slots s) (not_empty slots s good purpose none) in
    let both = sym there ∙ is in
    cc

-- one more slot's key
pub one_more : (schedules : List (Option (List ℕ))) (slots : List Slot) (n : ℕ) (key : Option (List ℕ)) → n < length schedules → n < length slots
    → take n schedules ≡ map key_of (take n slots) → key ≡ key_of (slot_at slots n) → take (n + 1) (set schedules n key) ≡ map key_of (take (n + 1) slots)
one_more schedules slots n key in_schedules in_slots so_far is =
    take_more_set schedules n key in_schedules
    ∙ ap (λ front. front ++ key ∷ []) so_far
    ∙ ap (λ k. map key_of (take n slots) ++ k ∷ []) is
    ∙ sym (map-append key_of (take n slots) (slot_at slots n ∷ []))
    ∙ ap (map key_of) (sym (take_more slots n Empty in_slots))
