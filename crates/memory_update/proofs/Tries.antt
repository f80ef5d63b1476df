-- The refusals of a load, and for whom an update is meant, at values that anyone can work out
use Rattle.std.specs.Prelude.{◌≡◌, ℕ, Bool, true, false, Option, Some, None, List, [], ◌∷◌, replicate, refl}
use Rattle.key_slots.specs.declared.memory.Slot.{Slot}
use Rattle.key_slots.specs.declared.memory.Slot.TheVariants.{Empty, Filled}
use Rattle.key_slots.specs.declared.refusals.Erc.{Erc}
use Rattle.key_slots.specs.declared.refusals.Erc.TheVariants.{KeyNotAvailable, KeyInvalid, KeyEmpty, KeyWriteProtected}
use Rattle.key_slots.specs.Authority.{is_pair}
use Rattle.key_slots.specs.Usage.{first_applying}
use Rattle.memory_update.specs.Loading.{head_refusals, is_meant}

-- a slot with this key in each byte, and WRITE_PROTECTION, BOOT_PROTECTION and WILDCARD as told
abbrev slot : ℕ → Bool → Bool → Bool → Slot
slot byte write boot wildcard =
    Filled (replicate 16 byte) 5 (record { write = write; boot = boot; debugger = false; usage = false; wildcard = wildcard })

-- slots 1, 4, 5 and 6 are filled: 4 takes no update, 5 wants a boot, 6 refuses the wildcard
abbrev slots : List Slot
slots = Empty ∷ slot 1 false false false ∷ Empty ∷ Empty ∷ slot 4 true false false ∷ slot 5 false true false ∷ slot 6 false false true ∷ []

abbrev refusal : Bool → ℕ → ℕ → Option Erc
refusal good id auth = first_applying (head_refusals slots good id auth)

no_slot : refusal true 14 1 ≡ Some KeyInvalid
unfolding is_pair
no_slot = refl

no_pair : refusal true 5 4 ≡ Some KeyInvalid
unfolding is_pair
no_pair = refl

write_protected : refusal true 4 1 ≡ Some KeyWriteProtected
unfolding is_pair
write_protected = refl

-- WRITE_PROTECTION of the target comes before what the authorising slot lacks
write_protected_first : refusal false 4 4 ≡ Some KeyWriteProtected
unfolding is_pair
write_protected_first = refl

empty_authority : refusal true 3 2 ≡ Some KeyEmpty
unfolding is_pair
empty_authority = refl

-- an empty slot authorises itself
empty_target : refusal true 7 7 ≡ None
unfolding is_pair
empty_target = refl

before_a_boot : refusal false 5 5 ≡ Some KeyNotAvailable
unfolding is_pair
before_a_boot = refl

after_a_boot : refusal true 5 5 ≡ None
unfolding is_pair
after_a_boot = refl

-- BOOT_PROTECTION of the target plays no part if another slot authorises
target_behind_a_boot : refusal false 5 1 ≡ None
unfolding is_pair
target_behind_a_boot = refl

abbrev unit : List ℕ
unit = replicate 15 7

own_identifier : is_meant unit (slot 6 false false true) unit ≡ true
own_identifier = refl

other_identifier : is_meant unit (slot 1 false false false) (replicate 15 8) ≡ false
other_identifier = refl

every_engine : is_meant unit (slot 1 false false false) (replicate 15 0) ≡ true
every_engine = refl

wildcard_refused : is_meant unit (slot 6 false false true) (replicate 15 0) ≡ false
wildcard_refused = refl
