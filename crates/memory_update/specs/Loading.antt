-- When an engine takes a key update (SHE specification, memory update protocol)
use Rattle.std.specs.Prelude.{◌≡◌, ℕ, ◌<◌, ◌==◌, nat_lt, Bool, true, not, ◌&&◌, ◌||◌, Some, None, Result, Ok, Err, List}
use Rattle.std.specs.Prelude.{[], ◌∷◌, ◌++◌, replicate}
use Rattle.std.specs.Str.{bytes_eq}
use Rattle.key_slots.specs.declared.memory.Slot.{Slot}
use Rattle.key_slots.specs.declared.memory.Slot.TheVariants.{Empty, Filled}
use Rattle.key_slots.specs.declared.refusals.Erc.{Erc}
use Rattle.key_slots.specs.declared.refusals.Erc.TheVariants.{KeyNotAvailable, KeyInvalid, KeyEmpty, KeyWriteProtected}
use Rattle.key_slots.specs.declared.refusals.Erc.TheVariants.{KeyUpdateError}
use Rattle.key_slots.specs.Authority.{is_pair}
use Rattle.key_slots.specs.Slots.{slot_at, is_empty, flags_of, counter_of}
use Rattle.key_slots.specs.Usage.{first_applying}
use Rattle.memory_update.specs.Messages.{Carries, id_of, auth_of, request_mac, update_in}
use Rattle.memory_update.specs.declared.messages.Request.{Request}
use Rattle.memory_update.specs.declared.messages.Update.{Update}

-- what a slot holds after an update
abbrev pub slot_of : Update → Slot
slot_of u = Filled u.key u.counter u.flags

-- the key of a slot; of an empty one, which only its own update asks for, sixteen bytes ff
abbrev pub key_in : Slot → List ℕ
key_in Empty = replicate 16 255
key_in (Filled key counter flags) = key

-- ---- who is refused

-- the update is for the engine with this UID, or, if the target lets it, for every engine
abbrev pub is_meant : List ℕ → Slot → List ℕ → Bool
is_meant uid target update_uid =
    let for_all = bytes_eq update_uid (replicate 15 0) in
    (bytes_eq update_uid uid || for_all) && not (for_all && (flags_of target).wildcard)

-- M3 is right, the update is meant for this engine, and its counter is greater than the target's
abbrev pub is_fit : List ℕ → Slot → List ℕ → Request → Bool
is_fit uid target authkey request =
    let update = update_in authkey request in
    bytes_eq request.m3 (request_mac authkey request.m1 request.m2) && is_meant uid target update.uid
    && nat_lt (counter_of target) update.counter

-- the first four refusals, by ID and AuthID alone, each with its test; good says that a successful boot was made in
-- this life
abbrev pub head_refusals : List Slot → Bool → ℕ → ℕ → List (Bool × Erc)
head_refusals slots good id auth =
    (not (is_pair id auth), KeyInvalid)
    ∷ ((flags_of (slot_at slots id)).write, KeyWriteProtected)
    ∷ (is_empty (slot_at slots auth) && not (id == auth), KeyEmpty)
    ∷ ((flags_of (slot_at slots auth)).boot && not good, KeyNotAvailable) ∷ []

-- the key of the slot that M1 names as authorising
abbrev pub authorising_key : List Slot → Request → List ℕ
authorising_key slots request = key_in (slot_at slots (auth_of request.m1))

-- the five refusals of a load in their order
abbrev pub load_refusals : List Slot → Bool → List ℕ → Request → List (Bool × Erc)
load_refusals slots good uid request =
    let target = slot_at slots (id_of request.m1) in
    head_refusals slots good (id_of request.m1) (auth_of request.m1)
    ++ (not (is_fit uid target (authorising_key slots request) request), KeyUpdateError) ∷ []

-- the update that the engine with this UID takes, or the first refusal that applies
abbrev pub Allows : List Slot → Bool → List ℕ → Request → Result Update Erc → Type 0
Allows slots good uid request (Err refusal) = first_applying (load_refusals slots good uid request) ≡ Some refusal
Allows slots good uid request (Ok update) =
    (first_applying (load_refusals slots good uid request) ≡ None)
    × Carries request (authorising_key slots request) update

-- what holds if no refusal applies
pub record NoneRefuses (slots : List Slot) (good : Bool) (uid : List ℕ) (request : Request) : Type 0 where
  pub pair : is_pair (id_of request.m1) (auth_of request.m1) ≡ true
  pub head : first_applying (head_refusals slots good (id_of request.m1) (auth_of request.m1)) ≡ None
  pub mac : request.m3 ≡ request_mac (authorising_key slots request) request.m1 request.m2
  pub meant : is_meant uid (slot_at slots (id_of request.m1)) (update_in (authorising_key slots request) request).uid
      ≡ true
  pub greater : counter_of (slot_at slots (id_of request.m1))
      < (update_in (authorising_key slots request) request).counter
