-- The refusals of a load, one after the other.
use Rattle.std.proofs.Common.{◌≡◌, ◌≢◌, ℕ, Bool, true, false, not, ◌&&◌, nat_lt, List, [], ◌∷◌, ◌++◌, refl, sym, ap, subst, ◌∙◌}
use Rattle.std.specs.Prelude.{◌↔◌, Option, Some, None, Result, Ok, Err, slice_get}
use Rattle.std.proofs.lemmas.Bool.{false_from_ne_true}
use Rattle.std.proofs.lemmas.Option.{get_or_from_slice_get}
use Rattle.key_slots.specs.declared.memory.Slot.{Slot}
use Rattle.key_slots.specs.declared.memory.Slot.TheVariants.{Empty}
use Rattle.key_slots.specs.declared.refusals.Erc.{Erc}
use Rattle.key_slots.specs.declared.refusals.Erc.TheVariants.{KeyInvalid, KeyUpdateError}
use Rattle.key_slots.specs.Authority.{is_pair}
use Rattle.key_slots.proofs.CallerLemmas.{slots_of_pair, first_applying-append}
use Rattle.key_slots.specs.Slots.{slot_at, counter_of, IsSlots}
use Rattle.key_slots.specs.Usage.{first_applying}
use Rattle.memory_update.specs.Messages.{Carries, HasSlots, HeadOf, id_of, auth_of, request_mac}
use Rattle.memory_update.proofs.CallerLemmas.{id_of-head, auth_of-head, is_fit-carried, IsBlock-authorising_key}
use Rattle.memory_update.specs.Loading.{key_in, is_meant, is_fit, head_refusals, authorising_key, Allows}
use Rattle.memory_update.specs.declared.messages.Head.{Head}
use Rattle.memory_update.specs.declared.messages.Request.{Request}
use Rattle.memory_update.specs.declared.messages.Update.{Update}
use Rattle.memory_update.specs.declared.messages.Unseal.{Unseal}
use Rattle.memory_update.specs.declared.messages.Unseal.TheVariants.{BadId, BadMac}

-- the first of a list's refusals that applies is that of a longer list
first_of_longer : (first rest : List (Bool × Erc)) (refusal : Erc) → first_applying first ≡ Some refusal → first_applying (first ++ rest) ≡ Some refusal
first_of_longer [] rest refusal is = cc
first_of_longer ((true, e) ∷ first) rest refusal is = is
first_of_longer ((false, e) ∷ first) rest refusal is = first_of_longer first rest refusal is

-- the slot of a number, as it was got
pub slot_got : (slots : List Slot) (id : ℕ) (got : Slot) → slice_get slots id ≡ Some got → slot_at slots id ≡ got
slot_got slots id got at = get_or_from_slice_get slots id got Empty at

-- ---- of a request

module _ (slots : List Slot) (good : Bool) (uid : List ℕ) (request : Request) where
  -- M1 names no slots
  pub no_head : (¬ HasSlots request.m1) → Allows slots good uid request (Err KeyInvalid)
  no_head none =
      let other : is_pair (id_of request.m1) (auth_of request.m1) ≡ false = false_from_ne_true _ (λ e. none (slots_of_pair (id_of request.m1) (auth_of request.m1) e)) in
      rw other refl

  head_is : (h : Head) (first : Option Erc) → HeadOf request.m1 h → first ≡ first_applying (head_refusals slots good h.id h.auth) → first_applying (head_refusals slots good (id_of request.m1) (auth_of request.m1)) ≡ first
  head_is h first of is =
      ap (λ i. first_applying (head_refusals slots good i (auth_of request.m1))) (id_of-head request.m1 h of)
      ∙ ap (λ a. first_applying (head_refusals slots good h.id a)) (auth_of-head request.m1 h of)
      ∙ sym is

  -- the slots that it names refuse
  pub head_refused : (h : Head) (refusal : Erc) → HeadOf request.m1 h → Some refusal ≡ first_applying (head_refusals slots good h.id h.auth) → Allows slots good uid request (Err refusal)
  head_refused h refusal of is =
      let test = not (is_fit uid (slot_at slots (id_of request.m1)) (authorising_key slots request) request) in
      first_of_longer (head_refusals slots good (id_of request.m1) (auth_of request.m1)) ((test, KeyUpdateError) ∷ []) refusal (head_is h (Some refusal) of is)

  -- they don't, and the last test decides
  pub not_fit : (h : Head) → HeadOf request.m1 h → None ≡ first_applying (head_refusals slots good h.id h.auth)
      → is_fit uid (slot_at slots (id_of request.m1)) (authorising_key slots request) request ≡ false → Allows slots good uid request (Err KeyUpdateError)
  not_fit h of none unfit =
      let test = not (is_fit uid (slot_at slots (id_of request.m1)) (authorising_key slots request) request) in
      first_applying-append (head_refusals slots good (id_of request.m1) (auth_of request.m1)) ((test, KeyUpdateError) ∷ []) (head_is h None of none)
      ∙ ap (λ fit. first_applying ((not fit, KeyUpdateError) ∷ [])) unfit

  pub fit : (h : Head) (u : Update) → HeadOf request.m1 h → None ≡ first_applying (head_refusals slots good h.id h.auth)
      → is_fit uid (slot_at slots (id_of request.m1)) (authorising_key slots request) request ≡ true → Carries request (authorising_key slots request) u → Allows slots good uid request (Ok u)
  fit h u of none is_fit_now carried =
      let test = not (is_fit uid (slot_at slots (id_of request.m1)) (authorising_key slots request) request) in (
        first_applying-append (head_refusals slots good (id_of request.m1) (auth_of request.m1)) ((test, KeyUpdateError) ∷ []) (head_is h None of none)
            ∙ ap (λ f. first_applying ((not f, KeyUpdateError) ∷ [])) is_fit_now,
        carried,
      )

-- the key of the slot that the head names is the authorising key
pub authorising_key_got : (slots : List Slot) (request : Request) (h : Head) (got : Slot) (key : List ℕ) → HeadOf request.m1 h → got ≡ slot_at slots h.auth → key ≡ key_in got → key ≡ authorising_key slots request
authorising_key_got slots request h got key of at is =
    is ∙ ap key_in at ∙ ap (λ a. key_in (slot_at slots a)) (sym (auth_of-head request.m1 h of))

-- the slot that the head names is the target
pub target_got : (slots : List Slot) (request : Request) (h : Head) (got : Slot) → HeadOf request.m1 h → got ≡ slot_at slots h.id → got ≡ slot_at slots (id_of request.m1)
target_got slots request h got of at = at ∙ ap (slot_at slots) (sym (id_of-head request.m1 h of))

-- a request that names slots and isn't unsealed has another M3
pub other_mac : (request : Request) (key : List ℕ) (r : Result Update Unseal) (e : Unseal) → r ≡ Err e → HasSlots request.m1 → (r ≡ Err BadId ↔ ¬ HasSlots request.m1)
    → (r ≡ Err BadMac ↔ (HasSlots request.m1 × (request.m3 ≢ request_mac key request.m1 request.m2))) → request.m3 ≢ request_mac key request.m1 request.m2
other_mac request key r BadId is slots bad_id bad_mac = absurd (bad_id.0 is slots)
other_mac request key r BadMac is slots bad_id bad_mac = (bad_mac.0 is).1

-- the last test, as it is made of an update that was unsealed and the target that was got
pub test_is : (slots : List Slot) (uid : List ℕ) (request : Request) (h : Head) (u : Update) (got : Slot) (key : List ℕ) (answer : Bool) → IsSlots slots → HeadOf request.m1 h → got ≡ slot_at slots h.id
    → key ≡ authorising_key slots request → Carries request key u → answer ≡ (is_meant uid got u.uid && nat_lt (counter_of got) u.counter)
    → is_fit uid (slot_at slots (id_of request.m1)) (authorising_key slots request) request ≡ answer
test_is slots uid request h u got key answer are of at key_is carried is =
    is_fit-carried uid (slot_at slots (id_of request.m1)) (authorising_key slots request) request u (IsBlock-authorising_key slots request are) (subst (λ k. Carries request k u) key_is carried)
    ∙ ap (λ t. is_meant uid t u.uid && nat_lt (counter_of t) u.counter) (sym (target_got slots request h got of at))
    ∙ sym is
