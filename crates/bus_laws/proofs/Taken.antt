-- An update that an engine takes
use Rattle.std.specs.Prelude.{◌≡◌, ℕ, ◌<◌, Bool, List, Result, Ok}
use Rattle.std.proofs.Common.{refl}
use Rattle.key_slots.specs.declared.memory.Slot.{Slot}
use Rattle.key_slots.specs.declared.refusals.Erc.{Erc}
use Rattle.key_slots.specs.Slots.{slot_at, counter_of, IsSlots}
use Rattle.memory_update.specs.declared.messages.Request.{Request}
use Rattle.memory_update.specs.declared.messages.Update.{Update}
use Rattle.memory_update.specs.Messages.{IsUpdate}
use Rattle.memory_update.specs.Loading.{Allows}
use Rattle.memory_update.proofs.CallerLemmas.{same_from_Allows, counter_of-Allows}

-- it is an update, and its counter is greater than the slot's
pub record IsTakenUpdate (slots : List Slot) (u : Update) : Type 0 where
  pub is_update : IsUpdate u
  pub greater : counter_of (slot_at slots u.id) < u.counter

pub taken_update : (slots : List Slot) (good : Bool) (uid : List ℕ) (request : Request) (u : Update) → IsSlots slots → Allows slots good uid request (Ok u) → IsTakenUpdate slots u
taken_update slots good uid request u are allowed = record {
  is_update = allowed.1.padded.is_update;
  greater = counter_of-Allows slots good uid request u are allowed;
}

same_ok : (answer : Result Update Erc) (u w : Update) → answer ≡ Ok u → answer ≡ Ok w → u ≡ w
same_ok answer u w a b = cc

pub same_taken : (slots : List Slot) (good : Bool) (uid : List ℕ) (request : Request) (u w : Update) → IsSlots slots → Allows slots good uid request (Ok u) → Allows slots good uid request (Ok w) → u ≡ w
same_taken slots good uid request u w are a b = same_ok (Ok u) u w refl (same_from_Allows slots good uid request (Ok u) (Ok w) are a b)
