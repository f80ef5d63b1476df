-- Key slots over the image of a store, and what the calls on them do and answer.
use Rattle.std.specs.Prelude.{ℤ, ◌≡◌, ℕ, ◌<◌, ◌==◌, Result, Ok, Err, List}
use Rattle.key_slots.specs.declared.memory.Slot.{Slot}
use Rattle.key_slots.specs.declared.memory.Slot.TheVariants.{Empty}
use Rattle.key_slots.specs.declared.refusals.Erc.{Erc}
use Rattle.slot_disk.specs.Cell.{slot_cell}
use Rattle.memory_update.specs.Loading.{Allows, slot_of}
use Rattle.memory_update.specs.Messages.{Confirms, HeadOf, HasSlots, id_of}
use Rattle.memory_update.specs.declared.messages.Request.{Request}
use Rattle.memory_update.specs.declared.messages.Reply.{Reply}
use Rattle.memory_update.specs.declared.messages.Update.{Update}
use Rattle.store_plan.specs.declared.planning.Plan.{Plan}
use Rattle.store_plan.specs.Plans.{PlansPut, IsEmptyPlan}
use Rattle.rathonsi_c.specs.declared.TheConstants.{OK, BAD_VALUE, BAD_ID, DAMAGED, BUSY, KEY_EMPTY}
use Rattle.rathonsi_c.specs.Causes.{IfCause, IsDone, erc_status}
use Rattle.rathonsi_c.specs.Images.{ImageSlot, NoSlot, ReadsSlots, MissesSlot}

-- the status of what an engine says of a load
abbrev pub load_status : Result Update Erc → ℤ
load_status (Ok update) = OK
load_status (Err refusal) = erc_status refusal

-- what the engine with these slots and this boot allows
pub record LoadSays (uid : List ℕ) (booted : ℕ) (request : Request) (image : List ℕ) (status : ℤ) : Type 0 where
  pub slots : List Slot
  pub held : ReadsSlots image request.m1 slots
  pub says : Result Update Erc
  pub allows : Allows slots (booted == 1) uid request says
  pub is : status ≡ load_status says

-- what `rathonsi_slot_load` answers
abbrev pub LoadAnswers : List ℕ → ℕ → Request → List ℕ → Plan → ℤ → Type 0
LoadAnswers uid booted request image plan status =
    IfCause (¬ IsEmptyPlan plan) BUSY
    (IfCause (1 < booted) BAD_VALUE
    (IfCause (MissesSlot image request.m1) DAMAGED (LoadSays uid booted request image))) status

-- into an empty plan comes the update that the engine takes
pub record LoadsSlot (uid : List ℕ) (booted : ℕ) (request : Request) (image : List ℕ) (old new : Plan) : Type 0 where
  pub empty : IsEmptyPlan old
  pub slots : List Slot
  pub held : ReadsSlots image request.m1 slots
  pub update : Update
  pub allowed : Allows slots (booted == 1) uid request (Ok update)
  pub plans : PlansPut new image update.id (slot_cell (slot_of update))

-- the reply confirms what the slot that M1 names holds in the image: its key and its counter
pub record ConfirmsSlot (uid m1 image : List ℕ) (reply : Reply) : Type 0 where
  pub update : Update
  pub named : HeadOf m1 (record { uid = update.uid; id = update.id; auth = update.auth })
  pub held : ImageSlot image update.id (slot_of update)
  pub confirms : Confirms reply update uid

-- what `rathonsi_slot_confirm` answers
abbrev pub ConfirmAnswers : List ℕ → List ℕ → ℤ → Type 0
ConfirmAnswers m1 image status =
    IfCause (¬ HasSlots m1) BAD_ID
    (IfCause (NoSlot image (id_of m1)) DAMAGED
    (IfCause (ImageSlot image (id_of m1) Empty) KEY_EMPTY IsDone)) status
