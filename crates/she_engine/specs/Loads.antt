-- What the loading of a key answers and leaves (SHE specification, memory update protocol; that a store keeps the slots
-- is own)
use Rattle.std.specs.Prelude.{◌≡◌, Some, Ok, Err, set}
use Rattle.key_slots.specs.declared.refusals.Erc.{Erc}
use Rattle.memory_update.specs.declared.messages.Reply.{Reply}
use Rattle.memory_update.specs.declared.messages.Request.{Request}
use Rattle.memory_update.specs.declared.messages.Update.{Update}
use Rattle.memory_update.specs.Messages.{Confirms}
use Rattle.memory_update.specs.Loading.{Allows, slot_of}
use Rattle.secure_boot.specs.Booting.{is_good}
use Rattle.cell_store.specs.Cells.{CellsState, Puts, FailsPut}
use Rattle.slot_disk.specs.Cell.{slot_cell}
use Rattle.she_engine.specs.declared.engine.Engine.{Engine}
use Rattle.she_engine.specs.declared.engine.LoadFault.{LoadFault}
use Rattle.she_engine.specs.declared.engine.LoadFault.TheVariants.{Refused, Faulted}

-- the update that the request carries is allowed, stands in its slot and in that slot's cell, and is confirmed with the
-- engine's own UID
pub record Loaded (before after : Engine) (old new : CellsState) (request : Request) (reply : Reply) : Type 0 where
  pub update : Update
  pub allowed : Allows before.slots (is_good before.boot) before.uid request (Ok update)
  pub confirmed : Confirms reply update before.uid
  pub engine : after ≡ record before { slots = set before.slots update.id (slot_of update) }
  pub store : Puts update.id (slot_cell (slot_of update)) old new

-- this is the first refusal that applies, and neither engine nor store has changed. No call of the disk was made
pub record RefusedLoad (before after : Engine) (old new : CellsState) (request : Request) (refusal : Erc) : Type 0 where
  pub refused : Allows before.slots (is_good before.boot) before.uid request (Err refusal)
  pub engine : after ≡ before
  pub store : new ≡ old

-- the update is allowed, and the disk failed as its cell was put: the slots are as before, and what was to be put is
-- pending
pub record FaultedLoad (before after : Engine) (old new : CellsState) (request : Request) : Type 0 where
  pub update : Update
  pub allowed : Allows before.slots (is_good before.boot) before.uid request (Ok update)
  pub engine : after ≡ record before { pending = Some (record { target = update.id; slot = slot_of update }) }
  pub store : FailsPut update.id (slot_cell (slot_of update)) old new

-- why a load isn't made
abbrev pub NotLoaded : Engine → Engine → CellsState → CellsState → Request → LoadFault → Type 0
NotLoaded before after old new request (Refused refusal) = RefusedLoad before after old new request refusal
NotLoaded before after old new request Faulted = FaultedLoad before after old new request
