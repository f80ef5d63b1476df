-- The loader as a machine: an engine over its store
use Rattle.std.specs.Prelude.{◌≡◌, ◌⊎◌, ℕ, Bool, true, false, Err, List, set}
use Rattle.key_slots.specs.declared.memory.Slot.{Slot}
use Rattle.memory_update.specs.declared.messages.Reply.{Reply}
use Rattle.memory_update.specs.declared.messages.Request.{Request}
use Rattle.memory_update.specs.declared.messages.Update.{Update}
use Rattle.memory_update.specs.Messages.{Confirms}
use Rattle.memory_update.specs.Loading.{Allows, slot_of}
use Rattle.secure_boot.specs.declared.state.BootState.TheVariants.{Undecided}
use Rattle.cell_store.specs.Cells.{CellsState, Puts, FailsPut}
use Rattle.slot_disk.specs.Cell.{HoldSlots, slot_cell}
use Rattle.she_engine.specs.declared.engine.Engine.{Engine}
use Rattle.key_commands.specs.Answers.{Takes}
use Rattle.key_commands.specs.declared.lines.LoadLine.{LoadLine}
use Rattle.key_commands.specs.declared.lines.LoadLine.TheVariants.{Loaded, Refused, Failed}

-- the identifier and the slots of the engine, the store, and whether the disk has failed
pub record LoaderState : Type 0 where
  pub uid : List ℕ
  pub slots : List Slot
  pub store : CellsState
  pub down : Bool

-- the store's first fourteen cells are the slots'
abbrev pub HoldsAll : LoaderState → Type 0
HoldsAll loader = HoldSlots loader.store.cells loader.slots

-- what holds of a loader between two requests: no boot was made, the store holds the slots, and is whole until the disk
-- fails
pub record IsLoader (engine : Engine) (store : CellsState) (down : Bool) : Type 0 where
  pub no_boot : engine.boot ≡ Undecided
  pub held : HoldSlots store.cells engine.slots
  pub whole : down ≡ false → store.broken ≡ false

-- the update that the request carries is taken and confirmed; it stands in its slot and in that slot's cell
pub record LoadsKey (before : LoaderState) (request : Request) (reply : Reply) (after : LoaderState) : Type 0 where
  pub update : Update
  pub taken : Takes before.uid before.slots request update
  pub confirmed : Confirms reply update before.uid
  pub slots : after.slots ≡ set before.slots update.id (slot_of update)
  pub store : Puts update.id (slot_cell (slot_of update)) before.store after.store
  pub same : after.uid ≡ before.uid
  pub up : after.down ≡ false

-- the update is taken, and the disk failed as its cell was put: the slots are as before, and the loader is down
pub record FailsKey (before : LoaderState) (request : Request) (after : LoaderState) : Type 0 where
  pub update : Update
  pub taken : Takes before.uid before.slots request update
  pub slots : after.slots ≡ before.slots
  pub store : FailsPut update.id (slot_cell (slot_of update)) before.store after.store
  pub same : after.uid ≡ before.uid
  pub down : after.down ≡ true

-- one request: it is loaded, refused, or the disk failed; a loader that is down makes no call of it
abbrev pub Loads : LoaderState → Request → LoadLine → LoaderState → Type 0
Loads before request (Loaded reply) after = (before.down ≡ false) × LoadsKey before request reply after
Loads before request (Refused refusal) after =
    (before.down ≡ false) × Allows before.slots false before.uid request (Err refusal) × (after ≡ before)
Loads before request Failed after =
    ((before.down ≡ false) × FailsKey before request after) ⊎ ((before.down ≡ true) × (after ≡ before))
