-- What loading requests answers, and what it leaves of the store
use Rattle.std.specs.Prelude.{◌≡◌, ◌⊎◌, ◌<◌, ◌*◌, ℕ, false, All, List, [], ◌∷◌, ◌++◌, drop, length, map, set, take}
use Rattle.std.specs.List.{flat_map}
use Rattle.bus_port.specs.Fault.{Rose}
use Rattle.bus_port.specs.Sink.{Appended}
use Rattle.cut_disk.specs.Images.{EachImage}
use Rattle.cut_disk.specs.Calls.{Runs}
use Rattle.key_slots.specs.declared.memory.Slot.{Slot}
use Rattle.memory_update.specs.declared.messages.Request.{Request}
use Rattle.memory_update.specs.declared.messages.Update.{Update}
use Rattle.memory_update.specs.Loading.{slot_of}
use Rattle.cell_store.specs.declared.kinds.Layout.{Layout}
use Rattle.cell_store.specs.Store.{Stands}
use Rattle.cell_store.specs.Cells.{LeavesBesides, Settled}
use Rattle.slot_disk.specs.Cell.{slot_cell}
use Rattle.program_edge.specs.Endings.{Ending, PrintsWhole}
use Rattle.key_commands.specs.declared.lines.LoadLine.{LoadLine}
use Rattle.key_commands.specs.declared.lines.LoadLine.TheVariants.{Failed}
use Rattle.key_commands.specs.LoadTexts.{is_failed, load_text}
use Rattle.key_commands.specs.Answers.{AnswersEach}
use Rattle.key_commands.specs.Loader.{FailsKey, LoaderState}

-- the cells of a store whose first fourteen are those of these slots
abbrev pub with_slots : List Slot → List (List ℕ) → List (List ℕ)
with_slots slots cells = map slot_cell slots ++ drop 14 cells

-- no line says that the disk failed
abbrev pub NoneFailed : List LoadLine → Type 0
NoneFailed lines = All (λ line. is_failed line ≡ false) lines

abbrev pub load_texts : List LoadLine → List ℕ
load_texts lines = flat_map load_text lines

-- The store after requests of which none found the disk failing, in at most so many calls: the same but for its first
-- fourteen cells. Where no byte was loose, the bytes before and behind it are as they were.
pub record KeepsStore (calls : ℕ) (before after : LoaderState) : Type 0 where
  pub up : after.down ≡ false
  pub uid_is : after.uid ≡ before.uid
  pub laid_out : after.store.layout ≡ before.store.layout
  pub number : length after.store.cells ≡ length before.store.cells
  pub beyond : drop 14 after.store.cells ≡ drop 14 before.store.cells
  pub held : take 14 before.store.cells ≡ map slot_cell before.slots
      → take 14 after.store.cells ≡ map slot_cell after.slots
  pub runs : Runs [] calls before.store.disk after.store.disk
  pub calm : after.store.disk.faults ≡ before.store.disk.faults
  pub settled : Settled before.store → Settled after.store
  pub besides : Settled before.store → LeavesBesides before.store after.store.disk.told

-- these requests were answered so, in at most six calls of the disk a request on the whole, and none found it failing
pub record AllLoaded (before : LoaderState) (requests : List Request) (lines : List LoadLine)
    (after : LoaderState) : Type 0 where
  pub answers : AnswersEach before.uid before.slots requests lines after.slots
  pub none_failed : NoneFailed lines
  pub keeps : KeepsStore (6 * length requests) before after

-- The bytes x stand for these slots beside these cells, with the change of an update or without it
abbrev pub StandsWithOrWithout : Layout → List (List ℕ) → List Slot → Update → List ℕ → Type 0
StandsWithOrWithout layout cells slots update x =
    Stands layout x (with_slots slots cells) ⊎ Stands layout x (with_slots (set slots update.id (slot_of update)) cells)

-- These requests were answered so, and none found the disk failing. Then it failed as the update of this one, which is
-- taken, was put. If no byte was loose, each image stands for the cells with the change or without it. The bytes before
-- and after the store are as they were.
pub record LastFailed (before : LoaderState) (requests : List Request) (lines : List LoadLine) (request : Request)
    (after : LoaderState) : Type 0 where
  pub mid : LoaderState
  pub earlier : AllLoaded before requests lines mid
  pub failed : FailsKey mid request after
  pub images : Settled before.store → EachImage after.store.disk.told
      (StandsWithOrWithout before.store.layout before.store.cells after.slots failed.update)
  pub besides : Settled before.store → LeavesBesides before.store after.store.disk.told

-- what was written of the texts: those of these lines whole, and of the next a proper prefix at 6, or nothing at 7
abbrev pub WritesUpTo : Ending → List LoadLine → LoadLine → Type 0
WritesUpTo e lines line =
    ((e.status ≡ 6) × Rose e.before.faults e.after.faults
    × ((n : ℕ) × (n < length (load_text line))
    × Appended e.before e.after (load_texts lines ++ take n (load_text line))))
    ⊎ ((e.status ≡ 7) × PrintsWhole e (load_texts lines))

-- how loading these requests ends
pub data EndsLoading (before : LoaderState) (requests : List Request) (after : LoaderState) (e : Ending) : Type 0 where
  all_answered : (lines : List LoadLine) → e.status ≡ 0 → AllLoaded before requests lines after
      → PrintsWhole e (load_texts lines)
      → EndsLoading before requests after e
  disk_failed : (first : List Request) (request : Request) (rest : List Request) (lines : List LoadLine) → e.status ≡ 10
      → requests ≡ first ++ request ∷ rest → LastFailed before first lines request after
      → PrintsWhole e (load_texts lines ++ load_text Failed) → EndsLoading before requests after e
  cut_short : (first : List Request) (request : Request) (rest : List Request) (lines : List LoadLine) (line : LoadLine)
      → requests ≡ first ++ request ∷ rest
      → AllLoaded before (first ++ request ∷ []) (lines ++ line ∷ []) after → WritesUpTo e lines line
      → EndsLoading before requests after e
  cut_and_failed : (first : List Request) (request : Request) (rest : List Request) (lines : List LoadLine)
      → requests ≡ first ++ request ∷ rest → LastFailed before first lines request after → WritesUpTo e lines Failed
      → EndsLoading before requests after e
