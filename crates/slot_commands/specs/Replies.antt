-- The reply by which a unit's engine confirms what a slot of its store holds (SHE specification, memory update)
use Rattle.std.specs.Prelude.{◌≡◌, ℕ, true, false, List, slice_index_or, [], codes}
use Rattle.key_slots.specs.declared.memory.Slot.{Slot}
use Rattle.key_slots.specs.declared.memory.Slot.TheVariants.{Empty, Filled}
use Rattle.key_slots.specs.declared.memory.Flags.{Flags}
use Rattle.key_slots.specs.Authority.{is_pair}
use Rattle.memory_update.specs.declared.messages.Reply.{Reply}
use Rattle.memory_update.specs.Messages.{Confirms}
use Rattle.slot_disk.specs.Cell.{HoldsSlot}
use Rattle.text_lines.specs.Texts.{line}
use Rattle.program_edge.specs.Rows.{Row, row_of}
use Rattle.any_cells.specs.declared.finding.CountingStore.{CountingStore}
use Rattle.key_commands.specs.declared.lines.LoadLine.TheVariants.{Loaded}
use Rattle.key_commands.specs.LoadTexts.{load_text}
use Rattle.key_commands.specs.Opening.{bad_slot_row}
use Rattle.slot_commands.specs.declared.tasks.ReplyAsked.{ReplyAsked}
use Rattle.slot_commands.specs.Cells.{HoldsNoSlot}
use Rattle.slot_commands.specs.Stores.{HoldsStore, IsUnreadable}

-- the slot of these bytes' store has this cell
abbrev pub HasSlotCell : List ℕ → ℕ → List ℕ → Type 0
HasSlotCell x id cell =
    (found : CountingStore) × (cells : List (List ℕ)) × HoldsStore x found cells
    × (slice_index_or cells id [] ≡ cell)

-- what a slot answers: nothing if it is empty, and else the line that `load` printed when the slot got what it holds
pub data SlotReplies (a : ReplyAsked) : Slot → Row → Type 0 where
  empty : SlotReplies a Empty (row_of 1 (line (codes "refused KEY_EMPTY")))
  replied : (key : List ℕ) (counter : ℕ) (flags : Flags) (reply : Reply)
      → Confirms reply
      (record { uid = a.uid; id = a.id; auth = a.auth; counter = counter; flags = flags; key = key }) a.uid
      → SlotReplies a (Filled key counter flags) (row_of 0 (load_text (Loaded reply)))

-- the same of its cell
pub data CellReplies (a : ReplyAsked) (cell : List ℕ) : Row → Type 0 where
  bad_slot : HoldsNoSlot cell → CellReplies a cell (bad_slot_row a.id)
  of_slot : (slot : Slot) (row : Row) → HoldsSlot cell slot → SlotReplies a slot row → CellReplies a cell row

-- the row of a reply: that of the slot's cell, or the first cause why there is none
pub data RepliesFrom (x : List ℕ) (a : ReplyAsked) : Row → Type 0 where
  bad_pair : is_pair a.id a.auth ≡ false → RepliesFrom x a (row_of 1 (line (codes "refused BadPair")))
  unreadable : (row : Row) → is_pair a.id a.auth ≡ true → IsUnreadable x row → RepliesFrom x a row
  of_cell : (cell : List ℕ) (row : Row) → is_pair a.id a.auth ≡ true → HasSlotCell x a.id cell
      → CellReplies a cell row → RepliesFrom x a row
