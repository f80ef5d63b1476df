-- What a slot's cell comes to as a reply
use Rattle.std.proofs.Common.{◌≡◌, ◌⊎◌, ◌∙◌, ℕ, true, false, List, [], inl, inr, sym, ap, subst}
use Rattle.std.specs.Prelude.{Bool, IsTrue, ◌↔◌, Contains, Result, Vec, IfOk, IfErr, codes, slice_index_or}
use Rattle.std.specs.declared.alloc.Global.{Global}
use Rattle.std.proofs.lemmas.Result.{IfOk-weaker, IfErr-weaker}
use Rattle.key_slots.specs.Authority.{pairs, is_pair}
use Rattle.key_slots.proofs.CallerLemmas.{answer_is_pair}
use Rattle.key_slots.specs.declared.memory.Slot.{Slot}
use Rattle.text_lines.specs.Texts.{line}
use Rattle.program_edge.specs.Rows.{Row, row_of, memory_row}
use Rattle.slot_disk.specs.Cell.{HoldsSlot}
use Rattle.any_cells.specs.declared.finding.CountingStore.{CountingStore}
use Rattle.slot_commands.specs.declared.tasks.ReplyAsked.{ReplyAsked}
use Rattle.slot_commands.specs.Stores.{HoldsStore, IsUnreadable}
use Rattle.slot_commands.specs.Replies.{HasSlotCell, SlotReplies, CellReplies, RepliesFrom, bad_pair, unreadable, of_cell, of_slot, bad_slot, empty, replied}
use Rattle.slot_commands.specs.Cells.{HoldsNoSlot}
use Rattle.key_slots.specs.declared.memory.Flags.{Flags}
use Rattle.key_slots.specs.declared.memory.Slot.TheVariants.{Empty, Filled}
use Rattle.memory_update.specs.declared.messages.Reply.{Reply}
use Rattle.memory_update.specs.Messages.{Confirms}
use Rattle.key_commands.specs.declared.lines.LoadLine.TheVariants.{Loaded}
use Rattle.key_commands.specs.LoadTexts.{load_text}
use Rattle.key_commands.specs.Opening.{bad_slot_row}

-- ---- the pair

pub pair_is : (id auth : ℕ) (answer : Bool) → (IsTrue answer ↔ Contains pairs (id, auth)) → answer ≡ true → is_pair id auth ≡ true
pair_is id auth answer decides is = sym (answer_is_pair answer id auth decides) ∙ is

pub pair_refused : (x : List ℕ) (a : ReplyAsked) (answer : Bool) (row : Row) → (IsTrue answer ↔ Contains pairs (a.id, a.auth)) → answer ≡ false
    → row ≡ row_of 1 (line (codes "refused BadPair")) → RepliesFrom x a row ⊎ (row ≡ memory_row)
pair_refused x a answer row decides is row_is =
    inl (subst (RepliesFrom x a) (sym row_is) (bad_pair (sym (answer_is_pair answer a.id a.auth decides) ∙ is)))

-- ---- the store

pub read_refused : (x : List ℕ) (a : ReplyAsked) (row : Row) → is_pair a.id a.auth ≡ true → IsUnreadable x row ⊎ (row ≡ memory_row)
    → RepliesFrom x a row ⊎ (row ≡ memory_row)
read_refused x a row pair (inl not) = inl (unreadable row pair not)
read_refused x a row pair (inr memory) = inr memory

pub has_cell : (x : List ℕ) (found : CountingStore) (cells : List (List ℕ)) (id n : ℕ) (cell : List ℕ) → HoldsStore x found cells → n ≡ id
    → cell ≡ slice_index_or cells n [] → HasSlotCell x id cell
has_cell x found cells id n cell holds same is =
    (found, cells, holds, sym (is ∙ ap (λ (k : ℕ). slice_index_or cells k []) same))

-- ---- the slot

pub empty_refused : (a : ReplyAsked) (slot : Slot) (row : Row) → slot ≡ Empty → row ≡ row_of 1 (line (codes "refused KEY_EMPTY"))
    → SlotReplies a slot row ⊎ (row ≡ memory_row)
empty_refused a slot row is row_is =
    inl (subst (SlotReplies a slot) (sym row_is) (subst (λ (s : Slot). SlotReplies a s (row_of 1 (line (codes "refused KEY_EMPTY")))) (sym is) empty))

pub filled_replied : (a : ReplyAsked) (slot : Slot) (key : List ℕ) (counter : ℕ) (flags : Flags) (reply : Reply) (result : Result (Vec ℕ Global) Row)
    → slot ≡ Filled key counter flags
    → Confirms reply (record { uid = a.uid; id = a.id; auth = a.auth; counter = counter; flags = flags; key = key }) a.uid
    → IfOk result (λ text. text.items ≡ load_text (Loaded reply)) → IfOk result (λ text. SlotReplies a slot (row_of 0 text.items))
filled_replied a slot key counter flags reply result is confirms text_is =
    IfOk-weaker result _ _
    (λ text e. subst (λ (t : List ℕ). SlotReplies a slot (row_of 0 t)) (sym e)
    (subst (λ (s : Slot). SlotReplies a s (row_of 0 (load_text (Loaded reply)))) (sym is) (replied key counter flags reply confirms)))
    text_is

pub bad_refused : (a : ReplyAsked) (cell : List ℕ) (row : Row) → HoldsNoSlot cell → (row ≡ bad_slot_row a.id) ⊎ (row ≡ memory_row)
    → CellReplies a cell row ⊎ (row ≡ memory_row)
bad_refused a cell row none (inl is) = inl (subst (CellReplies a cell) (sym is) (bad_slot none))
bad_refused a cell row none (inr memory) = inr memory

pub slot_replied : (a : ReplyAsked) (cell : List ℕ) (slot : Slot) (result : Result (Vec ℕ Global) Row) → HoldsSlot cell slot
    → IfOk result (λ text. SlotReplies a slot (row_of 0 text.items)) → IfOk result (λ text. CellReplies a cell (row_of 0 text.items))
slot_replied a cell slot result holds replies =
    IfOk-weaker result _ _ (λ text r. of_slot slot (row_of 0 text.items) holds r) replies

pub slot_refused : (a : ReplyAsked) (cell : List ℕ) (slot : Slot) (result : Result (Vec ℕ Global) Row) → HoldsSlot cell slot
    → IfErr result (λ row. SlotReplies a slot row ⊎ (row ≡ memory_row)) → IfErr result (λ row. CellReplies a cell row ⊎ (row ≡ memory_row))
slot_refused a cell slot result holds replies =
    IfErr-weaker result _ _ (λ row r. elim r [ inl it ↦ inl (of_slot slot row holds it) | inr memory ↦ inr memory ]) replies

pub cell_replied : (x : List ℕ) (a : ReplyAsked) (cell : List ℕ) (result : Result (Vec ℕ Global) Row) → is_pair a.id a.auth ≡ true
    → HasSlotCell x a.id cell → IfOk result (λ text. CellReplies a cell (row_of 0 text.items))
    → IfOk result (λ text. RepliesFrom x a (row_of 0 text.items))
cell_replied x a cell result pair has replies =
    IfOk-weaker result _ _ (λ text r. of_cell cell (row_of 0 text.items) pair has r) replies

pub cell_refused : (x : List ℕ) (a : ReplyAsked) (cell : List ℕ) (result : Result (Vec ℕ Global) Row) → is_pair a.id a.auth ≡ true
    → HasSlotCell x a.id cell → IfErr result (λ row. CellReplies a cell row ⊎ (row ≡ memory_row))
    → IfErr result (λ row. RepliesFrom x a row ⊎ (row ≡ memory_row))
cell_refused x a cell result pair has replies =
    IfErr-weaker result _ _ (λ row r. elim r [ inl it ↦ inl (of_cell cell row pair has it) | inr memory ↦ inr memory ]) replies
