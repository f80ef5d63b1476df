-- What the parts of a cell are, if it is the cell of a slot.
use Rattle.std.proofs.Common.{◌≡◌, ℕ, ◌^◌, ◌<◌, List, [], ◌∷◌, ◌++◌, length, get_or, take, drop, replicate, refl, sym, ap, ◌∙◌, arith}
use Rattle.std.proofs.Math.Seq.{take-append_seam}
use Rattle.basics.specs.Numbers.{number_of, bytes_of}
use Rattle.basics.proofs.CallerLemmas.{number_of-bytes_of-lt}
use Rattle.key_slots.specs.declared.memory.Flags.{Flags}
use Rattle.key_slots.specs.declared.memory.Slot.{Slot}
use Rattle.key_slots.specs.declared.memory.Slot.TheVariants.{Empty, Filled}
use Rattle.key_slots.specs.Flags.{flags_number}
use Rattle.slot_disk.specs.Cell.{slot_cell}

-- the first byte of a slot's cell
abbrev pub first_byte : Slot → ℕ
first_byte Empty = 0
first_byte (Filled key counter flags) = 1

pub first_is : (cell : List ℕ) (slot : Slot) → cell ≡ slot_cell slot → get_or cell 0 0 ≡ first_byte slot
unfolding slot_cell
first_is cell Empty e = rw e refl
first_is cell (Filled key counter flags) e = rw e refl

pub flags_are : (cell key : List ℕ) (counter : ℕ) (flags : Flags) → cell ≡ slot_cell (Filled key counter flags) → get_or cell 1 0 ≡ flags_number flags
unfolding slot_cell
flags_are cell key counter flags e = rw e refl

four_are : (cell key : List ℕ) (counter : ℕ) (flags : Flags) → cell ≡ slot_cell (Filled key counter flags)
    → get_or cell 2 0 ∷ get_or cell 3 0 ∷ get_or cell 4 0 ∷ get_or cell 5 0 ∷ [] ≡ bytes_of 4 counter
unfolding slot_cell bytes_of
four_are cell key counter flags e = rw e refl

pub counter_is : (cell key : List ℕ) (counter : ℕ) (flags : Flags) → cell ≡ slot_cell (Filled key counter flags) → counter < 2 ^ 28
    → number_of (get_or cell 2 0 ∷ get_or cell 3 0 ∷ get_or cell 4 0 ∷ get_or cell 5 0 ∷ []) ≡ counter
counter_is cell key counter flags e fits =
    ap number_of (four_are cell key counter flags e) ∙ number_of-bytes_of-lt 4 counter (omega arith)

pub key_is : (cell key : List ℕ) (counter : ℕ) (flags : Flags) → cell ≡ slot_cell (Filled key counter flags) → length key ≡ 16 → take 16 (drop 6 cell) ≡ key
unfolding slot_cell bytes_of
key_is cell key counter flags e size =
    ap (λ c. take 16 (drop 6 c)) e ∙ ap (λ n. take n (key ++ replicate 10 0)) (sym size) ∙ take-append_seam key (replicate 10 0)
