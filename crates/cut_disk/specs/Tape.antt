-- A tape: entries of one size, in room that was taken before.
use Rattle.std.specs.Prelude.{◌≡◌, ℕ, ◌<◌, Bool, List, [], ◌∷◌, ◌++◌, length, take, map, slice_index_or, Option, Some}
use Rattle.std.specs.Prelude.{None, if◌then◌else◌, nat_lt}
use Rattle.cut_disk.specs.declared.tape.PastEntry.{PastEntry}
use Rattle.cut_disk.specs.State.{Entry, past_entry}

-- the size of each state, the greatest number of entries, and the told past, if there is one
pub record TapeState : Type 0 where
  pub size : ℕ
  pub room : ℕ
  pub past : Option (List Entry)

abbrev pub entry_of : PastEntry → Entry
entry_of e = past_entry (record { bytes = e.bytes.items; loose = e.loose.items }) e.mark

-- the entries in use, as long as there were never too many
abbrev pub past_of : Bool → ℕ → List PastEntry → Option (List Entry)
past_of over used entries = if over then None else Some (map entry_of (take used entries))

-- there is room for a state in each entry
abbrev pub AllSized : ℕ → List PastEntry → Type 0
AllSized size entries =
    (k : ℕ) (e : PastEntry) → k < length entries → e ≡ slice_index_or entries k e
    → (length e.bytes.items ≡ size) × (length e.loose.items ≡ size)

-- a past gets one more entry if there is room for it, and isn't told any more if there is none
abbrev pub with_entry : ℕ → Entry → Option (List Entry) → Option (List Entry)
with_entry room e None = None
with_entry room e (Some past) = if nat_lt (length past) room then Some (past ++ e ∷ []) else None
