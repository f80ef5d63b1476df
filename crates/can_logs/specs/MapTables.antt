-- The lists of a table over CAN identifiers: in which list a line of a map stands, and which line comes next in it
use Rattle.std.specs.Prelude.{◌≡◌, ℕ, ◌+◌, ◌*◌, ◌%◌, ◌<◌, ◌≤◌, ◌==◌, Bool, true, false, List, length, get_or, slice_index}
use Rattle.std.specs.List.{fold}
use Rattle.can_logs.specs.declared.map_lines.MapLine.{MapLine}

-- the list, of 256, that has the lines of a CAN identifier: its digits as a number to the base 57
abbrev pub list_of_can : List ℕ → ℕ
list_of_can can = fold (λ sum digit. (sum * 57 + digit) % 256) 0 can

-- a line stands in a list
abbrev pub is_in_list : ℕ → MapLine → Bool
is_in_list list l = list_of_can l.can == list

-- from this place on the next line of a list is the one at `next`, or there is none, and `next` is the number of lines
pub record IsNextIn (lines : List MapLine) (list from next : ℕ) : Type 0 where
  pub after : from ≤ next
  pub within : next ≤ length lines
  pub between : (place : ℕ) (d : MapLine) → from ≤ place → place < next → is_in_list list (get_or lines place d) ≡ false
  pub there : (d : MapLine) → next < length lines → is_in_list list (get_or lines next d) ≡ true

-- of each list its first line from this place on
abbrev pub AreFirsts : List MapLine → ℕ → List ℕ → Type 0
AreFirsts lines from firsts = (list : ℕ) → list < 256 → IsNextIn lines list from (slice_index firsts list)

-- of each line from this place on the next one in its list
abbrev pub AreNexts : List MapLine → ℕ → List ℕ → Type 0
AreNexts lines from nexts =
    (place : ℕ) (d : MapLine) → from ≤ place → place < length lines
    → IsNextIn lines (list_of_can (get_or lines place d).can) (place + 1) (slice_index nexts place)
