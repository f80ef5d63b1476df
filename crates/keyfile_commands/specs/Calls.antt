-- What the arguments of `key` ask for, and the files that they name (own)
use Rattle.std.specs.Prelude.{ℕ, ◌==◌, if◌then◌else◌, Bool, ◌&&◌, bytes_eq, List, [], length, slice_index_or}
use Rattle.std.specs.Prelude.{Option, Some, None, codes, option_map}
use Rattle.keyfile_commands.specs.declared.calls.KeyCall.{KeyCall}
use Rattle.keyfile_commands.specs.declared.calls.KeyCall.TheVariants.{Make, Read, Confirm, Bootmac}

-- the argument at a place, from 0; an empty one if there are fewer
abbrev pub argument : List (List ℕ) → ℕ → List ℕ
argument words place = slice_index_or words place []

-- there are so many arguments, the first is this, and an option stands at this place
abbrev pub is_call : List (List ℕ) → ℕ → List ℕ → ℕ → List ℕ → Bool
is_call words count name place option =
    (length words == count) && (bytes_eq (argument words 0) name && bytes_eq (argument words place) option)

-- `make UID ID AUTH COUNTER FLAGS --key FILE --auth FILE`, `read --auth FILE M1 M2 M3`,
-- `confirm UID ID AUTH COUNTER --key FILE M4 M5` or `bootmac --key FILE IMAGE`
unfoldable pub call_of : List (List ℕ) → Option KeyCall
call_of words =
    if is_call words 10 (codes "make") 6 (codes "--key") && bytes_eq (argument words 8) (codes "--auth") then Some Make
    else if is_call words 6 (codes "read") 1 (codes "--auth") then Some Read
    else if is_call words 9 (codes "confirm") 5 (codes "--key") then Some Confirm
    else if is_call words 4 (codes "bootmac") 1 (codes "--key") then Some Bootmac
    else None

-- the place of the first file's name, and of the second's
abbrev pub first_place : KeyCall → ℕ
first_place Make = 7
first_place Read = 2
first_place Confirm = 6
first_place Bootmac = 2

abbrev pub second_place : KeyCall → Option ℕ
second_place Make = Some 9
second_place Read = None
second_place Confirm = None
second_place Bootmac = Some 3

-- the first file: of the new key or the boot MAC key, of `read` the authorising key's
abbrev pub first_file : List (List ℕ) → Option (List ℕ)
first_file words = option_map (λ call. argument words (first_place call)) (call_of words)

abbrev pub second_file_of : List (List ℕ) → Option KeyCall → Option (List ℕ)
second_file_of words (Some call) = option_map (argument words) (second_place call)
second_file_of words None = None

-- the second file: of `make` the authorising key's, and the image of `bootmac`
abbrev pub second_file : List (List ℕ) → Option (List ℕ)
second_file words = second_file_of words (call_of words)
