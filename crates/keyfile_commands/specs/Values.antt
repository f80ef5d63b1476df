-- The values of keytool that the arguments stand for, with each file's key in its place
use Rattle.std.specs.Prelude.{ℕ, if◌then◌else◌, List, [], ◌∷◌, map}
use Rattle.hex.specs.Hex.{encode_lower}
use Rattle.key_commands.specs.Parsing.{is_plain}
use Rattle.keyfile_commands.specs.Calls.{argument}

-- a value; one that begins with `-` is read as an empty one: neither has a form
abbrev pub plain_value : List ℕ → List ℕ
plain_value word = if is_plain word then word else []

abbrev pub plain_values : List (List ℕ) → List (List ℕ)
plain_values words = map plain_value words

-- UID ID AUTH COUNTER FLAGS NEWKEY AUTHKEY
abbrev pub make_values : List (List ℕ) → List ℕ → List ℕ → List (List ℕ)
make_values words key auth = plain_values
    (argument words 1 ∷ argument words 2 ∷ argument words 3 ∷ argument words 4 ∷ argument words 5
    ∷ encode_lower key ∷ encode_lower auth ∷ [])

-- AUTHKEY M1 M2 M3
abbrev pub read_values : List (List ℕ) → List ℕ → List (List ℕ)
read_values words auth = plain_values
    (encode_lower auth ∷ argument words 3 ∷ argument words 4 ∷ argument words 5 ∷ [])

-- UID ID AUTH COUNTER NEWKEY M4 M5
abbrev pub confirm_values : List (List ℕ) → List ℕ → List (List ℕ)
confirm_values words key = plain_values
    (argument words 1 ∷ argument words 2 ∷ argument words 3 ∷ argument words 4
    ∷ encode_lower key ∷ argument words 7 ∷ argument words 8 ∷ [])
