-- What a word of a line means by its form: the value, or none if it isn't of the form.
use Rattle.std.specs.Prelude.{ℕ, ◌/◌, ◌==◌, ◌&&◌, ◌||◌, not, nat_lt, nat_le, Bool, if◌then◌else◌, List, [], ◌∷◌, length}
use Rattle.std.specs.Prelude.{slice_index, Option, Some, None}
use Rattle.std.specs.List.{list_all}
use Rattle.std.specs.Result.{result_ok}
use Rattle.std.specs.Str.Parse.{digits_value}
use Rattle.std.specs.Char.{is_ascii_digit}
use Rattle.hex.specs.Hex.{decode_of}

-- decimal digits without sign; only the number 0 begins with 0
abbrev pub is_number : List ℕ → Bool
is_number word =
    nat_lt 0 (length word) && list_all is_ascii_digit word && (length word == 1 || not (slice_index word 0 == 48))

-- a number from `least` to `most`
unfoldable pub number_form : ℕ → ℕ → List ℕ → Option ℕ
number_form least most word =
    if is_number word && nat_le least (digits_value 10 word) && nat_le (digits_value 10 word) most
    then Some (digits_value 10 word)
    else None

-- bytes of a number from `least` to `most`: two hexadecimal digits a byte
unfoldable pub hex_bytes_form : ℕ → ℕ → List ℕ → Option (List ℕ)
hex_bytes_form least most word =
    if nat_le least (length word / 2) && nat_le (length word / 2) most then result_ok (decode_of word) else None

-- BYTES: an even number of hexadecimal digits, at least two; or `-`, which is 45, for no bytes
unfoldable pub bytes_form : List ℕ → Option (List ℕ)
bytes_form [] = None
bytes_form (c ∷ []) = if c == 45 then Some [] else None
bytes_form (c ∷ d ∷ rest) = result_ok (decode_of (c ∷ d ∷ rest))
