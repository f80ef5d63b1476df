-- What a key, two blocks, a Data ID or a freshness means by its form: the value, or none if the word isn't of the form.
use Rattle.std.specs.Prelude.{ℕ, ◌==◌, if◌then◌else◌, List, [], ◌∷◌, length, take, drop, Option, Some, None, option_map}
use Rattle.std.specs.Result.{result_ok}
use Rattle.basics.specs.Numbers.{number_of}
use Rattle.hex.specs.Hex.{decode_sized}

-- KEY, M1, M3, M5: 32 hexadecimal digits of either case
unfoldable pub key_form : List ℕ → Option (List ℕ)
key_form word = result_ok (decode_sized word 16)

-- two blocks, if each is one
abbrev pub both : Option (List ℕ) → Option (List ℕ) → Option (List (List ℕ))
both (Some first) (Some second) = Some (first ∷ second ∷ [])
both (Some first) None = None
both None _ = None

-- M2, M4: 64 hexadecimal digits, two blocks one after the other
unfoldable pub two_form : List ℕ → Option (List (List ℕ))
two_form word = if length word == 64 then both (key_form (take 32 word)) (key_form (drop 32 word)) else None

-- ID: four hexadecimal digits, the higher byte first
unfoldable pub data_id_form : List ℕ → Option ℕ
data_id_form word = option_map number_of (result_ok (decode_sized word 2))

-- FRESH: 16 hexadecimal digits, the highest byte first
unfoldable pub fresh_form : List ℕ → Option ℕ
fresh_form word = option_map number_of (result_ok (decode_sized word 8))
