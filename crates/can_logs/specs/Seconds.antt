-- A time in a word, in microseconds
use Rattle.std.specs.Prelude.{ℕ, ◌+◌, ◌-◌, ◌*◌, ◌^◌, ◌==◌, ◌&&◌, nat_le, if◌then◌else◌, List, [], length, take, drop, position, Option, None, Some, option_and_then}
use Rattle.std.specs.List.{list_all}
use Rattle.std.specs.Char.{is_ascii_digit}
use Rattle.std.specs.Str.Parse.{digits_value}

-- the millionths of a fraction: its first six digits, and zeros behind fewer
abbrev pub millionths : List ℕ → ℕ
millionths fraction = digits_value 10 (take 6 fraction) * 10 ^ (6 - length fraction)

-- SECONDS: 1 to 12 decimal digits, and behind a point, which is 46, the digits of a fraction
abbrev pub seconds_parts : List ℕ → List ℕ → Option ℕ
seconds_parts whole fraction =
    if nat_le 1 (length whole) && nat_le (length whole) 12 && list_all is_ascii_digit whole
    && list_all is_ascii_digit fraction
    then Some (digits_value 10 whole * 1000000 + millionths fraction)
    else None

abbrev pub seconds_at : List ℕ → Option ℕ → Option ℕ
seconds_at word None = seconds_parts word []
seconds_at word (Some at) = seconds_parts (take at word) (drop (at + 1) word)

unfoldable pub seconds_form : List ℕ → Option ℕ
seconds_form word = seconds_at word (position (λ byte. byte == 46) word)

-- such a time of at least a microsecond
abbrev pub not_zero : ℕ → Option ℕ
not_zero time = if time == 0 then None else Some time

abbrev pub period_form : List ℕ → Option ℕ
period_form word = option_and_then not_zero (seconds_form word)
