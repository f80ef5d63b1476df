-- A time in microseconds, as it is printed
use Rattle.std.specs.Prelude.{ℕ, ◌+◌, ◌/◌, ◌%◌, List, ◌++◌, drop, codes}
use Rattle.std.specs.Fmt.{decimal}

-- seconds, a point, and six digits
abbrev pub seconds_text : ℕ → List ℕ
seconds_text micros = decimal (micros / 1000000) ++ codes "." ++ drop 1 (decimal (1000000 + micros % 1000000))
