-- The unique identifiers of engines
use Rattle.std.specs.Prelude.{ℕ, List}
use Rattle.basics.specs.Bytes.{IsBytes}

-- which values the code's identifiers have: 15 bytes
abbrev pub IsUid : List ℕ → Type 0
IsUid uid = IsBytes 15 uid
