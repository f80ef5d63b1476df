-- Room that was taken beforehand: with it a call takes no memory
use Rattle.std.specs.Prelude.{ℕ, ◌+◌, ◌≤◌, Vec, vec_len, vec_capacity, Result, IsOk}
use Rattle.std.specs.declared.alloc.Global.{Global}

-- at most this many items were added; with room for as many it is Ok; the room that there was is kept
abbrev pub AddsAtMost : {A B E : Type 0} → ℕ → Vec A Global → Vec A Global → Result B E → Type 0
AddsAtMost n before after result =
    (vec_len before + n ≤ vec_capacity before → IsOk result)
    × (vec_capacity before ≤ vec_capacity after) × (vec_len after ≤ vec_len before + n)
