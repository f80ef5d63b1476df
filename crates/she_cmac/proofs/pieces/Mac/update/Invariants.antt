use Rattle.std.proofs.Common.{ℕ, ◌-◌, ◌≤◌, List, ◌++◌, length, take}
use Rattle.she_cmac.specs.Took.{Took}
use Rattle.she_cmac.proofs.pieces.Mac.update.Given as goal

-- the bytes so far are taken
abbrev pub invariant-loop-done : goal.invariant-loop-done
invariant-loop-done l =
    (l.done ≤ length l.bytes) × ((key message : List ℕ) → Took key message l.initial.self → Took key (message ++ take l.done l.bytes) l.self)

abbrev pub decreases-loop-done : goal.decreases-loop-done
decreases-loop-done l = length l.bytes - l.done
