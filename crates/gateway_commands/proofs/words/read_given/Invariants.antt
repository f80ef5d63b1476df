-- the arguments so far are those of the pairs at the beginning
use Rattle.std.specs.Prelude.{◌≡◌, ℕ, ◌<◌, [], length, map, string_bytes, Some, slice_index_or}
use Rattle.secoc_gateway.specs.Pairs.{pair_in}
use Rattle.gateway_commands.specs.Words.{pair_form}
use Rattle.gateway_commands.proofs.words.read_given.Given as goal

abbrev pub invariant-loop-place : goal.invariant-loop-place
invariant-loop-place l =
    (length l.room ≡ 32)
    × ((k : ℕ) → k < l.place → pair_form (slice_index_or (map string_bytes l.given) k []) ≡ Some (pair_in l.room k))
