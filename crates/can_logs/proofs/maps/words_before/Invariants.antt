-- none of the words so far ends them
use Rattle.std.proofs.Common.{◌≡◌, ℕ, ◌<◌, false, [], get_or}
use Rattle.can_logs.specs.WatchMaps.{ends_words}
use Rattle.can_logs.proofs.maps.words_before.Given as goal

abbrev pub invariant-loop-place : goal.invariant-loop-place
invariant-loop-place l = (k : ℕ) → k < l.place → ends_words l.marks (get_or l.words k []) ≡ false
