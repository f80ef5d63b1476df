-- each byte so far is begun
use Rattle.std.proofs.Common.{ℕ, ◌<◌}
use Rattle.kept_starts.specs.Unfinished.{BegunAt}
use Rattle.kept_starts.proofs.unfinished.is_begun.Given as goal

abbrev pub invariant-loop-place : goal.invariant-loop-place
invariant-loop-place l = (k : ℕ) → k < l.place → BegunAt l.from l.store l.bytes k
