use Rattle.std.proofs.Common.{ℕ, ◌<◌}
use Rattle.secoc_gateway.specs.Pairs.{IsGoodAt}
use Rattle.secoc_gateway.proofs.pairs.lowest_bad.Given as goal

abbrev pub invariant-loop-place : goal.invariant-loop-place
invariant-loop-place l = (k : ℕ) → k < l.place → IsGoodAt l.routes l.pairs k
