use Rattle.std.proofs.Common.{◌≢◌, ℕ, ◌<◌, get_or}
use Rattle.secoc_gateway.proofs.pairs.is_new.Given as goal

abbrev pub invariant-loop-other : goal.invariant-loop-other
invariant-loop-other l =
    (k : ℕ) (d : ℕ × ℕ) → k < l.other-index → ((get_or l.earlier k d).0 ≢ l.pair.0) × ((get_or l.earlier k d).1 ≢ l.pair.1)
