-- Where a store stands.
use Rattle.std.proofs.Common.{◌≡◌, ℕ, Bool, true, if◌then◌else◌, List, ap, ◌∙◌}
use Rattle.seal_laws.specs.declared.SealPoint.{SealPoint}
use Rattle.seal_laws.specs.Lives.{seal_off, seal_ready}

pub stands_ready : (b : Bool) (q p : SealPoint) (cells : List (List ℕ)) → b ≡ true → q ≡ p → (if b then seal_ready q cells else seal_off) ≡ seal_ready p cells
stands_ready b q p cells ready is = ap (λ (z : Bool). if z then seal_ready q cells else seal_off) ready ∙ ap (λ (z : SealPoint). seal_ready z cells) is
