-- The draws of a seed, one more at a time.
use Rattle.std.proofs.Common.{◌≡◌, ℕ, ◌+◌, ◌*◌, ◌%◌, ◌^◌, ◌∷◌, ◌++◌, [], ap, add-one, zero-add}
use Rattle.std.proofs.Math.Nat.{mod-add-mod}
use Rattle.std.proofs.lemmas.List.FromFn.{map-range_with_len_more}
use Rattle.bus_script.specs.Draws.{next_state, after_draws, draw, bytes_drawn}

-- the product may wrap before the sum does
pub state_wraps : (x : ℕ) → (x * 6364136223846793005 % 2 ^ 64 + 1442695040888963407) % 2 ^ 64 ≡ next_state x
unfolding next_state
state_wraps x = mod-add-mod (x * 6364136223846793005) (2 ^ 64) 1442695040888963407

pub state_more : (x n : ℕ) → after_draws x (n + 1) ≡ next_state (after_draws x n)
state_more x n = ap (after_draws x) (add-one n)

pub byte_more : (x n : ℕ) → bytes_drawn x (n + 1) ≡ bytes_drawn x n ++ draw x n % 256 ∷ []
byte_more x n = map-range_with_len_more (λ k. draw x k % 256) 0 n n (zero-add n)
