-- The draws that a seed gives: a linear congruential generator of 64 bits, of whose states a draw shows the upper 31
-- bits (own).
use Rattle.std.specs.Prelude.{◌≡◌, ℕ, zero, suc, ◌+◌, ◌*◌, ◌/◌, ◌%◌, ◌^◌, List, map}
use Rattle.std.specs.List.{range_with_len}

unfoldable pub next_state : ℕ → ℕ
next_state x = (x * 6364136223846793005 + 1442695040888963407) % 2 ^ 64

-- the state after so many draws
abbrev pub after_draws : ℕ → ℕ → ℕ
after_draws x zero = x
after_draws x (suc n) = next_state (after_draws x n)

-- the draw that has so many before it
abbrev pub draw : ℕ → ℕ → ℕ
draw x n = next_state (after_draws x n) / 2 ^ 33

-- so many bytes, each of its own draw
abbrev pub bytes_drawn : ℕ → ℕ → List ℕ
bytes_drawn x count = map (λ n. draw x n % 256) (range_with_len 0 count)

-- the first state that the seed 0 gives, and its first two draws
pub record WorkedDraws : Type 0 where
  pub state : after_draws 0 1 ≡ 0x14057b7ef767814f
  pub first : draw 0 0 ≡ 0x0a02bdbf
  pub second : draw 0 1 ≡ 0x0d047708
