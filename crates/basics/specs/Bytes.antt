-- Lists of bytes of a length.
use Rattle.std.specs.Prelude.{◌≡◌, ◌<◌, ℕ, List, All, length}

-- n bytes
pub record IsBytes (n : ℕ) (xs : List ℕ) : Type 0 where
  pub size : length xs ≡ n
  pub bytes : All (λ b. b < 256) xs
