-- Identifiers that are zero.
use Rattle.std.proofs.Common.{◌≡◌, ℕ, Bool, true, false, List, Some, None, refl}
use Rattle.std.specs.Prelude.{Decides, replicate}
use Rattle.std.proofs.lemmas.Slice.Eq.{bytes_eq-Decides}
use Rattle.secoc_words.specs.KeyForms.{unless_zero}

is_false : (b : Bool) (P : Type 0) → Decides b P → (P → ⊥) → b ≡ false
is_false true P decides wrong = absurd (wrong (decides.0 refl))
is_false false P decides wrong = refl

pub none_where_zero : (uid : List ℕ) → uid ≡ replicate 15 0 → unless_zero uid ≡ None
none_where_zero uid zero = rw ((bytes_eq-Decides uid (replicate 15 0)).1 zero) refl

pub kept_where_not_zero : (uid : List ℕ) → (uid ≡ replicate 15 0 → ⊥) → unless_zero uid ≡ Some uid
kept_where_not_zero uid wrong = rw (is_false _ _ (bytes_eq-Decides uid (replicate 15 0)) wrong) refl
