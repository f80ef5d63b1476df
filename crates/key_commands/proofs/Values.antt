-- The values that clap found.
use Rattle.std.proofs.Common.{◌≡◌, ℕ, Bool, true, false, List, refl, sym}
use Rattle.std.specs.Prelude.{Decides}
use Rattle.clap.specs.Words.{first_of, first_value, rows_of}
use Rattle.clap.specs.declared.parser.matches.Found.{Found}
use Rattle.clap.proofs.WalkLemmas.{first_value-rows}

pub value_found : (f : Found) (name : List ℕ) → first_of name (rows_of f) ≡ first_value f name
value_found f name = sym (first_value-rows f name)

pub is_false : (b : Bool) (P : Type 0) → Decides b P → (P → ⊥) → b ≡ false
is_false true P decides wrong = absurd (wrong (decides.0 refl))
is_false false P decides wrong = refl
