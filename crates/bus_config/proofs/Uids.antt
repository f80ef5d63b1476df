-- The identifier of an engine isn't zero
use Rattle.std.proofs.Common.{◌≡◌, ℕ, Bool, true, false, cond, List, Option, None, Some, replicate, refl, ◌∙◌}
use Rattle.std.specs.Prelude.{bytes_eq, option_and_then}
use Rattle.std.proofs.lemmas.Bool.{both_ways}
use Rattle.std.proofs.lemmas.Slice.Eq.{bytes_eq-Decides}
use Rattle.secoc_words.specs.KeyForms.{uid_form, unless_zero, engine_uid_form}

some_same : (a b : List ℕ) → Some a ≡ Some b → a ≡ b
some_same a b e = cc

none_not_some : (b : List ℕ) → None ≡ Some b → ⊥
none_not_some b e = cc

by_uid : (o : Option (List ℕ)) (uid : List ℕ) → option_and_then unless_zero o ≡ Some uid → uid ≡ replicate 15 0 → ⊥
by_uid None uid e zero = none_not_some uid e
by_uid (Some u) uid e zero = by_test (bytes_eq u (replicate 15 0)) refl e
  where
    by_test : (b : Bool) → bytes_eq u (replicate 15 0) ≡ b → cond b None (Some u) ≡ Some uid → ⊥
    by_test true t f = none_not_some uid f
    by_test false t f = both_ways (bytes_eq u (replicate 15 0)) t ((bytes_eq-Decides u (replicate 15 0)).1 (some_same u uid f ∙ zero))

pub uid_not_zero : (word uid : List ℕ) → engine_uid_form word ≡ Some uid → uid ≡ replicate 15 0 → ⊥
unfolding engine_uid_form
uid_not_zero word uid e zero = by_uid (uid_form word) uid e zero
