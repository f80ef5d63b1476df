-- What the arguments are
use Rattle.std.proofs.Common.{◌≡◌, ◌≢◌, ℕ, List, true, false, None, Some, refl, sym}
use Rattle.std.proofs.lemmas.Option.{none-some}
use Rattle.derive_commands.specs.Derivation.{is_derivation_call, master_file}

pub no_file : (words : List (List ℕ)) → is_derivation_call words ≡ false → master_file words ≡ None
no_file words none = rw none refl

pub has_file : (words : List (List ℕ)) → is_derivation_call words ≡ true → master_file words ≢ None
has_file words is none = none-some _ (sym (rw is at none))
