-- What a schedule holds, by the cipher that a build takes.
use Rattle.std.proofs.Common.{◌≡◌, List, ℕ, ap, sym, ◌∙◌}
use Rattle.she_aes.specs.declared.choice.Cipher.{Cipher}
use Rattle.she_aes.specs.declared.choice.Cipher.TheVariants.{Shuffles, Words, Tables}
use Rattle.she_aes.specs.RoundKeys.{keys_for, AreKeysFor, IsAddedUnder, IsPlainUnder}

module _ {cipher : Cipher} {key : List ℕ} {rounds : List (List ℕ)} (are : AreKeysFor cipher key rounds) where
  pub added_by_shuffles : Shuffles ≡ cipher → IsAddedUnder key rounds
  unfolding keys_for
  added_by_shuffles is = record { of_key = are.of_key ∙ ap (λ f. keys_for f key) (sym is); key_is_block = are.key_is_block }

  pub plain_by_words : Words ≡ cipher → IsPlainUnder key rounds
  unfolding keys_for
  plain_by_words is = record { of_key = are.of_key ∙ ap (λ f. keys_for f key) (sym is); key_is_block = are.key_is_block }

  pub plain_by_tables : Tables ≡ cipher → IsPlainUnder key rounds
  unfolding keys_for
  plain_by_tables is = record { of_key = are.of_key ∙ ap (λ f. keys_for f key) (sym is); key_is_block = are.key_is_block }
