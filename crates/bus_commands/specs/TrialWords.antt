-- The arguments `trial B N SEED`.
use Rattle.std.specs.Prelude.{◌≡◌, ℕ, List, codes, Some}
use Rattle.text_lines.specs.Forms.{number_form}
use Rattle.bus_commands.specs.declared.trial_words.TrialWords.{TrialWords}

-- of four arguments the first is `trial`, and the second names a bus file. The third is a number from 1 to 60,000, and
-- the fourth one below 2^64
pub record NamesTrial (word count seed : List ℕ) (trial : TrialWords) : Type 0 where
  pub is_named : word ≡ codes "trial"
  pub is_counted : number_form 1 60000 count ≡ Some trial.count
  pub is_seeded : number_form 0 18446744073709551615 seed ≡ Some trial.seed
