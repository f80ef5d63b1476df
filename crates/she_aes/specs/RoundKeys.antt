-- What a schedule holds beside its key: what the rounds add.
use Rattle.std.specs.Prelude.{◌≡◌, ℕ, List, [], ◌∷◌, ◌++◌, map}
use Rattle.std.specs.List.{range_with_len}
use Rattle.she_aes.specs.Cipher.{IsBlock, key_words, round_key}
use Rattle.she_aes.specs.Pairs.{in_pairs, without_constant}
use Rattle.she_aes.specs.declared.choice.Cipher.{Cipher}
use Rattle.she_aes.specs.declared.choice.Cipher.TheVariants.{Shuffles, Words, Tables}

-- what the round with this number adds: its key in pairs, less the constant of the S-box
abbrev pub added_key : List ℕ → ℕ → List ℕ
added_key key round = in_pairs (without_constant (round_key (key_words key) round))

-- what the last round adds, which gives bytes
abbrev pub last_added_key : List ℕ → List ℕ
last_added_key key = without_constant (round_key (key_words key) 10)

-- what the ten rounds add
unfoldable pub added_keys : List ℕ → List (List ℕ)
added_keys key = map (added_key key) (range_with_len 1 9) ++ last_added_key key ∷ []

-- the round keys of the ten rounds
unfoldable pub plain_keys : List ℕ → List (List ℕ)
plain_keys key = map (round_key (key_words key)) (range_with_len 1 10)

-- the round keys of the ten rounds in the form that a cipher takes
unfoldable pub keys_for : Cipher → List ℕ → List (List ℕ)
keys_for Shuffles key = added_keys key
keys_for Words key = plain_keys key
keys_for Tables key = plain_keys key

-- these are the round keys under this key, in the form that this cipher takes
pub record AreKeysFor (cipher : Cipher) (key : List ℕ) (rounds : List (List ℕ)) : Type 0 where
  pub of_key : rounds ≡ keys_for cipher key
  pub key_is_block : IsBlock key

-- what is added is what the ten rounds add under this key
pub record IsAddedUnder (key : List ℕ) (added : List (List ℕ)) : Type 0 where
  pub of_key : added ≡ added_keys key
  pub key_is_block : IsBlock key

-- these are the round keys of the ten rounds under this key
pub record IsPlainUnder (key : List ℕ) (rounds : List (List ℕ)) : Type 0 where
  pub of_key : rounds ≡ plain_keys key
  pub key_is_block : IsBlock key
