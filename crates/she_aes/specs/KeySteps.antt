-- The key expansion, a round key at a time.
use Rattle.std.specs.Prelude.{ℕ, List, [], ◌∷◌, ◌++◌}
use Rattle.she_aes.specs.Cipher.{column, xor_words, sub_word, rot_word}

-- the round key after this one, whose first word takes this power of x
unfoldable pub next_round_key : ℕ → List ℕ → List ℕ
next_round_key power key =
    let a = xor_words (column key 0) (xor_words (sub_word (rot_word (column key 3))) (power ∷ 0 ∷ 0 ∷ 0 ∷ [])) in
    let b = xor_words (column key 1) a in
    let c = xor_words (column key 2) b in
    let d = xor_words (column key 3) c in
    a ++ b ++ c ++ d
