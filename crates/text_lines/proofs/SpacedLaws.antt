-- A line that is written is its first word, the others with a space before each, and a line feed
use Rattle.std.specs.Prelude.{◌≡◌, ℕ, List, [], ◌∷◌, ◌++◌}
use Rattle.std.specs.List.{join_with_byte}
use Rattle.std.proofs.Common.{sym, ◌∙◌, ap, append_assoc, append-nil}
use Rattle.text_lines.specs.Written.{written}
use Rattle.text_lines.specs.Spaced.{spaced}

join-spaced : (word : List ℕ) (words : List (List ℕ)) → join_with_byte 32 (word ∷ words) ≡ word ++ spaced words
join-spaced word [] = sym (append-nil word)
join-spaced word (next ∷ words) = ap (λ (l : List ℕ). word ++ (32 ∷ l)) (join-spaced next words)

pub written-spaced : (word : List ℕ) (words : List (List ℕ))
    → written (word ∷ words) ≡ word ++ (spaced words ++ 10 ∷ [])
written-spaced word words =
    ap (λ (l : List ℕ). l ++ 10 ∷ []) (join-spaced word words) ∙ append_assoc word (spaced words) (10 ∷ [])
