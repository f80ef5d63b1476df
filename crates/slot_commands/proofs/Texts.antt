-- Lines that are added to a text
use Rattle.std.proofs.Common.{◌≡◌, ℕ, List, [], ◌∷◌, ◌++◌, ◌∙◌, refl, sym, ap, append_assoc, append-nil}
use Rattle.text_lines.specs.Spaced.{spaced}
use Rattle.text_lines.specs.Written.{written}
use Rattle.text_lines.proofs.CallerLemmas.{written-spaced}

-- words are added one after another
pub spaced-append : (words more : List (List ℕ)) → spaced (words ++ more) ≡ spaced words ++ spaced more
spaced-append [] more = refl
spaced-append (word ∷ words) more =
    ap (λ (l : List ℕ). 32 ∷ (word ++ l)) (spaced-append words more)
    ∙ ap (λ (l : List ℕ). 32 ∷ l) (sym (append_assoc word (spaced words) (spaced more)))

-- a word at the beginning of a line, the other words, and a line feed
pub line_added : (old word : List ℕ) (words : List (List ℕ))
    → ((old ++ word) ++ spaced words) ++ 10 ∷ [] ≡ old ++ written (word ∷ words)
line_added old word words =
    append_assoc (old ++ word) (spaced words) (10 ∷ [])
    ∙ append_assoc old word (spaced words ++ 10 ∷ [])
    ∙ ap (λ (l : List ℕ). old ++ l) (sym (written-spaced word words))

-- one word more
more_spaced : (old : List ℕ) (words : List (List ℕ)) (word : List ℕ) → (old ++ spaced words) ++ 32 ∷ word ≡ old ++ spaced (words ++ word ∷ [])
more_spaced old words word =
    append_assoc old (spaced words) (32 ∷ word)
    ∙ ap (λ (l : List ℕ). old ++ (spaced words ++ 32 ∷ l)) (sym (append-nil word))
    ∙ ap (λ (l : List ℕ). old ++ l) (sym (spaced-append words (word ∷ [])))

-- a line of four words
pub four_words : (old word a b c t0 t1 t2 t3 t4 : List ℕ) → t0 ≡ old ++ word → t1 ≡ t0 ++ 32 ∷ a → t2 ≡ t1 ++ 32 ∷ b → t3 ≡ t2 ++ 32 ∷ c
    → t4 ≡ t3 ++ 10 ∷ [] → t4 ≡ old ++ written (word ∷ a ∷ b ∷ c ∷ [])
four_words old word a b c t0 t1 t2 t3 t4 o p q r s =
    let front : List ℕ = old ++ word in
    let one : t1 ≡ front ++ spaced (a ∷ []) =
    p ∙ ap (λ (l : List ℕ). l ++ 32 ∷ a) o ∙ ap (λ (l : List ℕ). front ++ 32 ∷ l) (sym (append-nil a)) in
    let two : t2 ≡ front ++ spaced (a ∷ b ∷ []) = q ∙ ap (λ (l : List ℕ). l ++ 32 ∷ b) one ∙ more_spaced front (a ∷ []) b in
    let three : t3 ≡ front ++ spaced (a ∷ b ∷ c ∷ []) = r ∙ ap (λ (l : List ℕ). l ++ 32 ∷ c) two ∙ more_spaced front (a ∷ b ∷ []) c in
    s ∙ ap (λ (l : List ℕ). l ++ 10 ∷ []) three ∙ line_added old word (a ∷ b ∷ c ∷ [])

-- a line of five words
pub five_words : (old word a b c d t0 t1 t2 t3 t4 t5 : List ℕ) → t0 ≡ old ++ word → t1 ≡ t0 ++ 32 ∷ a → t2 ≡ t1 ++ 32 ∷ b
    → t3 ≡ t2 ++ 32 ∷ c → t4 ≡ t3 ++ 32 ∷ d → t5 ≡ t4 ++ 10 ∷ [] → t5 ≡ old ++ written (word ∷ a ∷ b ∷ c ∷ d ∷ [])
five_words old word a b c d t0 t1 t2 t3 t4 t5 o p q r s t =
    let front : List ℕ = old ++ word in
    let one : t1 ≡ front ++ spaced (a ∷ []) =
    p ∙ ap (λ (l : List ℕ). l ++ 32 ∷ a) o ∙ ap (λ (l : List ℕ). front ++ 32 ∷ l) (sym (append-nil a)) in
    let two : t2 ≡ front ++ spaced (a ∷ b ∷ []) = q ∙ ap (λ (l : List ℕ). l ++ 32 ∷ b) one ∙ more_spaced front (a ∷ []) b in
    let three : t3 ≡ front ++ spaced (a ∷ b ∷ c ∷ []) = r ∙ ap (λ (l : List ℕ). l ++ 32 ∷ c) two ∙ more_spaced front (a ∷ b ∷ []) c in
    let four : t4 ≡ front ++ spaced (a ∷ b ∷ c ∷ d ∷ []) = s ∙ ap (λ (l : List ℕ). l ++ 32 ∷ d) three ∙ more_spaced front (a ∷ b ∷ c ∷ []) d in
    t ∙ ap (λ (l : List ℕ). l ++ 10 ∷ []) four ∙ line_added old word (a ∷ b ∷ c ∷ d ∷ [])

-- a line of two words and some more
pub two_and_more : (old word a : List ℕ) (words : List (List ℕ)) (t0 t1 t2 t3 : List ℕ) → t0 ≡ old ++ word → t1 ≡ t0 ++ 32 ∷ a
    → t2 ≡ t1 ++ spaced words → t3 ≡ t2 ++ 10 ∷ [] → t3 ≡ old ++ written (word ∷ a ∷ words)
two_and_more old word a words t0 t1 t2 t3 o p q r =
    rw (r, q, p, o)
    (ap (λ (l : List ℕ). l ++ 10 ∷ []) (append_assoc (old ++ word) (32 ∷ a) (spaced words)) ∙ line_added old word (a ∷ words))

-- five lists of words
pub five_lists : (old : List ℕ) (a b c d e : List (List ℕ)) (t1 t2 t3 t4 t5 : List ℕ) → t1 ≡ old ++ spaced a → t2 ≡ t1 ++ spaced b
    → t3 ≡ t2 ++ spaced c → t4 ≡ t3 ++ spaced d → t5 ≡ t4 ++ spaced e → t5 ≡ old ++ spaced (a ++ (b ++ (c ++ (d ++ e))))
five_lists old a b c d e t1 t2 t3 t4 t5 p q r s t = rw (t, s, r, q, p) (simp (spaced-append, append_assoc))
