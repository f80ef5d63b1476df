-- Words that stand before a space or a line feed can be told
use Rattle.std.proofs.Common.{◌≡◌, ℕ, Bool, true, false, List, [], ◌∷◌, ◌++◌, refl, sym, ◌∙◌, append_assoc}
use Rattle.std.specs.Prelude.{◌==◌, ◌&&◌, not}
use Rattle.std.specs.List.{list_all}
use Rattle.std.proofs.lemmas.Bool.{and_parts}
use Rattle.text_lines.specs.Spaced.{spaced}

-- a byte that may stand in a word
abbrev pub is_plain : ℕ → Bool
is_plain c = not (c == 10) && not (c == 32)

abbrev pub is_plain_word : List ℕ → Bool
is_plain_word = list_all is_plain

abbrev pub are_plain : List (List ℕ) → Bool
are_plain = list_all is_plain_word

-- the first word ends where the first separator stands
cut_word : (w v : List ℕ) (a b : ℕ) (rest tail : List ℕ) → is_plain_word w ≡ true → is_plain_word v ≡ true → is_plain a ≡ false → is_plain b ≡ false
    → w ++ a ∷ rest ≡ v ++ b ∷ tail → (w ≡ v) × (a ≡ b) × (rest ≡ tail)
cut_word [] [] a b rest tail hw hv ha hb e = (refl, cc e, cc e)
cut_word [] (d ∷ v) a b rest tail hw hv ha hb e =
    let same : a ≡ d = cc e in
    let plain = (and_parts (is_plain d) (is_plain_word v) hv).0 in
    absurd (cc (ha, same, plain))
cut_word (c ∷ w) [] a b rest tail hw hv ha hb e =
    let same : c ≡ b = cc e in
    let plain = (and_parts (is_plain c) (is_plain_word w) hw).0 in
    absurd (cc (hb, same, plain))
cut_word (c ∷ w) (d ∷ v) a b rest tail hw hv ha hb e =
    let first : c ≡ d = cc e in
    let others : w ++ a ∷ rest ≡ v ++ b ∷ tail = cc e in
    let more = cut_word w v a b rest tail (and_parts (is_plain c) (is_plain_word w) hw).1 (and_parts (is_plain d) (is_plain_word v) hv).1 ha hb others in
    (cc (first, more.0), more.1, more.2)

-- the words before the first line feed
pub cut_first : (w v : List ℕ) (ws vs : List (List ℕ)) (rest tail : List ℕ) → are_plain (w ∷ ws) ≡ true → are_plain (v ∷ vs) ≡ true
    → w ++ (spaced ws ++ 10 ∷ rest) ≡ v ++ (spaced vs ++ 10 ∷ tail) → (w ≡ v) × (ws ≡ vs) × (rest ≡ tail)
cut_first w v [] [] rest tail hw hv e =
    let cut = cut_word w v 10 10 rest tail (and_parts (is_plain_word w) true hw).0 (and_parts (is_plain_word v) true hv).0 refl refl e in
    (cut.0, refl, cut.2)
cut_first w v [] (y ∷ vs) rest tail hw hv e =
    let cut = cut_word w v 10 32 rest ((y ++ spaced vs) ++ 10 ∷ tail) (and_parts (is_plain_word w) true hw).0 (and_parts (is_plain_word v) (are_plain (y ∷ vs)) hv).0 refl refl e in
    absurd (cc cut.1)
cut_first w v (x ∷ ws) [] rest tail hw hv e =
    let cut = cut_word w v 32 10 ((x ++ spaced ws) ++ 10 ∷ rest) tail (and_parts (is_plain_word w) (are_plain (x ∷ ws)) hw).0 (and_parts (is_plain_word v) true hv).0 refl refl e in
    absurd (cc cut.1)
cut_first w v (x ∷ ws) (y ∷ vs) rest tail hw hv e =
    let left = and_parts (is_plain_word w) (are_plain (x ∷ ws)) hw in
    let right = and_parts (is_plain_word v) (are_plain (y ∷ vs)) hv in
    let cut = cut_word w v 32 32 ((x ++ spaced ws) ++ 10 ∷ rest) ((y ++ spaced vs) ++ 10 ∷ tail) left.0 right.0 refl refl e in
    let more = cut_first x y ws vs rest tail left.1 right.1 (sym (append_assoc x (spaced ws) (10 ∷ rest)) ∙ cut.2 ∙ append_assoc y (spaced vs) (10 ∷ tail)) in
    (cut.0, cc (more.0, more.1), more.2)

-- the same without the first word
pub cut_words : (ws vs : List (List ℕ)) (rest tail : List ℕ) → are_plain ws ≡ true → are_plain vs ≡ true
    → spaced ws ++ 10 ∷ rest ≡ spaced vs ++ 10 ∷ tail → (ws ≡ vs) × (rest ≡ tail)
cut_words ws vs rest tail hw hv e = let all = cut_first [] [] ws vs rest tail hw hv e in (all.1, all.2)
