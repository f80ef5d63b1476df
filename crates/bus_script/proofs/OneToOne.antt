-- Lists of lines are told apart by their texts
use Rattle.std.proofs.Common.{◌≡◌, ℕ, ◌+◌, ◌<◌, ◌^◌, List, [], ◌∷◌, ◌++◌, refl, sym, ◌∙◌, ap, length, length-append, append_assoc, arith}
use Rattle.std.specs.Fmt.{decimal}
use Rattle.std.specs.List.{All}
use Rattle.std.proofs.lemmas.Fmt.{decimal_injective}
use Rattle.std.proofs.lemmas.List.{append_cancel_left}
use Rattle.std.proofs.lemmas.List.Elements.{All-head, All-tail}
use Rattle.run_driver.specs.Printed.{texts}
use Rattle.bus_machine.specs.declared.lines.Line.{Line}
use Rattle.bus_script.specs.LineTexts.{line_text, text_of, told_words}
use Rattle.bus_machine.specs.LineKinds.{IsLine}
use Rattle.text_lines.specs.Spaced.{spaced}
use Rattle.text_lines.proofs.CallerLemmas.{written-spaced}
use Rattle.bus_script.proofs.Cutting.{cut_first, cut_words}
use Rattle.bus_script.proofs.PlainWords.{decimal_plain, told_plain}
use Rattle.bus_script.proofs.ReadBack.{same_told}

-- the text of a line and what stands after it
line_text-cut : (number : ℕ) (line : Line) (rest : List ℕ)
    → line_text number line ++ rest ≡ decimal number ++ (spaced (told_words line) ++ 10 ∷ rest)
line_text-cut number line rest =
    ap (λ (l : List ℕ). l ++ rest) (written-spaced (decimal number) (told_words line))
    ∙ append_assoc (decimal number) (spaced (told_words line) ++ 10 ∷ []) rest
    ∙ ap (λ (l : List ℕ). decimal number ++ l) (append_assoc (spaced (told_words line)) (10 ∷ []) rest)

pub line_apart : (number other : ℕ) (line same : Line) (rest tail : List ℕ) → number < 2 ^ 64 → other < 2 ^ 64 → IsLine line → IsLine same
    → line_text number line ++ rest ≡ line_text other same ++ tail → (number ≡ other) × (line ≡ same) × (rest ≡ tail)
line_apart number other line same rest tail few few' h k e =
    let all = cut_first (decimal number) (decimal other) (told_words line) (told_words same) rest tail
    (rw (decimal_plain number few) (told_plain line h)) (rw (decimal_plain other few') (told_plain same k))
    (sym (line_text-cut number line rest) ∙ e ∙ line_text-cut other same tail) in
    (decimal_injective number other few few' all.0, same_told line same h k all.1, all.2)

-- lines of one number
same_number : (number : ℕ) (line same : Line) (rest tail : List ℕ) → IsLine line → IsLine same
    → line_text number line ++ rest ≡ line_text number same ++ tail → (line ≡ same) × (rest ≡ tail)
same_number number line same rest tail h k e =
    let behind = append_cancel_left (decimal number) (spaced (told_words line) ++ 10 ∷ rest) (spaced (told_words same) ++ 10 ∷ tail)
    (sym (line_text-cut number line rest) ∙ e ∙ line_text-cut number same tail) in
    let all = cut_words (told_words line) (told_words same) rest tail (told_plain line h) (told_plain same k) behind in
    (same_told line same h k all.0, all.1)

-- no text of a line is empty
some_text : (number : ℕ) (line : Line) (rest : List ℕ) → [] ≡ line_text number line ++ rest → ⊥
some_text number line rest e =
    let words : List ℕ = spaced (told_words line) in
    let size = ap (λ (l : List ℕ). length l) (e ∙ line_text-cut number line rest) in
    omega (arith, size, length-append (decimal number) (words ++ 10 ∷ rest), length-append words (10 ∷ rest))

texts_apart : (number : ℕ) (lines others : List Line) → All IsLine lines → All IsLine others
    → texts line_text number lines ≡ texts line_text number others → lines ≡ others
texts_apart number [] [] h k e = refl
texts_apart number [] (line ∷ others) h k e = absurd (some_text number line (texts line_text (number + 1) others) e)
texts_apart number (line ∷ lines) [] h k e = absurd (some_text number line (texts line_text (number + 1) lines) (sym e))
texts_apart number (line ∷ lines) (other ∷ others) h k e =
    let both = same_number number line other (texts line_text (number + 1) lines) (texts line_text (number + 1) others)
    (All-head IsLine line lines h) (All-head IsLine other others k) e in
    cc (both.0, texts_apart (number + 1) lines others (All-tail IsLine line lines h) (All-tail IsLine other others k) both.1)

pub text_of-apart : (lines others : List Line) → All IsLine lines → All IsLine others → text_of lines ≡ text_of others → lines ≡ others
text_of-apart = texts_apart 1
