-- What stands behind the last line feed of a text, byte by byte
use Rattle.std.proofs.Common.{◌≡◌, ℕ, ◌+◌, ◌<◌, ◌≤◌, ◌==◌, Bool, true, false, List, [], ◌∷◌, ◌++◌, length, take, drop, get_or, refl, sym, ap, ◌∙◌, subst, arith, length-append}
use Rattle.std.specs.Prelude.{if◌then◌else◌}
use Rattle.std.proofs.lemmas.List.{length-take-le, drop-append-le, take_more}
use Rattle.std.proofs.Math.ListN.{drop_of_length-le}
use Rattle.text_lines.specs.Lines.{is_line_feed}
use Rattle.watch_expect.specs.Comparing.{last_line_from, last_line}

either : (b d : Bool) (p q r s : List ℕ) (c : ℕ) → p ≡ (if d then [] else r ++ c ∷ []) → q ≡ (if d then [] else s ++ c ∷ [])
    → (if b then p else q) ≡ (if d then [] else (if b then r else s) ++ c ∷ [])
either true d p q r s c one other = one
either false d p q r s c one two = two

last_more : (so_far xs : List ℕ) (c : ℕ) → last_line_from so_far (xs ++ c ∷ []) ≡ (if is_line_feed c then [] else last_line_from so_far xs ++ c ∷ [])
last_more so_far [] c = refl
last_more so_far (x ∷ xs) c =
    either (is_line_feed x) (is_line_feed c) (last_line_from [] (xs ++ c ∷ [])) (last_line_from (so_far ++ x ∷ []) (xs ++ c ∷ [])) (last_line_from [] xs) (last_line_from (so_far ++ x ∷ []) xs) c
    (last_more [] xs c) (last_more (so_far ++ x ∷ []) xs c)

-- with one byte more the line begins behind it, or where it began
begins_by : (front : List ℕ) (start next : ℕ) (x : ℕ) (b : Bool) → (x == 10) ≡ b → start ≤ length front → drop start front ≡ last_line front
    → next ≡ (if b then length front + 1 else start) → drop next (front ++ x ∷ []) ≡ last_line (front ++ x ∷ [])
begins_by front start next x true e few is next_is =
    ap (λ (n : ℕ). drop n (front ++ x ∷ [])) next_is ∙ drop_of_length-le (front ++ x ∷ []) (omega (arith, length-append front (x ∷ [])))
    ∙ sym (last_more [] front x ∙ ap (λ (b : Bool). if b then [] else last_line front ++ x ∷ []) e)
begins_by front start next x false e few is next_is =
    ap (λ (n : ℕ). drop n (front ++ x ∷ [])) next_is ∙ drop-append-le start front (x ∷ []) few ∙ ap (λ (l : List ℕ). l ++ x ∷ []) is
    ∙ sym (last_more [] front x ∙ ap (λ (b : Bool). if b then [] else last_line front ++ x ∷ []) e)

pub begins_at : (text : List ℕ) (place start next : ℕ) → place < length text → start ≤ place → drop start (take place text) ≡ last_line (take place text)
    → next ≡ (if get_or text place 0 == 10 then place + 1 else start) → drop next (take (place + 1) text) ≡ last_line (take (place + 1) text)
begins_at text place start next inside few is next_is =
    let size : length (take place text) ≡ place = length-take-le place text (omega (arith, inside)) in
    let more : take (place + 1) text ≡ take place text ++ get_or text place 0 ∷ [] = take_more text place 0 inside in
    subst (λ (t : List ℕ). drop next t ≡ last_line t) (sym more)
    (begins_by (take place text) start next (get_or text place 0) (get_or text place 0 == 10) refl (omega (arith, few, size)) is
    (subst (λ (n : ℕ). next ≡ (if get_or text place 0 == 10 then n + 1 else start)) (sym size) next_is))

pub begins_before : (place start next : ℕ) (b : Bool) → start ≤ place → next ≡ (if b then place + 1 else start) → next ≤ place + 1
begins_before place start next true few is = omega (arith, is)
begins_before place start next false few is = omega (arith, few, is)
