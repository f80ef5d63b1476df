-- Texts that grow by one piece after another
use Rattle.std.specs.Prelude.{◌≡◌, ℕ, zero, suc, ◌+◌, ◌<◌, ◌==◌, Bool, true, false, not, cond, filter, option_map, List, [], ◌∷◌, ◌++◌, length, drop, get_or}
use Rattle.std.specs.List.{flat_map, range_with_len, cons_option}
use Rattle.std.proofs.Common.{refl, sym, ap, subst, ◌∙◌, arith, append_assoc, append-nil}
use Rattle.std.proofs.lemmas.List.{drop_more}
use Rattle.bus_machine.specs.declared.events.Event.{Event}
use Rattle.bus_machine.specs.declared.lines.Line.{Line}
use Rattle.bus_config.specs.declared.node_lines.NodeLine.{NodeLine}
use Rattle.chart_commands.specs.declared.lifelines.LifeTurn.{LifeTurn}
use Rattle.chart_commands.specs.declared.lifelines.Stretch.{Stretch}
use Rattle.chart_commands.specs.Marks.{row_mark, marks_from}
use Rattle.chart_commands.specs.Lifelines.{life_turn, turns_from}
use Rattle.chart_commands.specs.ChartTexts.{marked_row, rows_text, stretch_text, is_among, life_strokes, path_text, life_path, name_box, name_boxes}

-- ---- lists, from an index on

-- what is left at an index begins with the item there
pub drop_first : {A : Type 0} (xs : List A) (i : ℕ) (x : A) → i < length xs → x ≡ get_or xs i x → drop i xs ≡ x ∷ drop (i + 1) xs
drop_first xs i x within is = drop_more xs i x within ∙ ap (λ z. z ∷ drop (i + 1) xs) (sym is)

-- the rows of some events and their lines, which are numbered from `row` on
abbrev pub rows_from : List Event → ℕ → List Event → List Line → List ℕ
rows_from all row events lines = rows_text (marks_from all row events lines) events lines

-- the rows that are left begin with the row at the index
pub rows_first : (all events : List Event) (lines : List Line) (row i : ℕ) (e : Event) (l : Line) → i < length events → i < length lines
    → e ≡ get_or events i e → l ≡ get_or lines i l
    → rows_from all row (drop i events) (drop i lines) ≡ marked_row (row_mark all row e l) e l ++ rows_from all (row + 1) (drop (i + 1) events) (drop (i + 1) lines)
rows_first all events lines row i e l here there is also =
    ap (λ (es : List Event). rows_from all row es (drop i lines)) (drop_first events i e here is)
    ∙ ap (λ (ls : List Line). rows_from all row (e ∷ drop (i + 1) events) ls) (drop_first lines i l there also)

-- and so do the turns of a life, where there is one in this row
pub turns_first : (node : ℕ) (events : List Event) (lines : List Line) (row i : ℕ) (e : Event) (l : Line) → i < length events → i < length lines
    → e ≡ get_or events i e → l ≡ get_or lines i l
    → turns_from node row (drop i events) (drop i lines)
    ≡ cons_option (option_map (λ (t : LifeTurn). (row, t)) (life_turn node e l)) (turns_from node (row + 1) (drop (i + 1) events) (drop (i + 1) lines))
turns_first node events lines row i e l here there is also =
    ap (λ (es : List Event). turns_from node row es (drop i lines)) (drop_first events i e here is)
    ∙ ap (λ (ls : List Line). turns_from node row (e ∷ drop (i + 1) events) ls) (drop_first lines i l there also)

-- and the boxes of the names
pub boxes_first : (block i : ℕ) (nodes : List NodeLine) (n : NodeLine) → i < length nodes → n ≡ get_or nodes i n
    → name_boxes block i (drop i nodes) ≡ name_box block i n.name ++ name_boxes block (i + 1) (drop (i + 1) nodes)
boxes_first block i nodes n here is = ap (name_boxes block i) (drop_first nodes i n here is)

-- ---- ranges

range_flat : (f : ℕ → List ℕ) (a n : ℕ) → flat_map f (range_with_len a (suc n)) ≡ flat_map f (range_with_len a n) ++ f (a + n)
range_flat f a zero =
    let place : a ≡ a + 0 = omega arith in
    append-nil (f a) ∙ ap f place
range_flat f a (suc n) =
    let place : a + 1 + n ≡ a + suc n = omega arith in
    ap (λ (xs : List ℕ). f a ++ xs) (range_flat f (a + 1) n)
    ∙ sym (append_assoc (f a) (flat_map f (range_with_len (a + 1) n)) (f (a + 1 + n)))
    ∙ ap (λ (k : ℕ). flat_map f (range_with_len a (suc n)) ++ f k) place

-- a range with one place more
pub range_more : (f : ℕ → List ℕ) (n : ℕ) → flat_map f (range_with_len 0 (n + 1)) ≡ flat_map f (range_with_len 0 n) ++ f n
range_more f n =
    let next : suc n ≡ n + 1 = omega arith in
    let place : 0 + n ≡ n = omega arith in
    subst (λ (m : ℕ). flat_map f (range_with_len 0 m) ≡ flat_map f (range_with_len 0 n) ++ f n) next
    (range_flat f 0 n ∙ ap (λ (k : ℕ). flat_map f (range_with_len 0 n) ++ f k) place)

-- a text with a piece of a range more
pub pushed_more : (f : ℕ → List ℕ) (n : ℕ) (text before after : List ℕ) → before ≡ text ++ flat_map f (range_with_len 0 n) → after ≡ before ++ f n
    → after ≡ text ++ flat_map f (range_with_len 0 (n + 1))
pushed_more f n text before after so_far pushed =
    pushed
    ∙ ap (λ (xs : List ℕ). xs ++ f n) so_far
    ∙ append_assoc text (flat_map f (range_with_len 0 n)) (f n)
    ∙ ap (λ (xs : List ℕ). text ++ xs) (sym (range_more f n))

-- a text with the first of the pieces that are left, and the rest
pub pushed_first : (piece rest left text before after : List ℕ) → before ++ left ≡ text → left ≡ piece ++ rest → after ≡ before ++ piece → after ++ rest ≡ text
pushed_first piece rest left text before after so_far first pushed =
    ap (λ (xs : List ℕ). xs ++ rest) pushed
    ∙ append_assoc before piece rest
    ∙ ap (λ (xs : List ℕ). before ++ xs) (sym first)
    ∙ so_far

-- ---- strokes

among_more : (node : ℕ) (b : Bool) (one : Stretch) (rest : List Stretch)
    → flat_map (stretch_text node) (cond b (one ∷ rest) rest) ≡ flat_map (stretch_text node) (cond b (one ∷ []) []) ++ flat_map (stretch_text node) rest
among_more node true one rest = ap (λ (xs : List ℕ). xs ++ flat_map (stretch_text node) rest) (sym (append-nil (stretch_text node one)))
among_more node false one rest = refl

-- the strokes of a stretch, and of others after it
pub strokes_more : (node : ℕ) (down : Bool) (one : Stretch) (rest : List Stretch)
    → life_strokes node down (one ∷ rest) ≡ life_strokes node down (one ∷ []) ++ life_strokes node down rest
strokes_more node down one rest = among_more node (is_among down one) one (filter (is_among down) rest)

-- strokes with those of a stretch more, where there is one
pub strokes_pushed : (node : ℕ) (down : Bool) (one : Stretch) (rest : List Stretch) (before after : List ℕ) → after ≡ before ++ life_strokes node down (one ∷ [])
    → after ++ life_strokes node down rest ≡ before ++ life_strokes node down (one ∷ rest)
strokes_pushed node down one rest before after pushed =
    ap (λ (xs : List ℕ). xs ++ life_strokes node down rest) pushed
    ∙ append_assoc before (life_strokes node down (one ∷ [])) (life_strokes node down rest)
    ∙ ap (λ (xs : List ℕ). before ++ xs) (sym (strokes_more node down one rest))

-- the same of one stretch alone
pub stroke_among : (node : ℕ) (down : Bool) (one : Stretch) (before after : List ℕ) → is_among down one ≡ true → after ≡ before ++ stretch_text node one
    → after ≡ before ++ life_strokes node down (one ∷ [])
stroke_among node down one before after among pushed =
    subst (λ (b : Bool). after ≡ before ++ flat_map (stretch_text node) (cond b (one ∷ []) [])) (sym among)
    (pushed ∙ ap (λ (xs : List ℕ). before ++ xs) (sym (append-nil (stretch_text node one))))

pub no_stroke : (node : ℕ) (down : Bool) (one : Stretch) (before : List ℕ) → is_among down one ≡ false → before ≡ before ++ life_strokes node down (one ∷ [])
no_stroke node down one before apart =
    subst (λ (b : Bool). before ≡ before ++ flat_map (stretch_text node) (cond b (one ∷ []) [])) (sym apart) (sym (append-nil before))

pub other_among : (a b : Bool) (one : Stretch) → one.down ≡ a → (a ≡ b → ⊥) → is_among b one ≡ false
other_among true true one e apart = absurd (apart refl)
other_among false false one e apart = absurd (apart refl)
other_among true false one e apart = ap not e
other_among false true one e apart = e

pub same_among : (b : Bool) (one : Stretch) → one.down ≡ b → is_among b one ≡ true
same_among true one e = e
same_among false one e = ap not e

-- ---- pieces

pub two_added : (text a b t1 t2 : List ℕ) → t1 ≡ text ++ a → t2 ≡ t1 ++ b → t2 ≡ text ++ (a ++ b)
two_added text a b t1 t2 p q = q ∙ ap (λ (xs : List ℕ). xs ++ b) p ∙ append_assoc text a b

pub three_added : (text a b c t1 t2 t3 : List ℕ) → t1 ≡ text ++ a → t2 ≡ t1 ++ b → t3 ≡ t2 ++ c → t3 ≡ text ++ (a ++ (b ++ c))
three_added text a b c t1 t2 t3 p q r = two_added text a (b ++ c) t1 t3 p (two_added t1 b c t2 t3 q r)

pub four_added : (text a b c d t1 t2 t3 t4 : List ℕ) → t1 ≡ text ++ a → t2 ≡ t1 ++ b → t3 ≡ t2 ++ c → t4 ≡ t3 ++ d
    → t4 ≡ text ++ (a ++ (b ++ (c ++ d)))
four_added text a b c d t1 t2 t3 t4 p q r s = two_added text a (b ++ (c ++ d)) t1 t4 p (three_added t1 b c d t2 t3 t4 q r s)

pub five_added : (text a b c d e t1 t2 t3 t4 t5 : List ℕ) → t1 ≡ text ++ a → t2 ≡ t1 ++ b → t3 ≡ t2 ++ c → t4 ≡ t3 ++ d → t5 ≡ t4 ++ e
    → t5 ≡ text ++ (a ++ (b ++ (c ++ (d ++ e))))
five_added text a b c d e t1 t2 t3 t4 t5 p q r s t =
    two_added text a (b ++ (c ++ (d ++ e))) t1 t5 p (four_added t1 b c d e t2 t3 t4 t5 q r s t)

pub six_added : (text a b c d e f t1 t2 t3 t4 t5 t6 : List ℕ) → t1 ≡ text ++ a → t2 ≡ t1 ++ b → t3 ≡ t2 ++ c → t4 ≡ t3 ++ d → t5 ≡ t4 ++ e → t6 ≡ t5 ++ f
    → t6 ≡ text ++ (a ++ (b ++ (c ++ (d ++ (e ++ f)))))
six_added text a b c d e f t1 t2 t3 t4 t5 t6 p q r s t u =
    two_added text a (b ++ (c ++ (d ++ (e ++ f)))) t1 t6 p (five_added t1 b c d e f t2 t3 t4 t5 t6 q r s t u)

-- a path of strokes that are there
pub some_path : (style strokes : List ℕ) → (length strokes == 0) ≡ false → life_path style strokes ≡ path_text style strokes
some_path style [] some = cc
some_path style (stroke ∷ strokes) some = refl

-- a path whose class and strokes stand between texts that are the same in every chart
pub path_added : (text a k b s e t1 t2 t3 : List ℕ) → t1 ≡ text ++ (a ++ (k ++ b)) → t2 ≡ t1 ++ s → t3 ≡ t2 ++ e
    → t3 ≡ text ++ (a ++ (k ++ (b ++ (s ++ e))))
path_added text a k b s e t1 t2 t3 p q r =
    three_added text (a ++ (k ++ b)) s e t1 t2 t3 p q r
    ∙ ap (λ (xs : List ℕ). text ++ xs) (append_assoc a (k ++ b) (s ++ e) ∙ ap (λ (xs : List ℕ). a ++ xs) (append_assoc k b (s ++ e)))
