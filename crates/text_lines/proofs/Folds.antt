-- Reading the lines of a text one after the other: what a step leaves to be read.
use Rattle.std.proofs.Common.{◌≡◌, ℕ, ◌+◌, ◌-◌, ◌<◌, ◌≤◌, true, false, List, [], ◌∷◌, ◌++◌, length, take, drop, map, Result, Ok, Err, refl, sym, ◌∙◌, ap, arith, length-append}
use Rattle.std.specs.Prelude.{Vec}
use Rattle.std.specs.List.{position_or_len}
use Rattle.std.specs.declared.alloc.Global.{Global}
use Rattle.text_lines.specs.declared.fault.Cause.{Cause}
use Rattle.text_lines.specs.declared.fault.Cause.TheVariants.{TooMany}
use Rattle.text_lines.specs.declared.fault.ScriptFault.{ScriptFault}
use Rattle.text_lines.specs.declared.fault.ScriptFault.TheVariants.{At, Memory}
use Rattle.text_lines.specs.declared.span.Span.{Span}
use Rattle.text_lines.specs.Lines.{TextLine, is_line_feed, is_skipped}
use Rattle.text_lines.specs.Places.{placed_words_of}
use Rattle.text_lines.specs.Readings.{Fault, ◌>>=◌, at_line, limited, read_from, read_all, Gives, ReadsOne}
use Rattle.text_lines.specs.Spans.{word_at, piece_at}
use Rattle.text_lines.proofs.Rows.{lines_left, lines_left-begin, lines_left-end, lines_left-kept, lines_left-skipped}

-- what the rest of the reading makes of one line's answer
abbrev pub go_on : {A : Type 0} → (List A → List (List ℕ) → Result A Cause) → ℕ → List A → TextLine → List TextLine → Result A Cause → Result (List A) Fault
go_on {A} means most values line rest r = at_line line.number r >>= (λ (value : A). read_from means most (values ++ value ∷ []) rest)

-- reading lines of which the first is read
pub read_from-ok : {A : Type 0} (means : List A → List (List ℕ) → Result A Cause) (most : ℕ) (values : List A) (line : TextLine) (rest : List TextLine) (value : A)
    → limited most (length values) (means values line.words) ≡ Ok value
    → read_from means most values (line ∷ rest) ≡ read_from means most (values ++ value ∷ []) rest
unfolding read_from
read_from-ok means most values line rest value e = ap (go_on means most values line rest) e

-- reading lines of which the first is refused
pub read_from-err : {A : Type 0} (means : List A → List (List ℕ) → Result A Cause) (most : ℕ) (values : List A) (line : TextLine) (rest : List TextLine) (cause : Cause)
    → limited most (length values) (means values line.words) ≡ Err cause
    → read_from means most values (line ∷ rest) ≡ Err (record { line = line.number; cause = cause })
unfolding read_from
read_from-err means most values line rest cause e = ap (go_on means most values line rest) e

-- reading no lines
pub read_from-nil : {A : Type 0} (means : List A → List (List ℕ) → Result A Cause) (most : ℕ) (values : List A) → read_from means most values [] ≡ Ok values
unfolding read_from
read_from-nil means most values = refl

-- no line is one too many while fewer were read
pub limited-few : {A : Type 0} (most before : ℕ) (r : Result A Cause) → before < most → limited most before r ≡ r
limited-few most before r few = grind arith

pub limited-many : {A : Type 0} (most before : ℕ) (r : Result A Cause) → most ≤ before → limited most before r ≡ Err TooMany
limited-many most before r many = grind arith

-- one value more
pub length_pushed : {A : Type 0} (values : List A) (value : A) → length (values ++ value ∷ []) ≡ length values + 1
length_pushed values value = length-append values (value ∷ [])

-- a step over a line that is kept and read
pub fold_kept : {A : Type 0} (means : List A → List (List ℕ) → Result A Cause) (most : ℕ) (text : List ℕ) (number at end : ℕ) (spans : List Span) (words : List (List ℕ)) (values after : List A) (value : A) (whole : Result (List A) Fault)
    → end ≡ at + position_or_len is_line_feed (drop at text)
    → map (piece_at text) spans ≡ placed_words_of (record { at = at; bytes = take (end - at) (drop at text) })
    → false ≡ is_skipped (map (word_at text) spans)
    → words ≡ map (word_at text) spans
    → limited most (length values) (means values words) ≡ Ok value
    → after ≡ values ++ value ∷ []
    → read_from means most values (lines_left text number at) ≡ whole
    → read_from means most after (lines_left text (number + 1) (end + 1)) ≡ whole
fold_kept {A} means most text number at end spans words values after value whole ends here plain same gives pushed so_far =
    let rest : List TextLine = lines_left text (number + 1) (end + 1) in
    ap (λ (l : List A). read_from means most l rest) pushed
    ∙ sym (read_from-ok means most values (record { number = number; words = map (word_at text) spans }) rest value (rw (← same) gives))
    ∙ ap (read_from means most values) (sym (lines_left-kept text number at end spans ends here plain))
    ∙ so_far

-- a step over a line that is skipped
pub fold_skipped : {A : Type 0} (means : List A → List (List ℕ) → Result A Cause) (most : ℕ) (text : List ℕ) (number at end : ℕ) (spans : List Span) (values after : List A) (whole : Result (List A) Fault)
    → end ≡ at + position_or_len is_line_feed (drop at text)
    → map (piece_at text) spans ≡ placed_words_of (record { at = at; bytes = take (end - at) (drop at text) })
    → true ≡ is_skipped (map (word_at text) spans)
    → after ≡ values
    → read_from means most values (lines_left text number at) ≡ whole
    → read_from means most after (lines_left text (number + 1) (end + 1)) ≡ whole
fold_skipped {A} means most text number at end spans values after whole ends here skips same so_far =
    ap (λ (l : List A). read_from means most l (lines_left text (number + 1) (end + 1))) same
    ∙ ap (read_from means most values) (sym (lines_left-skipped text number at end spans ends here skips))
    ∙ so_far

-- the end at a line that is refused
pub fold_refused : {A : Type 0} (means : List A → List (List ℕ) → Result A Cause) (most : ℕ) (text : List ℕ) (number at end : ℕ) (spans : List Span) (values : List A) (cause : Cause) (whole : Result (List A) Fault)
    → end ≡ at + position_or_len is_line_feed (drop at text)
    → map (piece_at text) spans ≡ placed_words_of (record { at = at; bytes = take (end - at) (drop at text) })
    → false ≡ is_skipped (map (word_at text) spans)
    → limited most (length values) (means values (map (word_at text) spans)) ≡ Err cause
    → read_from means most values (lines_left text number at) ≡ whole
    → whole ≡ Err (record { line = number; cause = cause })
fold_refused means most text number at end spans values cause whole ends here plain gives so_far =
    let rest : List TextLine = lines_left text (number + 1) (end + 1) in
    sym so_far
    ∙ ap (read_from means most values) (lines_left-kept text number at end spans ends here plain)
    ∙ read_from-err means most values (record { number = number; words = map (word_at text) spans }) rest cause gives

-- the end after all lines
pub fold_done : {A : Type 0} (means : List A → List (List ℕ) → Result A Cause) (most : ℕ) (text : List ℕ) (number at : ℕ) (values : List A) (whole : Result (List A) Fault)
    → length text ≤ at
    → read_from means most values (lines_left text number at) ≡ whole
    → whole ≡ Ok values
fold_done means most text number at values whole le so_far =
    sym so_far ∙ ap (read_from means most values) (lines_left-end text number at le) ∙ read_from-nil means most values

-- the beginning
pub fold_begin : {A : Type 0} (means : List A → List (List ℕ) → Result A Cause) (most : ℕ) (text : List ℕ) (values : List A)
    → values ≡ [] → read_from means most values (lines_left text 1 0) ≡ read_all means most text
fold_begin {A} means most text values none =
    ap (λ (l : List A). read_from means most l (lines_left text 1 0)) none ∙ ap (read_from means most []) (lines_left-begin text)

-- the answer of a line that ends the reading is that of the whole reading
pub fold_ended : {A : Type 0} (means : List A → List (List ℕ) → Result A Cause) (most : ℕ) (text : List ℕ) (number at end : ℕ) (spans : List Span) (words : List (List ℕ)) (values after : List A) (whole : Result (List A) Fault) (read : Result (Unit {0}) ScriptFault) (fault : ScriptFault) (result : Result (Vec A Global) ScriptFault)
    → end ≡ at + position_or_len is_line_feed (drop at text)
    → map (piece_at text) spans ≡ placed_words_of (record { at = at; bytes = take (end - at) (drop at text) })
    → false ≡ is_skipped (map (word_at text) spans)
    → words ≡ map (word_at text) spans
    → ReadsOne means most number words values after read
    → read ≡ Err fault → result ≡ Err fault
    → read_from means most values (lines_left text number at) ≡ whole
    → Gives whole result
fold_ended {A} means most text number at end spans words values after whole read Memory result ends here plain same reads refused handed so_far =
    rw handed tt
fold_ended {A} means most text number at end spans words values after whole read (At line cause) result ends here plain same reads refused handed so_far =
    let parts : ReadsOne means most number words values after (Err (At line cause)) = rw refused at reads in
    rw (handed, parts.0) (fold_refused means most text number at end spans values cause whole ends here plain (rw (← same) parts.1) so_far)
