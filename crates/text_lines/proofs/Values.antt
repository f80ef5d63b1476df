-- The values of a text, and its first fault.
use Rattle.std.proofs.Common.{◌≡◌, ℕ, zero, suc, ◌+◌, ◌<◌, ◌≤◌, List, [], ◌∷◌, ◌++◌, length, take, Some, Result, Ok, refl, sym, ◌∙◌, ap, arith, append_assoc, append-nil}
use Rattle.std.specs.List.{slice_get}
use Rattle.text_lines.specs.declared.fault.Cause.{Cause}
use Rattle.text_lines.specs.Lines.{TextLine}
use Rattle.text_lines.specs.Readings.{at_line, limited, read_from}
use Rattle.text_lines.proofs.Folds.{read_from-ok, limited-few, length_pushed}
use Rattle.text_lines.proofs.Results.{bind_ok, at_line_ok, limited_ok}

-- the values of lines that stand after others, whose values are `seen`
pub record Behind {A : Type 0} (means : List A → List (List ℕ) → Result A Cause) (seen : List A) (lines : List TextLine) (values : List A) : Type 0 where
  pub as_many : length values ≡ length lines
  pub each : (i : ℕ) (line : TextLine) (value : A) → slice_get lines i ≡ Some line → slice_get values i ≡ Some value
      → means (seen ++ take i values) line.words ≡ Ok value

pub Behind-nil : {A : Type 0} (means : List A → List (List ℕ) → Result A Cause) (seen : List A) → Behind means seen [] []
Behind-nil means seen = record { as_many = refl; each = λ i line value h k. cc h }

-- one line more in front
each-cons : {A : Type 0} (means : List A → List (List ℕ) → Result A Cause) (seen : List A) (line : TextLine) (lines : List TextLine) (value : A) (values : List A)
    → means seen line.words ≡ Ok value → Behind means (seen ++ value ∷ []) lines values
    → (i : ℕ) (here : TextLine) (x : A) → slice_get (line ∷ lines) i ≡ Some here → slice_get (value ∷ values) i ≡ Some x
    → means (seen ++ take i (value ∷ values)) here.words ≡ Ok x
each-cons {A} means seen line lines value values gives rest zero here x h k =
    let same : line ≡ here = cc h in
    let is : value ≡ x = cc k in
    rw (← same, ← is, append-nil seen) gives
each-cons {A} means seen line lines value values gives rest (suc i) here x h k =
    ap (λ (l : List A). means l here.words) (sym (append_assoc seen (value ∷ []) (take i values))) ∙ rest.each i here x h k

pub Behind-cons : {A : Type 0} (means : List A → List (List ℕ) → Result A Cause) (seen : List A) (line : TextLine) (lines : List TextLine) (value : A) (values : List A)
    → means seen line.words ≡ Ok value → Behind means (seen ++ value ∷ []) lines values → Behind means seen (line ∷ lines) (value ∷ values)
Behind-cons means seen line lines value values gives rest =
    record { as_many = let size = rest.as_many in omega arith; each = each-cons means seen line lines value values gives rest }

Behind-head : {A : Type 0} (means : List A → List (List ℕ) → Result A Cause) (seen : List A) (line : TextLine) (lines : List TextLine) (value : A) (values : List A)
    → Behind means seen (line ∷ lines) (value ∷ values) → means seen line.words ≡ Ok value
Behind-head {A} means seen line lines value values h =
    ap (λ (l : List A). means l line.words) (sym (append-nil seen)) ∙ h.each 0 line value refl refl

Behind-tail : {A : Type 0} (means : List A → List (List ℕ) → Result A Cause) (seen : List A) (line : TextLine) (lines : List TextLine) (value : A) (values : List A)
    → Behind means seen (line ∷ lines) (value ∷ values) → Behind means (seen ++ value ∷ []) lines values
Behind-tail {A} means seen line lines value values h = record {
  as_many = let size = h.as_many in omega arith;
  each = λ i here x at is. ap (λ (l : List A). means l here.words) (append_assoc seen (value ∷ []) (take i values)) ∙ h.each (suc i) here x at is;
}

-- values that are read are those of the lines
pub values_given : {A : Type 0} (means : List A → List (List ℕ) → Result A Cause) (most : ℕ) (seen : List A) (lines : List TextLine) (all : List A)
    → length seen ≤ most → read_from means most seen lines ≡ Ok all
    → (values : List A) × (all ≡ seen ++ values) × Behind means seen lines values × (length all ≤ most)
unfolding read_from
values_given means most seen [] all few h =
    let same : seen ≡ all = cc h in
    ([], sym same ∙ sym (append-nil seen), Behind-nil means seen, rw (← same) few)
values_given {A} means most seen (line ∷ lines) all few h =
    let first = bind_ok (at_line line.number (limited most (length seen) (means seen line.words))) _ all h in
    let value = first.0 in
    let one = limited_ok most (length seen) (means seen line.words) value (at_line_ok line.number _ value first.1) in
    let room : length (seen ++ value ∷ []) ≤ most = let size = length_pushed seen value in omega arith in
    let rest = values_given means most (seen ++ value ∷ []) lines all room first.2 in
    (value ∷ rest.0, rest.1 ∙ append_assoc seen (value ∷ []) rest.0, Behind-cons means seen line lines value rest.0 one.1 rest.2, rest.3)

-- a line of the most that are read
read_one : {A : Type 0} (means : List A → List (List ℕ) → Result A Cause) (most : ℕ) (seen : List A) (line : TextLine) (lines : List TextLine) (value : A)
    → length seen < most → means seen line.words ≡ Ok value
    → read_from means most seen (line ∷ lines) ≡ read_from means most (seen ++ value ∷ []) lines
read_one means most seen line lines value few gives =
    read_from-ok means most seen line lines value (limited-few most (length seen) (means seen line.words) few ∙ gives)

-- lines in front that give values are read
pub values_read : {A : Type 0} (means : List A → List (List ℕ) → Result A Cause) (most : ℕ) (seen : List A) (lines rest : List TextLine) (values : List A)
    → Behind means seen lines values → length seen + length values ≤ most
    → read_from means most seen (lines ++ rest) ≡ read_from means most (seen ++ values) rest
values_read {A} means most seen [] rest [] h few = ap (λ (l : List A). read_from means most l rest) (sym (append-nil seen))
values_read means most seen [] rest (value ∷ values) h few = absurd (let size = h.as_many in omega arith)
values_read means most seen (line ∷ lines) rest [] h few = absurd (let size = h.as_many in omega arith)
values_read {A} means most seen (line ∷ lines) rest (value ∷ values) h few =
    let room : length (seen ++ value ∷ []) + length values ≤ most = let size = length_pushed seen value in omega arith in
    read_one means most seen line (lines ++ rest) value (omega arith) (Behind-head means seen line lines value values h)
    ∙ values_read means most (seen ++ value ∷ []) lines rest values (Behind-tail means seen line lines value values h) room
    ∙ ap (λ (l : List A). read_from means most l rest) (append_assoc seen (value ∷ []) values)
