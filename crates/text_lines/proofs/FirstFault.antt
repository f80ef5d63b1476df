-- The first fault of a text, in both directions.
use Rattle.std.proofs.Common.{◌≡◌, ◌⊎◌, ℕ, ◌<◌, ◌≤◌, Bool, true, false, cond, List, [], ◌∷◌, ◌++◌, length, Result, Ok, Err, refl, sym, ◌∙◌, ap, subst, inl, inr, arith, append_assoc, append-nil}
use Rattle.std.specs.Prelude.{◌↔◌, nat_le}
use Rattle.text_lines.specs.declared.fault.Cause.{Cause}
use Rattle.text_lines.specs.declared.fault.Cause.TheVariants.{TooMany}
use Rattle.text_lines.specs.Lines.{TextLine}
use Rattle.text_lines.specs.Readings.{Fault, limited, read_from, AreValues, IsFirstFault}
use Rattle.text_lines.proofs.Folds.{read_from-ok, read_from-err, read_from-nil, limited-few, limited-many, length_pushed}
use Rattle.text_lines.proofs.Results.{limited_ok}
use Rattle.text_lines.proofs.Values.{Behind, Behind-nil, Behind-cons, values_given, values_read}

-- why the line after these values is refused
abbrev IsRefused : {A : Type 0} → (List A → List (List ℕ) → Result A Cause) → ℕ → List A → List (List ℕ) → Cause → Type 0
IsRefused means most values words cause =
    ((length values ≡ most) × (cause ≡ TooMany)) ⊎ ((length values < most) × (means values words ≡ Err cause))

-- the first fault of lines that stand after others, whose values are `seen`
record FaultBehind {A : Type 0} (means : List A → List (List ℕ) → Result A Cause) (most : ℕ) (seen : List A) (lines : List TextLine) (fault : Fault) : Type 0 where
  before : List TextLine
  here : TextLine
  behind : List TextLine
  values : List A
  parts : lines ≡ before ++ here ∷ behind
  given : Behind means seen before values
  number : fault.line ≡ here.number
  refused : IsRefused means most (seen ++ values) here.words fault.cause

-- a line that gives no value
refused_here : {A : Type 0} (means : List A → List (List ℕ) → Result A Cause) (most : ℕ) (seen : List A) (words : List (List ℕ)) (cause : Cause) (b : Bool)
    → nat_le most (length seen) ≡ b → length seen ≤ most → cond b (Err TooMany) (means seen words) ≡ Err cause → IsRefused means most seen words cause
refused_here means most seen words cause true e few h = inl (grind arith, cc h)
refused_here means most seen words cause false e few h = inr (grind arith, h)

refused_one : {A : Type 0} (means : List A → List (List ℕ) → Result A Cause) (most : ℕ) (seen : List A) (line : TextLine) (lines : List TextLine) (cause : Cause) (fault : Fault)
    → length seen ≤ most → limited most (length seen) (means seen line.words) ≡ Err cause → record { line = line.number; cause = cause } ≡ fault
    → FaultBehind means most seen (line ∷ lines) fault
refused_one {A} means most seen line lines cause fault few gives is = record {
  before = [];
  here = line;
  behind = lines;
  values = [];
  parts = refl;
  given = Behind-nil means seen;
  number = ap (λ (f : Fault). f.line) (sym is);
  refused = rw (append-nil seen, ← is) (refused_here means most seen line.words cause (nat_le most (length seen)) refl few gives);
}

-- one line more in front
fault-cons : {A : Type 0} (means : List A → List (List ℕ) → Result A Cause) (most : ℕ) (seen : List A) (line : TextLine) (lines : List TextLine) (value : A) (fault : Fault)
    → means seen line.words ≡ Ok value → FaultBehind means most (seen ++ value ∷ []) lines fault → FaultBehind means most seen (line ∷ lines) fault
fault-cons {A} means most seen line lines value fault gives rest = record {
  before = line ∷ rest.before;
  here = rest.here;
  behind = rest.behind;
  values = value ∷ rest.values;
  parts = ap (λ (l : List TextLine). line ∷ l) rest.parts;
  given = Behind-cons means seen line rest.before value rest.values gives rest.given;
  number = rest.number;
  refused = rw (sym (append_assoc seen (value ∷ []) rest.values)) rest.refused;
}

-- a line is read, or refused
one_line : {A : Type 0} (means : List A → List (List ℕ) → Result A Cause) (most : ℕ) (seen : List A) (line : TextLine) (lines : List TextLine) (fault : Fault) (r : Result A Cause)
    → limited most (length seen) (means seen line.words) ≡ r → length seen ≤ most → read_from means most seen (line ∷ lines) ≡ Err fault
    → ((value : A) → length (seen ++ value ∷ []) ≤ most → read_from means most (seen ++ value ∷ []) lines ≡ Err fault → FaultBehind means most (seen ++ value ∷ []) lines fault)
    → FaultBehind means most seen (line ∷ lines) fault
one_line means most seen line lines fault (Ok value) e few h next =
    let one = limited_ok most (length seen) (means seen line.words) value e in
    let room : length (seen ++ value ∷ []) ≤ most = let size = length_pushed seen value in omega arith in
    fault-cons means most seen line lines value fault one.1 (next value room (sym (read_from-ok means most seen line lines value e) ∙ h))
one_line means most seen line lines fault (Err cause) e few h next =
    let is : record { line = line.number; cause = cause } ≡ fault = cc (sym (read_from-err means most seen line lines cause e) ∙ h) in
    refused_one means most seen line lines cause fault few e is

-- a fault that is read is the first
fault_given : {A : Type 0} (means : List A → List (List ℕ) → Result A Cause) (most : ℕ) (seen : List A) (lines : List TextLine) (fault : Fault)
    → length seen ≤ most → read_from means most seen lines ≡ Err fault → FaultBehind means most seen lines fault
unfolding read_from
fault_given means most seen [] fault few h = cc h
fault_given {A} means most seen (line ∷ lines) fault few h =
    one_line means most seen line lines fault (limited most (length seen) (means seen line.words)) refl few h
    (λ value room e. fault_given means most (seen ++ value ∷ []) lines fault room e)

-- the line that is refused, as it is read
refused_limited : {A : Type 0} (means : List A → List (List ℕ) → Result A Cause) (most : ℕ) (seen : List A) (words : List (List ℕ)) (cause : Cause)
    → IsRefused means most seen words cause → limited most (length seen) (means seen words) ≡ Err cause
refused_limited means most seen words cause (inl many) = limited-many most (length seen) (means seen words) (omega arith) ∙ ap Err (sym many.1)
refused_limited means most seen words cause (inr few) = limited-few most (length seen) (means seen words) few.0 ∙ few.1

-- as many values as are read
refused_room : {A : Type 0} (means : List A → List (List ℕ) → Result A Cause) (most : ℕ) (values : List A) (words : List (List ℕ)) (cause : Cause)
    → IsRefused means most values words cause → length values ≤ most
refused_room means most values words cause (inl many) = omega arith
refused_room means most values words cause (inr few) = omega arith

-- a first fault is read
fault_read : {A : Type 0} (means : List A → List (List ℕ) → Result A Cause) (most : ℕ) (lines : List TextLine) (fault : Fault)
    → IsFirstFault means most lines fault → read_from means most [] lines ≡ Err fault
fault_read means most lines fault first =
    let given : Behind means [] first.before first.values = record { as_many = first.given.as_many; each = first.given.each } in
    let room : length first.values ≤ most = refused_room means most first.values first.here.words fault.cause first.refused in
    ap (read_from means most []) first.parts
    ∙ values_read means most [] first.before (first.here ∷ first.behind) first.values given (omega arith)
    ∙ read_from-err means most first.values first.here first.behind fault.cause (refused_limited means most first.values first.here.words fault.cause first.refused)
    ∙ ap (λ (n : ℕ). Err (record { line = n; cause = fault.cause })) (sym first.number)

-- reading gives exactly the first fault
pub read-first_fault : {A : Type 0} (means : List A → List (List ℕ) → Result A Cause) (most : ℕ) (lines : List TextLine) (fault : Fault)
    → (read_from means most [] lines ≡ Err fault) ↔ IsFirstFault means most lines fault
read-first_fault means most lines fault = (
  λ h. let first = fault_given means most [] lines fault (omega arith) h in record {
    before = first.before;
    here = first.here;
    behind = first.behind;
    values = first.values;
    parts = first.parts;
    given = record { as_many = first.given.as_many; each = first.given.each };
    number = first.number;
    refused = first.refused;
  },
  fault_read means most lines fault,
)

-- and exactly the values of the lines, if they are few enough
pub read-values : {A : Type 0} (means : List A → List (List ℕ) → Result A Cause) (most : ℕ) (lines : List TextLine) (values : List A)
    → (read_from means most [] lines ≡ Ok values) ↔ (AreValues means lines values × (length values ≤ most))
read-values {A} means most lines values = (
  λ h.
      let given = values_given means most [] lines values (omega arith) h in
      let same : given.0 ≡ values = sym given.1 in
      (let P : List A → Type 0 = AreValues means lines in subst P same (record { as_many = given.2.as_many; each = given.2.each }), given.3),
  λ h.
      let all : Behind means [] lines values = record { as_many = h.0.as_many; each = h.0.each } in
      ap (read_from means most []) (sym (append-nil lines)) ∙ values_read means most [] lines [] values all (let few = h.1 in omega arith) ∙ read_from-nil means most values,
)
