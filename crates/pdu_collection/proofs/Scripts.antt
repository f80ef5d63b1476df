-- What is read as the lines of a script is a head and entries after it, or nothing.
use Rattle.std.proofs.Common.{◌≡◌, ℕ, Bool, true, false, cond, List, [], ◌∷◌, ◌++◌, length, map, refl, sym, ap, ◌∙◌, subst, inl, inr}
use Rattle.std.specs.Prelude.{Result, Ok, Err, nat_le}
use Rattle.std.proofs.lemmas.List.{map-append}
use Rattle.text_lines.specs.declared.fault.Cause.{Cause}
use Rattle.text_lines.specs.declared.fault.Cause.TheVariants.{TooMany}
use Rattle.text_lines.specs.Lines.{TextLine, lines_of}
use Rattle.text_lines.specs.Readings.{◌>>=◌, at_line, limited, read_from, most_lines}
use Rattle.pdu_collection.specs.declared.pair_lines.PairLine.{PairLine}
use Rattle.pdu_collection.specs.declared.pair_lines.PairLine.TheVariants as line
use Rattle.pdu_collection.specs.PairLines.{head_of, pair_entry_of, pair_line_of, pairs_of}
use Rattle.pdu_collection.specs.Receiving.{IsPairScript}

bind_ok : {A B E : Type 0} (r : Result A E) (f : A → Result B E) (y : B) → (r >>= f) ≡ Ok y → (x : A) × (r ≡ Ok x) × (f x ≡ Ok y)
bind_ok (Ok x) f y e = (x, refl, e)
bind_ok (Err e') f y e = cc

ok_same : {A E : Type 0} (x y : A) → ◌≡◌ {A = Result A E} (Ok x) (Ok y) → x ≡ y
ok_same x y e = cc

-- one more line of a script
script_more : (values : List PairLine) (words : List (List ℕ)) (value : PairLine) → IsPairScript values → pair_line_of values words ≡ Ok value
    → IsPairScript (values ++ value ∷ [])
script_more [] words value script e =
    let (head, head_is, is) = bind_ok (head_of words) (λ h. Ok (line.Head h)) value e in
    inr (head, [], ap (λ v. v ∷ []) (sym (ok_same (line.Head head) value is)))
script_more (first ∷ rest) words value (inl none) e = cc
script_more (first ∷ rest) words value (inr (head, entries, is_script)) e =
    let (entry, entry_is, is) = bind_ok (pair_entry_of words) (λ x. Ok (line.Entry x)) value e in
    inr (
      head,
      entries ++ entry ∷ [],
      ap (λ ls. ls ++ value ∷ []) is_script ∙ ap (λ v. (line.Head head ∷ map line.Entry entries) ++ v ∷ []) (sym (ok_same (line.Entry entry) value is))
          ∙ ap (λ ls. line.Head head ∷ ls) (sym (map-append line.Entry entries (entry ∷ []))),
    )

-- a line that gives a value is one of those that are read
limited_ok : {A : Type 0} (b : Bool) (number : ℕ) (meaning : Result A Cause) (x : A)
    → at_line number (cond b (Err TooMany) meaning) ≡ Ok x → meaning ≡ Ok x
limited_ok true number meaning x e = cc
limited_ok false number (Ok y) x e = ap (λ z. Ok z) (ok_same y x e)
limited_ok false number (Err cause) x e = cc

script_from : (lines : List TextLine) (values result : List PairLine) → IsPairScript values
    → read_from pair_line_of most_lines values lines ≡ Ok result → IsPairScript result
unfolding read_from
script_from [] values result script e = subst IsPairScript (ok_same values result e) script
script_from (l ∷ lines) values result script e =
    let (value, value_is, rest) = bind_ok (at_line l.number (limited most_lines (length values) (pair_line_of values l.words)))
    (λ v. read_from pair_line_of most_lines (values ++ v ∷ []) lines) result e in
    script_from lines (values ++ value ∷ []) result (script_more values l.words value script (limited_ok (nat_le most_lines (length values)) l.number (pair_line_of values l.words) value value_is)) rest

pub pairs_are_a_script : (text : List ℕ) (result : List PairLine) → pairs_of text ≡ Ok result → IsPairScript result
unfolding pairs_of
pairs_are_a_script text result e = script_from (lines_of text) [] result (inl refl) e
