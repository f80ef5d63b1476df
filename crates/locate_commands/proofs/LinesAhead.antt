-- The lines of a text from a place on: the first, and those behind it
use Rattle.std.proofs.Common.{◌≡◌, ℕ, zero, suc, ◌+◌, ◌<◌, ◌≤◌, ◌==◌, ◌&&◌, Bool, true, false, List, [], ◌∷◌, ◌++◌, length, take, drop, refl, sym, ◌∙◌, ap, arith, append-nil, append_assoc, inl, inr, take_all}
use Rattle.std.specs.Prelude.{◌||◌, not, is_some, filter_map, Option, None, Some}
use Rattle.std.specs.List.{position_or_len}
use Rattle.std.proofs.lemmas.Bool.{cases_lt}
use Rattle.std.proofs.Math.Seq.{drop-nil}
use Rattle.std.proofs.lemmas.Bool.Decides.{nat_tests}
use Rattle.std.proofs.lemmas.List.{take-append-drop, drop_all, length-take}
use Rattle.std.proofs.lemmas.List.Splits.{length-slice_split}
use Rattle.std.proofs.lemmas.List.Elements.{filter_map-append}
use Rattle.text_lines.specs.Lines.{is_line_feed, words_of, is_skipped}
use Rattle.text_lines.specs.Texts.{line}
use Rattle.line_stream.specs.Pieces.{log_lines}
use Rattle.line_stream.proofs.CallerLemmas.{one_line, cut_more, no_feed-front, through_feed}
use Rattle.can_logs.specs.declared.map_lines.MapLine.{MapLine}
use Rattle.can_logs.specs.Frames.{log_frame_of}
use Rattle.locate_commands.specs.Locating.{heard_in, as_list, asks_fresh, with_fresh, filled_line, filled_from, is_settled, are_settled}

none_heard : (heard : List ℕ → Option (List ℕ)) → heard [] ≡ None → filter_map heard ([] ∷ []) ≡ []
none_heard heard is = rw is refl

module _ (bytes : List ℕ) (n : ℕ) (is : n ≡ position_or_len is_line_feed bytes) where
  -- a line that a line feed ends, and the lines behind it
  cut_first : n < length bytes → log_lines bytes ≡ take n bytes ∷ log_lines (drop (n + 1) bytes)
  cut_first within =
      let front : List ℕ = take n bytes in
      let rest : List ℕ = drop (n + 1) bytes in
      let whole : bytes ≡ front ++ 10 ∷ rest =
      sym (take-append-drop (n + 1) bytes) ∙ ap (λ (t : List ℕ). t ++ rest) (through_feed bytes n is within) ∙ append_assoc front (10 ∷ []) rest in
      ap log_lines whole
      ∙ cut_more front (10 ∷ rest) [] front [] (log_lines rest) (one_line front (no_feed-front bytes n is (omega (arith, within)))) refl
      ∙ ap (λ (t : List ℕ). t ∷ log_lines rest) (append-nil front)

  -- a line that none ends, and nothing behind it
  cut_last : n ≡ length bytes → log_lines bytes ≡ take n bytes ∷ []
  cut_last all = one_line bytes (sym is ∙ all) ∙ ap (λ (t : List ℕ). t ∷ []) (sym (take_all n bytes (omega (arith, all))))

  nothing_behind : n ≡ length bytes → drop (n + 1) bytes ≡ []
  nothing_behind all = drop_all (n + 1) bytes (omega (arith, all))

  -- what is heard in them
  pub heard_ahead : (heard : List ℕ → Option (List ℕ)) → heard [] ≡ None → n ≤ length bytes
      → filter_map heard (log_lines bytes) ≡ filter_map heard (take n bytes ∷ []) ++ filter_map heard (log_lines (drop (n + 1) bytes))
  heard_ahead heard none within = elim (cases_lt n (length bytes)) [
    | inl less ↦
        ap (filter_map heard) (cut_first less)
        ∙ filter_map-append heard (take n bytes ∷ []) (log_lines (drop (n + 1) bytes))
    | inr more ↦
        let all : n ≡ length bytes = omega (arith, more, within) in
        ap (filter_map heard) (cut_last all)
        ∙ sym (append-nil (filter_map heard (take n bytes ∷ [])))
        ∙ ap (λ (t : List (List ℕ)). filter_map heard (take n bytes ∷ []) ++ t)
        (sym (none_heard heard none) ∙ ap (λ (t : List ℕ). filter_map heard (log_lines t)) (sym (nothing_behind all)))
  ]

-- ---- the text that is filled in

more_lines : (value : ℕ → Option ℕ) (number : ℕ) (l : List ℕ) (lines : List (List ℕ)) → 0 < length lines
    → filled_from value number (l ∷ lines) ≡ line (filled_line (value number) l) ++ filled_from value (number + 1) lines
unfolding filled_from
more_lines value number l [] some = absurd (omega (arith, some))
more_lines value number l (next ∷ rest) some = refl

last_line : (value : ℕ → Option ℕ) (number : ℕ) (l : List ℕ) → (length l == 0) ≡ false
    → filled_from value number (l ∷ []) ≡ line (filled_line (value number) l) ++ []
unfolding filled_from
last_line value number l some = rw some (sym (append-nil (line (filled_line (value number) l))))

none_left : (value : ℕ → Option ℕ) (number : ℕ) (bytes : List ℕ) → bytes ≡ [] → filled_from value number (log_lines bytes) ≡ []
unfolding filled_from
none_left value number bytes is = ap (λ (t : List ℕ). filled_from value number (log_lines t)) is

some_lines : (bytes : List ℕ) → 0 < length (log_lines bytes)
some_lines bytes = omega (arith, length-slice_split is_line_feed bytes)

some_bytes : (n : ℕ) (l : List ℕ) → length l ≡ n → 0 < n → (length l == 0) ≡ false
some_bytes n l is some = grind (arith, nat_tests, is, some)

module _ (value : ℕ → Option ℕ) (number : ℕ) (bytes : List ℕ) (n : ℕ) (is : n ≡ position_or_len is_line_feed bytes) (within : n ≤ length bytes) where
  pub filled_ahead : 0 < length bytes
      → filled_from value number (log_lines bytes) ≡ line (filled_line (value number) (take n bytes)) ++ filled_from value (number + 1) (log_lines (drop (n + 1) bytes))
  filled_ahead some = elim (cases_lt n (length bytes)) [
    | inl less ↦
        ap (filled_from value number) (cut_first bytes n is less)
        ∙ more_lines value number (take n bytes) (log_lines (drop (n + 1) bytes)) (some_lines (drop (n + 1) bytes))
    | inr more ↦
        let all : n ≡ length bytes = omega (arith, more, within) in
        let front : List ℕ = line (filled_line (value number) (take n bytes)) in
        ap (filled_from value number) (cut_last bytes n is all)
        ∙ last_line value number (take n bytes) (some_bytes n (take n bytes) (length-take n bytes ∙ omega (arith, all)) (omega (arith, all, some)))
        ∙ ap (λ (t : List ℕ). front ++ t) (sym (none_left value (number + 1) (drop (n + 1) bytes) (nothing_behind bytes n is all)))
  ]

  pub settled_ahead :
      are_settled value number (log_lines bytes) ≡ (is_settled value number (take n bytes) && are_settled value (number + 1) (log_lines (drop (n + 1) bytes)))
  unfolding are_settled words_of is_skipped
  settled_ahead = elim (cases_lt n (length bytes)) [
    | inl less ↦ ap (are_settled value number) (cut_first bytes n is less)
    | inr more ↦
        let all : n ≡ length bytes = omega (arith, more, within) in
        ap (are_settled value number) (cut_last bytes n is all)
        ∙ ap (λ (t : List ℕ). is_settled value number (take n bytes) && are_settled value (number + 1) (log_lines t)) (sym (nothing_behind bytes n is all))
  ]

-- ---- one line

-- a line that doesn't ask
pub not_asking : (o : Option ℕ) (bytes : List ℕ) → asks_fresh (words_of bytes) ≡ false → filled_line o bytes ≡ bytes
unfolding words_of is_skipped
not_asking None bytes is = refl
not_asking (Some counter) bytes is = rw is refl

-- one that does
pub asking : (counter : ℕ) (bytes : List ℕ) → asks_fresh (words_of bytes) ≡ true → filled_line (Some counter) bytes ≡ with_fresh counter bytes
unfolding words_of is_skipped
asking counter bytes is = rw is refl

settled_by : (asks : Bool) (o : Option ℕ) → asks ≡ false → (not asks || is_some o) ≡ true
settled_by asks o is = rw is refl

settled_if : (asks : Bool) (o : Option ℕ) (b : Bool) → asks ≡ true → is_some o ≡ b → (not asks || is_some o) ≡ b
settled_if asks o b is some = rw is some

pub settled_not_asking : (value : ℕ → Option ℕ) (number : ℕ) (bytes : List ℕ) → asks_fresh (words_of bytes) ≡ false → is_settled value number bytes ≡ true
settled_not_asking value number bytes is = settled_by (asks_fresh (words_of bytes)) (value number) is

pub settled_asking : (value : ℕ → Option ℕ) (number : ℕ) (bytes : List ℕ) (o : Option ℕ) → asks_fresh (words_of bytes) ≡ true → value number ≡ o
    → is_settled value number bytes ≡ is_some o
settled_asking value number bytes o is same = settled_if (asks_fresh (words_of bytes)) (value number) (is_some o) is (ap is_some same)

-- nothing more stands behind the end of a text
pub filled_end : (value : ℕ → Option ℕ) (number at : ℕ) (text : List ℕ) → length text ≤ at → filled_from value number (log_lines (drop at text)) ≡ []
filled_end value number at text all = none_left value number (drop at text) (drop_all at text all)

settled_left : (value : ℕ → Option ℕ) (number : ℕ) (bytes : List ℕ) → bytes ≡ [] → are_settled value number (log_lines bytes) ≡ true
unfolding are_settled words_of is_skipped
settled_left value number bytes is = ap (λ (t : List ℕ). are_settled value number (log_lines t)) is

pub settled_end : (value : ℕ → Option ℕ) (number at : ℕ) (text : List ℕ) → length text ≤ at → are_settled value number (log_lines (drop at text)) ≡ true
settled_end value number at text all = settled_left value number (drop at text) (drop_all at text all)

pub heard_end : (heard : List ℕ → Option (List ℕ)) → heard [] ≡ None → (at : ℕ) (text : List ℕ) → length text ≤ at → filter_map heard (log_lines (drop at text)) ≡ []
heard_end heard none at text all = ap (λ (t : List ℕ). filter_map heard (log_lines t)) (drop_all at text all) ∙ none_heard heard none

-- an empty line has no frame
pub empty_heard : (mapping : List MapLine) (place : ℕ) → heard_in mapping place [] ≡ None
unfolding words_of log_frame_of
empty_heard mapping place = refl

-- the frame of one line
one_by : (heard : List ℕ → Option (List ℕ)) (l : List ℕ) (o : Option (List ℕ)) → heard l ≡ o → filter_map heard (l ∷ []) ≡ as_list o
one_by heard l None is = rw is refl
one_by heard l (Some bytes) is = rw is refl

pub one_heard : (heard : List ℕ → Option (List ℕ)) (l : List ℕ) → filter_map heard (l ∷ []) ≡ as_list (heard l)
one_heard heard l = one_by heard l (heard l) refl

pub few_heard : (o : Option (List ℕ)) → length (as_list o) ≤ 1
few_heard None = omega arith
few_heard (Some bytes) = omega arith

-- what stands so far behind a place
pub drop_on : (at n : ℕ) (text : List ℕ) → drop n (drop at text) ≡ drop (at + n) text
drop_on zero n text = ap (λ (k : ℕ). drop k text) (let e : n ≡ 0 + n = omega arith in e)
drop_on (suc at) n [] = drop-nil n ∙ sym (drop-nil (suc at + n))
drop_on (suc at) n (x ∷ text) = drop_on at n text ∙ ap (λ (k : ℕ). drop k (x ∷ text)) (let e : suc (at + n) ≡ suc at + n = omega arith in e)

pub and_once : (a b c : Bool) → (a && (b && c)) ≡ ((a && b) && c)
and_once true b c = refl
and_once false b c = refl

pub and_all : (a : Bool) → (a && true) ≡ a
and_all true = refl
and_all false = refl

pub and_none : (a : Bool) → (a && false) ≡ false
and_none true = refl
and_none false = refl
