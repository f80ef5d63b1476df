-- The first place of a text, from another on, whose byte passes a test; and the word that ends there.
use Rattle.std.proofs.Common.{◌≡◌, ◌⊎◌, ℕ, ◌+◌, ◌-◌, ◌<◌, ◌≤◌, Bool, true, false, ◌||◌, cond, List, [], ◌∷◌, ◌++◌, length, slice_index, take, drop, map, Option, Some, None, unwrap_or, refl, sym, ◌∙◌, ap, inl, inr, arith}
use Rattle.std.specs.Prelude.{◌==◌}
use Rattle.std.specs.Iterator.{YieldsFirst}
use Rattle.std.specs.List.{position_or_len}
use Rattle.std.proofs.lemmas.Bool.{cases_lt, false≢true, eqb-true}
use Rattle.std.proofs.lemmas.List.{get_or-drop, get_or-take, length-take, length-drop}
use Rattle.std.proofs.lemmas.List.Elements.{All-push}
use Rattle.std.proofs.lemmas.List.Sums.{position_or_len_is, fails_before_first, passes_at_first}
use Rattle.memchr.specs.Find.{places, places_between}
use Rattle.memchr.proofs.lemmas.PlaceLemmas.{places_between-first, places_between-none}
use Rattle.text_lines.specs.declared.span.Span.{Span}
use Rattle.text_lines.specs.Lines.{is_blank, is_line_feed, ends_word, last_byte, without_return}
use Rattle.text_lines.specs.Places.{Piece}
use Rattle.text_lines.specs.Spans.{piece_at, EndWithin}
use Rattle.text_lines.proofs.Pieces.{position_or_len_within}
use Rattle.text_lines.proofs.Cuts.{words_between, words_step-word, words_step-blank, words_done}

-- the first of the places that pass is the first such place, or the length
first_of_places : (p : ℕ → Bool) (s : List ℕ) → (position_or_len p s < length s) → (rest : List ℕ) × (places p s ≡ position_or_len p s ∷ rest)
first_of_places p s lt = (
  places_between p s (position_or_len p s + 1) (length s),
  places_between-first p s 0 (length s) (position_or_len p s)
      (record { low = omega arith; high = lt; before = λ k low high passes. false≢true (sym (fails_before_first p s k 0 high) ∙ passes) })
      (passes_at_first p s 0 lt),
)

-- no place passes
no_places : (p : ℕ → Bool) (s : List ℕ) → length s ≤ position_or_len p s → places p s ≡ []
no_places p s ge = places_between-none p s 0 (length s) (omega arith) (λ k low high passes. false≢true (sym (fails_before_first p s k 0 (omega arith)) ∙ passes))

head_is : (x y : ℕ) (xs ys : List ℕ) → x ∷ xs ≡ y ∷ ys → x ≡ y
head_is x y xs ys e = ap (λ l. slice_index l 0) e

-- what an iterator over the places gives first, or the length, is the first place that passes, or the length
pub first_item_or_length : (p : ℕ → Bool) (s : List ℕ) (r : Option ℕ) (left : List ℕ) → YieldsFirst (λ (l : List ℕ). l) (places p s) r left → unwrap_or r (length s) ≡ position_or_len p s
first_item_or_length p s None left h = elim (cases_lt (position_or_len p s) (length s)) [
  | inl lt ↦
      let found = first_of_places p s lt in
      let empty : 0 ≡ length (position_or_len p s ∷ found.0) = ap length (sym h.0 ∙ found.1) in
      absurd (omega arith)
  | inr ge ↦ let bound = position_or_len_within p s in omega arith
]
first_item_or_length p s (Some k) left h = elim (cases_lt (position_or_len p s) (length s)) [
  | inl lt ↦
      let found = first_of_places p s lt in
      head_is k (position_or_len p s) left found.0 (sym h ∙ found.1)
  | inr ge ↦
      let empty : length (k ∷ left) ≡ 0 = ap length (sym h ∙ no_places p s ge) in
      absurd (omega arith)
]

-- the first place from `at` on whose byte passes, or the end of the text
pub record FirstFrom (p : ℕ → Bool) (text : List ℕ) (at stop : ℕ) : Type 0 where
  pub behind : at ≤ stop
  pub inside : stop ≤ length text
  pub fails : (k : ℕ) → at ≤ k → k < stop → p (slice_index text k) ≡ false
  pub passes : stop < length text → p (slice_index text stop) ≡ true

-- the end of the line that begins at a place
abbrev pub line_end_of : List ℕ → ℕ → ℕ
line_end_of text start = start + position_or_len is_line_feed (drop start text)

-- the end of its content
abbrev pub content_of : List ℕ → ℕ → ℕ
content_of text start = start + length (without_return (take (line_end_of text start - start) (drop start text)))

-- it is where the rest of the text has its first such byte
pub first_from : (p : ℕ → Bool) (text : List ℕ) (at stop : ℕ) → at ≤ length text → stop ≡ at + position_or_len p (drop at text) → FirstFrom p text at stop
first_from p text at stop le e =
    let s : List ℕ = drop at text in
    let bound : position_or_len p s ≤ length s = position_or_len_within p s in
    let long : length s ≡ length text - at = length-drop at text in
    let passed : stop < length text → p (slice_index text stop) ≡ true = λ lt.
    ap (λ k. p (slice_index text k)) e ∙ ap p (sym (get_or-drop at text (position_or_len p s) 0)) ∙ passes_at_first p s 0 (omega arith) in
    record {
      behind = omega arith;
      inside = omega arith;
      fails = λ k low high.
          let place : k ≡ at + (k - at) = omega arith in
          ap (λ m. p (slice_index text m)) place ∙ ap p (sym (get_or-drop at text (k - at) 0)) ∙ fails_before_first p s (k - at) 0 (omega arith);
      passes = passed;
    }

-- and the other way round
pub first_from-is : (p : ℕ → Bool) (text : List ℕ) (at stop : ℕ) → FirstFrom p text at stop → stop ≡ at + position_or_len p (drop at text)
first_from-is p text at stop f =
    let behind = f.behind in
    let inside = f.inside in
    let long : length (drop at text) ≡ length text - at = length-drop at text in
    let place : at + (stop - at) ≡ stop = omega arith in
    let here : position_or_len p (drop at text) ≡ stop - at =
    position_or_len_is p (drop at text) (stop - at) 0 (omega arith)
    (λ k lt. ap p (get_or-drop at text k 0) ∙ f.fails (at + k) (omega arith) (omega arith))
    (λ lt. ap p (get_or-drop at text (stop - at) 0) ∙ ap (λ k. p (slice_index text k)) place ∙ f.passes (omega arith)) in
    omega arith

-- no byte passes from one place up to another
abbrev pub NoneFrom : (ℕ → Bool) → List ℕ → ℕ → ℕ → Type 0
NoneFrom p text start at = (k : ℕ) → start ≤ k → k < at → p (slice_index text k) ≡ false

-- none passes before the first that passes of the next bytes
none_before : (p : ℕ → Bool) (text : List ℕ) (start at end stop : ℕ) → NoneFrom p text start at → at ≤ end → end ≤ length text
    → stop ≡ at + position_or_len p (take (end - at) (drop at text)) → NoneFrom p text start stop
none_before p text start at end stop before le inside e k low high =
    let line : List ℕ = take (end - at) (drop at text) in
    let long : length line ≡ end - at = omega (arith, length-take (end - at) (drop at text), length-drop at text) in
    let bound : position_or_len p line ≤ length line = position_or_len_within p line in
    elim (cases_lt k at) [
      | inl lt ↦ before k low lt
      | inr ge ↦
          let place : k ≡ at + (k - at) = omega arith in
          ap (λ m. p (slice_index text m)) place ∙ ap p (sym (get_or-drop at text (k - at) 0)) ∙ ap p (sym (get_or-take (end - at) (drop at text) (k - at) 0 (omega arith)))
          ∙ fails_before_first p line (k - at) 0 (omega arith)
    ]

-- if one of the next bytes passes, it is the first
pub stop_is_near : (p : ℕ → Bool) (text : List ℕ) (start at end stop : ℕ) → NoneFrom p text start at → start ≤ at → at ≤ end → end ≤ length text
    → stop ≡ at + position_or_len p (take (end - at) (drop at text)) → stop < end → stop ≡ start + position_or_len p (drop start text)
stop_is_near p text start at end stop before first le inside e lt =
    let line : List ℕ = take (end - at) (drop at text) in
    let n : ℕ = position_or_len p line in
    let long : length line ≡ end - at = omega (arith, length-take (end - at) (drop at text), length-drop at text) in
    let passes : p (slice_index text stop) ≡ true =
    ap (λ m. p (slice_index text m)) e ∙ ap p (sym (get_or-drop at text n 0)) ∙ ap p (sym (get_or-take (end - at) (drop at text) n 0 (omega arith)))
    ∙ passes_at_first p line 0 (omega arith) in
    first_from-is p text start stop (record {
      behind = omega arith;
      inside = omega arith;
      fails = none_before p text start at end stop before le inside e;
      passes = λ _. passes;
    })

-- and if none passes, the first is after them
pub stop_is_far : (p : ℕ → Bool) (text : List ℕ) (start at end stop : ℕ) → NoneFrom p text start at → at ≤ end → end ≤ length text
    → stop ≡ at + position_or_len p (take (end - at) (drop at text)) → end ≤ stop → NoneFrom p text start end
stop_is_far p text start at end stop before le inside e ge k low high = none_before p text start at end stop before le inside e k low (omega arith)

-- none passes up to the end of the text
pub stop_is_end : (p : ℕ → Bool) (text : List ℕ) (start at : ℕ) → NoneFrom p text start at → start ≤ at → at ≤ length text → length text ≤ at
    → at ≡ start + position_or_len p (drop start text)
stop_is_end p text start at before first inside done =
    first_from-is p text start at (record { behind = first; inside = inside; fails = before; passes = λ lt. absurd (omega arith) })

-- a byte that ends no word is no line feed
no_line_feed : (c : ℕ) → ends_word c ≡ false → is_line_feed c ≡ false
no_line_feed c h = or_right (is_blank c) (is_line_feed c) h
  where
    or_right : (a b : Bool) → a || b ≡ false → b ≡ false
    or_right true b e = absurd (false≢true (sym e))
    or_right false b e = e

-- nor a blank
no_blank : (c : ℕ) → ends_word c ≡ false → is_blank c ≡ false
no_blank c h = or_left (is_blank c) (is_line_feed c) h
  where
    or_left : (a b : Bool) → a || b ≡ false → a ≡ false
    or_left true b e = absurd (false≢true (sym e))
    or_left false b e = refl

-- a byte that ends a word and no line is a blank
is_a_blank : (c : ℕ) → ends_word c ≡ true → is_line_feed c ≡ false → is_blank c ≡ true
is_a_blank c h plain = other (is_blank c) (is_line_feed c) h plain
  where
    other : (a b : Bool) → a || b ≡ true → b ≡ false → a ≡ true
    other true b e n = refl
    other false b e n = absurd (false≢true (sym n ∙ e))

-- the word that ends the line ends where the line does
pub line_ends_here : (text : List ℕ) (at stop : ℕ) → FirstFrom ends_word text at stop → (length text ≤ stop) ⊎ (is_line_feed (slice_index text stop) ≡ true) → FirstFrom is_line_feed text at stop
line_ends_here text at stop f ends = record {
  behind = f.behind;
  inside = f.inside;
  fails = λ k low high. no_line_feed (slice_index text k) (f.fails k low high);
  passes = λ lt. elim ends [
    | inl le ↦ absurd (omega arith)
    | inr here ↦ here
  ];
}

-- a line goes on after a word that doesn't end it
pub line_goes_on : (text : List ℕ) (at stop end : ℕ) → FirstFrom ends_word text at stop → FirstFrom is_line_feed text at end → stop < length text → is_line_feed (slice_index text stop) ≡ false
    → stop < end
line_goes_on text at stop end f line lt plain = elim (cases_lt stop end) [
  | inl less ↦ less
  | inr ge ↦
      let low = line.behind in
      let there : is_line_feed (slice_index text end) ≡ true = line.passes (omega arith) in
      elim (cases_lt end stop) [
        | inl before ↦ absurd (false≢true (sym (no_line_feed (slice_index text end) (f.fails end low before)) ∙ there))
        | inr same ↦
            let e : end ≡ stop = omega arith in
            absurd (false≢true (sym plain ∙ ap (λ k. is_line_feed (slice_index text k)) (sym e) ∙ there))
      ]
]

-- and ends where it did
pub line_from_next : (text : List ℕ) (at stop end : ℕ) → at ≤ stop → stop < end → FirstFrom is_line_feed text at end → FirstFrom is_line_feed text (stop + 1) end
line_from_next text at stop end le lt line = record {
  behind = omega arith;
  inside = line.inside;
  fails = λ k low high. line.fails k (omega arith) high;
  passes = line.passes;
}

-- where a word ends within the content of a line
word_is : (text : List ℕ) (at stop x content : ℕ) → FirstFrom ends_word text at stop → at ≤ x → x ≤ stop → x ≤ content → content ≤ length text
    → (x < content → is_blank (slice_index text x) ≡ true)
    → x ≡ at + position_or_len is_blank (take (content - at) (drop at text))
word_is text at stop x content f low high within inside here =
    let line : List ℕ = take (content - at) (drop at text) in
    let long : length line ≡ content - at = omega (arith, length-take (content - at) (drop at text), length-drop at text) in
    let read : (k : ℕ) → k < content - at → slice_index line k ≡ slice_index text (at + k) = λ k lt.
    get_or-take (content - at) (drop at text) k 0 lt ∙ get_or-drop at text k 0 in
    let place : at + (x - at) ≡ x = omega arith in
    let is : position_or_len is_blank line ≡ x - at =
    position_or_len_is is_blank line (x - at) 0 (omega arith)
    (λ k lt. ap is_blank (read k (omega arith)) ∙ no_blank (slice_index text (at + k)) (f.fails (at + k) (omega arith) (omega arith)))
    (λ lt. ap is_blank (read (x - at) (omega arith)) ∙ ap (λ k. is_blank (slice_index text k)) place ∙ here (omega arith)) in
    omega arith

-- the content of a line is the line, or ends at a carriage return
content_by : (text line : List ℕ) (start end content : ℕ) (b : Bool) → (last_byte line == 13) ≡ b → length line ≡ end - start → start ≤ end
    → ((k : ℕ) → k < end - start → slice_index line k ≡ slice_index text (start + k))
    → content ≡ start + length (cond b (take (length line - 1) line) line)
    → (content ≡ end) ⊎ ((content + 1 ≡ end) × (slice_index text content ≡ 13))
content_by text line start end content false is long le read e = inl (omega arith)
content_by text line start end content true is long le read e = elim (cases_lt 0 (length line)) [
  | inl some ↦
      let short : length (take (length line - 1) line) ≡ length line - 1 = omega (arith, length-take (length line - 1) line) in
      let place : start + (length line - 1) ≡ content = omega arith in
      inr (
        omega arith,
        ap (λ k. slice_index text k) (sym place) ∙ sym (read (length line - 1) (omega arith)) ∙ eqb-true (last_byte line) 13 is,
      )
  | inr none ↦
      let short : length (take (length line - 1) line) ≤ length line = omega (arith, length-take (length line - 1) line) in
      inl (omega arith)
]

content_cases : (text : List ℕ) (start end content : ℕ) → start ≤ end → end ≤ length text
    → content ≡ start + length (without_return (take (end - start) (drop start text)))
    → (content ≡ end) ⊎ ((content + 1 ≡ end) × (slice_index text content ≡ 13))
content_cases text start end content le inside e =
    let line : List ℕ = take (end - start) (drop start text) in
    let long : length line ≡ end - start = omega (arith, length-take (end - start) (drop start text), length-drop start text) in
    let read : (k : ℕ) → k < end - start → slice_index line k ≡ slice_index text (start + k) = λ k lt.
    get_or-take (end - start) (drop start text) k 0 lt ∙ get_or-drop start text k 0 in
    content_by text line start end content (last_byte line == 13) refl long le read e

-- a blank within a line stands within its content
pub blank_in_content : (text : List ℕ) (start end content stop : ℕ) → start ≤ end → end ≤ length text
    → content ≡ start + length (without_return (take (end - start) (drop start text)))
    → stop < end → is_blank (slice_index text stop) ≡ true → stop < content
blank_in_content text start end content stop le inside e lt blank = elim (content_cases text start end content le inside e) [
  | inl whole ↦ omega arith
  | inr cut ↦ elim (cases_lt stop content) [
    | inl less ↦ less
    | inr ge ↦
        let here : stop ≡ content = omega (arith, cut.0) in
        absurd (false≢true (sym (ap is_blank (ap (λ k. slice_index text k) here ∙ cut.1)) ∙ blank))
  ]
]

-- a step of the loop over the words of a line
pub word_put : (text : List ℕ) (at content stop : ℕ) (xs ys : List Span) (words : List Piece)
    → stop ≡ at + position_or_len is_blank (take (content - at) (drop at text)) → stop ≤ content
    → (at < stop → ys ≡ xs ++ record { at = at; len = stop - at } ∷ []) → (stop ≤ at → ys ≡ xs)
    → map (piece_at text) xs ++ words_between text at content ≡ words
    → map (piece_at text) ys ++ words_between text (stop + 1) content ≡ words
word_put text at content stop xs ys words e le word none so_far = elim (cases_lt at stop) [
  | inl lt ↦ words_step-word text at content stop xs ys words (word lt) e lt le so_far
  | inr ge ↦ words_step-blank text at content stop xs ys words (none ge) e ge so_far
]

-- the step at a word that doesn't end the line
pub word_within : (text : List ℕ) (start at stop end content : ℕ) (xs ys : List Span) (words : List Piece)
    → FirstFrom ends_word text at stop → FirstFrom is_line_feed text at end → stop < length text → is_line_feed (slice_index text stop) ≡ false
    → start ≤ at → content ≡ start + length (without_return (take (end - start) (drop start text)))
    → (at < stop → ys ≡ xs ++ record { at = at; len = stop - at } ∷ []) → (stop ≤ at → ys ≡ xs)
    → map (piece_at text) xs ++ words_between text at content ≡ words
    → map (piece_at text) ys ++ words_between text (stop + 1) content ≡ words
word_within text start at stop end content xs ys words f line lt plain first e word none so_far =
    let low = f.behind in
    let inside = line.inside in
    let less : stop < end = line_goes_on text at stop end f line lt plain in
    let blank : is_blank (slice_index text stop) ≡ true = is_a_blank (slice_index text stop) (f.passes lt) plain in
    let within : stop < content = blank_in_content text start end content stop (omega arith) inside e less blank in
    let most : content ≤ end = elim (content_cases text start end content (omega arith) inside e) [
      | inl whole ↦ omega arith
      | inr cut ↦ omega (arith, cut.0)
    ] in
    word_put text at content stop xs ys words (word_is text at stop stop content f low (omega arith) (omega arith) (omega arith) (λ _. blank)) (omega arith) word none so_far

-- the last word of a line
pub last_word : (text : List ℕ) (at stop content : ℕ) (xs ys : List Span) (words : List Piece)
    → FirstFrom ends_word text at stop → content ≤ stop
    → (at < content → ys ≡ xs ++ record { at = at; len = content - at } ∷ []) → (content ≤ at → ys ≡ xs)
    → map (piece_at text) xs ++ words_between text at content ≡ words
    → map (piece_at text) ys ≡ words
last_word text at stop content xs ys words f le word none so_far =
    let inside = f.inside in
    elim (cases_lt at content) [
      | inl lt ↦
          let e : content ≡ at + position_or_len is_blank (take (content - at) (drop at text)) =
          word_is text at stop content content f (omega arith) le (omega arith) (omega arith) (λ l. absurd (omega arith)) in
          words_done text (content + 1) content ys words (omega arith) (word_put text at content content xs ys words e (omega arith) word none so_far)
      | inr ge ↦ words_done text at content ys words ge (ap (λ (l : List Span). map (piece_at text) l ++ words_between text at content) (none ge) ∙ so_far)
    ]

-- a word that is put ends where it ends
pub word_ends : (most at stop : ℕ) (xs ys : List Span) → (at < stop → ys ≡ xs ++ record { at = at; len = stop - at } ∷ []) → (stop ≤ at → ys ≡ xs)
    → stop ≤ most → EndWithin most xs → EndWithin most ys
word_ends most at stop xs ys word none le ends = elim (cases_lt at stop) [
  | inl lt ↦ rw (word lt) (All-push (λ (span : Span). span.at + span.len ≤ most) _ _ ends (omega arith))
  | inr ge ↦ rw (none ge) ends
]
