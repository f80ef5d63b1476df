-- Lines that are written with single spaces: they are read again as they were.
use Rattle.std.proofs.Common.{◌≡◌, ℕ, ◌+◌, ◌-◌, Bool, true, false, cond, List, [], ◌∷◌, ◌++◌, length, map, refl, ◌∙◌, ap, append_assoc, arith}
use Rattle.std.specs.Prelude.{◌==◌, not, nat_lt, slice_index, filter}
use Rattle.std.specs.List.{slice_split, join_with_byte, flat_map, list_all, All}
use Rattle.std.proofs.lemmas.Bool.{and_parts}
use Rattle.std.proofs.lemmas.List.Elements.{All-nil, All-cons, All-append}
use Rattle.std.proofs.lemmas.List.Splits.{slice_split_at, slice_split_none}
use Rattle.text_lines.specs.Lines.{TextLine, is_line_feed, is_blank, without_return, is_word, words_of, is_skipped, kept, numbered, lines_of}
use Rattle.text_lines.specs.Written.{written, is_word_byte, is_plain_word, is_writable}

-- what a test shows of each element
All-list_all : {X : Type 0} (p : X → Bool) (P : X → Type 0) → ((x : X) → p x ≡ true → P x) → (xs : List X) → list_all p xs ≡ true → All P xs
All-list_all p P f [] h = All-nil P
All-list_all p P f (x ∷ xs) h =
    let parts = and_parts (p x) (list_all p xs) h in
    All-cons P x xs (f x parts.0) (All-list_all p P f xs parts.1)

-- a plain byte is none of the bytes that separate
plain_parts : (c : ℕ) → is_word_byte c ≡ true → (is_line_feed c ≡ false) × (is_blank c ≡ false) × ((c == 13) ≡ false)
plain_parts c h = (grind arith, grind arith, grind arith)

-- what holds of plain bytes and of a space holds of a line's words
All-join : (P : ℕ → Type 0) → ((c : ℕ) → is_word_byte c ≡ true → P c) → P 32 → (words : List (List ℕ)) → list_all is_plain_word words ≡ true → All P (join_with_byte 32 words)
All-join P f space [] h = All-nil P
All-join P f space (word ∷ []) h =
    let parts = and_parts (is_plain_word word) true h in
    All-list_all is_word_byte P f word (and_parts (nat_lt 0 (length word)) (list_all is_word_byte word) parts.0).1
All-join P f space (word ∷ next ∷ words) h =
    let parts = and_parts (is_plain_word word) (list_all is_plain_word (next ∷ words)) h in
    let front = All-list_all is_word_byte P f word (and_parts (nat_lt 0 (length word)) (list_all is_word_byte word) parts.0).1 in
    All-append P word (32 ∷ join_with_byte 32 (next ∷ words)) front
    (All-cons P 32 (join_with_byte 32 (next ∷ words)) space (All-join P f space (next ∷ words) parts.1))

-- the words of a line, cut at its blanks
slice_split-join : (word : List ℕ) (words : List (List ℕ)) → list_all is_plain_word (word ∷ words) ≡ true → slice_split is_blank (join_with_byte 32 (word ∷ words)) ≡ word ∷ words
slice_split-join word [] h =
    let parts = and_parts (is_plain_word word) true h in
    let plain = and_parts (nat_lt 0 (length word)) (list_all is_word_byte word) parts.0 in
    slice_split_none is_blank word (All-list_all is_word_byte (λ c. is_blank c ≡ false) (λ c p. (plain_parts c p).1) word plain.1)
slice_split-join word (next ∷ words) h =
    let parts = and_parts (is_plain_word word) (list_all is_plain_word (next ∷ words)) h in
    let plain = and_parts (nat_lt 0 (length word)) (list_all is_word_byte word) parts.0 in
    slice_split_at is_blank word 32 (join_with_byte 32 (next ∷ words)) (All-list_all is_word_byte (λ c. is_blank c ≡ false) (λ c p. (plain_parts c p).1) word plain.1) refl
    ∙ ap (λ (l : List (List ℕ)). word ∷ l) (slice_split-join next words parts.1)

-- a line without a carriage return stays as it is
without_return-plain : (line : List ℕ) → All (λ c. (c == 13) ≡ false) line → without_return line ≡ line
without_return-plain [] h = refl
without_return-plain (c ∷ line) h = let last = h (length (c ∷ line) - 1) 0 (omega arith) in rw last refl

-- words that aren't empty are all kept
filter-words : (words : List (List ℕ)) → list_all is_plain_word words ≡ true → filter is_word words ≡ words
filter-words [] h = refl
filter-words (word ∷ words) h =
    let parts = and_parts (is_plain_word word) (list_all is_plain_word words) h in
    let some = and_parts (nat_lt 0 (length word)) (list_all is_word_byte word) parts.0 in
    rw some.0 (ap (λ (l : List (List ℕ)). word ∷ l) (filter-words words parts.1))

-- the words of a written line
words_of-written : (word : List ℕ) (words : List (List ℕ)) → list_all is_plain_word (word ∷ words) ≡ true
    → words_of (join_with_byte 32 (word ∷ words)) ≡ word ∷ words
unfolding words_of
words_of-written word words h =
    ap (λ (line : List ℕ). filter is_word (slice_split is_blank line))
    (without_return-plain (join_with_byte 32 (word ∷ words)) (All-join (λ c. (c == 13) ≡ false) (λ c p. (plain_parts c p).2) refl (word ∷ words) h))
    ∙ ap (filter is_word) (slice_split-join word words h)
    ∙ filter-words (word ∷ words) h

-- a written line is not skipped
is_skipped-written : (word : List ℕ) (words : List (List ℕ)) → not (slice_index word 0 == 35) ≡ true → is_skipped (word ∷ words) ≡ false
unfolding is_skipped
is_skipped-written word words h = grind arith

-- a line that isn't skipped is kept
kept-unskipped : (line : TextLine) → is_skipped line.words ≡ false → kept line ≡ line ∷ []
unfolding kept
kept-unskipped line h = ap (λ (b : Bool). cond b [] (line ∷ [])) h

-- a written line, and what is after it
numbered-written : (number : ℕ) (words : List (List ℕ)) (rest : List ℕ) → is_writable words ≡ true
    → numbered number (slice_split is_line_feed (written words ++ rest))
    ≡ record { number = number; words = words } ∷ numbered (number + 1) (slice_split is_line_feed rest)
unfolding numbered
numbered-written number [] rest h = cc h
numbered-written number (word ∷ words) rest h =
    let parts = and_parts (not (slice_index word 0 == 35)) (list_all is_plain_word (word ∷ words)) h in
    let line : List ℕ = join_with_byte 32 (word ∷ words) in
    let behind : List TextLine = numbered (number + 1) (slice_split is_line_feed rest) in
    let whole : All (λ (c : ℕ). is_line_feed c ≡ false) line = All-join (λ c. is_line_feed c ≡ false) (λ c p. (plain_parts c p).0) refl (word ∷ words) parts.1 in
    ap (λ (l : List ℕ). numbered number (slice_split is_line_feed l)) (append_assoc line (10 ∷ []) rest)
    ∙ ap (numbered number) (slice_split_at is_line_feed line 10 rest whole refl)
    ∙ ap (λ (l : List (List ℕ)). kept (record { number = number; words = l }) ++ behind) (words_of-written word words parts.1)
    ∙ ap (λ (l : List TextLine). l ++ behind) (kept-unskipped (record { number = number; words = word ∷ words }) (is_skipped-written word words parts.0))

-- the words of lines that are written
words-numbered : (number : ℕ) (lines : List (List (List ℕ))) → list_all is_writable lines ≡ true
    → map (λ line. line.words) (numbered number (slice_split is_line_feed (flat_map written lines))) ≡ lines
unfolding numbered kept is_skipped words_of
words-numbered number [] h = refl
words-numbered number (words ∷ lines) h =
    let parts = and_parts (is_writable words) (list_all is_writable lines) h in
    ap (map (λ (line : TextLine). line.words)) (numbered-written number words (flat_map written lines) parts.0)
    ∙ ap (λ (l : List (List (List ℕ))). words ∷ l) (words-numbered (number + 1) lines parts.1)

pub words-written : (lines : List (List (List ℕ))) → list_all is_writable lines ≡ true → map (λ line. line.words) (lines_of (flat_map written lines)) ≡ lines
unfolding lines_of
words-written lines h = words-numbered 1 lines h
