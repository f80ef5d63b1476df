-- A log that is cut into lines piece by piece
use Rattle.std.proofs.Common.{◌≡◌, ℕ, ◌+◌, ◌-◌, ◌<◌, ◌≤◌, Bool, true, false, cond, min, List, [], ◌∷◌, ◌++◌, length, get_or, take, refl, sym, ◌∙◌, ap, subst, arith, inl, inr, ⊎_elim}
use Rattle.std.specs.List.{slice_split, onto_first, position_or_len}
use Rattle.std.proofs.lemmas.Bool.{cases_lt}
use Rattle.std.proofs.lemmas.Bool.Decides.{nat_tests}
use Rattle.std.proofs.lemmas.List.{take_all, take_more, length-take, get_or-take, get_or_append_left, get_or-append_right, take-append-le, length-append}
use Rattle.std.proofs.lemmas.List.Splits.{slice_split_none, length-slice_split}
use Rattle.std.proofs.lemmas.List.Sums.{position_or_len_is, fails_before_first, passes_at_first}
use Rattle.std.proofs.Math.Seq.{take-append-add}
use Rattle.text_lines.specs.Lines.{is_line_feed}
use Rattle.line_stream.specs.Pieces.{log_lines}

-- the parts of a list and of the list after it: the last part of the one and the first of the other are one
joined : List (List ℕ) → List (List ℕ) → List (List ℕ)
joined [] bs = bs
joined (a ∷ []) [] = a ∷ []
joined (a ∷ []) (b ∷ bs) = (a ++ b) ∷ bs
joined (a ∷ a2 ∷ one) bs = a ∷ joined (a2 ∷ one) bs

joined_first : (parts : List (List ℕ)) → 0 < length parts → joined ([] ∷ []) parts ≡ parts
unfolding joined
joined_first [] some = absurd (omega (arith, some))
joined_first (part ∷ parts) some = refl

joined_step : (b : Bool) (x : ℕ) (one two : List (List ℕ)) → 0 < length one → 0 < length two
    → cond b ([] ∷ joined one two) (onto_first x (joined one two)) ≡ joined (cond b ([] ∷ one) (onto_first x one)) two
unfolding joined
joined_step b x [] two some more = absurd (omega (arith, some))
joined_step true x (a ∷ one) two some more = refl
joined_step false x (a ∷ []) [] some more = absurd (omega (arith, more))
joined_step false x (a ∷ []) (b ∷ two) some more = refl
joined_step false x (a ∷ a2 ∷ one) two some more = refl

has_part : (p : ℕ → Bool) (xs : List ℕ) → 0 < length (slice_split p xs)
has_part p xs = omega (arith, length-slice_split p xs)

split_joined : (p : ℕ → Bool) (xs ys : List ℕ) → slice_split p (xs ++ ys) ≡ joined (slice_split p xs) (slice_split p ys)
unfolding joined
split_joined p [] ys = sym (joined_first (slice_split p ys) (has_part p ys))
split_joined p (x ∷ xs) ys =
    ap (λ (parts : List (List ℕ)). cond (p x) ([] ∷ parts) (onto_first x parts)) (split_joined p xs ys)
    ∙ joined_step (p x) x (slice_split p xs) (slice_split p ys) (has_part p xs) (has_part p ys)

joined_at : (lines : List (List ℕ)) (rest first : List ℕ) (more : List (List ℕ)) → joined (lines ++ rest ∷ []) (first ∷ more) ≡ lines ++ (rest ++ first) ∷ more
unfolding joined
joined_at [] rest first more = refl
joined_at (l ∷ []) rest first more = refl
joined_at (l ∷ l2 ∷ lines) rest first more = ap (λ (parts : List (List ℕ)). l ∷ parts) (joined_at (l2 ∷ lines) rest first more)

-- the lines of a log and of more of it
pub cut_more : (bytes piece : List ℕ) (lines : List (List ℕ)) (rest first : List ℕ) (more : List (List ℕ)) → log_lines bytes ≡ lines ++ rest ∷ []
    → log_lines piece ≡ first ∷ more → log_lines (bytes ++ piece) ≡ lines ++ (rest ++ first) ∷ more
cut_more bytes piece lines rest first more cut here =
    split_joined is_line_feed bytes piece ∙ ap (λ (parts : List (List ℕ)). joined parts (log_lines piece)) cut
    ∙ ap (joined (lines ++ rest ∷ [])) here ∙ joined_at lines rest first more

-- ---- bytes without a line feed

abbrev pub HasNoFeed : List ℕ → Type 0
HasNoFeed bytes = position_or_len is_line_feed bytes ≡ length bytes

pub feed_none : (bytes : List ℕ) → HasNoFeed bytes → (k d : ℕ) → k < length bytes → is_line_feed (get_or bytes k d) ≡ false
feed_none bytes free k d within = fails_before_first is_line_feed bytes k d (omega (arith, free, within))

pub no_feed : (bytes : List ℕ) → ((k d : ℕ) → k < length bytes → is_line_feed (get_or bytes k d) ≡ false) → HasNoFeed bytes
no_feed bytes each = position_or_len_is is_line_feed bytes (length bytes) 0 (omega arith) (λ k lt. each k 0 lt) (λ lt. absurd (omega (arith, lt)))

pub one_line : (bytes : List ℕ) → HasNoFeed bytes → log_lines bytes ≡ bytes ∷ []
one_line bytes free = slice_split_none is_line_feed bytes (λ k d within. feed_none bytes free k d within)

pub no_feed-append : (one two : List ℕ) → HasNoFeed one → HasNoFeed two → HasNoFeed (one ++ two)
no_feed-append one two a b = no_feed (one ++ two) (λ k d within.
    ⊎_elim
    (λ (lt : k < length one). ap is_line_feed (get_or_append_left one two d k lt) ∙ feed_none one a k d lt)
    (λ (ge : length one ≤ k). ap is_line_feed (get_or-append_right one two (length one) k d refl ge)
    ∙ feed_none two b (k - length one) d (omega (arith, ge, within, length-append one two)))
    (cases_lt k (length one)))

pub no_feed-take : (n : ℕ) (bytes : List ℕ) → HasNoFeed bytes → HasNoFeed (take n bytes)
no_feed-take n bytes free = no_feed (take n bytes) (λ k d within.
    ap is_line_feed (get_or-take n bytes k d (omega (arith, within, length-take n bytes))) ∙ feed_none bytes free k d (omega (arith, within, length-take n bytes)))

-- what stands before the first line feed has none
pub no_feed-front : (bytes : List ℕ) (n : ℕ) → n ≡ position_or_len is_line_feed bytes → n ≤ length bytes → HasNoFeed (take n bytes)
no_feed-front bytes n is within = no_feed (take n bytes) (λ k d inside.
    ap is_line_feed (get_or-take n bytes k d (omega (arith, inside, length-take n bytes)))
    ∙ fails_before_first is_line_feed bytes k d (omega (arith, is, inside, length-take n bytes)))

-- the prefix through the first line feed, which is 10
feed_is : (byte : ℕ) → is_line_feed byte ≡ true → byte ≡ 10
feed_is byte is = grind (arith, nat_tests, is)

pub through_feed : (bytes : List ℕ) (n : ℕ) → n ≡ position_or_len is_line_feed bytes → n < length bytes → take (n + 1) bytes ≡ take n bytes ++ 10 ∷ []
through_feed bytes n is within =
    let here : is_line_feed (get_or bytes n 0) ≡ true =
    subst (λ k. is_line_feed (get_or bytes k 0) ≡ true) (sym is) (passes_at_first is_line_feed bytes 0 (omega (arith, is, within))) in
    let byte : get_or bytes n 0 ≡ 10 = feed_is (get_or bytes n 0) here in
    take_more bytes n 0 within ∙ ap (λ b. take n bytes ++ b ∷ []) byte

-- ---- a line of which a prefix is kept

pub take_twice : (n : ℕ) (one two : List ℕ) → take n (take n one ++ two) ≡ take n (one ++ two)
take_twice n one two = elim (cases_lt (length one) n) [
  | inl short ↦ ap (λ l. take n (l ++ two)) (take_all n one (omega (arith, short)))
  | inr long ↦
      let full : length (take n one) ≡ n = length-take n one ∙ omega (arith, long) in
      take-append-le n (take n one) two (omega (arith, full)) ∙ take_all n (take n one) (omega (arith, full)) ∙ sym (take-append-le n one two long)
]

same_part : (k m : ℕ) (bytes : List ℕ) → m ≡ min k (length bytes) → take m bytes ≡ take k bytes
same_part k m bytes is = elim (cases_lt k (length bytes)) [
  | inl less ↦ ap (λ n. take n bytes) (omega (arith, is, less))
  | inr more ↦ take_all m bytes (omega (arith, is, more)) ∙ sym (take_all k bytes more)
]

-- as much is added as there is room for
pub kept_front : (n m : ℕ) (line bytes : List ℕ) → length line ≤ n → m ≡ min (n - length line) (length bytes) → line ++ take m bytes ≡ take n (line ++ bytes)
kept_front n m line bytes few is =
    let all : n ≡ length line + (n - length line) = omega (arith, few) in
    ap (λ l. line ++ l) (same_part (n - length line) m bytes is)
    ∙ sym (ap (λ k. take k (line ++ bytes)) all ∙ take-append-add line bytes (n - length line))

-- what is kept of a line that is too long shows it, and any other is kept whole
pub kept_whole : (n : ℕ) (line : List ℕ) → length (take (n + 1) line) ≤ n → take (n + 1) line ≡ line
kept_whole n line few = take_all (n + 1) line (omega (arith, few, length-take (n + 1) line))

pub kept_long : (n : ℕ) (line : List ℕ) → n < length (take (n + 1) line) → n < length line
kept_long n line long = omega (arith, long, length-take (n + 1) line)
