use Rattle.std.proofs.Common.{◌≡◌, ℕ, ◌+◌, ◌-◌, ◌<◌, Bool, true, false, List, [], get_or, sym, ap, ◌∙◌, subst, arith, inl, inr}
use Rattle.std.proofs.lemmas.Bool.{cases_lt}
use Rattle.std.proofs.lemmas.List.Sums.{position_or_len_is}
use Rattle.text_lines.specs.Readings.{nth_word}
use Rattle.can_logs.specs.WatchMaps.{ends_words}
use Rattle.can_logs.proofs.maps.words_before.Goals as goal

-- the test of a word by its place
tested : (marks : Bool) (words : List (List ℕ)) (place : ℕ) (word : List ℕ) (found b : Bool) → word ≡ nth_word words (place + 1) → found ≡ ends_words marks word → found ≡ b
    → ends_words marks (get_or words place []) ≡ b
tested marks words place word found b word_is found_is is =
    let at : place + 1 - 1 ≡ place = omega arith in
    ap (λ (n : ℕ). ends_words marks (get_or words n [])) (sym at) ∙ ap (ends_words marks) (sym word_is) ∙ sym found_is ∙ is

none_to : (marks : Bool) (words : List (List ℕ)) (place k : ℕ) → ((i : ℕ) → i < place → ends_words marks (get_or words i []) ≡ false)
    → ends_words marks (get_or words place []) ≡ false → k < place + 1 → ends_words marks (get_or words k []) ≡ false
none_to marks words place k before here less = elim (cases_lt k place) [
  | inl lt ↦ before k lt
  | inr ge ↦ subst (λ (n : ℕ). ends_words marks (get_or words n []) ≡ false) (omega (arith, ge, less)) here
]

pub loop-place-init : goal.loop-place-init
loop-place-init c = λ k less. absurd (omega (arith, less))

pub loop-place-preserved : goal.loop-place-preserved
loop-place-preserved c = λ k less.
    none_to c.args.marks c.args.words.now c.loop-place.place k c.loop-place.invariant
    (tested c.args.marks c.args.words.now c.loop-place.place c.word.result.now c.ends.result false c.word.ensures c.ends.ensures c.if-ends.false) less

pub returns-then-ends-clause-exact : goal.returns-then-ends-clause-exact
returns-then-ends-clause-exact c =
    sym (position_or_len_is (ends_words c.args.marks) c.args.words.now c.loop-place.place [] (omega (arith, c.loop-place-test.true, c.len-size.ensures)) c.loop-place.invariant
    (λ less. tested c.args.marks c.args.words.now c.loop-place.place c.word.result.now c.ends.result true c.word.ensures c.ends.ensures c.if-ends.true))

pub returns-clause-exact : goal.returns-clause-exact
returns-clause-exact c =
    let whole : c.loop-place.place ≡ c.len-size.result = omega (arith, c.loop-place-test.false, c.loop-place.auto.place-end) in
    sym (position_or_len_is (ends_words c.args.marks) c.args.words.now c.len-size.result [] (omega (arith, c.len-size.ensures))
    (subst (λ (n : ℕ). (k : ℕ) → k < n → ends_words c.args.marks (get_or c.args.words.now k []) ≡ false) whole c.loop-place.invariant)
    (λ less. absurd (omega (arith, less, c.len-size.ensures))))
