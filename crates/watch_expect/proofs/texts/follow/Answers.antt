use Rattle.std.proofs.Common.{◌≡◌, ℕ, ◌+◌, ◌-◌, ◌≤◌, List, ◌++◌, length, take, drop, ap, ◌∙◌, subst, arith, take_all}
use Rattle.std.specs.Prelude.{min}
use Rattle.std.specs.List.{slice_get}
use Rattle.std.proofs.lemmas.List.{length-drop, take_min}
use Rattle.watch_expect.specs.Comparing.{Parts, LeavesAt}
use Rattle.watch_expect.proofs.Following.{short, follows, leaves, goes_on_at}
use Rattle.watch_expect.proofs.texts.follow.Goals as goal

-- behind the whole text as behind more
first_of : (text : List ℕ) (at first : ℕ) → first ≡ min at (length text) → take first text ≡ take at text
first_of text at first is = ap (λ (n : ℕ). take n text) is ∙ take_min at text

pub returns-then-count-found : goal.returns-then-count-found
returns-then-count-found c =
    let text : List ℕ = c.args.text.now in
    let found : List ℕ = c.args.found.now in
    let at : ℕ = c.within-first.result in
    let count : ℕ = c.count_same-count.result in
    let within : at ≤ length text = omega (arith, c.within-first.ensures) in
    let first_is : take at text ≡ take c.args.at text = first_of text c.args.at at c.within-first.ensures in
    let rest_is : take (length text - at) (drop at text) ≡ drop at text = take_all (length text - at) (drop at text) (omega (arith, length-drop at text)) in
    let inside : count ≤ length (drop at text) = subst (λ (t : List ℕ). count ≤ length t) rest_is c.count_same-count.ensures.text in
    let same : take count (drop at text) ≡ take count found = subst (λ (t : List ℕ). take count t ≡ take count found) rest_is c.count_same-count.ensures.same in (
      short text found at count within inside,
      subst (λ (t : List ℕ). LeavesAt text (t ++ found) (at + count)) first_is
          (leaves text found at count within inside same c.if-count-found.true
          (subst (λ (t : List ℕ). Parts (slice_get t count) (slice_get found count)) rest_is (c.count_same-count.ensures.parts c.if-count-found.true))),
      subst (λ (t : List ℕ). drop count found ≡ drop (at + count) (t ++ found)) first_is (goes_on_at text found at count within inside),
    )

pub returns : goal.returns
returns c =
    let text : List ℕ = c.args.text.now in
    let found : List ℕ = c.args.found.now in
    let at : ℕ = c.within-first.result in
    let count : ℕ = c.count_same-count.result in
    let within : at ≤ length text = omega (arith, c.within-first.ensures) in
    let first_is : take at text ≡ take c.args.at text = first_of text c.args.at at c.within-first.ensures in
    let rest_is : take (length text - at) (drop at text) ≡ drop at text = take_all (length text - at) (drop at text) (omega (arith, length-drop at text)) in
    let inside : count ≤ length (drop at text) = subst (λ (t : List ℕ). count ≤ length t) rest_is c.count_same-count.ensures.text in
    let same : take count (drop at text) ≡ take count found = subst (λ (t : List ℕ). take count t ≡ take count found) rest_is c.count_same-count.ensures.same in (
      short text found at count within inside,
      subst (λ (t : List ℕ). take (at + count) text ≡ t ++ found) first_is (follows text found at count within inside same c.if-count-found.false),
    )
