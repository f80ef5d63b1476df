use Rattle.std.proofs.Common.{◌≡◌, ℕ, ◌<◌, List, length, get_or, sym, ◌∙◌, arith}
use Rattle.std.specs.List.{slice_get}
use Rattle.std.proofs.lemmas.Option.{same_Some, slice_get-get_or}
use Rattle.watch_expect.specs.Comparing.{Parts}
use Rattle.watch_expect.proofs.texts.count_same.Goals as goal

parts_at : (text other : List ℕ) (place : ℕ) → place < length text → place < length other → ¬ (get_or text place 0 ≡ get_or other place 0)
    → Parts (slice_get text place) (slice_get other place)
parts_at text other place in_text in_other differ =
    λ same. differ (same_Some _ _ (sym (slice_get-get_or text place 0 in_text) ∙ same ∙ slice_get-get_or other place 0 in_other))

pub returns-then-text-place-clause-parts : goal.returns-then-text-place-clause-parts
returns-then-text-place-clause-parts c = λ less. parts_at c.args.text.now c.args.other.now c.loop-place.place (omega arith) less c.if-text-place.true
