-- A list tells no key
use Rattle.std.proofs.Common.{◌≡◌, ◌∙◌, ℕ, ◌<◌, List, [], ◌∷◌, length, get_or, refl, sym, ap, subst, arith}
use Rattle.std.proofs.lemmas.List.{ext_get_or}
use Rattle.key_slots.specs.declared.memory.Flags.{Flags}
use Rattle.key_slots.specs.declared.memory.Slot.TheVariants.{Filled}
use Rattle.slot_disk.specs.Cell.{HoldsSlot}
use Rattle.slot_disk.proofs.CallerLemmas.{one_slot}
use Rattle.freshness_store.specs.Bound.{HoldsBound}
use Rattle.freshness_store.proofs.CallerLemmas.{one_bound, no_slot as slot_or_bound}
use Rattle.any_cells.specs.declared.finding.CountingStore.{CountingStore}
use Rattle.slot_commands.specs.StoreWords.{slot_words}
use Rattle.slot_commands.specs.Cells.{SaysCell, a_slot, a_bound, no_slot, no_bound}
use Rattle.slot_commands.specs.KeysApart.{SameButKey, same_cell, other_key, SameButKeys}
use Rattle.slot_commands.specs.Stores.{ListsStore, ListsCells, SayCells, head_words, written_lines}
use Rattle.slot_commands.proofs.OnceLaws.{same_found, same_cells}

-- the line of a cell is one
line_once : (place : ℕ) (a b : List ℕ) (w v : List (List ℕ)) → SaysCell place a w → SaysCell place b v → a ≡ b → w ≡ v
line_once place a b w v (a_slot slot below holds) (a_slot that low held) same =
    ap (slot_words place) (one_slot a slot that holds (subst (λ (c : List ℕ). HoldsSlot c that) (sym same) held))
line_once place a b w v (a_slot slot below holds) (a_bound id direction bound from also) same = absurd (omega (arith, below, from))
line_once place a b w v (a_slot slot below holds) (no_slot low none) same = absurd (none slot (subst (λ (c : List ℕ). HoldsSlot c slot) same holds))
line_once place a b w v (a_slot slot below holds) (no_bound from none) same = absurd (omega (arith, below, from))
line_once place a b w v (a_bound id direction bound from holds) (a_slot slot low held) same = absurd (omega (arith, low, from))
line_once place a b w v (a_bound id direction bound from holds) (a_bound i d n high held) same =
    let one = one_bound a id i direction d bound n holds (subst (λ (c : List ℕ). HoldsBound c i d n) (sym same) held) in
    rw (one.0, one.1, one.2) refl
line_once place a b w v (a_bound id direction bound from holds) (no_slot low none) same = absurd (omega (arith, low, from))
line_once place a b w v (a_bound id direction bound from holds) (no_bound high none) same =
    absurd (none id direction bound (subst (λ (c : List ℕ). HoldsBound c id direction bound) same holds))
line_once place a b w v (no_slot below none) (a_slot slot low held) same = absurd (none slot (subst (λ (c : List ℕ). HoldsSlot c slot) (sym same) held))
line_once place a b w v (no_slot below none) (a_bound i d n high held) same = absurd (omega (arith, below, high))
line_once place a b w v (no_slot below none) (no_slot low also) same = refl
line_once place a b w v (no_slot below none) (no_bound high also) same = absurd (omega (arith, below, high))
line_once place a b w v (no_bound from none) (a_slot slot low held) same = absurd (omega (arith, low, from))
line_once place a b w v (no_bound from none) (a_bound i d n high held) same =
    absurd (none i d n (subst (λ (c : List ℕ). HoldsBound c i d n) (sym same) held))
line_once place a b w v (no_bound from none) (no_slot low also) same = absurd (omega (arith, low, from))
line_once place a b w v (no_bound from none) (no_bound high also) same = refl

-- the line of a slot that is filled with any key
module _ (place : ℕ) (cell key : List ℕ) (counter : ℕ) (flags : Flags) (holds : HoldsSlot cell (Filled key counter flags)) where
  slot_line : (other : List ℕ) (w : List (List ℕ)) → SaysCell place cell w → place < 14 → w ≡ slot_words place (Filled other counter flags)
  slot_line other w (a_slot slot below held) low = ap (slot_words place) (one_slot cell slot (Filled key counter flags) held holds)
  slot_line other w (a_bound id direction bound from also) low = absurd (omega (arith, low, from))
  slot_line other w (no_slot below not) low = absurd (not (Filled key counter flags) holds)
  slot_line other w (no_bound from not) low = absurd (omega (arith, low, from))

-- a line tells no key
line_alike : (place : ℕ) (a b : List ℕ) (w v : List (List ℕ)) → SaysCell place a w → SaysCell place b v → SameButKey a b → w ≡ v
line_alike place a b w v says also same_cell = line_once place a a w v says also refl
line_alike place a b w v (a_slot slot below holds) also (other_key _ key other counter flags first second) =
    ap (slot_words place) (one_slot a slot (Filled key counter flags) holds first)
    ∙ sym (slot_line place b other counter flags second key v also below)
line_alike place a b w v (a_bound id direction bound from holds) also (other_key _ key other counter flags first second) =
    absurd (slot_or_bound a (Filled key counter flags) id direction bound first holds)
line_alike place a b w v (no_slot below none) also (other_key _ key other counter flags first second) = absurd (none (Filled key counter flags) first)
line_alike place a b w v (no_bound from none) (a_slot slot low held) (other_key _ key other counter flags first second) = absurd (omega (arith, low, from))
line_alike place a b w v (no_bound from none) (a_bound i d n high held) (other_key _ key other counter flags first second) =
    absurd (slot_or_bound b (Filled other counter flags) i d n second held)
line_alike place a b w v (no_bound from none) (no_slot low also) (other_key _ key other counter flags first second) = absurd (omega (arith, low, from))
line_alike place a b w v (no_bound from none) (no_bound high also) (other_key _ key other counter flags first second) = refl

-- so the lines are the same
lines_alike : (cells others : List (List ℕ)) (lines more : List (List (List ℕ))) → length cells ≡ length others
    → ((place : ℕ) → place < length cells → SameButKey (get_or cells place []) (get_or others place [])) → SayCells cells lines → SayCells others more
    → lines ≡ more
lines_alike cells others lines more sized each says also =
    ext_get_or [] lines more (says.count ∙ sized ∙ sym also.count)
    (λ place below.
    let low : place < length cells = (let count = says.count in omega (arith, below, count)) in
    line_alike place (get_or cells place []) (get_or others place []) (get_or lines place []) (get_or more place [])
    (says.each place low) (also.each place (omega (arith, low, sized))) (each place low))

text_alike : (head : List (List ℕ)) (cells others : List (List ℕ)) (text other : List ℕ) → length cells ≡ length others
    → ((place : ℕ) → place < length cells → SameButKey (get_or cells place []) (get_or others place [])) → ListsCells head cells text
    → ListsCells head others other → text ≡ other
text_alike head cells others text other sized each (lines, says, is) (more, also, at) =
    is ∙ ap (λ (l : List (List (List ℕ))). written_lines (head ∷ l)) (lines_alike cells others lines more sized each says also) ∙ sym at

pub one_text : (x y text other : List ℕ) → SameButKeys x y → ListsStore x text → ListsStore y other → text ≡ other
one_text x y text other alike first second =
    let found_first = same_found x first.found alike.found first.holds.counts alike.first.counts in
    let found_second = same_found y second.found alike.found second.holds.counts alike.second.counts in
    let cells_first = same_cells x first.found alike.found first.cells alike.cells first.holds alike.first in
    let cells_second = same_cells y second.found alike.found second.cells alike.others second.holds alike.second in
    text_alike (head_words alike.found) alike.cells alike.others text other (alike.first.number ∙ sym alike.second.number) alike.each
    (subst (λ (s : CountingStore). ListsCells (head_words s) alike.cells text) found_first
    (subst (λ (c : List (List ℕ)). ListsCells (head_words first.found) c text) cells_first first.lists))
    (subst (λ (s : CountingStore). ListsCells (head_words s) alike.others other) found_second
    (subst (λ (c : List (List ℕ)). ListsCells (head_words second.found) c other) cells_second second.lists))
