-- A copy that grows, place by place.
use Rattle.std.proofs.Common.{◌≡◌, inl, inr, ℕ, zero, suc, ◌<◌, ◌≤◌, [], length, get_or, refl, sym, ap, subst, ◌∙◌, arith}
use Rattle.std.proofs.lemmas.Bool.{cases_eq}
use Rattle.flash_places.specs.declared.FlashLine.{FlashLine}
use Rattle.flash_places.specs.declared.FlashLine.TheVariants.{Head, Entry}
use Rattle.flash_places.specs.Places.{Flash, SameOthers, Programs, blank_place, whole_place}
use Rattle.flash_laws.specs.Logs.{CellList}
use Rattle.flash_laws.specs.Lives.{FlashLayout, FlashFormatted, off, next_bank}
use Rattle.flash_laws.proofs.CallerLemmas.{next_inside, next_cases}
use Rattle.flash_log.specs.Going.{machine, HoldsCopy}

pub spare_is : (r b banks bank : ℕ) → r ≡ next_bank b bank → b ≡ banks → r ≡ next_bank banks bank
spare_is r b banks bank e f = e ∙ ap (λ z. next_bank z bank) f

pub spare_inside : (r b banks now bank : ℕ) → r ≡ next_bank b bank → b ≡ banks → now ≡ banks → 2 ≤ banks → bank < banks → r < now
spare_inside r b banks now bank e f same two inside =
    let h = next_inside banks bank two inside in
    let is = spare_is r b banks bank e f in
    omega (arith, h, is, same)

-- one cell more is copied
module _ (f g : Flash) (spare i at : ℕ) (cells : CellList) (line : FlashLine) (is : at ≡ suc i) (does : Programs spare at line f g) where
  pub head_blank : f spare 0 ≡ blank_place → g spare 0 ≡ blank_place
  head_blank before = does.same.rest 0 (λ e. absurd (omega (arith, e, is))) ∙ before

  pub free_less : (next : ℕ) → next ≡ suc i → ((k : ℕ) → i ≤ k → f spare (suc k) ≡ blank_place) → (k : ℕ) → next ≤ k → g spare (suc k) ≡ blank_place
  free_less next e free k from = does.same.rest (suc k) (λ h. absurd (omega (arith, h, is, e, from))) ∙ free k (omega (arith, e, from))

  pub copied_more : (next : ℕ) → next ≡ suc i → line ≡ Entry i (get_or cells i []) → ((j : ℕ) → j < i → f spare (suc j) ≡ whole_place (Entry j (get_or cells j [])))
      → (j : ℕ) → j < next → g spare (suc j) ≡ whole_place (Entry j (get_or cells j []))
  copied_more next e h before j below = elim (cases_eq j i) [
    | inl here ↦ subst (λ k. g spare (suc k) ≡ whole_place (Entry k (get_or cells k []))) (sym here)
        (ap (λ k. g spare k) (sym is) ∙ (does.now ∙ ap whole_place h))
    | inr there ↦ does.same.rest (suc j) (λ x. there (omega (arith, x, is))) ∙ before j (omega (arith, below, e, there))
  ]

-- all behind a place is blank, told by the places before
pub blank_behind : (f g : Flash) (spare i from : ℕ) (line : FlashLine) → from ≡ suc i → Programs spare 0 line f g
    → ((k : ℕ) → i ≤ k → f spare (suc k) ≡ blank_place) → (k : ℕ) → from ≤ k → g spare k ≡ blank_place
blank_behind f g spare i from line e does free zero h = absurd (omega (arith, e, h))
blank_behind f g spare i from line e does free (suc k) h = does.same.rest (suc k) (λ x. absurd (omega (arith, x))) ∙ free k (omega (arith, e, h))

-- the head makes it whole
pub holds_copy : (f g : Flash) (spare bank i generation : ℕ) (cells : CellList) → spare ≡ bank → i ≡ length cells → Programs spare 0 (Head generation) f g
    → ((j : ℕ) → j < i → f spare (suc j) ≡ whole_place (Entry j (get_or cells j []))) → ((k : ℕ) → i ≤ k → f spare (suc k) ≡ blank_place)
    → HoldsCopy g bank generation cells
holds_copy f g spare bank i generation cells e all does copied free = subst (λ z. HoldsCopy g z generation cells) e (record {
  head = does.now;
  copied = λ j below. does.same.rest (suc j) (λ x. absurd (omega (arith, x))) ∙ copied j (omega (arith, below, all));
  free = blank_behind f g spare i (suc (length cells)) (Head generation) (omega (arith, all)) does free;
})

-- what a format leaves
pub is_formatted : (l : FlashLayout) (f g : Flash) (cells : CellList) (bank banks : ℕ) → 2 ≤ l.banks → length cells ≡ l.cells → bank ≡ 1
    → banks ≡ l.banks → HoldsCopy g (next_bank banks bank) 1 cells → SameOthers (next_bank banks bank) f g
    → ((x : ℕ) → 0 < x → x < l.banks → f x 0 ≡ blank_place) → FlashFormatted l cells (machine g off)
is_formatted l f g cells bank banks two count last same copy others spare =
    let first : next_bank banks bank ≡ 0 = elim (next_cases banks bank) [
      | inl at_first ↦ absurd (omega (arith, at_first.0, last))
      | inr further ↦ omega (arith, further.1, last)
    ] in
    let here : HoldsCopy g 0 1 cells = subst (λ z. HoldsCopy g z 1 cells) first copy in
    record {
      two = two;
      count = count;
      generation = 1;
      head = here.head;
      copied = λ i below. here.copied i (omega (arith, below, count));
      ends = here.free (suc l.cells) (omega (arith, count));
      spare = λ x inside ne. others x (λ e. ne (e ∙ first)) 0 ∙ spare x (omega (arith, ne)) inside;
      is_off = refl;
    }
