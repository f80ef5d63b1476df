-- What the operations of a flash in memory make of its list, they make of its banks.
use Rattle.std.proofs.Common.{◌≡◌, ◌≢◌, ◌⊎◌, inl, inr, ℕ, zero, suc, ◌+◌, ◌*◌, ◌<◌, ◌≤◌, Bool, Some, List, [], ◌∷◌, replicate, set, get_or, length, refl, sym, ap, subst, ◌∙◌, if◌then◌else◌, arith}
use Rattle.std.proofs.lemmas.Bool.{cases_lt, cases_eq, lt-ltb}
use Rattle.std.proofs.Math.Nat.{mul-le-mul_right}
use Rattle.flash_places.specs.declared.FlashLine.{FlashLine}
use Rattle.flash_places.specs.declared.mem_flash.MemPlace.{MemPlace}
use Rattle.flash_places.specs.declared.Answer.{Answer}
use Rattle.flash_places.specs.declared.Answer.TheVariants.{Blank}
use Rattle.flash_places.specs.Places.{FlashPlace, Looks, LooksAt, line_in, SameOthers, SameButAt, Erases, CutsErase, Programs, CutsProgram, blank_place, whole_place}
use Rattle.flash_places.specs.Memory.{flash_place_in, flash_place_of, flash_of}
use Rattle.flash_places.specs.MemoryLaws.{blank_behind}

-- ---- places of a list

pub place_set : (ps : List MemPlace) (i : ℕ) (p : MemPlace) → i < length ps → flash_place_in (set ps i p) i ≡ flash_place_of p
place_set [] i p below = absurd (omega arith)
place_set (q ∷ ps) zero p below = refl
place_set (q ∷ ps) (suc i) p below = place_set ps i p (omega arith)

pub place_other : (ps : List MemPlace) (i k : ℕ) (p : MemPlace) → k ≢ i → flash_place_in (set ps i p) k ≡ flash_place_in ps k
place_other [] i k p ne = refl
place_other (q ∷ ps) zero zero p ne = absurd (ne refl)
place_other (q ∷ ps) zero (suc k) p ne = refl
place_other (q ∷ ps) (suc i) zero p ne = refl
place_other (q ∷ ps) (suc i) (suc k) p ne = place_other ps i k p (λ e. ne (ap suc e))

pub place_get : (ps : List MemPlace) (i : ℕ) (d : MemPlace) → i < length ps → flash_place_in ps i ≡ flash_place_of (get_or ps i d)
place_get [] i d below = absurd (omega arith)
place_get (q ∷ ps) zero d below = refl
place_get (q ∷ ps) (suc i) d below = place_get ps i d (omega arith)

pub place_blank : (n k : ℕ) (p : MemPlace) → flash_place_of p ≡ blank_place → flash_place_in (replicate n p) k ≡ blank_place
place_blank zero k p is = refl
place_blank (suc n) zero p is = is
place_blank (suc n) (suc k) p is = place_blank n k p is

-- ---- places of a bank

flash_inside : (places : ℕ) (held : List MemPlace) (bank k : ℕ) → k < places → flash_of places held bank k ≡ flash_place_in held (bank * places + k)
flash_inside places held bank k below = ap (λ (b : Bool). if b then flash_place_in held (bank * places + k) else blank_place) (lt-ltb k places below)

pub all_blank : (places n : ℕ) (held : List MemPlace) (p : MemPlace) → flash_place_of p ≡ blank_place → held ≡ replicate n p → (bank k : ℕ) → flash_of places held bank k ≡ blank_place
all_blank places n held p is e bank k = elim (cases_lt k places) [
  | inl below ↦ flash_inside places held bank k below ∙ (ap (λ (ps : List MemPlace). flash_place_in ps (bank * places + k)) e ∙ place_blank n (bank * places + k) p is)
  | inr far ↦ blank_behind places held bank k far
]

-- another bank lies before this one or after it
apart : (places bank other k : ℕ) → other ≢ bank → k < places → (other * places + k < bank * places) ⊎ (bank * places + places ≤ other * places + k)
apart places bank other k ne below = elim (cases_lt other bank) [
  | inl less ↦ inl (let h : suc other * places ≤ bank * places = mul-le-mul_right places less in omega (arith, h))
  | inr more ↦ inr (let less : suc bank ≤ other = omega (arith, more, ne) in let h : suc bank * places ≤ other * places = mul-le-mul_right places less in omega (arith, h))
]

-- two lists that agree outside of a bank
same_others : (places bank : ℕ) (old new : List MemPlace)
    → ((k : ℕ) → (k < bank * places) ⊎ (bank * places + places ≤ k) → flash_place_in new k ≡ flash_place_in old k)
    → SameOthers bank (flash_of places old) (flash_of places new)
same_others places bank old new rest other ne k = elim (cases_lt k places) [
  | inl below ↦ flash_inside places new other k below ∙ (rest (other * places + k) (apart places bank other k ne below) ∙ sym (flash_inside places old other k below))
  | inr far ↦ blank_behind places new other k far ∙ sym (blank_behind places old other k far)
]

pub erase_done : (places bank start : ℕ) (old new : List MemPlace) → start ≡ bank * places
    → ((k : ℕ) → start ≤ k → k < start + places → flash_place_in new k ≡ blank_place)
    → ((k : ℕ) → (k < start) ⊎ (start + places ≤ k) → flash_place_in new k ≡ flash_place_in old k)
    → Erases bank (flash_of places old) (flash_of places new)
erase_done places bank start old new is made rest = record {
  erased = λ k. elim (cases_lt k places) [
    | inl below ↦ flash_inside places new bank k below ∙ made (bank * places + k) (omega (arith, is)) (omega (arith, is))
    | inr far ↦ blank_behind places new bank k far
  ];
  others = same_others places bank old new (λ k out. rest k (elim out [ inl a ↦ inl (omega (arith, is, a)) | inr b ↦ inr (omega (arith, is, b)) ]));
}

pub erase_cut : (places bank start : ℕ) (old new : List MemPlace) → start ≡ bank * places
    → ((k : ℕ) → (flash_place_in new k).content ≡ (flash_place_in old k).content)
    → ((k : ℕ) → (k < start) ⊎ (start + places ≤ k) → flash_place_in new k ≡ flash_place_in old k)
    → CutsErase bank (flash_of places old) (flash_of places new)
erase_cut places bank start old new is kept rest = record {
  left = λ k. inl (elim (cases_lt k places) [
    | inl below ↦ ap (λ (p : FlashPlace). p.content) (flash_inside places new bank k below)
        ∙ (kept (bank * places + k) ∙ ap (λ (p : FlashPlace). p.content) (sym (flash_inside places old bank k below)))
    | inr far ↦ ap (λ (p : FlashPlace). p.content) (blank_behind places new bank k far ∙ sym (blank_behind places old bank k far))
  ]);
  others = same_others places bank old new (λ k out. rest k (elim out [ inl a ↦ inl (omega (arith, is, a)) | inr b ↦ inr (omega (arith, is, b)) ]));
}

-- one place of the list is another
pub same_but_at : (places bank place at : ℕ) (old new : List MemPlace) → at ≡ bank * places + place → place < places
    → ((k : ℕ) → k ≢ at → flash_place_in new k ≡ flash_place_in old k) → SameButAt bank place (flash_of places old) (flash_of places new)
same_but_at places bank place at old new is inside rest = record {
  rest = λ k ne. elim (cases_lt k places) [
    | inl below ↦ flash_inside places new bank k below ∙ (rest (bank * places + k) (λ e. ne (omega (arith, e, is))) ∙ sym (flash_inside places old bank k below))
    | inr far ↦ blank_behind places new bank k far ∙ sym (blank_behind places old bank k far)
  ];
  others = same_others places bank old new (λ k out. rest k (λ e. elim out [ inl a ↦ omega (arith, is, a, e, inside) | inr b ↦ omega (arith, is, b, e, inside) ]));
}

pub at_place : (places bank place at : ℕ) (held : List MemPlace) → at ≡ bank * places + place → place < places → flash_of places held bank place ≡ flash_place_in held at
at_place places bank place at held is inside = flash_inside places held bank place inside ∙ ap (λ k. flash_place_in held k) (sym is)

pub program_done : (places bank place at : ℕ) (held : List MemPlace) (line : FlashLine) (p : MemPlace) → at ≡ bank * places + place → place < places → at < length held
    → flash_of places held bank place ≡ blank_place → flash_place_of p ≡ whole_place line → Programs bank place line (flash_of places held) (flash_of places (set held at p))
program_done places bank place at held line p is inside below was now = record {
  was = was;
  now = at_place places bank place at (set held at p) is inside ∙ (place_set held at p below ∙ now);
  same = same_but_at places bank place at held (set held at p) is inside (λ k ne. place_other held at k p ne);
}

pub program_cut : (places bank place at : ℕ) (held : List MemPlace) (line : FlashLine) (p : MemPlace) → at ≡ bank * places + place → place < places → at < length held
    → flash_of places held bank place ≡ blank_place → p.content ≡ Some line → CutsProgram bank place line (flash_of places held) (flash_of places (set held at p))
program_cut places bank place at held line p is inside below was now = record {
  was = was;
  left = inl (ap (λ (q : FlashPlace). q.content) (at_place places bank place at (set held at p) is inside ∙ place_set held at p below) ∙ now);
  same = same_but_at places bank place at held (set held at p) is inside (λ k ne. place_other held at k p ne);
}

-- ---- one place more of a range

pub blank_more : (ps : List MemPlace) (start i next : ℕ) (p : MemPlace) → flash_place_of p ≡ blank_place → i < length ps → next ≡ i + 1
    → ((k : ℕ) → start ≤ k → k < i → flash_place_in ps k ≡ blank_place) → (k : ℕ) → start ≤ k → k < next → flash_place_in (set ps i p) k ≡ blank_place
blank_more ps start i next p is below e before k from h = elim (cases_eq k i) [
  | inl here ↦ subst (λ j. flash_place_in (set ps i p) j ≡ blank_place) (sym here) (place_set ps i p below ∙ is)
  | inr there ↦ place_other ps i k p there ∙ before k from (omega arith)
]

pub content_kept : (ps : List MemPlace) (i : ℕ) (d p : MemPlace) → i < length ps → p.content ≡ (get_or ps i d).content
    → (k : ℕ) → (flash_place_in (set ps i p) k).content ≡ (flash_place_in ps k).content
content_kept ps i d p below same k = elim (cases_eq k i) [
  | inl here ↦ subst (λ j. (flash_place_in (set ps i p) j).content ≡ (flash_place_in ps j).content) (sym here)
      (ap (λ (x : FlashPlace). x.content) (place_set ps i p below) ∙ (same ∙ sym (ap (λ (x : FlashPlace). x.content) (place_get ps i d below))))
  | inr there ↦ ap (λ (x : FlashPlace). x.content) (place_other ps i k p there)
]

pub rest_more : (first ps : List MemPlace) (start i next : ℕ) (p : MemPlace) → start ≤ i → next ≡ i + 1
    → ((k : ℕ) → (k < start) ⊎ (i ≤ k) → flash_place_in ps k ≡ flash_place_in first k)
    → (k : ℕ) → (k < start) ⊎ (next ≤ k) → flash_place_in (set ps i p) k ≡ flash_place_in first k
rest_more first ps start i next p from e before k out =
    place_other ps i k p (λ h. elim out [ inl a ↦ omega arith | inr b ↦ omega arith ])
    ∙ before k (elim out [ inl a ↦ inl a | inr b ↦ inr (omega arith) ])

pub looked_at : (places bank place at : ℕ) (old new : List MemPlace) (answer : Answer) → at ≡ bank * places + place → place < places
    → ((k : ℕ) → k ≢ at → flash_place_in new k ≡ flash_place_in old k) → Looks (flash_place_in old at) (line_in answer) (flash_place_in new at)
    → (answer ≡ Blank → flash_place_in old at ≡ blank_place) → LooksAt bank place answer (flash_of places old) (flash_of places new)
looked_at places bank place at old new answer is inside rest looks is_blank = record {
  looks = subst (λ (p : FlashPlace). Looks p (line_in answer) (flash_of places new bank place)) (sym (at_place places bank place at old is inside))
      (subst (λ (q : FlashPlace). Looks (flash_place_in old at) (line_in answer) q) (sym (at_place places bank place at new is inside)) looks);
  is_blank = λ e. at_place places bank place at old is inside ∙ is_blank e;
  same = same_but_at places bank place at old new is inside rest;
}
