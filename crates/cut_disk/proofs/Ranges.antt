-- What the calls of a disk in memory make of the range that was written since the last sync.
use Rattle.std.proofs.Common.{◌≡◌, ℕ, ◌+◌, ◌-◌, ◌<◌, ◌≤◌, ◌⊎◌, inl, inr, ⊎_elim, Bool, false, List, length, get_or, replicate, refl, sym, ◌∙◌, arith, rules}
use Rattle.std.specs.List.{slice_range}
use Rattle.std.proofs.lemmas.Bool.{cases_lt}
use Rattle.std.proofs.lemmas.List.{places, ext_get_or}
use Rattle.cut_disk.specs.declared.Torn.{Torn}
use Rattle.cut_disk.specs.Images.{splice}
use Rattle.cut_disk.proofs.CallerLemmas.{get_or-splice_before, get_or-splice_behind}
use Rattle.cut_disk.specs.Memory.{left_byte}
use Rattle.cut_disk.specs.Ranges.{IsSameOutside, IsFirmOutside}

-- what lies outside of a wider range lies outside of this one
before_wider : (from to lo i : ℕ) → from ≤ to → (from < to → lo ≤ from) → i < lo → (i < from) ⊎ (to ≤ i)
before_wider from to lo i order wide h = ⊎_elim (λ less. inl (omega arith)) (λ all. ⊎_elim inl (λ behind. inr (omega arith)) (cases_lt i from)) (cases_lt from to)

behind_wider : (from to hi i : ℕ) → from ≤ to → (from < to → to ≤ hi) → hi ≤ i → (i < from) ⊎ (to ≤ i)
behind_wider from to hi i order wide h = ⊎_elim (λ less. inr (omega arith)) (λ all. ⊎_elim inl (λ behind. inr (omega arith)) (cases_lt i from)) (cases_lt from to)

same_there : {from to : ℕ} {xs zs : List ℕ} → IsSameOutside from to xs zs → (i : ℕ) → (i < from) ⊎ (to ≤ i) → get_or zs i 0 ≡ get_or xs i 0
same_there same i (inl before) = same.before i before
same_there same i (inr behind) = same.behind i behind

firm_there : {from to : ℕ} {loose : List Bool} → IsFirmOutside from to loose → (i : ℕ) → (i < from) ⊎ (to ≤ i) → get_or loose i false ≡ false
firm_there firm i (inl before) = firm.before i before
firm_there firm i (inr behind) = firm.behind i behind

-- a write changes nothing outside of a range that has it, and the range before it
pub same_after_write : (from to lo hi at : ℕ) (ys xs zs : List ℕ) → at + length ys ≤ length xs → from ≤ to
    → (from < to → (lo ≤ from) × (to ≤ hi)) → lo ≤ at → at + length ys ≤ hi → IsSameOutside from to xs zs → IsSameOutside lo hi (splice at ys xs) zs
same_after_write from to lo hi at ys xs zs inside order wide low high same = record {
  before = λ i h. same_there same i (before_wider from to lo i order (λ less. (wide less).0) h) ∙ sym (get_or-splice_before at ys xs i 0 inside (omega arith));
  behind = λ i h. same_there same i (behind_wider from to hi i order (λ less. (wide less).1) h) ∙ sym (get_or-splice_behind at ys xs i 0 inside (omega arith));
}

pub firm_after_write : (from to lo hi at : ℕ) (ys : List Bool) (loose : List Bool) → at + length ys ≤ length loose → from ≤ to
    → (from < to → (lo ≤ from) × (to ≤ hi)) → lo ≤ at → at + length ys ≤ hi → IsFirmOutside from to loose → IsFirmOutside lo hi (splice at ys loose)
firm_after_write from to lo hi at ys loose inside order wide low high firm = record {
  before = λ i h. get_or-splice_before at ys loose i false inside (omega arith) ∙ firm_there firm i (before_wider from to lo i order (λ less. (wide less).0) h);
  behind = λ i h. get_or-splice_behind at ys loose i false inside (omega arith) ∙ firm_there firm i (behind_wider from to hi i order (λ less. (wide less).1) h);
}

-- the range alone, copied, makes all the same
pub copied : (from to : ℕ) (xs zs : List ℕ) → from ≤ to → to ≤ length xs → length zs ≡ length xs → IsSameOutside from to xs zs
    → splice from (slice_range xs from to) zs ≡ xs
unfolding splice
copied from to xs zs order inside sized same = ext_get_or 0 _ _ (search (rules, places)) (λ i h. grind (arith, places, same.before i, same.behind i))

-- the range alone, marked, makes all firm
pub unmarked : (from to : ℕ) (loose : List Bool) → from ≤ to → to ≤ length loose → IsFirmOutside from to loose
    → splice from (replicate (to - from) false) loose ≡ replicate (length loose) false
unfolding splice
unmarked from to loose order inside firm = ext_get_or false _ _ (search (rules, places)) (λ i h. grind (arith, places, firm.before i, firm.behind i))

-- a cut leaves a byte that isn't loose
pub left_of_firm : (torn : Torn) (bytes synced : List ℕ) (loose : List Bool) (i : ℕ) → get_or loose i false ≡ false → left_byte torn bytes synced loose i ≡ get_or bytes i 0
left_of_firm torn bytes synced loose i firm = rw firm refl

-- the last sync is the same outside of the range after a cut as before it
pub same_after_cut : {from to : ℕ} {xs ys zs : List ℕ} → IsSameOutside from to xs zs → IsSameOutside from to xs ys → IsSameOutside from to ys zs
same_after_cut same left = record { before = λ i h. same.before i h ∙ sym (left.before i h); behind = λ i h. same.behind i h ∙ sym (left.behind i h) }
