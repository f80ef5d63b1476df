-- Laws of reading places one after the other.
use Rattle.std.proofs.Common.{◌≡◌, ◌≢◌, ◌+◌, ◌<◌, ◌≤◌, inl, inr, ℕ, zero, suc, Option, Some, None, Bool, true, false, List, [], ◌∷◌, ◌++◌, length, set, take, refl, sym, ap, subst, ◌∙◌, arith, if◌then◌else◌}
use Rattle.flash_places.specs.declared.FlashLine.{FlashLine}
use Rattle.flash_places.specs.declared.FlashLine.TheVariants.{Entry}
use Rattle.flash_places.specs.Places.{FlashPlace, Looks, sees, sees_nothing}
use Rattle.flash_laws.specs.Logs.{CellList, copy_lines, Spells, IsLog}
use Rattle.flash_log.specs.Taking.{places_behind, Taken, Ends}

pub ends_of : (p q : FlashPlace) → Looks p None q → (Ends p) × (q ≡ p)
ends_of p q looks = elim looks [
  | sees l held said now ↦ absurd (cc)
  | sees_nothing dim said now ↦ (dim, now)
]

-- what a place answers that isn't looked at
abbrev pub answer_of : FlashPlace → Option FlashLine
answer_of p = if p.firm then p.content else None

look_fields : (content : Option FlashLine) (firm : Bool) → Looks (record { content = content; firm = firm }) (if firm then content else None) (record { content = content; firm = firm })
look_fields (Some l) true = sees l refl refl refl
look_fields None true = sees_nothing (inl refl) refl refl
look_fields (Some l) false = sees_nothing (inr refl) refl refl
look_fields None false = sees_nothing (inr refl) refl refl

pub unlooked : (p : FlashPlace) → Looks p (answer_of p) p
unlooked p = look_fields p.content p.firm

pub ends_answer : (p : FlashPlace) → Ends p → answer_of p ≡ None
ends_answer p e = elim e [
  | inl b ↦ ap (λ (q : FlashPlace). answer_of q) b
  | inr f ↦ ap (λ (x : Bool). if x then p.content else None) f
]

pub taken_same : (u v w : ℕ → FlashPlace) (ls : List FlashLine) → ((k : ℕ) → w k ≡ v k) → Taken u v ls → Taken u w ls
taken_same u v w [] same h = λ k. same k ∙ h k
taken_same u v w (l ∷ ls) same h =
    (subst (λ (q : FlashPlace). Looks (u 0) (Some l) q) (sym (same 0)) h.0, taken_same (places_behind u) (places_behind v) (places_behind w) ls (λ k. same (suc k)) h.1)

pub taken_from : (u t v : ℕ → FlashPlace) (ls : List FlashLine) → ((k : ℕ) → t k ≡ u k) → Taken u v ls → Taken t v ls
taken_from u t v [] same h = λ k. h k ∙ sym (same k)
taken_from u t v (l ∷ ls) same h =
    (subst (λ (p : FlashPlace). Looks p (Some l) (v 0)) (sym (same 0)) h.0, taken_from (places_behind u) (places_behind t) (places_behind v) ls (λ k. same (suc k)) h.1)

pub taken_snoc : (u v w : ℕ → FlashPlace) (ls : List FlashLine) (at : ℕ) (l : FlashLine) → at ≡ length ls → Taken u v ls → Looks (v at) (Some l) (w at)
    → ((k : ℕ) → k ≢ at → w k ≡ v k) → Taken u w (ls ++ l ∷ [])
taken_snoc u v w [] zero l e h looks rest =
    (subst (λ (p : FlashPlace). Looks p (Some l) (w 0)) (h 0) looks, λ k. rest (suc k) (λ x. absurd (omega arith)) ∙ h (suc k))
taken_snoc u v w [] (suc at) l e h looks rest = absurd (omega arith)
taken_snoc u v w (x ∷ ls) zero l e h looks rest = absurd (omega arith)
taken_snoc u v w (x ∷ ls) (suc at) l e h looks rest = (
  subst (λ (q : FlashPlace). Looks (u 0) (Some x) q) (sym (rest 0 (λ y. absurd (omega arith)))) h.0,
  taken_snoc (places_behind u) (places_behind v) (places_behind w) ls at l (omega arith) h.1 looks (λ k ne. rest (suc k) (λ y. ne (omega arith))),
)

pub taken_rest : (u v : ℕ → FlashPlace) (ls : List FlashLine) → Taken u v ls → (k : ℕ) → length ls ≤ k → v k ≡ u k
taken_rest u v [] h k far = h k
taken_rest u v (l ∷ ls) h zero far = absurd (omega arith)
taken_rest u v (l ∷ ls) h (suc k) far = taken_rest (places_behind u) (places_behind v) ls h.1 k (omega arith)

pub taken_append : (u v w : ℕ → FlashPlace) (xs ys : List FlashLine) → Taken u v xs → ((k : ℕ) → k < length xs → w k ≡ v k)
    → Taken (λ k. v (length xs + k)) (λ k. w (length xs + k)) ys → Taken u w (xs ++ ys)
taken_append u v w [] ys h same more =
    taken_same u (λ k. w (0 + k)) w ys (λ k. ap w (let e : k ≡ 0 + k = omega arith in e))
    (taken_from (λ k. v (0 + k)) u (λ k. w (0 + k)) ys (λ k. sym (h k) ∙ ap v (let e : k ≡ 0 + k = omega arith in e)) more)
taken_append u v w (x ∷ xs) ys h same more = (
  subst (λ (q : FlashPlace). Looks (u 0) (Some x) q) (sym (same 0 (omega arith))) h.0,
  taken_append (places_behind u) (places_behind v) (places_behind w) xs ys h.1 (λ k below. same (suc k) (omega arith))
      (taken_same (λ k. v (suc (length xs + k))) (λ k. w (length (x ∷ xs) + k)) (λ k. w (suc (length xs + k))) ys (λ k. ap w (let e : suc (length xs + k) ≡ length (x ∷ xs) + k = omega arith in e))
      (taken_from (λ k. v (length (x ∷ xs) + k)) (λ k. v (suc (length xs + k))) (λ k. w (length (x ∷ xs) + k)) ys (λ k. ap v (let e : suc (length xs + k) ≡ length (x ∷ xs) + k = omega arith in e)) more)),
)

-- ---- what was answered, of all places

abbrev pub told : List FlashLine → (ℕ → Option FlashLine) → ℕ → Option FlashLine
told [] rest k = rest k
told (l ∷ ls) rest zero = Some l
told (l ∷ ls) rest (suc k) = told ls (λ i. rest (suc i)) k

pub taken_looks : (u v : ℕ → FlashPlace) (ls : List FlashLine) → Taken u v ls → (k : ℕ) → Looks (u k) (told ls (λ i. answer_of (u i)) k) (v k)
taken_looks u v [] h k = subst (λ (q : FlashPlace). Looks (u k) (answer_of (u k)) q) (sym (h k)) (unlooked (u k))
taken_looks u v (l ∷ ls) h zero = h.0
taken_looks u v (l ∷ ls) h (suc k) = taken_looks (places_behind u) (places_behind v) ls h.1 k

pub told_end : (ls : List FlashLine) (rest : ℕ → Option FlashLine) (at : ℕ) → at ≡ length ls → told ls rest at ≡ rest at
told_end [] rest at e = refl
told_end (l ∷ ls) rest zero e = absurd (omega arith)
told_end (l ∷ ls) rest (suc at) e = told_end ls (λ i. rest (suc i)) at (omega arith)

pub told_at : (before more : List FlashLine) (l : FlashLine) (rest : ℕ → Option FlashLine) (at : ℕ) → at ≡ length before → told (before ++ l ∷ more) rest at ≡ Some l
told_at [] more l rest zero e = refl
told_at [] more l rest (suc at) e = absurd (omega arith)
told_at (x ∷ before) more l rest zero e = absurd (omega arith)
told_at (x ∷ before) more l rest (suc at) e = told_at before more l (λ i. rest (suc i)) at (omega arith)

pub spells_shift : (r : ℕ → Option FlashLine) (k : ℕ) (ls : List FlashLine) → Spells (λ i. r (suc i)) k ls → Spells r (suc k) ls
spells_shift r k [] h = h
spells_shift r k (l ∷ ls) h = (h.0, spells_shift r (suc k) ls h.1)

pub told_spells : (ls : List FlashLine) (rest : ℕ → Option FlashLine) → rest (length ls) ≡ None → Spells (told ls rest) 0 ls
told_spells [] rest none = none
told_spells (l ∷ ls) rest none = (refl, spells_shift (told (l ∷ ls) rest) 0 ls (told_spells ls (λ i. rest (suc i)) none))

-- a log has an entry of each cell in its copy
pub spells_copy : (r : ℕ → Option FlashLine) (k j : ℕ) (cells : CellList) (puts : List FlashLine) (i : ℕ) → Spells r k (copy_lines j cells ++ puts) → i < length cells
    → (payload : List ℕ) × (r (k + i) ≡ Some (Entry (j + i) payload))
spells_copy r k j [] puts i h below = absurd (omega arith)
spells_copy r k j (c ∷ cells) puts zero h below =
    (c, ap r (let e : k + 0 ≡ k = omega arith in e) ∙ (h.0 ∙ ap (λ z. Some (Entry z c)) (let e : j ≡ j + 0 = omega arith in e)))
spells_copy r k j (c ∷ cells) puts (suc i) h below =
    let t = spells_copy r (suc k) (suc j) cells puts i h.1 (omega arith) in
    (t.0, ap r (let e : k + suc i ≡ suc k + i = omega arith in e) ∙ (t.1 ∙ ap (λ z. Some (Entry z t.0)) (let e : suc j + i ≡ j + suc i = omega arith in e)))

pub log_entry : (n : ℕ) (read : ℕ → Option FlashLine) (g : ℕ) (left : CellList) (end i : ℕ) → IsLog n read g left end → i < n → (payload : List ℕ) × (read (suc i) ≡ Some (Entry i payload))
log_entry n read g left end i l below =
    let t = spells_copy read 1 0 l.first l.puts i l.lines (omega (arith, l.count)) in
    (t.0, ap read (let e : suc i ≡ 1 + i = omega arith in e) ∙ (t.1 ∙ ap (λ z. Some (Entry z t.0)) (let e : 0 + i ≡ i = omega arith in e)))

-- a copy with one cell more
pub copy_snoc : (j i : ℕ) (cells : CellList) (c : List ℕ) → i < length cells → copy_lines j (take (suc i) (set cells i c)) ≡ copy_lines j (take i cells) ++ Entry (j + i) c ∷ []
copy_snoc j i [] c below = absurd (omega arith)
copy_snoc j zero (x ∷ cells) c below = ap (λ z. Entry z c ∷ []) (let e : j ≡ j + 0 = omega arith in e)
copy_snoc j (suc i) (x ∷ cells) c below =
    ap (λ (ls : List FlashLine). Entry j x ∷ ls) (copy_snoc (suc j) i cells c (omega arith) ∙ ap (λ z. copy_lines (suc j) (take i cells) ++ Entry z c ∷ []) (let e : suc j + i ≡ j + suc i = omega arith in e))
