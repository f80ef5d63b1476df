-- What places hold for sure, and what is read of them.
use Rattle.std.proofs.Common.{◌≡◌, ◌≢◌, ℕ, zero, suc, ◌+◌, ◌≤◌, ◌⊎◌, inl, inr, true, false, Option, Some, None, List, [], ◌∷◌, ◌++◌, length, refl, sym, ap, subst, ◌∙◌, arith}
use Rattle.std.proofs.lemmas.Option.{same_Some}
use Rattle.flash_places.specs.declared.FlashLine.{FlashLine}
use Rattle.flash_places.specs.Places.{FlashPlace, blank_place, whole_place, Looks, sees, sees_nothing}
use Rattle.flash_laws.specs.Logs.{Spells}

abbrev pub contents : (ℕ → FlashPlace) → ℕ → Option FlashLine
contents u k = (u k).content

-- from place k on these lines are held for sure
abbrev pub Keeps : (ℕ → FlashPlace) → ℕ → List FlashLine → Type 0
Keeps u k [] = Unit {0}
Keeps u k (line ∷ lines) = (u k ≡ whole_place line) × Keeps u (suc k) lines

abbrev pub LooksBank : (ℕ → FlashPlace) → (ℕ → Option FlashLine) → (ℕ → FlashPlace) → Type 0
LooksBank u read v = (k : ℕ) → Looks (u k) (read k) (v k)

-- what one bank has, another has, too
abbrev pub Less : (ℕ → FlashPlace) → (ℕ → FlashPlace) → Type 0
Less u v = (k : ℕ) (line : FlashLine) → contents v k ≡ Some line → contents u k ≡ Some line

abbrev pub SamePlaces : (ℕ → FlashPlace) → (ℕ → FlashPlace) → Type 0
SamePlaces u v = (k : ℕ) → v k ≡ u k

pub content_of : (p q : FlashPlace) → p ≡ q → p.content ≡ q.content
content_of p q e = ap (λ (x : FlashPlace). x.content) e

firm_of : (p q : FlashPlace) → p ≡ q → p.firm ≡ q.firm
firm_of p q e = ap (λ (x : FlashPlace). x.firm) e

-- a read of one place
pub seen : (p : FlashPlace) (answer : Option FlashLine) (q : FlashPlace) (line : FlashLine) → Looks p answer q → answer ≡ Some line
    → (p.content ≡ Some line) × (q ≡ whole_place line)
seen p answer q line looks is = elim looks [
  | sees l held said now ↦ (let e : l ≡ line = same_Some _ _ (sym said ∙ is) in (held ∙ ap (λ x. Some x) e, now ∙ ap whole_place e))
  | sees_nothing dim said now ↦ (let e : None ≡ Some line = sym said ∙ is in absurd (cc))
]

pub held_seen : (p : FlashPlace) (answer : Option FlashLine) (q : FlashPlace) (line : FlashLine) → Looks p answer q → p ≡ whole_place line
    → (answer ≡ Some line) × (q ≡ whole_place line)
held_seen p answer q line looks is = elim looks [
  | sees l held said now ↦ (let e : l ≡ line = same_Some _ _ (sym held ∙ content_of p (whole_place line) is) in (said ∙ ap (λ x. Some x) e, now ∙ ap whole_place e))
  | sees_nothing dim said now ↦ elim dim [
    | inl b ↦ (let f : None ≡ Some line = content_of blank_place (whole_place line) (sym b ∙ is) in absurd (cc))
    | inr f ↦ (let e : true ≡ false = sym (firm_of p (whole_place line) is) ∙ f in absurd (cc))
  ]
]

pub nothing_seen : (p : FlashPlace) (answer : Option FlashLine) (q : FlashPlace) → Looks p answer q → p.content ≡ None → answer ≡ None
nothing_seen p answer q looks is = elim looks [
  | sees l held said now ↦ (let f : None ≡ Some l = sym is ∙ held in absurd (cc))
  | sees_nothing dim said now ↦ said
]

kept_content : (p : FlashPlace) (answer : Option FlashLine) (q : FlashPlace) → Looks p answer q → q.content ≡ p.content
kept_content p answer q looks = elim looks [
  | sees l held said now ↦ content_of q (whole_place l) now ∙ sym held
  | sees_nothing dim said now ↦ content_of q p now
]

pub some_or_none : (answer : Option FlashLine) → (answer ≡ None) ⊎ ((line : FlashLine) × (answer ≡ Some line))
some_or_none None = inl refl
some_or_none (Some line) = inr (line, refl)

-- ---- reads of a bank

module _ (u : ℕ → FlashPlace) (read : ℕ → Option FlashLine) (v : ℕ → FlashPlace) (looks : LooksBank u read v) where
  pub same_contents : (k : ℕ) → contents v k ≡ contents u k
  same_contents k = kept_content (u k) (read k) (v k) (looks k)

  pub looks_less : Less u v
  looks_less k line has = sym (same_contents k) ∙ has

  pub keeps_seen : (k : ℕ) (ls : List FlashLine) → Keeps u k ls → Keeps v k ls
  keeps_seen k [] held = tt
  keeps_seen k (l ∷ ls) held = ((held_seen (u k) (read k) (v k) l (looks k) held.0).1, keeps_seen (suc k) ls held.1)

  -- all that was read is firm
  pub spelled_firm : (k : ℕ) (ls : List FlashLine) → Spells read k ls → Keeps v k ls
  spelled_firm k [] said = tt
  spelled_firm k (l ∷ ls) said = ((seen (u k) (read k) (v k) l (looks k) said.0).1, spelled_firm (suc k) ls said.1)

  -- what is held for sure is the first part of what is read
  pub held_part : (k : ℕ) (ls xs : List FlashLine) → Keeps u k ls → Spells read k xs → (rest : List FlashLine) × (xs ≡ ls ++ rest)
  held_part k [] xs held said = (xs, refl)
  held_part k (l ∷ ls) [] held said =
      let s = (held_seen (u k) (read k) (v k) l (looks k) held.0).0 in
      let f : None ≡ Some l = sym said ∙ s in absurd (cc)
  held_part k (l ∷ ls) (x ∷ xs) held said =
      let s = (held_seen (u k) (read k) (v k) l (looks k) held.0).0 in
      let e : x ≡ l = same_Some _ _ (sym said.0 ∙ s) in
      let r = held_part (suc k) ls xs held.1 said.1 in
      (r.0, ap (λ z. z ∷ xs) e ∙ ap (λ zs. l ∷ zs) r.1)

  -- what is held for sure is read, and then what stands there
  pub held_spells : (k : ℕ) (ls more : List FlashLine) → Keeps u k ls → (at : ℕ) → at ≡ k + length ls → Spells read at more → Spells read k (ls ++ more)
  held_spells k [] more held at e said = subst (λ j. Spells read j more) (let f : at ≡ k = omega arith in f) said
  held_spells k (l ∷ ls) more held at e said =
      ((held_seen (u k) (read k) (v k) l (looks k) held.0).0, held_spells (suc k) ls more held.1 at (omega arith) said)

-- ---- lists that are read

pub spells_behind : (r : ℕ → Option FlashLine) (k : ℕ) (xs ys : List FlashLine) → Spells r k (xs ++ ys) → (at : ℕ) → at ≡ k + length xs → Spells r at ys
spells_behind r k [] ys said at e = subst (λ j. Spells r j ys) (let f : k ≡ at = omega arith in f) said
spells_behind r k (x ∷ xs) ys said at e = spells_behind r (suc k) xs ys said.1 at (omega arith)

pub spells_once : (r : ℕ → Option FlashLine) (k : ℕ) (xs ys : List FlashLine) → Spells r k xs → Spells r k ys → xs ≡ ys
spells_once r k [] [] p q = refl
spells_once r k [] (y ∷ ys) p q = (let f : None ≡ Some y = sym p ∙ q.0 in absurd (cc))
spells_once r k (x ∷ xs) [] p q = (let f : None ≡ Some x = sym q ∙ p.0 in absurd (cc))
spells_once r k (x ∷ xs) (y ∷ ys) p q =
    let e : x ≡ y = same_Some _ _ (sym p.0 ∙ q.0) in
    ap (λ z. z ∷ xs) e ∙ ap (λ zs. y ∷ zs) (spells_once r (suc k) xs ys p.1 q.1)

-- something is read, if nothing is read so many places further
pub something_spelled : (r : ℕ → Option FlashLine) (fuel k : ℕ) → r (k + fuel) ≡ None → (xs : List FlashLine) × Spells r k xs
something_spelled r zero k none = ([], ap r (let e : k ≡ k + 0 = omega arith in e) ∙ none)
something_spelled r (suc fuel) k none = elim (some_or_none (r k)) [
  | inl here ↦ ([], here)
  | inr line ↦ (let t = something_spelled r fuel (suc k) (ap r (let e : suc k + fuel ≡ k + suc fuel = omega arith in e) ∙ none) in
      (line.0 ∷ t.0, (line.1, t.1)))
]

-- ---- places that are kept

pub keeps_same : (u v : ℕ → FlashPlace) → SamePlaces u v → (k : ℕ) (ls : List FlashLine) → Keeps u k ls → Keeps v k ls
keeps_same u v same k [] held = tt
keeps_same u v same k (l ∷ ls) held = (same k ∙ held.0, keeps_same u v same (suc k) ls held.1)

-- another place is changed, at or after the end
pub keeps_before : (u v : ℕ → FlashPlace) (at : ℕ) → ((k : ℕ) → k ≢ at → v k ≡ u k) → (k : ℕ) (ls : List FlashLine)
    → k + length ls ≤ at → Keeps u k ls → Keeps v k ls
keeps_before u v at rest k [] far held = tt
keeps_before u v at rest k (l ∷ ls) far held =
    (rest k (λ e. omega arith) ∙ held.0, keeps_before u v at rest (suc k) ls (omega arith) held.1)

pub keeps_append : (u : ℕ → FlashPlace) (k : ℕ) (ls : List FlashLine) (l : FlashLine) → Keeps u k ls → (at : ℕ) → at ≡ k + length ls
    → u at ≡ whole_place l → Keeps u k (ls ++ l ∷ [])
keeps_append u k [] l held at e is = (subst (λ j. u j ≡ whole_place l) (let f : at ≡ k = omega arith in f) is, tt)
keeps_append u k (x ∷ ls) l held at e is = (held.0, keeps_append u (suc k) ls l held.1 at (omega arith) is)
