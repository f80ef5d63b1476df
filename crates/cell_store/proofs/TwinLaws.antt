-- What it says that a copy counts, and what a cell then is.
use Rattle.std.proofs.Common.{◌≡◌, ℕ, ◌+◌, ◌%◌, ◌<◌, ◌⊎◌, inl, inr, true, false, not, ◌&&◌, ◌||◌, ltb, eqb, Some, List, refl, sym, ◌∙◌, arith}
use Rattle.std.proofs.lemmas.Bool.{false≢true, ltb-true, eqb-true, lt-ltb, eq-eqb, and_parts, and_from, or_cases, or_left, or_right, not-true, not_from_false, false_from_ne_true, cond-true, cond-false}
use Rattle.cell_store.specs.Twin.{is_live, mark, payload, next, counts, cell_of, live_copy}

-- the copy counts beside that one, in three parts
pub record Counting (this that : List ℕ) : Type 0 where
  pub live : is_live this ≡ true
  pub small : mark this < 3
  pub after : (is_live that ≡ false) ⊎ ((mark that < 3) × (mark this ≡ next (mark that)))

pub counting : (this that : List ℕ) → counts this that ≡ true → Counting this that
unfolding counts
counting this that h =
    let outer = and_parts (is_live this && ltb (mark this) 3) (not (is_live that) || (ltb (mark that) 3 && eqb (mark this) (next (mark that)))) h in
    let inner = and_parts (is_live this) (ltb (mark this) 3) outer.0 in
    record {
      live = inner.0;
      small = ltb-true _ _ inner.1;
      after = elim (or_cases (not (is_live that)) (ltb (mark that) 3 && eqb (mark this) (next (mark that))) outer.1) [
        | inl n ↦ inl (not-true _ n)
        | inr b ↦ inr (let p = and_parts (ltb (mark that) 3) (eqb (mark this) (next (mark that))) b in (ltb-true _ _ p.0, eqb-true _ _ p.1))
      ];
    }

pub counts-from : (this that : List ℕ) → Counting this that → counts this that ≡ true
unfolding counts
counts-from this that c =
    and_from (is_live this && ltb (mark this) 3) (not (is_live that) || (ltb (mark that) 3 && eqb (mark this) (next (mark that))))
    (and_from (is_live this) (ltb (mark this) 3) c.live (lt-ltb _ _ c.small))
    (elim c.after [
      | inl n ↦ or_left (not (is_live that)) _ (not_from_false _ n)
      | inr p ↦ or_right _ (ltb (mark that) 3 && eqb (mark this) (next (mark that))) (and_from _ _ (lt-ltb _ _ p.0) (eq-eqb _ _ p.1))
    ])

-- of two copies at most one counts
pub counts-once : (this that : List ℕ) → counts this that ≡ true → counts that this ≡ false
counts-once this that h = false_from_ne_true _ (λ g. both (counting this that h) (counting that this g)) where
  both : Counting this that → Counting that this → ⊥
  both a b =
      elim a.after [
        | inl n ↦ false≢true (sym n ∙ b.live)
        | inr p ↦ elim b.after [
          | inl n ↦ false≢true (sym n ∙ a.live)
          | inr q ↦ let e : mark this ≡ (mark that + 1) % 3 = p.1 in let f : mark that ≡ (mark this + 1) % 3 = q.1 in absurd (omega arith)
        ]
      ]

-- a copy that counts is the cell, on whichever side it stands
pub cell_of-first : (this that : List ℕ) → counts this that ≡ true → cell_of this that ≡ Some (payload this)
unfolding cell_of
cell_of-first this that h = cond-true _ _ _ h

pub cell_of-second : (this that : List ℕ) → counts this that ≡ true → cell_of that this ≡ Some (payload this)
unfolding cell_of
cell_of-second this that h = cond-false _ _ _ (counts-once this that h) ∙ cond-true _ _ _ h

-- beside a closed copy, a copy that counted counts
pub counts-beside_closed : (this that was : List ℕ) → counts this was ≡ true → is_live that ≡ false → counts this that ≡ true
counts-beside_closed this that was h n =
    let c = counting this was h in
    counts-from this that (record { live = c.live; small = c.small; after = inl n })

-- a live copy with the next mark counts beside one that counted
pub counts-next : (this was cell : List ℕ) → counts this was ≡ true → counts (live_copy (next (mark this)) cell) this ≡ true
unfolding is_live
counts-next this was cell h =
    let c = counting this was h in
    counts-from (live_copy (next (mark this)) cell) this (record { live = refl; small = (let s : (mark this + 1) % 3 < 3 = omega arith in s); after = inr (c.small, refl) })

pub is_live-live_copy : (m : ℕ) (cell : List ℕ) → is_live (live_copy m cell) ≡ true
unfolding is_live
is_live-live_copy m cell = refl
