-- What a put of a cell leaves, at its end and before.
use Rattle.std.proofs.Common.{◌≡◌, ◌≢◌, ℕ, suc, ◌+◌, ◌*◌, ◌≤◌, ◌⊎◌, inl, inr, true, Some, List, length, refl, sym, ap, subst, ◌∙◌, arith}
use Rattle.std.proofs.lemmas.Bool.{cases_order}
use Rattle.cell_store.specs.declared.copies.Side.{Side}
use Rattle.cell_store.specs.declared.copies.Side.TheVariants.{First, Second}
use Rattle.cell_store.specs.declared.copies.Held.{Held}
use Rattle.cut_disk.specs.Images.{splice}
use Rattle.cell_store.specs.Layout.{SameOutside}
use Rattle.cell_store.proofs.LayoutLaws.{part-same, part-splice, SameOutside-splice}
use Rattle.cell_store.specs.Twin.{twin_size, mark, payload, next, counts, cell_of, cell_at, live_copy}
use Rattle.cell_store.proofs.TwinLaws.{cell_of-first, cell_of-second, counts-beside_closed, counts-next}
use Rattle.cell_store.specs.Copies.{other, side_at, copy, Keeps}
use Rattle.cell_store.specs.Writing.{Unfinished}

-- the copy that counts is the cell, whichever side it is on
pub cell_at-counts : (x : List ℕ) (i : ℕ) (side : Side) → counts (copy x i side) (copy x i (other side)) ≡ true → cell_at x i ≡ Some (payload (copy x i side))
unfolding cell_at
cell_at-counts x i First h = cell_of-first _ _ h
cell_at-counts x i Second h = cell_of-second _ _ h

pub cell_at-kept : (x : List ℕ) (i : ℕ) (held : Held) → Keeps x i held → cell_at x i ≡ Some held.payload
cell_at-kept x i held k = cell_at-counts x i held.side k.counting ∙ ap Some k.bytes

-- the copies of one cell stand apart, and so do those of two cells
pub sides_apart : (i : ℕ) (side : Side) → (side_at i side + 34 ≤ side_at i (other side)) ⊎ (side_at i (other side) + 34 ≤ side_at i side)
sides_apart i First = inl (omega arith)
sides_apart i Second = inr (omega arith)

pub side_bounds : (i : ℕ) (side : Side) → (32 + 68 * i ≤ side_at i side) × (side_at i side + 34 ≤ 100 + 68 * i)
side_bounds i First = (omega arith, omega arith)
side_bounds i Second = (omega arith, omega arith)

pub cells_apart : (i j : ℕ) (side that : Side) → i ≢ j → (side_at i side + 34 ≤ side_at j that) ⊎ (side_at j that + 34 ≤ side_at i side)
cells_apart i j side that n =
    let a = side_bounds i side in
    let b = side_bounds j that in
    elim (cases_order i j) [
      | inl e ↦ absurd (n e)
      | inr order ↦ elim order [ inl l ↦ inl (omega arith) | inr l ↦ inr (omega arith) ]
    ]

module _ (x y : List ℕ) (i : ℕ) (held : Held) where
  -- the copies of other cells are as they were
  pub other_copies : SameOutside (side_at i (other held.side)) 34 x y → (j : ℕ) (side : Side) → j ≢ i → copy y j side ≡ copy x j side
  other_copies s j side n = part-same (side_at j side) 34 (side_at i (other held.side)) 34 x y s (cells_apart j i side (other held.side) n)

  pub same_copy : SameOutside (side_at i (other held.side)) 34 x y → copy y i held.side ≡ copy x i held.side
  same_copy s = part-same (side_at i held.side) 34 (side_at i (other held.side)) 34 x y s (sides_apart i held.side)

  pub cell_at-others : SameOutside (side_at i (other held.side)) 34 x y → (j : ℕ) → j ≢ i → cell_at y j ≡ cell_at x j
  unfolding cell_at
  cell_at-others s j n =
      let a : copy y j First ≡ copy x j First = other_copies s j First n in
      let b : copy y j Second ≡ copy x j Second = other_copies s j Second n in
      ap (λ c. cell_of c (copy y j Second)) a ∙ ap (cell_of (copy x j First)) b

  pub Keeps-others : SameOutside (side_at i (other held.side)) 34 x y → (j : ℕ) (h : Held) → j ≢ i → Keeps x j h → Keeps y j h
  Keeps-others s j h n k =
      let a = other_copies s j h.side n in
      let b = other_copies s j (other h.side) n in
      record {
        counting = rw (a, b) k.counting;
        bytes = rw a k.bytes;
        marked = rw a k.marked;
        spare = rw b k.spare;
      }

  -- an unfinished put leaves the old cell or the new one
  pub cell_at-unfinished : (cell : List ℕ) → Keeps x i held → Unfinished 33 (side_at i (other held.side)) (live_copy (next held.mark) cell) x y → (cell_at y i ≡ Some held.payload) ⊎ (cell_at y i ≡ Some cell)
  cell_at-unfinished cell k u =
      let a : copy y i held.side ≡ copy x i held.side = same_copy u.same in
      elim u.spare [
        | inl closed ↦ inl (old a (rw a (counts-beside_closed _ _ _ k.counting closed)))
        | inr rest ↦ elim rest [
          | inl was ↦ inl (old a (rw (a, was) k.counting))
          | inr new ↦ inr (fresh (other_other held.side) (rw new (rw (← k.marked, a) (counts-next _ _ cell k.counting))) new)
        ]
      ] where
        old : copy y i held.side ≡ copy x i held.side → counts (copy y i held.side) (copy y i (other held.side)) ≡ true → cell_at y i ≡ Some held.payload
        old a c = cell_at-counts y i held.side c ∙ ap Some (ap payload a ∙ k.bytes)

        other_other : (s : Side) → other (other s) ≡ s
        other_other First = refl
        other_other Second = refl

        fresh : other (other held.side) ≡ held.side → counts (copy y i (other held.side)) (copy y i held.side) ≡ true → copy y i (other held.side) ≡ live_copy (next held.mark) cell → cell_at y i ≡ Some cell
        fresh o c e =
            let c' : counts (copy y i (other held.side)) (copy y i (other (other held.side))) ≡ true = rw o c in
            cell_at-counts y i (other held.side) c' ∙ ap (λ b. Some (payload b)) e

pub other-other : (s : Side) → other (other s) ≡ s
other-other First = refl
other-other Second = refl

module _ (x y : List ℕ) (i : ℕ) (side : Side) (cell : List ℕ) (sized : length cell ≡ 32) (room : twin_size (i + 1) ≤ length x) (done : y ≡ splice (side_at i (other side)) (live_copy (next (mark (copy x i side))) cell) x) where
  long : length (live_copy (next (mark (copy x i side))) cell) ≡ 34
  long = ap (λ n. suc (suc n)) sized

  inside : side_at i (other side) + 34 ≤ length x
  inside = let b = side_bounds i (other side) in omega (arith, room)

  -- nothing but the copy that was put is changed
  pub SameOutside-put : SameOutside (side_at i (other side)) 34 x y
  SameOutside-put =
      let s : SameOutside (side_at i (other side)) (length (live_copy (next (mark (copy x i side))) cell)) x (splice (side_at i (other side)) (live_copy (next (mark (copy x i side))) cell) x) = SameOutside-splice _ _ x (rw long inside) in
      subst (λ (z : List ℕ). SameOutside (side_at i (other side)) 34 x z) (sym done) (subst (λ n. SameOutside (side_at i (other side)) n x (splice (side_at i (other side)) (live_copy (next (mark (copy x i side))) cell) x)) long s)

  pub copy-put : copy y i (other side) ≡ live_copy (next (mark (copy x i side))) cell
  copy-put = rw done (part-splice (side_at i (other side)) 34 _ x (sym long) (rw long inside))

  pub counts-put : counts (copy x i side) (copy x i (other side)) ≡ true → counts (copy y i (other side)) (copy y i side) ≡ true
  counts-put c =
      let same : copy y i side ≡ copy x i side = part-same (side_at i side) 34 (side_at i (other side)) 34 x y SameOutside-put (sides_apart i side) in
      rw (copy-put, same) (counts-next _ _ cell c)

  pub cell_at-put : counts (copy x i side) (copy x i (other side)) ≡ true → cell_at y i ≡ Some cell
  cell_at-put c =
      let c' : counts (copy y i (other side)) (copy y i (other (other side))) ≡ true = rw (other-other side) (counts-put c) in
      cell_at-counts y i (other side) c' ∙ ap (λ b. Some (payload b)) copy-put
