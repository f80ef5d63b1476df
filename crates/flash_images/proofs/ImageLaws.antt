-- The cells of an image, one after the other.
use Rattle.std.proofs.Common.{◌≡◌, ◌≢◌, ℕ, ◌+◌, ◌<◌, ◌≤◌, inl, inr, Some, List, [], ◌++◌, length, take, set, get_or, replicate, sym, ap, subst, ◌∙◌, arith}
use Rattle.std.proofs.lemmas.Bool.{cases_eq}
use Rattle.std.proofs.lemmas.List.{length-replicate, get_or-set_same, get_or-set_other}
use Rattle.std.proofs.Math.Seq.{take-append_seam}
use Rattle.cell_store.specs.declared.kinds.Kind.TheVariants.{Twin}
use Rattle.cut_disk.specs.Images.{splice}
use Rattle.cell_store.specs.declared.kinds.Version.TheVariants.{One}
use Rattle.cell_store.specs.Layout.{SameOutside, part, header, twin_layout}
use Rattle.cell_store.specs.Twin.{twin_size, first_at, cell_at, fresh_cell}
use Rattle.cell_store.specs.Store.{HasHeader, fresh_cells, fresh_store}
use Rattle.cell_store.proofs.CallerLemmas.{part-same, SameOutside-splice, length-header, length-fresh_cell}

-- so many of the cells are these
abbrev pub HoldsFirst : List ℕ → List (List ℕ) → ℕ → Type 0
HoldsFirst image cells count = (i : ℕ) → i < count → cell_at image i ≡ Some (get_or cells i [])

-- a cell more
pub one_more_held : (x y : List ℕ) (cells : List (List ℕ)) (n : ℕ) → HoldsFirst x cells n → cell_at y n ≡ Some (get_or cells n [])
    → ((other : ℕ) → other ≢ n → cell_at y other ≡ cell_at x other) → HoldsFirst y cells (n + 1)
one_more_held x y cells n first here others i below = elim (cases_eq i n) [
  | inl e ↦ subst (λ k. cell_at y k ≡ Some (get_or cells k [])) (sym e) here
  | inr ne ↦ others i ne ∙ first i (omega (arith, ne))
]

-- a cell that is made leaves the header and the length
module _ (x : List ℕ) (n i : ℕ) (c : List ℕ) (sized : length c ≡ 32) (room : twin_size (i + 1) ≤ length x) where
  wide : length (fresh_cell c) ≡ 68
  wide = length-fresh_cell c sized

  pub made_head : HasHeader (twin_layout One) n x → HasHeader (twin_layout One) n (splice (first_at i) (fresh_cell c) x)
  made_head head =
      part-same 0 32 (first_at i) 68 x (splice (first_at i) (fresh_cell c) x)
      (subst (λ k. SameOutside (first_at i) k x (splice (first_at i) (fresh_cell c) x)) wide (SameOutside-splice (first_at i) (fresh_cell c) x (let w = wide in omega arith)))
      (inl (omega arith)) ∙ head

-- a fresh store has its header
pub fresh_head : (n : ℕ) (z x : List ℕ) → x ≡ fresh_store (twin_layout One) (replicate n z) → HasHeader (twin_layout One) n x
fresh_head n z x is =
    let h : List ℕ = header (twin_layout One) (length (replicate n z)) in
    let p : List ℕ = fresh_cells Twin (replicate n z) in
    ap (part 0 32) is
    ∙ (ap (λ k. take k (h ++ p)) (sym (length-header (twin_layout One) (length (replicate n z))))
    ∙ (take-append_seam h p ∙ ap (header (twin_layout One)) (length-replicate n z)))

-- a cell that was read
pub read_more : (x : List ℕ) (cells : List (List ℕ)) (n : ℕ) (c : List ℕ) → n < length cells → HoldsFirst x cells n → cell_at x n ≡ Some c
    → HoldsFirst x (set cells n c) (n + 1)
read_more x cells n c inside first is i below = elim (cases_eq i n) [
  | inl e ↦ subst (λ k. cell_at x k ≡ Some (get_or (set cells n c) k [])) (sym e) (is ∙ ap Some (sym (get_or-set_same cells n c [] inside)))
  | inr ne ↦ first i (omega (arith, ne)) ∙ ap Some (sym (get_or-set_other cells n i c [] ne))
]
