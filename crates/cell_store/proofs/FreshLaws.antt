-- A fresh store stands for its cells.
use Rattle.std.proofs.Common.{◌≡◌, ℕ, suc, zero, ◌+◌, ◌*◌, ◌<◌, ◌≤◌, inr, Some, List, [], ◌∷◌, ◌++◌, length, take, drop, get_or, refl, sym, ap, subst, ◌∙◌, arith, length-append, length-drop}
use Rattle.std.specs.List.{flat_map}
use Rattle.std.proofs.lemmas.List.{append_assoc, take_at, drop_at, take-append-le, drop-append-le, take-take, drop-drop, drop-take}
use Rattle.cut_disk.specs.Images.{splice}
use Rattle.cut_disk.proofs.CallerLemmas.{length-splice}
use Rattle.cell_store.specs.declared.kinds.Kind.TheVariants.{Twin}
use Rattle.cell_store.specs.declared.kinds.Version.{Version}
use Rattle.cell_store.specs.Layout.{part, base, from_base, header, twin_layout}
use Rattle.cell_store.specs.Twin.{first_at, cell_of, cell_at, live_copy, fresh_cell}
use Rattle.cell_store.specs.Store.{FewCells, HoldsCells, Stands, store_size, fresh_cells, fresh_store, Fresh}
use Rattle.cell_store.proofs.LayoutLaws.{splice-at_base}
use Rattle.cell_store.proofs.TwinLaws.{counts-from, cell_of-first, is_live-live_copy}
use Rattle.cell_store.proofs.StoreLaws.{length-header}

-- each piece of xs has this width
abbrev pub Wide : {X : Type 0} → (X → List ℕ) → ℕ → X → List X → Type 0
Wide f w d xs = (i : ℕ) → i < length xs → length (f (get_or xs i d)) ≡ w

-- pieces of one width, joined: their length, and the piece at a place
pub length_pieces : {X : Type 0} → (f : X → List ℕ) (w : ℕ) (d : X) (xs : List X) → Wide f w d xs → length (flat_map f xs) ≡ w * length xs
length_pieces f w d [] wide = omega arith
length_pieces f w d (x ∷ xs) wide =
    let rest = length_pieces f w d xs (λ i below. wide (suc i) (omega arith)) in
    let first = wide 0 (omega arith) in
    length-append (f x) (flat_map f xs) ∙ omega arith

pub piece_at : {X : Type 0} → (f : X → List ℕ) (w : ℕ) (d : X) (xs : List X) (i : ℕ) → Wide f w d xs → i < length xs → take w (drop (w * i) (flat_map f xs)) ≡ f (get_or xs i d)
piece_at f w d [] i wide below = absurd (omega arith)
piece_at f w d (x ∷ xs) zero wide below =
    let none : w * 0 ≡ 0 = omega arith in
    rw none (take_at (f x) (flat_map f xs) w (wide 0 below))
piece_at f w d (x ∷ xs) (suc i) wide below =
    let more : w * suc i ≡ w + w * i = omega arith in
    let first : length (f x) ≡ w = wide 0 (omega arith) in
    let past : drop (w + w * i) (f x ++ flat_map f xs) ≡ drop (w * i) (flat_map f xs) = sym (drop-drop (w * i) w (f x ++ flat_map f xs)) ∙ ap (drop (w * i)) (drop_at (f x) (flat_map f xs) w first) in
    rw (more, past) (piece_at f w d xs i (λ j l. wide (suc j) (omega arith)) (omega arith))

-- each cell has 32 bytes
abbrev pub Sized : List (List ℕ) → Type 0
Sized cells = (i : ℕ) → i < length cells → length (get_or cells i []) ≡ 32

pub length-live_copy : (m : ℕ) (cell : List ℕ) → length cell ≡ 32 → length (live_copy m cell) ≡ 34
length-live_copy m cell sized = ap (λ n. suc (suc n)) sized

pub length-fresh_cell : (cell : List ℕ) → length cell ≡ 32 → length (fresh_cell cell) ≡ 68
length-fresh_cell cell sized =
    length-append (live_copy 0 cell) (live_copy 2 cell) ∙ omega (arith, length-live_copy 0 cell sized, length-live_copy 2 cell sized)

wide_pairs : (cells : List (List ℕ)) → Sized cells → Wide fresh_cell 68 [] cells
wide_pairs cells sized i below = length-fresh_cell (get_or cells i []) (sized i below)

-- the copies of all cells take 68 bytes a cell
pub length-pairs : (cells : List (List ℕ)) → Sized cells → length (flat_map fresh_cell cells) ≡ 68 * length cells
length-pairs cells sized = length_pieces fresh_cell 68 [] cells (wide_pairs cells sized)

-- the copies of one cell among those of all
pub pair-pairs : (cells : List (List ℕ)) (i : ℕ) → Sized cells → i < length cells → part (68 * i) 68 (flat_map fresh_cell cells) ≡ fresh_cell (get_or cells i [])
pair-pairs cells i sized below = piece_at fresh_cell 68 [] cells i (wide_pairs cells sized) below

-- they hold the cell
pub cell_of-fresh : (cell : List ℕ) → cell_of (live_copy 0 cell) (live_copy 2 cell) ≡ Some cell
cell_of-fresh cell =
    cell_of-first (live_copy 0 cell) (live_copy 2 cell) (counts-from (live_copy 0 cell) (live_copy 2 cell) (record {
      live = is_live-live_copy 0 cell;
      small = omega arith;
      after = inr (omega arith, refl);
    }))

-- the two halves of a part of 68 bytes
halves : (at : ℕ) (x a b : List ℕ) → length a ≡ 34 → length b ≡ 34 → take 68 (drop at x) ≡ a ++ b → (take 34 (drop at x) ≡ a) × (take 34 (drop (at + 34) x) ≡ b)
halves at x a b first second both = (front, back)
  where
    front : take 34 (drop at x) ≡ a
    front = sym (take-take 34 68 (drop at x) (omega arith)) ∙ ap (take 34) both ∙ take_at a b 34 first

    back : take 34 (drop (at + 34) x) ≡ b
    back =
        ap (take 34) (sym (drop-drop 34 at x))
        ∙ sym (drop-take 34 34 (drop at x))
        ∙ ap (drop 34) both
        ∙ drop_at a b 34 first

-- bytes that hold the two copies of a fresh cell hold the cell
pub cell_at-fresh : (x : List ℕ) (i : ℕ) (cell : List ℕ) → length cell ≡ 32 → part (first_at i) 68 x ≡ fresh_cell cell → cell_at x i ≡ Some cell
unfolding cell_at
cell_at-fresh x i cell sized pair =
    let two = halves (32 + 68 * i) x (live_copy 0 cell) (live_copy 2 cell) (length-live_copy 0 cell sized) (length-live_copy 2 cell sized) pair in
    let at : 66 + 68 * i ≡ 32 + 68 * i + 34 = omega arith in
    rw (two.0, at, two.1) (cell_of-fresh cell)

-- a part of what stands after a header
pub behind_head : (h p r : List ℕ) (w k n : ℕ) → length h ≡ w → k + n ≤ length p → take n (drop (w + k) (h ++ p ++ r)) ≡ take n (drop k p)
behind_head h p r w k n head within =
    let split : drop (w + k) (h ++ p ++ r) ≡ drop k p ++ r =
    ap (drop (w + k)) (append_assoc h p r)
    ∙ sym (drop-drop k w (h ++ (p ++ r)))
    ∙ ap (drop k) (drop_at h (p ++ r) w head)
    ∙ drop-append-le k p r (omega arith)
    in
    rw split (take-append-le n (drop k p) r (omega (arith, length-drop k p)))

pub at_head : (h p r : List ℕ) (w : ℕ) → length h ≡ w → take w (h ++ p ++ r) ≡ h
at_head h p r w head = ap (take w) (append_assoc h p r) ∙ take_at h (p ++ r) w head

-- what stands after the header has the rest of the store's size
pub length-fresh_cells : (cells : List (List ℕ)) → Sized cells → length (fresh_cells Twin cells) ≡ 68 * length cells
unfolding fresh_cells
length-fresh_cells cells sized = length-pairs cells sized

fresh_holds : (cells : List (List ℕ)) (h r : List ℕ) → Sized cells → length h ≡ 32 → HoldsCells Twin (h ++ fresh_cells Twin cells ++ r) cells
unfolding HoldsCells fresh_cells
fresh_holds cells h r sized head i below =
    cell_at-fresh (h ++ flat_map fresh_cell cells ++ r) i (get_or cells i []) (sized i below)
    (behind_head h (flat_map fresh_cell cells) r 32 (68 * i) 68 head (omega (arith, length-pairs cells sized)) ∙ pair-pairs cells i sized below)

-- the bytes of a fresh twin store hold the cells
pub fresh_twin_stands : (version : Version) (cells : List (List ℕ)) (x : List ℕ) → FewCells (length cells) → store_size (twin_layout version) (length cells) ≤ length x → Sized cells
    → Stands (twin_layout version) (splice (base version) (fresh_store (twin_layout version) cells) x) cells
fresh_twin_stands version cells x few room sized =
    let h = header (twin_layout version) (length cells) in
    let f = fresh_cells Twin cells in
    let r = drop (base version + length (h ++ f)) x in
    let head : length (header (twin_layout version) (length cells)) ≡ 32 = length-header (twin_layout version) (length cells) in
    let wide : length (fresh_cells Twin cells) ≡ 68 * length cells = length-fresh_cells cells sized in
    let long = length-append h f in
    let from : from_base version (splice (base version) (h ++ f) x) ≡ h ++ f ++ r = splice-at_base (base version) (h ++ f) x (omega arith) in
    record {
      few = few;
      room = (let l = length-splice (base version) (h ++ f) x (omega (arith, long, head, wide)) in omega arith);
      head = ap (take 32) from ∙ at_head h f r 32 head;
      holds = subst (λ (s : List ℕ). HoldsCells Twin s cells) (sym from) (fresh_holds cells h r sized head);
    }

pub twin_stands-fresh : (version : Version) (cells : List (List ℕ)) (x y : List ℕ) → FewCells (length cells) → store_size (twin_layout version) (length cells) ≤ length x → Sized cells → Fresh (twin_layout version) cells x y → Stands (twin_layout version) y cells
unfolding Fresh
twin_stands-fresh version cells x y few room sized fresh = subst (λ (z : List ℕ). Stands (twin_layout version) z cells) (sym fresh) (fresh_twin_stands version cells x few room sized)
