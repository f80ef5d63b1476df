-- The image of a store is the beginning of a store over a disk, and the other way round.
use Rattle.std.proofs.Common.{◌≡◌, ℕ, zero, suc, ◌+◌, ◌<◌, ◌≤◌, inl, inr, Option, Some, None, IsSome, List, [], ◌∷◌, ◌++◌, length, take, get_or, refl, sym, ap, subst, ◌∙◌, arith, length-take}
use Rattle.std.proofs.lemmas.Bool.{cases_lt, false≢true}
use Rattle.std.proofs.Math.Nat.{zero-add}
use Rattle.std.proofs.lemmas.List.{length-append, get_or_append_left}
use Rattle.std.proofs.Math.Seq.{take-append_seam, get_or-append_seam}
use Rattle.cell_store.specs.declared.kinds.Version.TheVariants.{One}
use Rattle.cell_store.specs.Layout.{part, header, twin_layout}
use Rattle.cell_store.specs.Twin.{twin_size, first_at, second_at, cell_of, cell_at}
use Rattle.cell_store.specs.Store.{Stands}
use Rattle.cell_store.proofs.CallerLemmas.{part-part, stands-held, held-stands}
use Rattle.rathonsi_c.specs.Stores.{IsWhole}

-- a part of the beginning of a list
pub front-part : (x : List ℕ) (size at n : ℕ) → at + n ≤ size → size ≤ length x → part at n (take size x) ≡ part at n x
front-part x size at n inside long = sym (part-part 0 size at n x inside (omega arith)) ∙ ap (λ m. part m n x) (zero-add at)

pub front-cell : (x : List ℕ) (n i : ℕ) → i < n → twin_size n ≤ length x → cell_at (take (twin_size n) x) i ≡ cell_at x i
unfolding cell_at
front-cell x n i below long =
    ap (λ c. cell_of c (part (second_at i) 34 (take (twin_size n) x))) (front-part x (twin_size n) (first_at i) 34 (omega arith) long)
    ∙ ap (cell_of (part (first_at i) 34 x)) (front-part x (twin_size n) (second_at i) 34 (omega arith) long)

some-cell : (o : Option (List ℕ)) (c : List ℕ) → o ≡ Some c → IsSome o
some-cell o c e = subst (λ (p : Option (List ℕ)). IsSome p) (sym e) refl

-- the beginning of a store over a disk
module _ (x : List ℕ) (cells : List (List ℕ)) (stands : Stands (twin_layout One) x cells) where
  front : List ℕ
  front = take (twin_size (length cells)) x

  pub front_cells : (i : ℕ) → i < length cells → cell_at (take (twin_size (length cells)) x) i ≡ Some (get_or cells i [])
  front_cells i below =
      let h = held-stands One x cells stands in
      front-cell x (length cells) i below h.room ∙ h.held i below

  pub front_whole : 14 ≤ length cells → length cells ≤ 270 → IsWhole (take (twin_size (length cells)) x)
  front_whole least most =
      let h = held-stands One x cells stands in
      record {
        count = length cells;
        size = record { least = least; most = most; is = (let r = h.room in omega (arith, length-take (twin_size (length cells)) x)) };
        head = front-part x (twin_size (length cells)) 0 32 (omega arith) h.room ∙ h.head;
        cells = λ i below. some-cell _ (get_or cells i []) (front_cells i below);
      }

-- what n cells hold, as a list
pub record Cells (x : List ℕ) (n : ℕ) : Type 0 where
  pub cells : List (List ℕ)
  pub count : length cells ≡ n
  pub held : (i : ℕ) → i < n → cell_at x i ≡ Some (get_or cells i [])

cell-of-some : (o : Option (List ℕ)) → IsSome o → (c : List ℕ) × (o ≡ Some c)
cell-of-some (Some c) some = (c, refl)
cell-of-some None some = absurd (false≢true some)

one_more : (x : List ℕ) (n : ℕ) (c : List ℕ) → cell_at x n ≡ Some c → Cells x n → Cells x (suc n)
one_more x n c is r = record {
  cells = r.cells ++ c ∷ [];
  count = (let e = r.count in omega (arith, length-append r.cells (c ∷ [])));
  held = λ i below. elim (cases_lt i n) [
    | inl low ↦ r.held i low ∙ ap Some (sym (get_or_append_left r.cells (c ∷ []) [] i (let e = r.count in omega arith)))
    | inr high ↦
        let e : i ≡ n = omega arith in
        ap (cell_at x) e ∙ (is ∙ ap Some (sym (ap (λ k. get_or (r.cells ++ c ∷ []) k []) (e ∙ sym r.count) ∙ get_or-append_seam r.cells c [] [])))
  ];
}

cells_of : (x : List ℕ) (n : ℕ) → ((i : ℕ) → i < n → IsSome (cell_at x i)) → Cells x n
cells_of x zero some = record { cells = []; count = refl; held = λ i below. absurd (omega arith) }
cells_of x (suc n) some =
    let (c, is) = cell-of-some (cell_at x n) (some n (omega arith)) in
    one_more x n c is (cells_of x n (λ i below. some i (omega arith)))

-- a list that begins with an image stands for its cells
pub image_stands : (image rest : List ℕ) → IsWhole image → (cells : List (List ℕ)) × (Stands (twin_layout One) (image ++ rest) cells × ((i : ℕ) → i < length cells → cell_at image i ≡ Some (get_or cells i [])))
image_stands image rest whole =
    let r = cells_of image whole.count whole.cells in
    let l : twin_size whole.count ≡ length image = sym whole.size.is in
    let e : take (twin_size whole.count) (image ++ rest) ≡ image = ap (λ n. take n (image ++ rest)) l ∙ take-append_seam image rest in
    let long : twin_size whole.count ≤ length (image ++ rest) = omega (arith, length-append image rest) in
    let same : (i : ℕ) → i < whole.count → cell_at (image ++ rest) i ≡ cell_at image i = λ i below. (sym (front-cell (image ++ rest) whole.count i below long) ∙ ap (λ (y : List ℕ). cell_at y i) e) in (
      r.cells,
      (
        stands-held One (image ++ rest) r.cells (record {
          few = record { some = (let a = whole.size.least in let c = r.count in omega arith); most = (let a = whole.size.most in let c = r.count in omega arith) };
          room = (let c = r.count in omega arith);
          head = sym (front-part (image ++ rest) (twin_size whole.count) 0 32 (omega arith) long) ∙ (ap (part 0 32) e ∙ (whole.head ∙ ap (header (twin_layout One)) (sym r.count)));
          held = λ i below. let b : i < whole.count = (let c = r.count in omega arith) in same i b ∙ r.held i b;
        }),
        λ i below. r.held i (let c = r.count in omega arith),
      ),
    )
