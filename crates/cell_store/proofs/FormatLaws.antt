-- Laws of the writes of a fresh store, one after another.
use Rattle.std.proofs.Common.{inl, inr, ◌≡◌, ℕ, true, subst, ◌+◌, ◌*◌, ◌<◌, ◌≤◌, Option, Some, None, List, [], ◌∷◌, ◌++◌, length, take, get_or, replicate, refl, sym, ap, ◌∙◌, arith}
use Rattle.std.specs.List.{flat_map}
use Rattle.std.proofs.lemmas.List.{append-nil, take_more, take_all, length-take-le, get_or-take}
use Rattle.std.proofs.lemmas.List.Concat.{flat_map-append}
use Rattle.std.proofs.lemmas.Option.{same_Some}
use Rattle.cut_disk.specs.State.{Told, DiskState}
use Rattle.cut_disk.specs.Images.{splice, firm, WritesLoose, Syncs, Tears}
use Rattle.cut_disk.proofs.CallerLemmas.{splice-beside, splice-apart, splice-splice, length-splice}
use Rattle.cut_disk.specs.Calls.{Call, Runs}
use Rattle.cut_disk.proofs.CallerLemmas.{runs_none, runs_then}
use Rattle.cut_disk.specs.Lasting.{Lasts}
use Rattle.cell_store.specs.declared.kinds.Kind.TheVariants.{Twin}
use Rattle.cell_store.specs.declared.kinds.Version.{Version}
use Rattle.cell_store.specs.declared.kinds.Layout.{Layout}
use Rattle.cell_store.specs.Layout.{header, part, SameOutside, base, twin_layout}
use Rattle.cell_store.specs.Twin.{first_at, fresh_cell}
use Rattle.cell_store.specs.Store.{Stands, Fresh, fresh_cells, fresh_store, store_size, size_from_base}
use Rattle.cell_store.specs.Writing.{LeavesOutside}
use Rattle.cell_store.specs.Formats.{FirmCells, Formats, LeavesUnformed, Pairs, FirmPairs}
use Rattle.cell_store.proofs.LayoutLaws.{SameOutside-splice, SameOutside-after, SameOutside-widen, part-same, part-splice, part-drop}
use Rattle.cell_store.proofs.WritingLaws.{torn-outside}
use Rattle.cell_store.proofs.Slices.{splice-none}
use Rattle.cell_store.proofs.StoreLaws.{length-header}
use Rattle.cell_store.proofs.FreshLaws.{Sized, length-fresh_cell, length-pairs}

-- so many of the cells are written, in as many calls
pub record PairsSoFar (version : Version) (cells : List (List ℕ)) (count : ℕ) (start now : DiskState) : Type 0 where
  pub runs : Runs [] count start now
  pub pairs : Pairs version (take count cells) start.told now.told

-- no cell is written
pub pairs_none : (version : Version) (cells : List (List ℕ)) (s : DiskState) → PairsSoFar version cells 0 s s
pairs_none version cells s = record {
  runs = runs_none s;
  pairs = λ t is. record { loose = t.loose; told = is ∙ ap (λ bytes. Some (record { bytes = bytes; loose = t.loose })) (sym (splice-none (base version + 32) t.bytes)) };
}

pub sized_front : (cells : List (List ℕ)) (i : ℕ) → Sized cells → i ≤ length cells → Sized (take i cells)
sized_front cells i sized le j below =
    let front = length-take-le i cells le in
    ap length (get_or-take i cells j [] (omega arith)) ∙ sized j (omega arith)

pub length_front_pairs : (cells : List (List ℕ)) (i : ℕ) → Sized cells → i ≤ length cells → length (flat_map fresh_cell (take i cells)) ≡ 68 * i
length_front_pairs cells i sized le =
    length-pairs (take i cells) (sized_front cells i sized le) ∙ ap (λ n. 68 * n) (length-take-le i cells le)

pairs_of_one : (cell : List ℕ) → flat_map fresh_cell (cell ∷ []) ≡ fresh_cell cell
pairs_of_one cell = append-nil (fresh_cell cell)

pub front_more : (cells : List (List ℕ)) (i : ℕ) → i < length cells → flat_map fresh_cell (take i cells) ++ fresh_cell (get_or cells i []) ≡ flat_map fresh_cell (take (i + 1) cells)
front_more cells i below =
    ap (λ one. flat_map fresh_cell (take i cells) ++ one) (sym (pairs_of_one (get_or cells i [])))
    ∙ sym (flat_map-append fresh_cell (take i cells) (get_or cells i [] ∷ []))
    ∙ ap (flat_map fresh_cell) (sym (take_more cells i [] below))

-- one more cell is written after them
pub splice_more : (b : ℕ) (cells : List (List ℕ)) (i : ℕ) (x : List ℕ) → Sized cells → i < length cells → b + 68 * length cells ≤ length x
    → splice (b + 68 * i) (fresh_cell (get_or cells i [])) (splice b (flat_map fresh_cell (take i cells)) x) ≡ splice b (flat_map fresh_cell (take (i + 1) cells)) x
splice_more b cells i x sized below room =
    let front = length_front_pairs cells i sized (omega arith) in
    let one = length-fresh_cell (get_or cells i []) (sized i below) in
    ap (λ n. splice (b + n) (fresh_cell (get_or cells i [])) (splice b (flat_map fresh_cell (take i cells)) x)) (sym front)
    ∙ splice-beside b (flat_map fresh_cell (take i cells)) (fresh_cell (get_or cells i [])) x (omega (arith, front, one))
    ∙ ap (λ pairs. splice b pairs x) (front_more cells i below)

pub writes_same : (at new_at : ℕ) (bytes new_bytes : List ℕ) (old new : Option Told) → at ≡ new_at → bytes ≡ new_bytes → WritesLoose at bytes old new → WritesLoose new_at new_bytes old new
writes_same at new_at bytes new_bytes old new same_at same_bytes written = rw (← same_at, ← same_bytes) written

pub lasts_same : (at : ℕ) (bytes new_bytes : List ℕ) (old new : Option Told) → bytes ≡ new_bytes → Lasts at bytes old new → Lasts at new_bytes old new
lasts_same at bytes new_bytes old new same lasts = rw (← same) lasts

pub pairs_more : (version : Version) (cells : List (List ℕ)) (i address : ℕ) {start mid new : DiskState} → address ≡ base version + first_at i → Sized cells → i < length cells
    → ((t : Told) → start.told ≡ Some t → store_size (twin_layout version) (length cells) ≤ length t.bytes)
    → PairsSoFar version cells i start mid → Call None mid new → WritesLoose address (fresh_cell (get_or cells i [])) mid.told new.told → PairsSoFar version cells (i + 1) start new
pairs_more version cells i address place sized below room before call written = record {
  runs = runs_then before.runs call;
  pairs = λ t is.
      let was = before.pairs t is in
      let at : address ≡ base version + 32 + 68 * i = omega (arith, place) in
      record {
        loose = splice address (replicate (length (fresh_cell (get_or cells i []))) true) was.loose;
        told = written (record { bytes = splice (base version + 32) (flat_map fresh_cell (take i cells)) t.bytes; loose = was.loose }) was.told
            ∙ ap (λ bytes. Some (record { bytes = bytes; loose = splice address (replicate (length (fresh_cell (get_or cells i []))) true) was.loose }))
            (ap (λ a. splice a (fresh_cell (get_or cells i [])) (splice (base version + 32) (flat_map fresh_cell (take i cells)) t.bytes)) at ∙ splice_more (base version + 32) cells i t.bytes sized below (let r = room t is in omega arith));
      };
}

-- all cells are written
pub pairs_all : (version : Version) (cells : List (List ℕ)) (n : ℕ) (start now : DiskState) → length cells ≤ n → PairsSoFar version cells n start now → Pairs version cells start.told now.told
pairs_all version cells n start now all so_far = subst (λ front. Pairs version front start.told now.told) (take_all n cells all) so_far.pairs

-- and then synced
pub pairs_synced : (version : Version) (cells : List (List ℕ)) (old mid new : Option Told) → Pairs version cells old mid → Syncs mid new → FirmPairs version cells old new
pairs_synced version cells old mid new pairs synced t is = let was = pairs t is in synced (record { bytes = splice (base version + 32) (flat_map fresh_cell cells) t.bytes; loose = was.loose }) was.told

-- The stages of a format, whatever the store has after its header: a blank header, the cells after it, the header.

-- a header, a blank before it and the rest between them are written one over the other
over_blank : (b : ℕ) (h z p x : List ℕ) → length h ≡ 32 → length z ≡ 32 → b + 32 + length p ≤ length x → splice b h (splice (b + 32) p (splice b z x)) ≡ splice b (h ++ p) x
over_blank b h z p x head blank inside =
    let apart : splice (b + 32) p (splice b z x) ≡ splice b z (splice (b + 32) p x) = splice-apart b z (b + 32) p x (omega (arith, blank)) inside in
    let whole = length-splice (b + 32) p x inside in
    ap (splice b h) apart
    ∙ splice-splice b h z (splice (b + 32) p x) (omega (arith, whole, blank)) (head ∙ sym blank)
    ∙ sym (splice-apart b h (b + 32) p x (omega (arith, head)) inside)
    ∙ (let behind : b + 32 ≡ b + length h = omega (arith, head) in ap (λ n. splice n p (splice b h x)) behind)
    ∙ splice-beside b h p x (omega (arith, head))

module _ (layout : Layout) (cells : List (List ℕ)) (rest : ℕ) (wide : length (fresh_cells layout.kind cells) ≡ rest) (size : size_from_base layout.kind (length cells) ≡ 32 + rest) where
  one : length (header layout (length cells)) ≡ 32
  one = length-header layout (length cells)

  pub fresh-splice : (x : List ℕ) → store_size layout (length cells) ≤ length x → splice (base layout.version) (header layout (length cells)) (splice (base layout.version + 32) (fresh_cells layout.kind cells) (splice (base layout.version) (replicate 32 0) x)) ≡ splice (base layout.version) (fresh_store layout cells) x
  fresh-splice x room = over_blank (base layout.version) (header layout (length cells)) (replicate 32 0) (fresh_cells layout.kind cells) x one refl (omega (arith, wide, size))

  module _ (a b c d : Option Told) (room : (t : Told) → a ≡ Some t → store_size layout (length cells) ≤ length t.bytes) where
    -- the header is being blanked
    pub unformed-blank : Tears (base layout.version) 32 a b → LeavesUnformed layout cells a b
    unformed-blank torn bytes was t told x image =
        let s : SameOutside (base layout.version) 32 bytes x = torn-outside (base layout.version) 32 a b (λ u is. let r = room u is in omega (arith, size)) torn bytes was t told x image in
        record { besides = SameOutside-widen (base layout.version) 32 (base layout.version) (size_from_base layout.kind (length cells)) bytes x (omega arith) (omega (arith, size)) s; within = inl s }

    -- the rest is being written behind it
    pub unformed-cells : Lasts (base layout.version) (replicate 32 0) a b → LeavesOutside (base layout.version + 32) rest b c → LeavesUnformed layout cells a c
    unformed-cells blanks leaves bytes was t told x image =
        let r = room (firm bytes) was in
        let b1 = splice (base layout.version) (replicate 32 0) bytes in
        let z : SameOutside (base layout.version) 32 bytes b1 = SameOutside-splice (base layout.version) (replicate 32 0) bytes (omega (arith, size)) in
        let s : SameOutside (base layout.version + 32) rest b1 x = leaves b1 (blanks (firm bytes) was) t told x image in
        let l1 : length b1 ≡ length bytes = z.lengths in
        let l2 : length x ≡ length b1 = s.lengths in
        record {
          besides = SameOutside-after (base layout.version) (size_from_base layout.kind (length cells)) bytes b1 x
              (SameOutside-widen (base layout.version) 32 (base layout.version) (size_from_base layout.kind (length cells)) bytes b1 (omega arith) (omega (arith, size)) z)
              (SameOutside-widen (base layout.version + 32) rest (base layout.version) (size_from_base layout.kind (length cells)) b1 x (omega arith) (omega (arith, size)) s);
          within = inr (inl (
              part-drop (base layout.version) 0 32 x (omega (arith, size, l1, l2))
              ∙ (let e : base layout.version + 0 ≡ base layout.version = omega arith in ap (λ k. part k 32 x) e)
              ∙ part-same (base layout.version) 32 (base layout.version + 32) rest b1 x s (inl (omega arith))
              ∙ part-splice (base layout.version) 32 (replicate 32 0) bytes refl (omega (arith, size))));
        }

    same-front : (x y z : List ℕ) → SameOutside (base layout.version) 32 x y → SameOutside (base layout.version) 32 x z → SameOutside (base layout.version) 32 y z
    same-front x y z s t = record { lengths = t.lengths ∙ sym s.lengths; below = λ k l. t.below k l ∙ sym (s.below k l); above = λ k l. t.above k l ∙ sym (s.above k l) }

    -- the header is being written
    pub unformed-header : Lasts (base layout.version) (replicate 32 0) a b → FirmCells layout cells b c → Tears (base layout.version) 32 c d → LeavesUnformed layout cells a d
    unfolding Fresh
    unformed-header blanks between torn bytes was t told x image =
        let r = room (firm bytes) was in
        let p = fresh_cells layout.kind cells in
        let b1 = splice (base layout.version) (replicate 32 0) bytes in
        let b2 = splice (base layout.version + 32) p b1 in
        let z : SameOutside (base layout.version) 32 bytes b1 = SameOutside-splice (base layout.version) (replicate 32 0) bytes (omega (arith, size)) in
        let l1 : length b1 ≡ length bytes = z.lengths in
        let w : SameOutside (base layout.version + 32) (length p) b1 b2 = SameOutside-splice (base layout.version + 32) p b1 (omega (arith, wide, size, l1)) in
        let l2 : length b2 ≡ length b1 = w.lengths in
        let ct : c ≡ Some (firm b2) = between (firm b1) (blanks (firm bytes) was) in
        let s : SameOutside (base layout.version) 32 b2 x = torn-outside (base layout.version) 32 c d (λ u is. let e : u ≡ firm b2 = same_Some _ _ (sym is ∙ ct) in let le : length u.bytes ≡ length b2 = ap (λ (v : Told). length v.bytes) e in omega (arith, le, l2, l1, size)) torn b2 ct t told x image in
        let sh : SameOutside (base layout.version) (length (header layout (length cells))) b2 (splice (base layout.version) (header layout (length cells)) b2) = SameOutside-splice (base layout.version) (header layout (length cells)) b2 (omega (arith, one, l2, l1, size)) in
        let fresh : SameOutside (base layout.version) 32 b2 (splice (base layout.version) (fresh_store layout cells) bytes) =
        subst (λ (y : List ℕ). SameOutside (base layout.version) 32 b2 y) (fresh-splice bytes r) (subst (λ m. SameOutside (base layout.version) m b2 (splice (base layout.version) (header layout (length cells)) b2)) one sh) in
        record {
          besides = SameOutside-after (base layout.version) (size_from_base layout.kind (length cells)) bytes b1 x
              (SameOutside-widen (base layout.version) 32 (base layout.version) (size_from_base layout.kind (length cells)) bytes b1 (omega arith) (omega (arith, size)) z)
              (SameOutside-after (base layout.version) (size_from_base layout.kind (length cells)) b1 b2 x
              (SameOutside-widen (base layout.version + 32) (length p) (base layout.version) (size_from_base layout.kind (length cells)) b1 b2 (omega arith) (omega (arith, wide, size)) w)
              (SameOutside-widen (base layout.version) 32 (base layout.version) (size_from_base layout.kind (length cells)) b2 x (omega arith) (omega (arith, size)) s));
          within = inr (inr (record { whole = splice (base layout.version) (fresh_store layout cells) bytes; fresh = refl; same = same-front b2 _ x fresh s }));
        }

    -- and all is written
    pub formatted : ((x y : List ℕ) → store_size layout (length cells) ≤ length x → Fresh layout cells x y → Stands layout y cells)
        → Lasts (base layout.version) (replicate 32 0) a b → FirmCells layout cells b c → Lasts (base layout.version) (header layout (length cells)) c d → Formats layout cells a d
    unfolding Fresh
    formatted stands blanks between head t is =
        let x = t.bytes in
        record {
          bytes = splice (base layout.version) (fresh_store layout cells) x;
          told = head (firm (splice (base layout.version + 32) (fresh_cells layout.kind cells) (splice (base layout.version) (replicate 32 0) x))) (between (firm (splice (base layout.version) (replicate 32 0) x)) (blanks t is))
              ∙ ap (λ bytes. Some (firm bytes)) (fresh-splice x (room t is));
          fresh = refl;
          stands = stands x _ (room t is) refl;
        }

-- of the twin store
pub firm_pairs-cells : (version : Version) (cells : List (List ℕ)) (old new : Option Told) → FirmPairs version cells old new → FirmCells (twin_layout version) cells old new
unfolding fresh_cells
firm_pairs-cells version cells old new pairs = pairs

pub twin-rest : (n : ℕ) → size_from_base Twin n ≡ 32 + 68 * n
twin-rest n = refl

pub tears_sized : (at m n : ℕ) (a b : Option Told) → m ≡ n → Tears at m a b → Tears at n a b
tears_sized at m n a b e tears = rw (← e) tears

pub tears_at : (at from n : ℕ) (a b : Option Told) → at ≡ from → Tears at n a b → Tears from n a b
tears_at at from n a b e tears = rw (← e) tears

pub lasts_at : (at from : ℕ) (bytes : List ℕ) (a b : Option Told) → at ≡ from → Lasts at bytes a b → Lasts from bytes a b
lasts_at at from bytes a b e lasts = rw (← e) lasts
