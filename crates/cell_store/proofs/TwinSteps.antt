-- What each step of a twin store makes of what its fields mean.
use Rattle.std.proofs.Common.{◌≡◌, ℕ, ◌+◌, ◌<◌, ◌≤◌, inl, inr, Bool, true, false, Some, List, [], ◌∷◌, ◌++◌, length, take, drop, set, get_or, refl, sym, ap, subst, ◌∙◌, arith}
use Rattle.std.specs.Option.{is_some}
use Rattle.std.proofs.lemmas.List.{length-set, length-map, map-set, take_all, drop_all, append-nil}
use Rattle.std.proofs.lemmas.Bool.{false≢true}
use Rattle.std.proofs.lemmas.Option.{same_Some}
use Rattle.cut_disk.specs.State.{DiskState, Told, Cut}
use Rattle.cut_disk.specs.Images.{firm, Image, EachImage, CutsTo}
use Rattle.cut_disk.proofs.CallerLemmas.{image_of_firm}
use Rattle.cut_disk.proofs.CallerLemmas.{runs_of_call, runs_join, runs_more, grows_of_call, grows_then, rose_after}
use Rattle.cut_disk.specs.Lasting.{Lasts}
use Rattle.cut_disk.specs.Calls.{Grows, Call, Runs}
use Rattle.cut_disk.specs.declared.Torn.{Torn}
use Rattle.cell_store.specs.declared.faults.Reread.{Reread}
use Rattle.cell_store.specs.declared.faults.Reread.TheVariants as reread
use Rattle.cell_store.specs.declared.kinds.Version.{Version}
use Rattle.cell_store.specs.declared.copies.Side.{Side}
use Rattle.cell_store.specs.declared.copies.Held.{Held}
use Rattle.cell_store.specs.Layout.{SameOutside, part, base, from_base, twin_layout}
use Rattle.cell_store.specs.Twin.{twin_size, is_live, next, live_copy}
use Rattle.cell_store.specs.Copies.{other, side_at, Keeps}
use Rattle.cell_store.specs.Store.{FewCells, HasHeader, Stands, SameBesides, store_size}
use Rattle.cell_store.specs.Reading.{ReadOnly, Leaves, Finds}
use Rattle.cell_store.specs.ReadOrder.{twin_reads, twin_reads_to}
use Rattle.cell_store.specs.Kept.{KeepsAll, cells_of}
use Rattle.cell_store.specs.Writing.{LeavesUnfinished}
use Rattle.cell_store.specs.Cells.{CellsState, Settled, TellsCells, PutDone, LeavesBesides, StandsForEither, EachImageStands, RereadCause, RereadFinds, calls_to_reread}
use Rattle.cell_store.specs.Attaching.{Attached}
use Rattle.cell_store.specs.TwinStore.{twin_state, IsTwinStore}
use Rattle.cell_store.proofs.LayoutLaws.{part-drop, SameOutside-widen}
use Rattle.cell_store.proofs.CopiesLaws.{side_bounds}
use Rattle.cell_store.proofs.StoreLaws.{stands-whole}
use Rattle.cell_store.proofs.KeptLaws.{put_copy, put_at, put_held, stands-held, stands-kept, holds-unfinished, unfinished-drop, put_bytes, put-fits, put-kept, put-keeps, put-besides}
use Rattle.cell_store.proofs.WritingLaws.{told-before}

module _ (version : Version) (old new : DiskState) (held : List Held) (room i : ℕ) (h : Held) (cell : List ℕ) (store : IsTwinStore version old held room false) (below : i < length held) (is : h ≡ get_or held i h) (sized : length cell ≡ 32) where
  kept : (t : Told) → old.told ≡ Some t → KeepsAll version (from_base version t.bytes) held
  kept t told = store.kept refl t told

  -- before the put
  pub put-inside : base version + put_at i h + 34 ≤ old.size
  put-inside = let b = side_bounds i (other h.side) in let s = store.sized in omega (arith, below)

  pub put-gate : (t : Told) → old.told ≡ Some t → is_live (part (base version + put_at i h) 34 t.bytes) ≡ h.spare_is_live
  put-gate t told =
      ap is_live (sym (part-drop (base version) (put_at i h) 34 t.bytes (put-fits version t.bytes held i h cell (kept t told) below is sized)))
      ∙ (subst (λ (g : Held). Keeps (from_base version t.bytes) i g) (sym is) ((kept t told).each i h below)).spare

  few-put : FewCells (length (set held i (put_held h cell)))
  few-put = subst (λ n. FewCells n) (sym (length-set held i (put_held h cell))) store.few

  -- after a finished put
  pub put-store : new.size ≡ old.size → is_some new.told ≡ is_some old.told → Lasts (base version + put_at i h) (put_copy h cell) old.told new.told → IsTwinStore version new (set held i (put_held h cell)) room false
  put-store size tells lasts = record {
    few = few-put;
    sized = (let s = store.sized in omega (arith, size, length-set held i (put_held h cell)));
    ready = (let r = store.ready in omega (arith, length-set held i (put_held h cell)));
    kept = λ _ t told.
        let before = told-before old.told new.told t tells told in
        let e : t ≡ firm (put_bytes version before.0.bytes held i h cell (kept before.0 before.1) below is sized) = same_Some _ _ (sym told ∙ lasts before.0 before.1) in
        subst (λ (u : Told). KeepsAll version (from_base version u.bytes) (set held i (put_held h cell))) (sym e) (put-keeps version before.0.bytes held i h cell (kept before.0 before.1) below is sized);
  }

  pub put-done : Lasts (base version + put_at i h) (put_copy h cell) old.told new.told → TellsCells (twin_state version old held false) → PutDone i cell (twin_state version old held false) (twin_state version new (set held i (put_held h cell)) false)
  put-done lasts s = record {
    before = s.now;
    after = put_bytes version s.now.bytes held i h cell (kept s.now s.told) below is sized;
    told_before = s.told;
    told_after = lasts s.now s.told;
    put = put-kept version s.now.bytes held i h cell (kept s.now s.told) below is sized;
  }

  pub put-settled : Lasts (base version + put_at i h) (put_copy h cell) old.told new.told → TellsCells (twin_state version old held false) → Settled (twin_state version new (set held i (put_held h cell)) false)
  put-settled lasts s = record {
    whole = refl;
    bytes = put_bytes version s.now.bytes held i h cell (kept s.now s.told) below is sized;
    told = lasts s.now s.told;
    stands = stands-kept version _ (set held i (put_held h cell)) few-put (put-keeps version s.now.bytes held i h cell (kept s.now s.told) below is sized);
  }

  as-many : length (cells_of held) ≡ length held
  as-many = length-map held (λ (g : Held). g.payload)

  besides-of : (x y : List ℕ) → SameOutside (base version) (twin_size (length held)) x y → SameBesides (twin_layout version) (length (cells_of held)) x y
  besides-of x y s = subst (λ n. SameOutside (base version) (twin_size n) x y) (sym as-many) s

  pub done-besides : Lasts (base version + put_at i h) (put_copy h cell) old.told new.told → LeavesBesides (twin_state version old held false) new.told
  done-besides lasts b was t told x image =
      let te : t ≡ firm (put_bytes version b held i h cell (kept (firm b) was) below is sized) = same_Some _ _ (sym told ∙ lasts (firm b) was) in
      let xe : x ≡ put_bytes version b held i h cell (kept (firm b) was) below is sized = image_of_firm (subst (λ (u : Told). Image u x) te image) in
      subst (λ (y : List ℕ). SameBesides (twin_layout version) (length (cells_of held)) b y) (sym xe) (besides-of b _ (put-besides version b held i h cell (kept (firm b) was) below is sized))

  -- after a put that failed
  pub put-broken : new.size ≡ old.size → IsTwinStore version new held room true
  put-broken size = record { few = store.few; sized = (let s = store.sized in omega (arith, size)); ready = store.ready; kept = λ e. absurd (false≢true (sym e)) }

  pub put-images : LeavesUnfinished 33 (base version + put_at i h) (put_copy h cell) old.told new.told → Settled (twin_state version old held false) → EachImage new.told (StandsForEither (twin_state version old held false) i cell)
  put-images leaves s t told x image =
      let u = leaves s.bytes s.told t told x image in
      let k = kept (firm s.bytes) s.told in
      elim (holds-unfinished version (from_base version s.bytes) (from_base version x) held i h cell store.few k below is
      (unfinished-drop (base version) 33 (put_at i h) (put_copy h cell) s.bytes x (put-fits version s.bytes held i h cell k below is sized) u)) [
        | inl one ↦ inl (stands-held version x _ one)
        | inr two ↦ inr (stands-held version x _ two)
      ]

  pub failed-besides : LeavesUnfinished 33 (base version + put_at i h) (put_copy h cell) old.told new.told → LeavesBesides (twin_state version old held false) new.told
  failed-besides leaves b was t told x image =
      let s = side_bounds i (other h.side) in
      besides-of b x (SameOutside-widen (base version + put_at i h) 34 (base version) (twin_size (length held)) b x (omega arith) (omega (arith, below)) (leaves b was t told x image).same)

-- The same, as the code has it: the place, the mark and the side in variables of their own.
module _ (version : Version) (old new : DiskState) (held : List Held) (room i : ℕ) (broken : Bool) (h : Held) (cell : List ℕ) (s : CellsState) (side : Side) (marks at : ℕ) (view : twin_state version old held broken ≡ s) (whole : s.broken ≡ false) (store : IsTwinStore version old held room broken) (under : i < length s.cells) (is : h ≡ get_or held i h) (sized : length cell ≡ 32) (side-is : side ≡ other h.side) (mark-is : marks ≡ next h.mark) (at-is : at ≡ base version + side_at i side) where
  unbroken : broken ≡ false
  unbroken = ap (λ (x : CellsState). x.broken) view ∙ whole

  here : IsTwinStore version old held room false
  here = subst (λ b. IsTwinStore version old held room b) unbroken store

  was : twin_state version old held false ≡ s
  was = ap (λ b. twin_state version old held b) (sym unbroken) ∙ view

  lower : i < length held
  lower =
      let e : length s.cells ≡ length (cells_of held) = ap (λ (x : CellsState). length x.cells) (sym view) in
      omega (arith, under, length-map held (λ (g : Held). g.payload))

  place : at ≡ base version + put_at i h
  place = at-is ∙ ap (λ a. base version + side_at i a) side-is

  made : put_held h cell ≡ record { payload = cell; mark = marks; side = side; spare_is_live = true }
  made = rw (mark-is, side-is) refl

  lasting : Lasts at (live_copy marks cell) old.told new.told → Lasts (base version + put_at i h) (put_copy h cell) old.told new.told
  lasting l = subst (λ m. Lasts (base version + put_at i h) (live_copy m cell) old.told new.told) mark-is (subst (λ a. Lasts a (live_copy marks cell) old.told new.told) place l)

  leaving : LeavesUnfinished 33 at (live_copy marks cell) old.told new.told → LeavesUnfinished 33 (base version + put_at i h) (put_copy h cell) old.told new.told
  leaving l = subst (λ m. LeavesUnfinished 33 (base version + put_at i h) (live_copy m cell) old.told new.told) mark-is (subst (λ a. LeavesUnfinished 33 a (live_copy marks cell) old.told new.told) place l)

  pub code-inside : at + 34 ≤ old.size
  code-inside = rw place (put-inside version old new held room i h cell here lower is sized)

  pub code-gate : (t : Told) → old.told ≡ Some t → is_live (part at 34 t.bytes) ≡ h.spare_is_live
  code-gate t told = rw place (put-gate version old new held room i h cell here lower is sized t told)

  pub code-store : new.size ≡ old.size → is_some new.told ≡ is_some old.told → Lasts at (live_copy marks cell) old.told new.told → IsTwinStore version new (set held i (record { payload = cell; mark = marks; side = side; spare_is_live = true })) room broken
  code-store size tells l =
      subst (λ b. IsTwinStore version new (set held i (record { payload = cell; mark = marks; side = side; spare_is_live = true })) room b) (sym unbroken)
      (subst (λ (g : Held). IsTwinStore version new (set held i g) room false) made (put-store version old new held room i h cell here lower is sized size tells (lasting l)))

  pub code-cells : cells_of (set held i (record { payload = cell; mark = marks; side = side; spare_is_live = true })) ≡ set s.cells i cell
  code-cells = map-set (λ (g : Held). g.payload) held i _ ∙ ap (λ (x : CellsState). set x.cells i cell) view

  pub code-settled : Lasts at (live_copy marks cell) old.told new.told → TellsCells s → Settled (twin_state version new (set held i (record { payload = cell; mark = marks; side = side; spare_is_live = true })) broken)
  code-settled l tells =
      subst (λ b. Settled (twin_state version new (set held i (record { payload = cell; mark = marks; side = side; spare_is_live = true })) b)) (sym unbroken)
      (subst (λ (g : Held). Settled (twin_state version new (set held i g) false)) made (put-settled version old new held room i h cell here lower is sized (lasting l) (subst (λ (x : CellsState). TellsCells x) (sym was) tells)))

  pub code-done : Lasts at (live_copy marks cell) old.told new.told → TellsCells s → PutDone i cell s (twin_state version new (set held i (record { payload = cell; mark = marks; side = side; spare_is_live = true })) broken)
  code-done l tells =
      subst (λ b. PutDone i cell s (twin_state version new (set held i (record { payload = cell; mark = marks; side = side; spare_is_live = true })) b)) (sym unbroken)
      (subst (λ (g : Held). PutDone i cell s (twin_state version new (set held i g) false)) made
      (subst (λ (x : CellsState). PutDone i cell x (twin_state version new (set held i (put_held h cell)) false)) was (put-done version old new held room i h cell here lower is sized (lasting l) (subst (λ (x : CellsState). TellsCells x) (sym was) tells))))

  pub code-images : LeavesUnfinished 33 at (live_copy marks cell) old.told new.told → Settled s → EachImage new.told (StandsForEither s i cell)
  code-images l settled =
      subst (λ (x : CellsState). EachImage new.told (StandsForEither x i cell)) was (put-images version old new held room i h cell here lower is sized (leaving l) (subst (λ (x : CellsState). Settled x) (sym was) settled))

  pub code-besides : Lasts at (live_copy marks cell) old.told new.told → LeavesBesides s new.told
  code-besides l = subst (λ (x : CellsState). LeavesBesides x new.told) was (done-besides version old new held room i h cell here lower is sized (lasting l))

  pub code-failed : LeavesUnfinished 33 at (live_copy marks cell) old.told new.told → LeavesBesides s new.told
  code-failed l = subst (λ (x : CellsState). LeavesBesides x new.told) was (failed-besides version old new held room i h cell here lower is sized (leaving l))

-- a store that was read
module _ (version : Version) (old new : DiskState) (held : List Held) (room n : ℕ) (few : FewCells n) (count : length held ≡ n) (ready : room ≡ n) (enough : store_size (twin_layout version) n ≤ old.size) (same : ReadOnly (twin_reads n) old new) (keeps : (t : Told) → old.told ≡ Some t → KeepsAll version (from_base version t.bytes) held) where
  few' : FewCells (length held)
  few' = subst (λ m. FewCells m) (sym count) few

  pub read-store : IsTwinStore version new held room false
  read-store = record {
    few = few';
    sized = (let s = same.runs.size in omega arith);
    ready = ready ∙ sym count;
    kept = λ _ t told. keeps t (sym same.told ∙ told);
  }

  pub read-attached : Grows old new → Attached (twin_layout version) (twin_reads n) n old (twin_state version new held false)
  read-attached grows = record {
    laid_out = refl;
    whole = refl;
    count = length-map held (λ (g : Held). g.payload) ∙ count;
    room = enough;
    as_before = same;
    grows = grows;
    stands = λ t told. stands-kept version t.bytes held few' (keeps t told);
    settled = λ b told. record { whole = refl; bytes = b; told = same.told ∙ told; stands = stands-kept version b held few' (keeps (firm b) told) };
  }

-- what is written over all items of a vector
pub whole-items : {X : Type 0} (n : ℕ) (xs ys : List X) → length xs ≡ length ys → n ≡ length ys → take n (xs ++ drop (length xs) ys) ≡ xs
whole-items n xs ys e f =
    let gone : drop (length xs) ys ≡ [] = drop_all (length xs) ys (omega arith) in
    ap (λ t. take n (xs ++ t)) gone ∙ (ap (take n) (append-nil xs) ∙ take_all n xs (omega arith))

-- arming a disk changes neither its size nor what it tells
pub armed-store : (version : Version) (old new : DiskState) (held : List Held) (room : ℕ) (broken : Bool) → new.size ≡ old.size → new.told ≡ old.told → IsTwinStore version old held room broken → IsTwinStore version new held room broken
armed-store version old new held room broken size same store = record {
  few = store.few;
  sized = (let s = store.sized in omega (arith, size));
  ready = store.ready;
  kept = λ b t told. store.kept b t (sym same ∙ told);
}

-- what a fault of reading leaves, as a stretch of calls
pub leaves-runs : (all : ℕ) (up_to : ℕ → ℕ) (a b : DiskState) (fault : Reread) → Leaves all up_to a b fault → Runs [] all a b
leaves-runs all up_to a b reread.DiskFailed l = l.runs
leaves-runs all up_to a b reread.NotFormatted l = runs_more all (omega arith) l.runs
leaves-runs all up_to a b (reread.Damaged i) l = runs_more all (omega arith) l.runs

-- a cut, and the store read anew
module _ (version : Version) (old cut new : DiskState) (held fresh : List Held) (room : ℕ) (broken : Bool) (torn : Torn) (s : CellsState) (view : twin_state version old held broken ≡ s) (store : IsTwinStore version old held room broken) (call : Call (Some (Cut torn)) old cut) (left : CutsTo old.told cut.told) where
  as_many : length s.cells ≡ room
  as_many = sym (ap (λ (x : CellsState). length x.cells) view) ∙ (length-map held (λ (g : Held). g.payload) ∙ sym store.ready)

  few-room : FewCells room
  few-room = subst (λ m. FewCells m) (sym store.ready) store.few

  room-cut : store_size (twin_layout version) room ≤ cut.size
  room-cut = let e = call.size in let r = store.ready in let z = store.sized in omega arith

  pub cut-requires : FewCells room × (store_size (twin_layout version) room ≤ cut.size)
  cut-requires = (few-room, room-cut)

  pub cut-runs : Runs [] (twin_reads room) cut new → Runs (Cut torn ∷ []) (68 + length s.cells) s.disk new
  cut-runs runs =
      subst (λ (x : CellsState). Runs (Cut torn ∷ []) (68 + length s.cells) x.disk new) view
      (runs_more (68 + length s.cells) (omega (arith, as_many)) (runs_join (runs_of_call call) runs))

  -- so many calls came up to what was found
  first-was : (fault : Reread) → Leaves (twin_reads room) twin_reads_to cut new fault → Runs (Cut torn ∷ []) (calls_to_reread (twin_state version old held broken) fault) old new
  first-was reread.DiskFailed l = runs_more _ (let r = store.ready in omega (arith, length-map held (λ (g : Held). g.payload))) (runs_join (runs_of_call call) l.runs)
  first-was reread.NotFormatted l = runs_more _ (omega arith) (runs_join (runs_of_call call) l.runs)
  first-was (reread.Damaged i) l = runs_more _ (omega arith) (runs_join (runs_of_call call) l.runs)

  pub cut-first : (fault : Reread) → Leaves (twin_reads room) twin_reads_to cut new fault → Runs (Cut torn ∷ []) (calls_to_reread s fault) s.disk new
  cut-first fault leaves = subst (λ (x : CellsState). Runs (Cut torn ∷ []) (calls_to_reread x fault) x.disk new) view (first-was fault leaves)

  cause-was : (fault : Reread) → Leaves (twin_reads room) twin_reads_to cut new fault → Finds (twin_layout version) room cut.told fault → cut.faults ≡ old.faults → RereadCause (twin_state version old held broken) (twin_state version new held true) fault
  cause-was reread.DiskFailed l f same = rose_after old.faults cut.faults new.faults call.later l.rose
  cause-was reread.NotFormatted l f same = record {
    faults = l.faults ∙ same;
    finds = λ t told. subst (λ m. RereadFinds (twin_layout version) m t.bytes reread.NotFormatted) (store.ready ∙ sym (length-map held (λ (g : Held). g.payload))) (f t (sym l.told ∙ told));
  }
  cause-was (reread.Damaged i) l f same = record {
    faults = l.faults ∙ same;
    finds = λ t told. subst (λ m. RereadFinds (twin_layout version) m t.bytes (reread.Damaged i)) (store.ready ∙ sym (length-map held (λ (g : Held). g.payload))) (f t (sym l.told ∙ told));
  }

  pub cut-cause : (fault : Reread) → Leaves (twin_reads room) twin_reads_to cut new fault → Finds (twin_layout version) room cut.told fault → cut.faults ≡ old.faults → RereadCause s (twin_state version new held true) fault
  cut-cause fault l f same = subst (λ (x : CellsState). RereadCause x (twin_state version new held true) fault) view (cause-was fault l f same)

  -- read
  module _ (count : length fresh ≡ room) (same : ReadOnly (twin_reads room) cut new) (keeps : (t : Told) → cut.told ≡ Some t → KeepsAll version (from_base version t.bytes) fresh) where
    pub cut-store : IsTwinStore version new fresh (length held) false
    cut-store = read-store version cut new fresh (length held) room few-room count (sym store.ready) room-cut same keeps

    pub cut-grows : Grows s.disk new
    cut-grows = subst (λ (x : CellsState). Grows x.disk new) view (grows_then (grows_of_call call) same.runs)

    few-fresh : FewCells (length fresh)
    few-fresh = subst (λ m. FewCells m) (sym count) few-room

    pub cut-stands : (t : Told) → new.told ≡ Some t → Stands (twin_layout version) t.bytes (cells_of fresh)
    cut-stands t told = stands-kept version t.bytes fresh few-fresh (keeps t (sym same.told ∙ told))

    pub cut-settled : (t : Told) → s.disk.told ≡ Some t → Settled (twin_state version new fresh false)
    cut-settled t told =
        let l = left t (ap (λ (x : CellsState). x.disk.told) view ∙ told) in
        record { whole = refl; bytes = l.left; told = same.told ∙ l.now; stands = stands-kept version l.left fresh few-fresh (keeps (firm l.left) l.now) }

    pub cut-count : length (cells_of fresh) ≡ length s.cells
    cut-count = length-map fresh (λ (g : Held). g.payload) ∙ (count ∙ sym as_many)

  -- not read
  pub cut-broken : new.size ≡ cut.size → IsTwinStore version new held room true
  cut-broken size = record { few = store.few; sized = (let z = store.sized in let e = call.size in omega (arith, size)); ready = store.ready; kept = λ e. absurd (false≢true (sym e)) }

  -- where each image stood for a list of this length, one of them is left, and it can be read
  pub cut-never : (fault : Reread) → Finds (twin_layout version) room cut.told fault → EachImageStands s → fault ≡ reread.DiskFailed
  cut-never reread.DiskFailed finds stood = refl
  cut-never reread.NotFormatted finds stood = absurd (
      let l = left stood.told (ap (λ (x : CellsState). x.disk.told) view ∙ stood.is) in
      let it = stood.each l.left l.image in
      let stands : Stands (twin_layout version) l.left it.cells = subst (λ (x : CellsState). Stands x.layout l.left it.cells) (sym view) it.stands in
      let n : length it.cells ≡ room = it.count ∙ as_many in
      finds (firm l.left) l.now (subst (λ m. HasHeader (twin_layout version) m l.left) n stands.head))
  cut-never (reread.Damaged i) finds stood = absurd (
      let l = left stood.told (ap (λ (x : CellsState). x.disk.told) view ∙ stood.is) in
      let it = stood.each l.left l.image in
      let stands : Stands (twin_layout version) l.left it.cells = subst (λ (x : CellsState). Stands x.layout l.left it.cells) (sym view) it.stands in
      let n : length it.cells ≡ room = it.count ∙ as_many in
      stands-whole (twin_layout version) l.left it.cells room i stands n (finds (firm l.left) l.now).1)
