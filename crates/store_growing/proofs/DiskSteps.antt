-- What the steps of a growth leave of a disk
use Rattle.std.proofs.Common.{◌≡◌, ◌∙◌, ℕ, suc, ◌+◌, ◌*◌, ◌-◌, ◌<◌, ◌≤◌, List, [], ◌∷◌, length, drop, take, get_or, refl, sym, ap, subst, inl, inr, arith, false}
use Rattle.std.specs.Prelude.{Option, Some, None, Result, Ok, Err, OnOk, OnErr, IfSome}
use Rattle.std.proofs.lemmas.List.{length-drop, length-take, take_all}
use Rattle.std.proofs.lemmas.Option.{same_Some}
use Rattle.basics.specs.Numbers.{bytes_of}
use Rattle.basics.proofs.CallerLemmas.{length-bytes_of}
use Rattle.cut_disk.specs.State.{DiskState, Told}
use Rattle.cut_disk.specs.Images.{firm, splice, EachImage, Tears, ReadsAs}
use Rattle.cut_disk.specs.Calls.{IsDisk, Runs, AsBefore}
use Rattle.cut_disk.specs.Lasting.{Lasts}
use Rattle.cut_disk.proofs.CallerLemmas.{runs_more, runs_join, as_before_none, as_before_more}
use Rattle.cell_store.specs.declared.kinds.Kind.TheVariants.{Twin}
use Rattle.cell_store.specs.declared.kinds.Layout.{Layout}
use Rattle.cell_store.specs.declared.kinds.Version.TheVariants.{One, Two}
use Rattle.cell_store.specs.declared.kinds.Probe.TheVariants as probe
use Rattle.cell_store.specs.Layout.{SameOutside, layout, part, from_base, twin_layout}
use Rattle.cell_store.specs.Store.{HasHeader, Probes}
use Rattle.cell_store.specs.Twin.{first_at, is_live, twin_size}
use Rattle.cell_store.specs.Reading.{ReadOnly}
use Rattle.cell_store.specs.Writing.{ClosesGate, Unfinished}
use Rattle.cell_store.proofs.CallerLemmas.{length-header, header-not_blank, part-same, SameOutside-refl}
use Rattle.cell_store.proofs.CallerLemmas.{closed-already, filling, opening, splice-gate, torn-outside}
use Rattle.freshness_routes.specs.declared.routes.Route.{Route}
use Rattle.store_plan.specs.Growing.{with_number}
use Rattle.store_growing.specs.declared.faults.GrowFault.{GrowFault}
use Rattle.store_growing.specs.declared.faults.GrowFault.TheVariants as fault
use Rattle.store_growing.specs.declared.headers.StoreHeader.{StoreHeader}
use Rattle.store_growing.specs.StoreHeaders.{HasVersionTwo, HasFirstHead, HeaderStands}
use Rattle.store_growing.specs.RouteCells.{route_cell, first_bound, FreeFrom, CanGrow, RefusesBytes}
use Rattle.store_growing.specs.GrowingStores.{first_copy, with_cell, with_cells, with_routes, CutsCells, within, later, OfBytes, GrowsStore, CutsStore, NotGrown}
use Rattle.store_growing.specs.GrowingStores.{HasRouteRoom, CanBeGrown, CannotBeGrown, other_store, no_store, by_bytes}
use Rattle.store_growing.specs.GrowSteps.{Sees, FitsWanted, TakesHeader, RefusesHeader, NotSeen, AreClosed, MakesOfBytes}
use Rattle.store_growing.specs.GrowSteps.{CutsCellOnDisk, CutsCellsOnDisk, CutsNumberOnDisk}
use Rattle.store_growing.specs.GrowSteps.{WritesLacking, CutsLacking}
use Rattle.store_growing.proofs.OneCell.{number_there, bound_sized, with_cell_same}
use Rattle.store_growing.proofs.HeaderFacts.{is_first_twin}
use Rattle.store_growing.proofs.CellsWritten.{cells_within}

-- ---- what is read

pub told_sized : (disk : DiskState) (x : List ℕ) → IsDisk disk → disk.told ≡ Some (firm x) → length x ≡ disk.size
told_sized disk x is told = is.bytes_sized (firm x) told

pub sees_read : (before : DiskState) (out : List ℕ) → IsDisk before → length out ≡ before.size → ReadsAs before.told 0 out → Sees before out
sees_read before out is sized reads x told =
    let long : length x ≡ length out = told_sized before x is told ∙ sym sized in
    let e : (0 + length out) - 0 ≡ length out = omega arith in
    reads (firm x) told ∙ ap (λ (m : ℕ). take m x) e ∙ take_all (length out) x (omega (arith, long))

-- the first 32 bytes, as they were read
pub front_read : (before : DiskState) (out : List ℕ) → length out ≡ 32 → ReadsAs before.told 0 out → (t : Told) → before.told ≡ Some t
    → part 0 32 t.bytes ≡ part 0 32 out
front_read before out sized reads t told =
    let e : (0 + length out) - 0 ≡ 32 = omega (arith, sized) in
    let is : out ≡ take 32 t.bytes = reads t told ∙ ap (λ (m : ℕ). take m t.bytes) e in
    sym is ∙ sym (take_all 32 out (omega (arith, sized)))

-- ---- what holds of a result whatever it is

pub for_ok : {T E P : Type 0} (r : Result T E) → P → OnOk r P
for_ok (Ok x) p = p
for_ok (Err e) p = tt

pub for_err : {T E P : Type 0} (r : Result T E) → P → OnErr r P
for_err (Ok x) p = tt
for_err (Err e) p = p

-- ---- a store of version 2

pub none_blank : (x : List ℕ) → Probes Two (part 0 32 (from_base Two x)) probe.Blank → ¬ HasVersionTwo x
none_blank x found two = header-not_blank (layout two.0 Two) two.1 (sym two.3 ∙ found)

pub none_foreign : (x : List ℕ) → Probes Two (part 0 32 (from_base Two x)) probe.Foreign → ¬ HasVersionTwo x
none_foreign x found two = found.1 two.0 two.1 two.2 two.3

pub short_has_none : (x : List ℕ) → length x < 32800 → HasVersionTwo x → ⊥
short_has_none x short (kind, n, few, head) =
    let long : length (part 0 32 (from_base Two x)) ≡ 32 = ap length head ∙ length-header (layout kind Two) n in
    absurd (omega (arith, long, short, length-take 32 (drop 32768 x), length-drop 32768 x))

pub only_read : (most : ℕ) (old new : DiskState) → ReadOnly most old new → AsBefore most old new
only_read most old new only = record { runs = only.runs; told = only.told; faults = only.faults }

-- ---- one cell

-- what a disk tells is what it tells
told_same : (P : List ℕ → Type 0) (old : Option Told) (x : List ℕ) → old ≡ Some (firm x) → P x → (t : Told) → old ≡ Some t → P t.bytes
told_same P old x told p t also = subst (λ (s : Told). P s.bytes) (sym (same_Some _ _ (sym also ∙ told))) p

module _ (cell at : ℕ) (route : Route) (payload copy : List ℕ) (old : DiskState) (disk : IsDisk old) (room : twin_size (cell + 1) ≤ old.size)
    (at_is : at ≡ first_at cell) (payload_is : payload ≡ first_bound route) (copy_is : copy ≡ 0 ∷ payload) where
  copy_first : copy ≡ 0 ∷ first_bound route
  copy_first = copy_is ∙ ap (λ (b : List ℕ). 0 ∷ b) payload_is

  copy_long : length copy ≡ 33
  copy_long = ap length copy_first ∙ ap suc (bound_sized route)

  long : (x : List ℕ) → old.told ≡ Some (firm x) → twin_size (cell + 1) ≤ length x
  long x told = let e = told_sized old x disk told in omega (arith, e, room)

  pub cell_written : (mid new : DiskState) → Lasts (at + 1) copy old.told mid.told → Lasts at (167 ∷ []) mid.told new.told
      → MakesOfBytes (with_cell cell route) old new
  cell_written mid new fills opens x told =
      (subst (λ (k : ℕ). Lasts k (167 ∷ []) mid.told new.told) at_is opens) (firm (splice (first_at cell + 1) copy x))
      ((subst (λ (k : ℕ). Lasts (k + 1) copy old.told mid.told) at_is fills) (firm x) told)
      ∙ ap (λ (w : List ℕ). Some (firm w))
      (splice-gate 33 (first_at cell) 167 copy x x copy_long (let l = long x told in omega (arith, l)) (SameOutside-refl (first_at cell) 1 x)
      ∙ ap (λ (b : List ℕ). splice (first_at cell) (167 ∷ b) x) copy_first)

  gate_closed : (x : List ℕ) → old.told ≡ Some (firm x) → is_live (part (first_at cell) 34 x) ≡ false → ClosesGate 33 (first_at cell) old.told old.told
  gate_closed x told closed =
      closed-already 33 (first_at cell) old.told (told_same (λ (b : List ℕ). is_live (part (first_at cell) 34 b) ≡ false) old.told x told closed)

  pub filling_cut : (new : DiskState) → Tears (at + 1) (length copy) old.told new.told → CutsCellOnDisk cell route old new
  filling_cut new torn x told closed =
      filling 33 (first_at cell) (first_copy route) old.told old.told new.told (gate_closed x told closed)
      (torn-outside (first_at cell + 1) 33 old.told new.told (λ t is. let e = disk.bytes_sized t is in omega (arith, e, room))
      (subst (λ (k : ℕ). Tears (k + 1) 33 old.told new.told) at_is (subst (λ (n : ℕ). Tears (at + 1) n old.told new.told) copy_long torn))) x told

  pub opening_cut : (mid new : DiskState) → IsDisk mid → mid.size ≡ old.size → Lasts (at + 1) copy old.told mid.told
      → Tears at 1 mid.told new.told → CutsCellOnDisk cell route old new
  opening_cut mid new disk_mid size fills torn x told closed =
      subst (λ (b : List ℕ). EachImage new.told (Unfinished 33 (first_at cell) (167 ∷ b) x)) copy_first
      (opening 33 (first_at cell) copy copy_long old.told old.told mid.told new.told
      (λ t is. let e = disk.bytes_sized t is in omega (arith, e, room)) (gate_closed x told closed)
      (subst (λ (k : ℕ). Lasts (k + 1) copy old.told mid.told) at_is fills)
      (torn-outside (first_at cell) 1 mid.told new.told (λ t is. let e = disk_mid.bytes_sized t is in omega (arith, e, room, size))
      (subst (λ (k : ℕ). Tears k 1 mid.told new.told) at_is torn)) x told)

-- ---- one cell, and the others

cut_first : (routes : List Route) (route : Route) → 1 ≤ length routes → route ≡ get_or routes 0 route → routes ≡ route ∷ drop 1 routes
cut_first [] route some is = absurd (omega (arith, some))
cut_first (first ∷ routes) route some is = ap (λ (r : Route). r ∷ routes) (sym is)

pub rest_of : (routes : List Route) → take (length routes - 1) (drop 1 routes) ≡ drop 1 routes
rest_of routes = take_all (length routes - 1) (drop 1 routes) (omega (arith, length-drop 1 routes))

pub none_written : (cell : ℕ) (routes : List Route) (disk : DiskState) → length routes < 1 → MakesOfBytes (with_cells cell routes) disk disk
none_written cell [] disk none x told = told
none_written cell (route ∷ routes) disk none x told = absurd (omega (arith, none))

module _ (cell : ℕ) (routes rest : List Route) (route : Route) (old : DiskState) (disk : IsDisk old)
    (room : twin_size (cell + length routes) ≤ old.size) (some : 1 ≤ length routes) (is : route ≡ get_or routes 0 route)
    (rest_is : rest ≡ drop 1 routes) where
  routes_are : routes ≡ route ∷ rest
  routes_are = cut_first routes route some is ∙ ap (λ (rs : List Route). route ∷ rs) (sym rest_is)

  next_one : cell + 1 ≡ 1 + cell
  next_one = omega arith

  wide : (x : List ℕ) → old.told ≡ Some (firm x) → twin_size (cell + 1) ≤ length x
  wide x told = let e = told_sized old x disk told in omega (arith, e, room, some)

  pub step_written : (mid new : DiskState) → MakesOfBytes (with_cell cell route) old mid → MakesOfBytes (with_cells (cell + 1) rest) mid new
      → MakesOfBytes (with_cells cell routes) old new
  step_written mid new first more x told =
      more (with_cell cell route x) (first x told)
      ∙ ap (λ (w : List ℕ). Some (firm w))
      (ap (λ (k : ℕ). with_cells k rest (with_cell cell route x)) next_one ∙ sym (ap (λ (rs : List Route). with_cells cell rs x) routes_are))

  first_closed : (x : List ℕ) → AreClosed cell (length routes) x → is_live (part (first_at cell) 34 x) ≡ false
  first_closed x closed = subst (λ (k : ℕ). is_live (part (first_at k) 34 x) ≡ false) (let e : cell + 0 ≡ cell = omega arith in e) (closed 0 some)

  rest_closed : (x : List ℕ) → twin_size (cell + 1) ≤ length x → AreClosed cell (length routes) x
      → AreClosed (cell + 1) (length rest) (with_cell cell route x)
  rest_closed x room_x closed k low =
      let count : length routes ≡ length (route ∷ rest) = ap length routes_are in
      ap is_live (part-same (first_at (cell + 1 + k)) 34 (first_at cell) 34 x (with_cell cell route x) (with_cell_same cell route x room_x) (inr (omega arith)))
      ∙ subst (λ (n : ℕ). is_live (part (first_at n) 34 x) ≡ false) (let e : cell + (1 + k) ≡ cell + 1 + k = omega arith in e)
      (closed (1 + k) (omega (arith, low, count)))

  pub first_cut : (new : DiskState) → CutsCellOnDisk cell route old new → CutsCellsOnDisk cell routes old new
  first_cut new cut x told closed t is_told y image =
      subst (λ (rs : List Route). CutsCells cell rs x y) (sym routes_are)
      (within cell route rest x y (cut x told (first_closed x closed) t is_told y image))

  pub then_cut : (mid new : DiskState) → MakesOfBytes (with_cell cell route) old mid → CutsCellsOnDisk (cell + 1) rest mid new
      → CutsCellsOnDisk cell routes old new
  then_cut mid new first more x told closed t is_told y image =
      subst (λ (rs : List Route). CutsCells cell rs x y) (sym routes_are)
      (later cell route rest x y
      (subst (λ (k : ℕ). CutsCells k rest (with_cell cell route x) y) next_one
      (more (with_cell cell route x) (first x told) (rest_closed x (wide x told) closed) t is_told y image)))

pub runs_step : (routes rest : List Route) (old mid new : DiskState) → 1 ≤ length routes → rest ≡ drop 1 routes → Runs [] 4 old mid
    → Runs [] (4 * length rest) mid new → Runs [] (4 * length routes) old new
runs_step routes rest old mid new some is first more =
    runs_more (4 * length routes) (let e : length rest ≡ length routes - 1 = ap length is ∙ length-drop 1 routes in omega (arith, e, some)) (runs_join first more)

-- ---- the number

pub number_stands : (cells : ℕ) (image : List ℕ) (disk : DiskState) → IsDisk disk → 32 ≤ disk.size → HasHeader (twin_layout One) cells image
    → OfBytes disk (λ x. part 0 32 x ≡ part 0 32 image → disk.told ≡ Some (firm (with_number cells x)))
number_stands cells image disk is room head x told same =
    let long = told_sized disk x is told in
    told ∙ ap (λ (w : List ℕ). Some (firm w)) (sym (number_there cells x (omega (arith, long, room)) (same ∙ head)))

pub number_written : (cells : ℕ) (image bytes : List ℕ) (old new : DiskState) → bytes ≡ bytes_of 2 cells → Lasts 10 bytes old.told new.told
    → OfBytes old (λ x. part 0 32 x ≡ part 0 32 image → new.told ≡ Some (firm (with_number cells x)))
number_written cells image bytes old new is lasts x told same =
    lasts (firm x) told ∙ ap (λ (b : List ℕ). Some (firm (splice 10 b x))) is

pub number_cut : (cells : ℕ) (bytes : List ℕ) (old new : DiskState) → IsDisk old → 32 ≤ old.size → bytes ≡ bytes_of 2 cells
    → Tears 10 (length bytes) old.told new.told → CutsNumberOnDisk old new
number_cut cells bytes old new disk room is torn x told =
    let two : length bytes ≡ 2 = ap length is ∙ length-bytes_of 2 cells in
    torn-outside 10 2 old.told new.told (λ t is_told. let e = disk.bytes_sized t is_told in omega (arith, e, room))
    (subst (λ (n : ℕ). Tears 10 n old.told new.told) two torn) x told

-- ---- cells and number

pub rest_from : (routes : List Route) (n count : ℕ) → n ≡ count → take (length routes - n) (drop n routes) ≡ drop count routes
rest_from routes n count is =
    take_all (length routes - n) (drop n routes) (omega (arith, length-drop n routes)) ∙ ap (λ (k : ℕ). drop k routes) is

module _ (routes given : List Route) (there : ℕ) (image : List ℕ) (old : DiskState) (disk : IsDisk old)
    (room : twin_size (route_cell (length routes)) ≤ old.size) (few : there ≤ length routes) (given_is : given ≡ drop there routes) where
  given_ends : route_cell there + length given ≡ route_cell (length routes)
  given_ends = omega (arith, few, ap length given_is, length-drop there routes)

  abbrev made : List ℕ → List ℕ
  made x = with_cells (route_cell there) given x

  made_is : (x : List ℕ) → made x ≡ with_routes routes there x
  made_is x = ap (λ (rs : List Route). with_cells (route_cell there) rs x) given_is

  head_stays : (x : List ℕ) → old.told ≡ Some (firm x) → part 0 32 (made x) ≡ part 0 32 x
  head_stays x told =
      let long = told_sized old x disk told in
      part-same 0 32 (first_at (route_cell there)) (68 * length given) x (made x)
      (cells_within (route_cell there) given x (omega (arith, long, room, given_ends))) (inl (omega arith))

  pub all_written_on : (mid new : DiskState) → MakesOfBytes (with_cells (route_cell there) given) old mid
      → OfBytes mid (λ x. part 0 32 x ≡ part 0 32 image → new.told ≡ Some (firm (with_number (route_cell (length routes)) x)))
      → WritesLacking image routes there old new
  all_written_on mid new cells number x told same =
      number (made x) (cells x told) (head_stays x told ∙ ap (part 0 32) (sym same))
      ∙ ap (λ (w : List ℕ). Some (firm (with_number (route_cell (length routes)) w))) (made_is x)

  pub cells_cut_on : (new : DiskState) → CutsCellsOnDisk (route_cell there) given old new → CutsLacking image routes there old new
  cells_cut_on new cut x told same closed t is_told y left =
      inl (subst (λ (rs : List Route). CutsCells (route_cell there) rs x y) given_is
      (cut x told (subst (λ (rs : List Route). AreClosed (route_cell there) (length rs) x) (sym given_is) closed) t is_told y left))

  pub number_cut_on : (mid new : DiskState) → MakesOfBytes (with_cells (route_cell there) given) old mid → CutsNumberOnDisk mid new
      → CutsLacking image routes there old new
  number_cut_on mid new cells cut x told same closed t is_told y left =
      inr (subst (λ (w : List ℕ). SameOutside 10 2 w y) (made_is x) (cut (made x) (cells x told) t is_told y left))

  pub runs_lacking : (mid new : DiskState) → Runs [] (4 * length given) old mid → Runs [] 2 mid new → Runs [] (2 + 4 * length routes) old new
  runs_lacking mid new cells number =
      runs_more (2 + 4 * length routes) (omega (arith, given_ends)) (runs_join cells number)

  pub runs_cells : (mid : DiskState) → Runs [] (4 * length given) old mid → Runs [] (2 + 4 * length routes) old mid
  runs_cells mid cells = runs_more (2 + 4 * length routes) (omega (arith, given_ends)) cells

-- ---- the whole call

module _ (routes : List Route) (count : ℕ) (image : List ℕ) (old mid new : DiskState) (same : mid.told ≡ old.told)
    (sees : Sees old image) (version : OfBytes old (λ x. ¬ HasVersionTwo x)) (can : CanGrow routes image count) where
  could : (x : List ℕ) → old.told ≡ Some (firm x) → CanGrow routes x count
  could x told = subst (λ (b : List ℕ). CanGrow routes b count) (sees x told) can

  are_closed : (x : List ℕ) → FreeFrom x count (length routes) → AreClosed (route_cell count) (length (drop count routes)) x
  are_closed x free k low =
      subst (λ (n : ℕ). is_live (part (first_at n) 34 x) ≡ false) (let e : route_cell (count + k) ≡ route_cell count + k = omega arith in e)
      (free (count + k) (omega arith) (omega (arith, low, length-drop count routes))).closed

  pub store_grown : WritesLacking image routes count mid new → GrowsStore routes old new
  store_grown writes x told = (
    with_number (route_cell (length routes)) (with_routes routes count x),
    record { version = version x told; count = count; could = could x told; is = refl },
    writes x (same ∙ told) (sees x told),
  )

  pub store_cut : CutsLacking image routes count mid new → CutsStore routes old new
  store_cut cuts = inr (λ x told t is_told y left. record {
    version = version x told;
    count = count;
    could = could x told;
    left = cuts x (same ∙ told) (sees x told) (are_closed x (could x told).free) t is_told y left;
  })

-- ---- whether its header is taken

module _ (wanted : Layout) (image : List ℕ) (old mid : DiskState) (there : Option StoreHeader) (same : mid.told ≡ old.told) (sees : Sees old image)
    (stands : (t : Told) → mid.told ≡ Some t → part 0 32 t.bytes ≡ part 0 32 image → HeaderStands t.bytes there) where
  stands_in : (x : List ℕ) → old.told ≡ Some (firm x) → HeaderStands x there
  stands_in x told = stands (firm x) (same ∙ told) (ap (part 0 32) (sym (sees x told)))

  pub header_refused : (f : GrowFault) (new : DiskState) → AsBefore 2 old new → RefusesHeader wanted there f → NotSeen wanted old new f
  header_refused fault.NotFormatted new before why = (before, λ x told. (there, stands_in x told, why))
  header_refused (fault.OtherStore header) new before why = (before, λ x told. (there, stands_in x told, why))
  header_refused fault.DiskFailed new before why = absurd why
  header_refused fault.TooSmall new before why = absurd why
  header_refused (fault.Damaged cell) new before why = absurd why
  header_refused (fault.BadSlot cell) new before why = absurd why
  header_refused (fault.BadBound cell) new before why = absurd why
  header_refused fault.Memory new before why = absurd why

pub header_fits : (wanted : Layout) (image : List ℕ) (old mid : DiskState) (there : Option StoreHeader) → mid.told ≡ old.told → Sees old image
    → ((t : Told) → mid.told ≡ Some t → part 0 32 t.bytes ≡ part 0 32 image → HeaderStands t.bytes there)
    → IfSome there (λ header. header.layout.version ≡ One → HasFirstHead header.layout.kind image)
    → TakesHeader wanted there → FitsWanted wanted image old
header_fits wanted image old mid None same sees stands first takes = absurd takes
header_fits wanted image old mid (Some header) same sees stands first (twin, wants) = record {
  wants = wants;
  version = λ x told. (is_first_twin x header twin (stands_in wanted image old mid (Some header) same sees stands x told)).0;
  head = subst (λ (l : Layout). HasFirstHead l.kind image) twin (first (ap (λ (l : Layout). l.version) twin));
}

-- ---- why it isn't grown

pub not_seen : (wanted : Layout) (routes : List Route) (old new : DiskState) (f : GrowFault) → HasRouteRoom routes old → NotSeen wanted old new f
    → NotGrown wanted routes old new f
not_seen wanted routes old new fault.NotFormatted room why = (
  why.0,
  λ x told.
      let (there, stands, none) = why.1 x told in
      no_store x room told (subst (HeaderStands x) none stands),
)
not_seen wanted routes old new (fault.OtherStore header) room why = (
  why.0,
  λ x told.
      let (there, stands, is) = why.1 x told in
      other_store x header room told (subst (HeaderStands x) is.0 stands) is.1,
)
not_seen wanted routes old new fault.DiskFailed room why = (why.0, inl why.1)
not_seen wanted routes old new fault.TooSmall room why = (why.0, inr (λ x told. absurd (why.1 x told).2))
not_seen wanted routes old new (fault.Damaged cell) room why = (why.0, λ x told. absurd (why.1 x told).2)
not_seen wanted routes old new (fault.BadSlot cell) room why = (why.0, λ x told. absurd (why.1 x told).2)
not_seen wanted routes old new (fault.BadBound cell) room why = (why.0, λ x told. absurd (why.1 x told).2)
not_seen wanted routes old new fault.Memory room why = why.0

module _ (wanted : Layout) (routes : List Route) (old new : DiskState) (image : List ℕ) (room : HasRouteRoom routes old) (sees : Sees old image)
    (fits : FitsWanted wanted image old) where
  cause : (f : GrowFault) → RefusesBytes routes image f → OfBytes old (λ x. CannotBeGrown wanted routes old f)
  cause f why x told =
      by_bytes x f room told fits.wants (fits.version x told) (subst (HasFirstHead Twin) (sees x told) fits.head)
      (subst (λ (b : List ℕ). RefusesBytes routes b f) (sees x told) why)

  pub bytes_refused : (f : GrowFault) → AsBefore 2 old new → RefusesBytes routes image f → NotGrown wanted routes old new f
  bytes_refused fault.NotFormatted before why = absurd why
  bytes_refused (fault.OtherStore there) before why = absurd why
  bytes_refused fault.TooSmall before why = (before, inr (cause fault.TooSmall why))
  bytes_refused (fault.Damaged cell) before why = (before, cause (fault.Damaged cell) why)
  bytes_refused (fault.BadSlot cell) before why = (before, cause (fault.BadSlot cell) why)
  bytes_refused (fault.BadBound cell) before why = (before, cause (fault.BadBound cell) why)
  bytes_refused fault.Memory before why = absurd why
  bytes_refused fault.DiskFailed before why = absurd why

-- and why it is
pub could_be : (wanted : Layout) (routes : List Route) (old : DiskState) (image : List ℕ) (count : ℕ) → HasRouteRoom routes old → Sees old image
    → FitsWanted wanted image old → CanGrow routes image count → OfBytes old (λ x. CanBeGrown wanted routes old)
could_be wanted routes old image count room sees fits can x told = record {
  wants = fits.wants;
  room = room;
  bytes = x;
  told = told;
  version = fits.version x told;
  count = count;
  could = subst (λ (b : List ℕ). CanGrow routes b count) (sees x told) can;
}

pub as_it_was : (disk : DiskState) → AsBefore 2 disk disk
as_it_was disk = as_before_more 2 (omega arith) (as_before_none disk)

-- ---- how many calls

pub runs_all : (routes : List Route) (old mid new : DiskState) → Runs [] 2 old mid → Runs [] (2 + 4 * length routes) mid new
    → Runs [] (4 + 4 * length routes) old new
runs_all routes old mid new first more = runs_more (4 + 4 * length routes) (omega arith) (runs_join first more)

pub runs_less : (routes : List Route) (most : ℕ) (old new : DiskState) → most ≤ 2 → Runs [] most old new → Runs [] (4 + 4 * length routes) old new
runs_less routes most old new few runs = runs_more (4 + 4 * length routes) (omega (arith, few)) runs
