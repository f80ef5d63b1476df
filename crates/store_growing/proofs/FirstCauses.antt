-- One cause at most stands why a store isn't grown, none if it can be, and one of the two always
use Rattle.std.proofs.Common.{◌≡◌, ◌⊎◌, ◌∙◌, ℕ, zero, suc, ◌+◌, ◌-◌, ◌<◌, ◌≤◌, ◌^◌, List, length, refl, sym, ap, subst, inl, inr, arith, Some, None, replicate}
use Rattle.std.specs.Prelude.{Option}
use Rattle.std.proofs.lemmas.Bool.{cases_Bool, cases_lt, false≢true}
use Rattle.std.proofs.lemmas.Option.{same_Some}
use Rattle.basics.specs.Numbers.{number_of, bytes_of}
use Rattle.basics.proofs.CallerLemmas.{number_of-bytes_of-lt}
use Rattle.cut_disk.specs.State.{DiskState, Told}
use Rattle.cut_disk.specs.Images.{firm}
use Rattle.cell_store.specs.declared.kinds.Kind.{Kind}
use Rattle.cell_store.specs.declared.kinds.Kind.TheVariants.{Twin, Log}
use Rattle.cell_store.specs.declared.kinds.Layout.{Layout}
use Rattle.cell_store.specs.declared.kinds.Version.{Version}
use Rattle.cell_store.specs.declared.kinds.Version.TheVariants.{One, Two}
use Rattle.cell_store.specs.Layout.{part, twin_layout}
use Rattle.cell_store.specs.Twin.{cell_at, is_live, twin_size, first_at, second_at}
use Rattle.freshness_routes.specs.declared.routes.Route.{Route}
use Rattle.freshness_store.specs.Bound.{bound_cell, HoldsBound}
use Rattle.store_growing.specs.declared.faults.GrowFault.{GrowFault}
use Rattle.store_growing.specs.declared.faults.GrowFault.TheVariants.{DiskFailed, NotFormatted, TooSmall, BadBound, OtherStore, Damaged, BadSlot, Memory}
use Rattle.store_growing.specs.declared.headers.StoreHeader.{StoreHeader}
use Rattle.store_growing.specs.StoreHeaders.{cells_counted, HasVersionTwo, HasFirstHead, HeaderStands, store_header}
use Rattle.store_growing.specs.RouteCells.{route_cell, RouteAt, HoldsRoute, AreErased, IsFree, FreeFrom, HaveCells, HaveSlots}
use Rattle.store_growing.specs.RouteCells.{CanGrow, HoldsOther, RefusesBytes}
use Rattle.store_growing.specs.LookSteps.{HaveJust, UsedAt, RefusesSlots}
use Rattle.store_growing.specs.GrowingStores.{OfBytes, CanBeGrown, CannotBeGrown, IsOther, HasRouteRoom, no_room, other_store, no_store, by_bytes}
use Rattle.store_growing.proofs.OneCell.{free_isnt_held}
use Rattle.store_growing.proofs.HeaderFacts.{Decided, bytes_same, stands_one, one_stands, first_twin_stands, is_first_twin}
use Rattle.store_growing.proofs.SlotsFirst.{of_damaged, of_bad, not_whole, one_first, not_both, slots_seen}
use Rattle.store_growing.proofs.CellsWritten.{routes_some, have_none, have_more, have_just, have_all, first_or_later}

-- ---- the first route without its cell is one, and so is the first cell that can't be written

module _ (routes : List Route) (x : List ℕ) where
  -- this route hasn't its cell
  abbrev Lacks : ℕ → Type 0
  Lacks count = (route : Route) → RouteAt routes count route → ¬ HoldsRoute x (route_cell count) route

  -- the cells of the places from one on, that lie below another or below all, can be written: the first of them lacks
  free_lacks : (count to : ℕ) → count < to → FreeFrom x count to → Lacks count
  free_lacks count to low free route at held = free_isnt_held (route_cell count) route x (free count (omega arith) low) held

  -- where one count has the routes' cells the other lacks none
  not_below : (count other : ℕ) → HaveCells routes x other → Lacks count → count < other → ⊥
  not_below count other have lacks less =
      let most = have.few in
      let (route, at) = routes_some routes count (omega (arith, less, most)) in
      lacks route at (have.held count route less at)

  one_count : (count other : ℕ) → HaveCells routes x count → HaveCells routes x other → Lacks count → Lacks other → count ≡ other
  one_count count other have also lacks gone = elim (cases_lt count other) [
    | inl less ↦ absurd (not_below count other also lacks less)
    | inr from ↦ elim (cases_lt other count) [ inl more ↦ absurd (not_below other count have gone more) | inr to ↦ (let e : count ≡ other = omega (arith, from, to) in e) ]
  ]

  -- if all from a count on can be written, none of them is in use
  none_used : (count : ℕ) → HaveCells routes x count → FreeFrom x count (length routes) → (cell : ℕ) → HoldsOther routes x cell → ⊥
  none_used count have free cell bad =
      elim (cases_lt count (length routes)) [
        | inl low ↦ (let e : count ≡ bad.count = one_count count bad.count have bad.have (free_lacks count (length routes) low free) bad.lacks in
            bad.used (free bad.place (let from = bad.from in omega (arith, e, from)) bad.below))
        | inr all ↦ (let from = bad.from in let low = bad.below in
            not_below bad.count count have bad.lacks (omega (arith, all, from, low)))
      ]

  one_cell : (cell other : ℕ) → HoldsOther routes x cell → HoldsOther routes x other → cell ≡ other
  one_cell cell other h k =
      let e : h.count ≡ k.count = one_count h.count k.count h.have k.have h.lacks k.lacks in
      let same : h.place ≡ k.place = elim (cases_lt h.place k.place) [
        | inl less ↦ absurd (h.used (k.free h.place (let from = h.from in omega (arith, e, from)) less))
        | inr from ↦ elim (cases_lt k.place h.place) [
          | inl more ↦ absurd (k.used (h.free k.place (let least = k.from in omega (arith, e, least)) more))
          | inr to ↦ (let p : h.place ≡ k.place = omega (arith, from, to) in p)
        ]
      ] in
      h.is ∙ (ap route_cell same ∙ sym k.is)

  pub one_fault : (one other : GrowFault) → RefusesBytes routes x one → RefusesBytes routes x other → one ≡ other
  one_fault (Damaged cell) (Damaged other) a b = ap Damaged (one_first x cell other (of_damaged x cell a) (of_damaged x other b))
  one_fault (Damaged cell) (BadSlot other) a b = absurd (not_both x cell other a b)
  one_fault (Damaged cell) (BadBound other) a b = absurd (not_whole x cell (of_damaged x cell a) b.slots)
  one_fault (Damaged cell) TooSmall a b = absurd (not_whole x cell (of_damaged x cell a) b.slots)
  one_fault (Damaged cell) (OtherStore there) a b = absurd b
  one_fault (Damaged cell) NotFormatted a b = absurd b
  one_fault (Damaged cell) Memory a b = absurd b
  one_fault (Damaged cell) DiskFailed a b = absurd b
  one_fault (BadSlot cell) (Damaged other) a b = absurd (not_both x other cell b a)
  one_fault (BadSlot cell) (BadSlot other) a b = ap BadSlot (one_first x cell other (of_bad x cell a) (of_bad x other b))
  one_fault (BadSlot cell) (BadBound other) a b = absurd (not_whole x cell (of_bad x cell a) b.slots)
  one_fault (BadSlot cell) TooSmall a b = absurd (not_whole x cell (of_bad x cell a) b.slots)
  one_fault (BadSlot cell) (OtherStore there) a b = absurd b
  one_fault (BadSlot cell) NotFormatted a b = absurd b
  one_fault (BadSlot cell) Memory a b = absurd b
  one_fault (BadSlot cell) DiskFailed a b = absurd b
  one_fault (BadBound cell) (Damaged other) a b = absurd (not_whole x other (of_damaged x other b) a.slots)
  one_fault (BadBound cell) (BadSlot other) a b = absurd (not_whole x other (of_bad x other b) a.slots)
  one_fault (BadBound cell) (BadBound other) a b = ap BadBound (one_cell cell other a b)
  one_fault (BadBound cell) TooSmall a b = absurd (none_used b.count b.have b.free cell a)
  one_fault (BadBound cell) (OtherStore there) a b = absurd b
  one_fault (BadBound cell) NotFormatted a b = absurd b
  one_fault (BadBound cell) Memory a b = absurd b
  one_fault (BadBound cell) DiskFailed a b = absurd b
  one_fault TooSmall (Damaged other) a b = absurd (not_whole x other (of_damaged x other b) a.slots)
  one_fault TooSmall (BadSlot other) a b = absurd (not_whole x other (of_bad x other b) a.slots)
  one_fault TooSmall (BadBound cell) a b = absurd (none_used a.count a.have a.free cell b)
  one_fault TooSmall TooSmall a b = refl
  one_fault TooSmall (OtherStore there) a b = absurd b
  one_fault TooSmall NotFormatted a b = absurd b
  one_fault TooSmall Memory a b = absurd b
  one_fault TooSmall DiskFailed a b = absurd b
  one_fault (OtherStore there) other a b = absurd a
  one_fault NotFormatted other a b = absurd a
  one_fault Memory other a b = absurd a
  one_fault DiskFailed other a b = absurd a

  isnt_refused : (count : ℕ) → CanGrow routes x count → (fault : GrowFault) → RefusesBytes routes x fault → ⊥
  isnt_refused count can (Damaged cell) why = not_whole x cell (of_damaged x cell why) can.slots
  isnt_refused count can (BadSlot cell) why = not_whole x cell (of_bad x cell why) can.slots
  isnt_refused count can (BadBound cell) why = none_used count can.have can.free cell why
  isnt_refused count can TooSmall why = why.used can.ends
  isnt_refused count can (OtherStore there) why = why
  isnt_refused count can NotFormatted why = why
  isnt_refused count can Memory why = why
  isnt_refused count can DiskFailed why = why

  -- bytes grow from one count on
  pub count_once : (count other : ℕ) → CanGrow routes x count → CanGrow routes x other → count ≡ other
  count_once count other can also = elim (cases_lt count other) [
    | inl less ↦ absurd (let most = also.have.few in
        not_below count other also.have (free_lacks count (length routes) (omega (arith, less, most)) can.free) less)
    | inr from ↦ elim (cases_lt other count) [
      | inl more ↦ absurd (let most = can.have.few in
          not_below other count can.have (free_lacks other (length routes) (omega (arith, more, most)) also.free) more)
      | inr to ↦ (let e : count ≡ other = omega (arith, from, to) in e)
    ]
  ]

-- ---- one disk

same_bytes : (old : DiskState) (x y : List ℕ) → old.told ≡ Some (firm x) → old.told ≡ Some (firm y) → x ≡ y
same_bytes old x y told also = let e : firm x ≡ firm y = same_Some _ _ (sym told ∙ also) in ap (λ (t : Told). t.bytes) e

-- where another store stands than a twin store of version 1, or another is wanted, no such store is wanted and stands
module _ (wanted : Layout) (x : List ℕ) (there : StoreHeader) (stands : HeaderStands x (Some there)) (other : IsOther wanted there) where
  isnt_first_twin : wanted ≡ twin_layout One → ¬ HasVersionTwo x → HasFirstHead Twin x → ⊥
  isnt_first_twin wants version head =
      let same : there ≡ store_header Twin One (cells_counted x) =
      same_Some _ _ (stands_one x (Some there) (Some (store_header Twin One (cells_counted x))) stands (first_twin_stands x version head)) in
      other (ap (λ (h : StoreHeader). h.layout) same, wants)

-- and where none stands
none_isnt_first : (x : List ℕ) → HeaderStands x None → ¬ HasVersionTwo x → HasFirstHead Twin x → ⊥
none_isnt_first x stands version head =
    let e : None ≡ Some (store_header Twin One (cells_counted x)) =
    stands_one x None (Some (store_header Twin One (cells_counted x))) stands (first_twin_stands x version head) in cc

module _ (wanted : Layout) (routes : List Route) (old : DiskState) where
  abbrev Cannot : GrowFault → Type 0
  Cannot fault = CannotBeGrown wanted routes old fault

  pub refused_once : (one other : GrowFault) → length routes ≤ 256 → Cannot one → Cannot other → one ≡ other
  refused_once _ _ few (no_room less) (no_room _) = refl
  refused_once _ _ few (no_room less) (other_store y there room told stands other) = absurd (omega (arith, less, room))
  refused_once _ _ few (no_room less) (no_store y room told stands) = absurd (omega (arith, less, room))
  refused_once _ _ few (no_room less) (by_bytes y other room told wants version head why) = absurd (omega (arith, less, room))
  refused_once _ _ few (other_store x there room told stands other) (no_room less) = absurd (omega (arith, less, room))
  refused_once _ _ few (other_store x there room told stands other) (other_store y that _ also has _) =
      ap OtherStore (same_Some _ _ (stands_one x (Some there) (Some that) stands
      (subst (λ (b : List ℕ). HeaderStands b (Some that)) (same_bytes old y x also told) has)))
  refused_once _ _ few (other_store x there room told stands other) (no_store y _ also none) =
      absurd (let e : Some there ≡ None = stands_one x (Some there) None stands
      (subst (λ (b : List ℕ). HeaderStands b None) (same_bytes old y x also told) none) in cc)
  refused_once _ _ few (other_store x there room told stands other) (by_bytes y fault _ also wants version head why) =
      absurd (isnt_first_twin wanted y there (subst (λ (b : List ℕ). HeaderStands b (Some there)) (same_bytes old x y told also) stands) other
      wants version head)
  refused_once _ _ few (no_store x room told none) (no_room less) = absurd (omega (arith, less, room))
  refused_once _ _ few (no_store x room told none) (other_store y there _ also stands other) =
      absurd (let e : None ≡ Some there = stands_one x None (Some there) none
      (subst (λ (b : List ℕ). HeaderStands b (Some there)) (same_bytes old y x also told) stands) in cc)
  refused_once _ _ few (no_store x room told none) (no_store y _ also _) = refl
  refused_once _ _ few (no_store x room told none) (by_bytes y fault _ also wants version head why) =
      absurd (none_isnt_first y (subst (λ (b : List ℕ). HeaderStands b None) (same_bytes old x y told also) none) version head)
  refused_once _ _ few (by_bytes x fault room told wants version head why) (no_room less) = absurd (omega (arith, less, room))
  refused_once _ _ few (by_bytes x fault room told wants version head why) (other_store y there _ also stands other) =
      absurd (isnt_first_twin wanted x there (subst (λ (b : List ℕ). HeaderStands b (Some there)) (same_bytes old y x also told) stands) other
      wants version head)
  refused_once _ _ few (by_bytes x fault room told wants version head why) (no_store y _ also none) =
      absurd (none_isnt_first x (subst (λ (b : List ℕ). HeaderStands b None) (same_bytes old y x also told) none) version head)
  refused_once _ _ few (by_bytes x one room told wants version head why) (by_bytes y other _ also _ _ _ cause) =
      one_fault routes x one other why (subst (λ (b : List ℕ). RefusesBytes routes b other) (same_bytes old y x also told) cause)

  pub a_store_that_can_grow_is_not_refused : (fault : GrowFault) → length routes ≤ 256 → CanBeGrown wanted routes old → ¬ Cannot fault
  a_store_that_can_grow_is_not_refused _ few can (no_room less) = let room = can.room in omega (arith, less, room)
  a_store_that_can_grow_is_not_refused _ few can (other_store x there room told stands other) =
      isnt_first_twin wanted can.bytes there
      (subst (λ (b : List ℕ). HeaderStands b (Some there)) (same_bytes old x can.bytes told can.told) stands) other can.wants can.version can.could.head
  a_store_that_can_grow_is_not_refused _ few can (no_store x room told none) =
      none_isnt_first can.bytes (subst (λ (b : List ℕ). HeaderStands b None) (same_bytes old x can.bytes told can.told) none) can.version can.could.head
  a_store_that_can_grow_is_not_refused _ few can (by_bytes x fault room told wants version head why) =
      isnt_refused routes can.bytes can.count can.could fault
      (subst (λ (b : List ℕ). RefusesBytes routes b fault) (same_bytes old x can.bytes told can.told) why)

-- ---- each is decided

erased_or_not : (at n : ℕ) (x : List ℕ) → Decided (AreErased at n x)
erased_or_not at n x = elim (bytes_same (part at n x) (replicate n 0)) [
  | inl zeros ↦ inl (inl zeros)
  | inr other ↦ elim (bytes_same (part at n x) (replicate n 0xff)) [
    | inl ones ↦ inl (inr ones)
    | inr neither ↦ inr (λ erased. elim erased [ inl zeros ↦ other zeros | inr ones ↦ neither ones ])
  ]
]

free_or_not : (x : List ℕ) (cell : ℕ) → Decided (IsFree x cell)
free_or_not x cell = elim (cases_lt cell (cells_counted x)) [
  | inl counted ↦ inr (λ free. let u = free.uncounted in omega (arith, counted, u))
  | inr uncounted ↦ elim (cases_Bool (is_live (part (first_at cell) 34 x))) [
    | inl live ↦ inr (λ free. false≢true (sym free.closed ∙ live))
    | inr closed ↦ elim (erased_or_not (second_at cell) 34 x) [
      | inl erased ↦ inl (record { uncounted = uncounted; closed = closed; erased = erased })
      | inr used ↦ inr (λ free. used free.erased)
    ]
  ]
]

-- the bound that a cell holds, if it holds one
abbrev eight_bytes : List ℕ → List ℕ
eight_bytes cell = part 4 8 cell

eight_bytes_are : (cell : List ℕ) (route : Route) (bound : ℕ) → cell ≡ bound_cell route.id route.direction bound → eight_bytes cell ≡ bytes_of 8 bound
unfolding bound_cell bytes_of
eight_bytes_are cell route bound e = rw e refl

bound_of : (cell : List ℕ) (route : Route) (bound : ℕ) → HoldsBound cell route.id route.direction bound → number_of (eight_bytes cell) ≡ bound
bound_of cell route bound h =
    ap number_of (eight_bytes_are cell route bound h.cell_is) ∙ number_of-bytes_of-lt 8 bound (let low = h.bound_fits in omega (arith, low))

holds_or_not : (cell : List ℕ) (route : Route) → Decided ((bound : ℕ) × HoldsBound cell route.id route.direction bound)
holds_or_not cell route =
    let bound : ℕ = number_of (eight_bytes cell) in
    elim (cases_lt route.id (2 ^ 16)) [
      | inl id_fits ↦ elim (cases_lt bound (2 ^ 64)) [
        | inl bound_fits ↦ elim (bytes_same cell (bound_cell route.id route.direction bound)) [
          | inl is ↦ inl (bound, record { id_fits = id_fits; bound_fits = bound_fits; cell_is = is })
          | inr other ↦ inr (λ held. other (subst (λ (b : ℕ). cell ≡ bound_cell route.id route.direction b) (sym (bound_of cell route held.0 held.1)) held.1.cell_is))
        ]
        | inr most ↦ inr (λ held. let low = held.1.bound_fits in omega (arith, most, low, bound_of cell route held.0 held.1))
      ]
      | inr most ↦ inr (λ held. let low = held.1.id_fits in omega (arith, most, low))
    ]

held_or_not : (x : List ℕ) (cell : ℕ) (route : Route) (held : Option (List ℕ)) → cell_at x cell ≡ held → Decided (HoldsRoute x cell route)
held_or_not x cell route None is = inr (λ h. absurd (let none : None ≡ Some h.0 = sym is ∙ h.2 in cc))
held_or_not x cell route (Some bytes) is = elim (holds_or_not bytes route) [
  | inl h ↦ inl (bytes, h.0, is, h.1)
  | inr none ↦ inr (λ h.
      let same : h.0 ≡ bytes = (let e : Some h.0 ≡ Some bytes = sym h.2 ∙ is in cc) in
      none (h.1, subst (λ (b : List ℕ). HoldsBound b route.id route.direction h.1) same h.3))
]

-- the cells of so many places can be written, or one is the first that can't
free_to : (x : List ℕ) (from left : ℕ) → FreeFrom x from (from + left) ⊎ ((place : ℕ) × UsedAt x from (from + left) place)
free_to x from zero = inl (λ place least below. absurd (omega (arith, least, below)))
free_to x from (suc left) = elim (free_or_not x (route_cell from)) [
  | inr used ↦ inr (
    from,
    record { least = omega arith; below = omega arith; free = λ place least below. absurd (omega (arith, least, below)); used = used },
  )
  | inl free ↦ elim (free_to x (from + 1) left) [
    | inl rest ↦ inl (λ place least below. first_or_later x from free place least
        (λ more. rest place (omega (arith, more)) (omega (arith, below))))
    | inr (place, used) ↦ inr (
      place,
      record {
        least = let l = used.least in omega (arith, l);
        below = let b = used.below in omega (arith, b);
        free = λ other least below. first_or_later x from free other least (λ more. used.free other (omega (arith, more)) below);
        used = used.used;
      },
    )
  ]
]

-- so many of the first routes have their cells, and the next has none
have_to : (routes : List Route) (x : List ℕ) (left count : ℕ) → count + left ≡ length routes → HaveCells routes x count
    → (n : ℕ) × HaveJust routes x n
have_to routes x zero count is have = (
  count,
  subst (HaveJust routes x) (let e : length routes ≡ count = omega (arith, is) in e)
      (have_all routes x (subst (HaveCells routes x) (let e : count ≡ length routes = omega (arith, is) in e) have)),
)
have_to routes x (suc left) count is have =
    let (route, at) = routes_some routes count (omega (arith, is)) in
    elim (held_or_not x (route_cell count) route (cell_at x (route_cell count)) refl) [
      | inl held ↦ have_to routes x left (count + 1) (omega (arith, is)) (have_more routes x count route have at held)
      | inr none ↦ (count, have_just routes x count route have at none)
    ]

module _ (routes : List Route) (x : List ℕ) where
  abbrev Seen : Type 0
  Seen = ((count : ℕ) × CanGrow routes x count) ⊎ ((fault : GrowFault) × RefusesBytes routes x fault)

  seen_free : (count : ℕ) → HasFirstHead Twin x → HaveSlots x 14 → HaveJust routes x count
      → FreeFrom x count (length routes) ⊎ ((place : ℕ) × UsedAt x count (length routes) place) → Seen
  seen_free count head slots just (inl free) = elim (erased_or_not (first_at (route_cell (length routes))) 68 x) [
    | inl ends ↦ inl (count, record { head = head; slots = slots; have = just.have; free = free; ends = ends })
    | inr used ↦ inr (TooSmall, record { slots = slots; count = count; have = just.have; free = free; used = used })
  ]
  seen_free count head slots just (inr (place, used)) = inr (
    BadBound (route_cell place),
    record {
      slots = slots;
      count = count;
      have = just.have;
      lacks = just.lacks;
      place = place;
      from = used.least;
      below = used.below;
      is = refl;
      free = used.free;
      used = used.used;
    },
  )

  -- what isn't the cell of a slot refuses the bytes
  of_slots : (fault : GrowFault) → RefusesSlots x fault → RefusesBytes routes x fault
  of_slots (Damaged cell) why = why
  of_slots (BadSlot cell) why = why
  of_slots (BadBound cell) why = absurd why
  of_slots TooSmall why = absurd why
  of_slots (OtherStore there) why = absurd why
  of_slots NotFormatted why = absurd why
  of_slots Memory why = absurd why
  of_slots DiskFailed why = absurd why

  pub seen : HasFirstHead Twin x → Seen
  seen head = elim (slots_seen x) [
    | inr (fault, why) ↦ inr (fault, of_slots fault why)
    | inl slots ↦ (
        let (count, just) = have_to routes x (length routes) 0 (omega arith) (have_none routes x) in
        let most = just.have.few in
        let left : ℕ = length routes - count in
        let e : count + left ≡ length routes = omega (arith, most) in
        seen_free count head slots just (subst (λ (n : ℕ). FreeFrom x count n ⊎ ((place : ℕ) × UsedAt x count n place)) e (free_to x count left)))
  ]

-- ---- a disk that tells these bytes

kind_or_another : (kind : Kind) → Decided (kind ≡ Twin)
kind_or_another Twin = inl refl
kind_or_another Log = inr (λ e. absurd (cc))

version_or_another : (version : Version) → Decided (version ≡ One)
version_or_another One = inl refl
version_or_another Two = inr (λ e. absurd (cc))

first_twin_or_not : (layout : Layout) → Decided (layout ≡ twin_layout One)
first_twin_or_not layout = elim (kind_or_another layout.kind) [
  | inr kind ↦ inr (λ e. kind (ap (λ (l : Layout). l.kind) e))
  | inl kind ↦ elim (version_or_another layout.version) [
    | inr version ↦ inr (λ e. version (ap (λ (l : Layout). l.version) e))
    | inl version ↦ inl (rw (kind, version) refl)
  ]
]

module _ (wanted : Layout) (routes : List Route) (old : DiskState) (x : List ℕ) (told : old.told ≡ Some (firm x)) (room : HasRouteRoom routes old) where
  abbrev Answer : Type 0
  Answer = CanBeGrown wanted routes old ⊎ ((fault : GrowFault) × CannotBeGrown wanted routes old fault)

  by_bytes_seen : wanted ≡ twin_layout One → ¬ HasVersionTwo x → HasFirstHead Twin x → Answer
  by_bytes_seen wants version head = elim (seen routes x head) [
    | inl (count, could) ↦ inl (record { wants = wants; room = room; bytes = x; told = told; version = version; count = count; could = could })
    | inr (fault, why) ↦ inr (fault, by_bytes x fault room told wants version head why)
  ]

  by_header : (there : Option StoreHeader) → HeaderStands x there → Answer
  by_header None none = inr (NotFormatted, no_store x room told none)
  by_header (Some there) stands = elim (first_twin_or_not there.layout) [
    | inr other ↦ inr (OtherStore there, other_store x there room told stands (λ both. other both.0))
    | inl twin ↦ elim (first_twin_or_not wanted) [
      | inr other ↦ inr (OtherStore there, other_store x there room told stands (λ both. other both.1))
      | inl wants ↦ (let is = is_first_twin x there twin stands in by_bytes_seen wants is.0 is.1)
    ]
  ]

pub can_or_cannot : (wanted : Layout) (routes : List Route) (old : DiskState) (x : List ℕ) → length routes ≤ 256 → old.told ≡ Some (firm x)
    → length x ≡ old.size → CanBeGrown wanted routes old ⊎ ((fault : GrowFault) × CannotBeGrown wanted routes old fault)
can_or_cannot wanted routes old x few told sized = elim (cases_lt old.size (twin_size (route_cell (length routes) + 1))) [
  | inl less ↦ inr (TooSmall, no_room less)
  | inr room ↦ (let (there, stands) = one_stands x (omega (arith, room, sized)) in by_header wanted routes old x told room there stands)
]

-- a disk that tells its bytes is too small by its size or by them
pub small_told : (wanted : Layout) (routes : List Route) (old : DiskState) (x : List ℕ) → old.told ≡ Some (firm x)
    → (old.size < twin_size (route_cell (length routes) + 1)) ⊎ OfBytes old (λ x. CannotBeGrown wanted routes old TooSmall)
    → CannotBeGrown wanted routes old TooSmall
small_told wanted routes old x told (inl less) = no_room less
small_told wanted routes old x told (inr of) = of x told
