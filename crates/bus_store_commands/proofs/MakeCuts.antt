-- What a power cut leaves of a disk of zeros on which a node's store is made
use Rattle.std.proofs.Common.{◌≡◌, ◌⊎◌, ℕ, zero, suc, ◌+◌, ◌-◌, ◌<◌, ◌≤◌, true, false, ◌==◌, Some, None, List, [], ◌∷◌}
use Rattle.std.proofs.Common.{◌++◌, length, take, drop, map, get_or, replicate, refl, sym, ap, subst, ◌∙◌, inl, inr, arith}
use Rattle.std.proofs.Common.{length-take, length-drop, length-append}
use Rattle.std.proofs.lemmas.Bool.{cases_lt, cases_Bool, false≢true}
use Rattle.std.proofs.lemmas.Slice.Eq.{bytes_eq-Decides}
use Rattle.std.specs.Str.{bytes_eq}
use Rattle.std.proofs.lemmas.Option.{same_Some}
use Rattle.std.proofs.lemmas.List.{take_at, drop_at, length-replicate, get_or-replicate, get_or_past, get_or-take, get_or-drop, ext_get_or}
use Rattle.std.proofs.lemmas.List.{length-take-le, get_or_append_left, get_or-append-add, append_assoc}
use Rattle.basics.specs.Numbers.{bytes_of}
use Rattle.cut_disk.specs.State.{DiskState}
use Rattle.cut_disk.specs.Images.{EachImage, firm, splice}
use Rattle.cell_store.specs.declared.kinds.Kind.{Kind}
use Rattle.cell_store.specs.declared.kinds.Kind.TheVariants.{Twin, Log}
use Rattle.cell_store.specs.declared.kinds.Version.{Version}
use Rattle.cell_store.specs.declared.kinds.Version.TheVariants.{One, Two}
use Rattle.cell_store.specs.declared.faults.StoreFault.TheVariants as store
use Rattle.cell_store.specs.declared.copies.Side.{Side}
use Rattle.cell_store.specs.declared.copies.Side.TheVariants.{First, Second}
use Rattle.cell_store.specs.Copies.{other}
use Rattle.cell_store.specs.Layout.{SameOutside, part, base, from_base, header}
use Rattle.cell_store.specs.Twin.{is_live, counts, cell_of, cell_at, first_at, second_at}
use Rattle.cell_store.specs.Log.{bank_at, bank_head}
use Rattle.cell_store.specs.Store.{HasHeader, HoldsCells, IsDamaged, FirstDamaged, Fresh, fresh_store, fresh_cells, size_from_base, store_size}
use Rattle.cell_store.specs.Formats.{FreshOn, Unformed, FreshButHeader}
use Rattle.cell_store.proofs.CallerLemmas.{SameOutside-splice, header-not_blank, length-header, length-fresh_cells, length-fresh_log, Sized}
use Rattle.any_cells.specs.declared.looking.Found.TheVariants.{Blank, Standing, Foreign}
use Rattle.any_cells.specs.Either.{layout}
use Rattle.any_cells.specs.Looking.{IsBlank, IsFound}
use Rattle.any_cells.proofs.CallerLemmas.{only-image, unformed-same}
use Rattle.key_slots.specs.declared.memory.Slot.TheVariants.{Empty}
use Rattle.slot_disk.specs.Cell.{slot_cell}
use Rattle.freshness_store.specs.Bound.{bound_cell}
use Rattle.freshness_routes.specs.declared.routes.Route.{Route}
use Rattle.freshness_routes.specs.Config.{Config, IsConfig}
use Rattle.bus_machine.specs.Node.{first_node}
use Rattle.secoc_node.specs.Cells.{CellsOf, bound_cells}
use Rattle.bus_world.specs.TakingUp.{cells_in, new_cells}
use Rattle.bus_store_commands.specs.declared.making.MakeFault.{MakeFault}
use Rattle.bus_store_commands.specs.declared.making.MakeFault.TheVariants as fault
use Rattle.bus_store_commands.specs.NodeStores.{made, stood, MadeOrFound, StoreMade, StoreUnmade}
use Rattle.bus_store_commands.specs.CutMakes.{whole, blank, torn, NewStore, CutMake}
use Rattle.bus_store_commands.proofs.MakingStores.{standing_header, new_length}

-- ---- zeros

zero_at : (size k : ℕ) → ◌≡◌ {A = ℕ} (get_or (replicate size 0) k 0) 0
zero_at size k = elim (cases_lt k size) [
  | inl below ↦ get_or-replicate size k 0 0 below
  | inr past ↦ get_or_past (replicate size 0) k 0 (let e = length-replicate {A = ℕ} size 0 in omega (arith, e, past))
]

-- the first byte of a part of a store
part_byte : (at m b : ℕ) (x : List ℕ) → 0 < m → get_or (part at m (drop b x)) 0 0 ≡ get_or x (b + at) 0
part_byte at m b x some =
    get_or-take m (drop at (drop b x)) 0 0 some
    ∙ (get_or-drop at (drop b x) 0 0
    ∙ (get_or-drop b x (at + 0) 0
    ∙ ap (λ (k : ℕ). get_or x k 0) (let e : b + (at + 0) ≡ b + at = omega arith in e)))

-- where the first byte is zero no header stands
no_header : (kind : Kind) (version : Version) (n : ℕ) (x : List ℕ) → get_or x (base version + 0) 0 ≡ 0 → ¬ HasHeader (layout kind version) n x
unfolding header
no_header kind version n x zero_first head =
    let first : ◌≡◌ {A = ℕ} 0x53 0 = sym (ap (λ (l : List ℕ). get_or l 0 0) head) ∙ (part_byte 0 32 (base version) x (omega arith) ∙ zero_first) in
    absurd (omega (arith, first))

not_live : (copy : List ℕ) → get_or copy 0 0 ≡ 0 → is_live copy ≡ false
unfolding is_live
not_live copy zero_first = ap (λ (k : ℕ). k == 0xa7) zero_first

never_counts : (this that : List ℕ) → is_live this ≡ false → counts this that ≡ false
unfolding counts
never_counts this that dead = rw dead refl

none_of : (first second : List ℕ) → is_live first ≡ false → is_live second ≡ false → cell_of first second ≡ None
unfolding cell_of
none_of first second p q = rw (never_counts first second p, never_counts second first q) refl

-- a store whose bytes after the header are zeros
module _ (version : Version) (x : List ℕ) (zeros : (k : ℕ) → base version + 32 ≤ k → get_or x k 0 ≡ 0) where
  dead_part : (at m : ℕ) → 0 < m → 32 ≤ at → is_live (part at m (from_base version x)) ≡ false
  dead_part at m some from = not_live (part at m (from_base version x)) (part_byte at m (base version) x some ∙ zeros (base version + at) (omega (arith, from)))

  no_cell : cell_at (from_base version x) 0 ≡ None
  unfolding cell_at
  no_cell = none_of (part (first_at 0) 34 (from_base version x)) (part (second_at 0) 34 (from_base version x))
      (dead_part (first_at 0) 34 (omega arith) (omega arith)) (dead_part (second_at 0) 34 (omega arith) (omega arith))

  no_bank : (n : ℕ) (side : Side) → counts (bank_head n side (from_base version x)) (bank_head n (other side) (from_base version x)) ≡ true → ⊥
  no_bank n First counting =
      false≢true (sym (never_counts (bank_head n First (from_base version x)) (bank_head n (other First) (from_base version x))
      (dead_part (bank_at n First) 2 (omega arith) (omega arith))) ∙ counting)
  no_bank n Second counting =
      false≢true (sym (never_counts (bank_head n Second (from_base version x)) (bank_head n (other Second) (from_base version x))
      (dead_part (bank_at n Second) 2 (omega arith) (omega arith))) ∙ counting)

  pub holds_none : (kind : Kind) (cells : List (List ℕ)) → 1 ≤ length cells → ¬ HoldsCells kind (from_base version x) cells
  unfolding HoldsCells
  holds_none Twin cells some holds = let h = holds 0 (omega (arith, some)) in let none = no_cell in cc
  holds_none Log cells some holds = no_bank (length cells) holds.side holds.counting

  first_damaged : (kind : Kind) (n : ℕ) → 1 ≤ n → FirstDamaged (layout kind version) x n 0
  unfolding IsDamaged
  first_damaged Twin n some = record { below = omega (arith, some); damaged = no_cell; before = λ j low. absurd (omega (arith, low)) }
  first_damaged Log n some = λ side counting. no_bank n side counting

-- ---- bytes that are zeros but for the range of a store

-- a store of a node ends before the header of one in version 2
low_end : (kind : Kind) (n : ℕ) → n ≤ 270 → size_from_base kind n ≤ 32768
low_end Twin n most = omega (arith, most)
low_end Log n most = omega (arith, most)

header_size : (kind : Kind) (n : ℕ) → 32 ≤ size_from_base kind n
header_size Twin n = omega arith
header_size Log n = omega arith

zero_part : (at : ℕ) (x : List ℕ) → at + 32 ≤ length x → ((k : ℕ) → at ≤ k → k < at + 32 → get_or x k 0 ≡ 0) → part 0 32 (drop at x) ≡ replicate 32 0
zero_part at x room zeros = ext_get_or 0 (part 0 32 (drop at x)) (replicate 32 0) lengths each where
  lengths : length (part 0 32 (drop at x)) ≡ length (replicate {A = ℕ} 32 0)
  lengths = simp (length-take, length-drop) (omega (arith, room))

  each : (k : ℕ) → k < length (part 0 32 (drop at x)) → get_or (part 0 32 (drop at x)) k 0 ≡ get_or (replicate 32 0) k 0
  each k below =
      let small : k < 32 = omega (arith, below, lengths, length-replicate {A = ℕ} 32 0) in
      get_or-take 32 (drop 0 (drop at x)) k 0 small
      ∙ (get_or-drop 0 (drop at x) k 0
      ∙ (get_or-drop at x (0 + k) 0
      ∙ (zeros (at + (0 + k)) (omega arith) (omega (arith, small)) ∙ sym (get_or-replicate 32 k 0 0 small))))

-- what is found in them, by their header
module _ (kind : Kind) (n size : ℕ) (most : n ≤ 270) (x : List ℕ) where
  no_newer : SameOutside 0 (size_from_base kind n) (replicate size 0) x → ¬ HasHeader (layout kind Two) n x
  no_newer besides = no_header kind Two n x (besides.above (32768 + 0) (let e = low_end kind n most in omega (arith, e)) ∙ zero_at size (32768 + 0))

  no_older : SameOutside 32768 (size_from_base kind n) (replicate size 0) x → ¬ HasHeader (layout kind One) n x
  no_older besides = no_header kind One n x (besides.below (0 + 0) (omega arith) ∙ zero_at size (0 + 0))

  low_blank : 32 ≤ size → SameOutside 32768 (size_from_base kind n) (replicate size 0) x → IsBlank One x
  low_blank room besides =
      let long : length x ≡ size = besides.lengths ∙ length-replicate size 0 in
      zero_part 0 x (omega (arith, long, room)) (λ k from to. besides.below k (omega (arith, to)) ∙ zero_at size k)

  pub blank_found : (version : Version) → store_size (layout kind version) n ≤ size → SameOutside (base version) (size_from_base kind n) (replicate size 0) x
      → IsBlank version x → IsFound kind version n x Blank
  blank_found One room besides is = inr (no_newer besides, inl (is, refl))
  blank_found Two room besides is = inr (
    (λ head. header-not_blank (layout kind Two) n (sym head ∙ is)),
    inr (no_older besides, inl ((low_blank (omega (arith, room)) besides, is), refl)),
  )

  pub standing_found : (version : Version) → SameOutside (base version) (size_from_base kind n) (replicate size 0) x → HasHeader (layout kind version) n x
      → IsFound kind version n x Standing
  standing_found One besides head = inr (
    no_newer besides,
    inr ((λ is. header-not_blank (layout kind One) n (sym head ∙ is)), inl (head, refl)),
  )
  standing_found Two besides head = inl (head, refl)

  pub foreign_found : (version : Version) → SameOutside (base version) (size_from_base kind n) (replicate size 0) x → ¬ IsBlank version x
      → ¬ HasHeader (layout kind version) n x → IsFound kind version n x Foreign
  foreign_found One besides not_blank no_head = inr (no_newer besides, inr (not_blank, inr (no_head, refl)))
  foreign_found Two besides not_blank no_head = inr (no_head, inr (no_older besides, inr ((λ both. not_blank both.1), refl)))

-- zeros alone
zeros_blank : (version : Version) (size : ℕ) → base version + 32 ≤ size → IsBlank version (replicate size 0)
zeros_blank version size room =
    let long = length-replicate {A = ℕ} size 0 in
    zero_part (base version) (replicate size 0) (omega (arith, long, room)) (λ k from to. zero_at size k)

header_room : (kind : Kind) (version : Version) (n size : ℕ) → store_size (layout kind version) n ≤ size → base version + 32 ≤ size
header_room kind version n size room = let e = header_size kind n in omega (arith, e, room)

pub zeros_found_blank : (kind : Kind) (version : Version) (n size : ℕ) → store_size (layout kind version) n ≤ size → IsFound kind version n (replicate size 0) Blank
zeros_found_blank kind One n size room = inr (
  no_header kind Two n (replicate size 0) (zero_at size (32768 + 0)),
  inl (zeros_blank One size (header_room kind One n size room), refl),
)
zeros_found_blank kind Two n size room = inr (
  no_header kind Two n (replicate size 0) (zero_at size (32768 + 0)),
  inr (
    no_header kind One n (replicate size 0) (zero_at size (0 + 0)),
    inl ((zeros_blank One size (omega (arith, header_room kind Two n size room)), zeros_blank Two size (header_room kind Two n size room)), refl),
  ),
)

pub zeros_hold_none : (kind : Kind) (version : Version) (size : ℕ) (cells : List (List ℕ)) → 1 ≤ length cells
    → ¬ HoldsCells kind (from_base version (replicate size 0)) cells
zeros_hold_none kind version size cells some = holds_none version (replicate size 0) (λ k from. zero_at size k) kind cells some

-- ---- a fresh store

-- each of a new node's cells has 32 bytes
bounds_sized : (routes : List Route) (bounds : List ℕ) → Sized (bound_cells routes bounds)
unfolding bound_cell bytes_of
bounds_sized [] bounds i below = absurd (omega (arith, below))
bounds_sized (route ∷ routes) [] i below = absurd (omega (arith, below))
bounds_sized (route ∷ routes) (bound ∷ bounds) zero below = refl
bounds_sized (route ∷ routes) (bound ∷ bounds) (suc i) below = bounds_sized routes bounds i (omega (arith, below))

slots_sized : (n : ℕ) → Sized (map slot_cell (replicate n Empty))
unfolding slot_cell
slots_sized zero i below = absurd (omega (arith, below))
slots_sized (suc n) zero below = refl
slots_sized (suc n) (suc i) below = slots_sized n i (omega (arith, below))

both_sized : (xs ys : List (List ℕ)) → Sized xs → Sized ys → Sized (xs ++ ys)
both_sized xs ys one two i below = elim (cases_lt i (length xs)) [
  | inl low ↦ ap length (get_or_append_left xs ys [] i low) ∙ one i low
  | inr high ↦
      let at : length xs + (i - length xs) ≡ i = omega (arith, high) in
      ap length (ap (λ (k : ℕ). get_or (xs ++ ys) k []) (sym at) ∙ get_or-append-add xs ys (i - length xs) [])
      ∙ two (i - length xs) (omega (arith, below, high, length-append xs ys))
]

new_sized : (config : Config) → Sized (new_cells config)
unfolding CellsOf
new_sized config =
    both_sized (map slot_cell (replicate 14 Empty)) (bound_cells config.routes (first_node config).kept.bounds) (slots_sized 14) (bounds_sized config.routes (first_node config).kept.bounds)

fresh_size : (kind : Kind) (version : Version) (cells : List (List ℕ)) → Sized cells
    → length (fresh_store (layout kind version) cells) ≡ size_from_base kind (length cells)
fresh_size Twin version cells sized =
    omega (arith, length-append (header (layout Twin version) (length cells)) (fresh_cells Twin cells), length-header (layout Twin version) (length cells), length-fresh_cells cells sized)
fresh_size Log version cells sized =
    omega (arith, length-append (header (layout Log version) (length cells)) (fresh_cells Log cells), length-header (layout Log version) (length cells), length-fresh_log cells sized)

-- a fresh store is one only in its range
fresh_besides : (kind : Kind) (version : Version) (cells : List (List ℕ)) (size : ℕ) (y : List ℕ) → Sized cells
    → store_size (layout kind version) (length cells) ≤ size → Fresh (layout kind version) cells (replicate size 0) y
    → SameOutside (base version) (size_from_base kind (length cells)) (replicate size 0) y
unfolding Fresh
fresh_besides kind version cells size y sized room fresh =
    let wide = fresh_size kind version cells sized in
    let long = length-replicate {A = ℕ} size 0 in
    subst (λ (z : List ℕ). SameOutside (base version) (size_from_base kind (length cells)) (replicate size 0) z) (sym fresh)
    (subst (λ (m : ℕ). SameOutside (base version) m (replicate size 0) (splice (base version) (fresh_store (layout kind version) cells) (replicate size 0))) wide
    (SameOutside-splice (base version) (fresh_store (layout kind version) cells) (replicate size 0) (omega (arith, wide, long, room))))

-- and has its header
fresh_header : (kind : Kind) (version : Version) (cells : List (List ℕ)) (size : ℕ) (y : List ℕ) → base version ≤ size
    → Fresh (layout kind version) cells (replicate size 0) y → HasHeader (layout kind version) (length cells) y
unfolding Fresh splice
fresh_header kind version cells size y room fresh =
    let h : List ℕ = header (layout kind version) (length cells) in
    let r : List ℕ = drop (base version + length (fresh_store (layout kind version) cells)) (replicate size 0) in
    let front : length (take (base version) (replicate {A = ℕ} size 0)) ≡ base version =
    length-take-le (base version) (replicate size 0) (let long = length-replicate {A = ℕ} size 0 in omega (arith, long, room)) in
    let zeros_before : List ℕ = take (base version) (replicate size 0) in
    ap (λ (z : List ℕ). part 0 32 (from_base version z)) fresh
    ∙ (ap (λ (z : List ℕ). take 32 (drop (base version) z)) (append_assoc zeros_before (h ++ fresh_cells kind cells) r)
    ∙ (ap (take 32) (drop_at zeros_before (h ++ fresh_cells kind cells ++ r) (base version) front)
    ∙ (ap (take 32) (append_assoc h (fresh_cells kind cells) r) ∙ take_at h (fresh_cells kind cells ++ r) 32 (length-header (layout kind version) (length cells)))))

-- ---- headers

same_or_other : (xs ys : List ℕ) → (xs ≡ ys) ⊎ (xs ≡ ys → ⊥)
same_or_other xs ys =
    let decides = bytes_eq-Decides xs ys in
    elim (cases_Bool (bytes_eq xs ys)) [
      | inl equal ↦ inl (decides.0 equal)
      | inr unequal ↦ inr (λ e. false≢true (sym unequal ∙ decides.1 e))
    ]

header_byte : (version : Version) (x : List ℕ) (k : ℕ) → base version ≤ k → k < base version + 32
    → get_or x k 0 ≡ get_or (part 0 32 (from_base version x)) (k - base version) 0
header_byte version x k from to =
    let e : base version + (0 + (k - base version)) ≡ k = omega (arith, from) in
    sym (get_or-take 32 (drop 0 (from_base version x)) (k - base version) 0 (omega (arith, from, to))
    ∙ (get_or-drop 0 (from_base version x) (k - base version) 0
    ∙ (get_or-drop (base version) x (0 + (k - base version)) 0 ∙ ap (λ (m : ℕ). get_or x m 0) e)))

-- bytes that differ in their header alone, and have one header, are the same
same_header : (version : Version) (x y : List ℕ) → SameOutside (base version) 32 y x → part 0 32 (from_base version x) ≡ part 0 32 (from_base version y) → x ≡ y
same_header version x y s e = ext_get_or 0 x y s.lengths (λ k l. elim (cases_lt k (base version)) [
  | inl low ↦ s.below k low
  | inr from ↦ elim (cases_lt k (base version + 32)) [
    | inl to ↦ header_byte version x k from to
        ∙ (ap (λ (l : List ℕ). get_or l (k - base version) 0) e ∙ sym (header_byte version y k from to))
    | inr high ↦ s.above k high
  ]
])

-- ---- what a cut leaves

module _ (kind : Kind) (version : Version) (config : Config) (good : IsConfig config) (size : ℕ)
    (room : store_size (layout kind version) (cells_in config) ≤ size) where
  as_many : length (new_cells config) ≡ cells_in config
  as_many = new_length kind version config good

  few : cells_in config ≤ 270
  few = let f = good.few in omega (arith, f)

  some : 1 ≤ cells_in config
  some = omega arith

  abbrev Besides : List ℕ → Type 0
  Besides x = SameOutside (base version) (size_from_base kind (cells_in config)) (replicate size 0) x

  besides : (x : List ℕ) → SameOutside (base version) (size_from_base kind (length (new_cells config))) (replicate size 0) x → Besides x
  besides x s = subst (λ (n : ℕ). SameOutside (base version) (size_from_base kind n) (replicate size 0) x) as_many s

  new_header : (x : List ℕ) → Fresh (layout kind version) (new_cells config) (replicate size 0) x → HasHeader (layout kind version) (cells_in config) x
  new_header x fresh =
      subst (λ (n : ℕ). HasHeader (layout kind version) n x) as_many
      (fresh_header kind version (new_cells config) size x (let e = header_room kind version (cells_in config) size room in omega (arith, e)) fresh)

  new_store : (x : List ℕ) → Besides x → Fresh (layout kind version) (new_cells config) (replicate size 0) x → NewStore kind version config size x
  new_store x b fresh = record { stands = standing_found kind (cells_in config) size few x version b (new_header x fresh); fresh = fresh }

  -- the header isn't zero, and zeros stand besides
  on_zeros : (x : List ℕ) → Besides x → ¬ IsBlank version x → SameOutside (base version) 32 (replicate size 0) x → CutMake kind version config size x
  on_zeros x b begun outside = torn (record {
    begun = begun;
    besides = inl outside;
    refused = elim (same_or_other (part 0 32 (from_base version x)) (header (layout kind version) (cells_in config))) [
      | inl head ↦ inr (
        standing_found kind (cells_in config) size few x version b head,
        first_damaged version x (λ k from. outside.above k from ∙ zero_at size k) kind (cells_in config) some,
      )
      | inr no_head ↦ inl (foreign_found kind (cells_in config) size few x version b begun no_head)
    ];
  })

  -- the header isn't zero, and a new node's cells stand besides
  on_cells : (x : List ℕ) → Besides x → ¬ IsBlank version x → FreshButHeader (layout kind version) (new_cells config) (replicate size 0) x
      → CutMake kind version config size x
  on_cells x b begun f = elim (same_or_other (part 0 32 (from_base version x)) (header (layout kind version) (cells_in config))) [
    | inl head ↦
        let is : x ≡ f.whole = same_header version x f.whole f.same (head ∙ sym (new_header f.whole f.fresh)) in
        whole (new_store x b (subst (Fresh (layout kind version) (new_cells config) (replicate size 0)) (sym is) f.fresh))
    | inr no_head ↦ torn (record { begun = begun; besides = inr f; refused = inl (foreign_found kind (cells_in config) size few x version b begun no_head) })
  ]

  unformed_left : (x : List ℕ) → Unformed (layout kind version) (new_cells config) (replicate size 0) x → CutMake kind version config size x
  unformed_left x u =
      let b = besides x u.besides in
      elim (same_or_other (part 0 32 (from_base version x)) (replicate 32 0)) [
        | inl is ↦ blank (blank_found kind (cells_in config) size few x version room b is)
        | inr begun ↦ elim u.within [
          | inl outside ↦ on_zeros x b begun outside
          | inr more ↦ elim more [
            | inl is ↦ absurd (begun is)
            | inr f ↦ on_cells x b begun f
          ]
        ]
      ]

  module _ (before after : DiskState) (told : before.told ≡ Some (firm (replicate size 0))) where
    as_it_was : after.told ≡ before.told → EachImage after.told (CutMake kind version config size)
    as_it_was same t tells x image =
        only-image (CutMake kind version config size) (replicate size 0) t x (same_Some t (firm (replicate size 0)) (sym tells ∙ (same ∙ told)))
        (unformed_left (replicate size 0) (unformed-same (layout kind version) (new_cells config) (replicate size 0))) image

    pub cut_leaves : (f : MakeFault) → StoreUnmade kind version config before after f → EachImage after.told (CutMake kind version config size)
    cut_leaves (fault.Store store.TooSmall) h = as_it_was (ap (λ (d : DiskState). d.told) h.1)
    cut_leaves (fault.Store store.DiskFailed) (rose, not, inl same) = as_it_was same
    cut_leaves (fault.Store store.DiskFailed) (rose, not, inr (found, unformed)) =
        λ t tells x image. unformed_left x (unformed (replicate size 0) told t tells x image)
    cut_leaves (fault.Store store.Memory) h = as_it_was h.0
    cut_leaves (fault.Store store.NotFormatted) h = as_it_was h.0.0
    cut_leaves (fault.Store (store.Damaged place)) h = as_it_was h.0.0
    cut_leaves (fault.OtherStore there) h = as_it_was h.0.0
    cut_leaves (fault.BadSlot slot) h = as_it_was h.0.0
    cut_leaves (fault.BadBound place) h = as_it_was h.0.0

    fresh_leaves : FreshOn (layout kind version) (new_cells config) (firm (replicate size 0)) after.told → EachImage after.told (NewStore kind version config size)
    fresh_leaves f t tells x image =
        only-image (NewStore kind version config size) f.bytes t x (same_Some t (firm f.bytes) (sym tells ∙ f.told))
        (new_store f.bytes
        (besides f.bytes (fresh_besides kind version (new_cells config) size f.bytes (new_sized config)
        (subst (λ (n : ℕ). store_size (layout kind version) n ≤ size) (sym as_many) room) f.fresh))
        f.fresh) image

    found_leaves : MadeOrFound kind version config (firm (replicate size 0)) after.told → EachImage after.told (NewStore kind version config size)
    found_leaves (made found fresh) = fresh_leaves fresh
    found_leaves (stood kept found is_kept stands same) =
        absurd (no_header kind version (cells_in config) (replicate size 0) (zero_at size (base version + 0))
        (standing_header kind version (cells_in config) (replicate size 0) found))

pub make_leaves : (kind : Kind) (version : Version) (config : Config) (size : ℕ) (before after : DiskState) → before.told ≡ Some (firm (replicate size 0))
    → store_size (layout kind version) (cells_in config) ≤ size → StoreMade kind version config before after
    → EachImage after.told (NewStore kind version config size)
make_leaves kind version config size before after told room m =
    found_leaves kind version config m.is_config size room before after told (m.told (firm (replicate size 0)) told)
