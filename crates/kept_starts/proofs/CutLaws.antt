-- A first start that was cut short: the next one goes on over what it left
use Rattle.std.specs.Prelude.{◌≡◌, ◌⊎◌, ℕ, ◌+◌, ◌-◌, ◌<◌, ◌≤◌, ◌^◌, Some, None, Option, List, [], ◌∷◌, ◌++◌, length, get_or, replicate, take, drop, map}
use Rattle.std.proofs.Common.{zero, suc, refl, sym, ap, ◌∙◌, subst, arith, rules, inl, inr}
use Rattle.std.proofs.lemmas.Bool.{cases_lt}
use Rattle.std.proofs.lemmas.Option.{same_Some}
use Rattle.std.proofs.lemmas.List.{places, same_lists, get_or-take, get_or-drop, get_or_past, get_or-replicate, get_or_append_left, get_or-append-add, ext_get_or, length-append, length-replicate, length-take, length-drop}
use Rattle.basics.specs.Numbers.{bytes_of}
use Rattle.basics.proofs.CallerLemmas.{length-bytes_of}
use Rattle.cut_disk.specs.State.{DiskState, Told}
use Rattle.cut_disk.specs.Images.{firm, splice, Image, EachImage}
use Rattle.cut_disk.proofs.CallerLemmas.{image_of_firm, length-splice, get_or-splice_behind}
use Rattle.cell_store.specs.declared.kinds.Kind.{Kind}
use Rattle.cell_store.specs.declared.kinds.Kind.TheVariants.{Twin, Log}
use Rattle.cell_store.specs.declared.kinds.Version.{Version}
use Rattle.cell_store.specs.declared.kinds.Version.TheVariants.{One, Two}
use Rattle.cell_store.specs.Layout.{SameOutside, layout, header, part, base, from_base}
use Rattle.cell_store.specs.Store.{FewCells, HasHeader, Stands, Fresh, fresh_store, fresh_cells, size_from_base, store_size}
use Rattle.cell_store.specs.Formats.{FreshOn, Unformed, LeavesUnformed}
use Rattle.cell_store.specs.Moving.{CountsAs, StandsAsCounted}
use Rattle.cell_store.proofs.CallerLemmas.{length-header, length-fresh_cells, length-fresh_log, Sized, header-not_blank}
use Rattle.store_plan.specs.Growing.{with_number}
use Rattle.any_cells.specs.declared.looking.Found.TheVariants.{Blank, Standing, Older}
use Rattle.any_cells.specs.Looking.{IsBlank, IsFound}
use Rattle.store_growing.specs.StoreHeaders.{cells_counted, HasFirstHead, HasVersionTwo, HeaderStands, store_header, in_second, in_first, none_stands}
use Rattle.disk_looks.specs.Looks.{AllZeros}
use Rattle.disk_looks.proofs.CallerLemmas.{first_begins, zeros_headless}
use Rattle.program_edge.specs.Rows.{Row}
use Rattle.key_slots.specs.declared.memory.Slot.TheVariants.{Empty}
use Rattle.slot_disk.specs.Cell.{slot_cell}
use Rattle.freshness_store.specs.Bound.{bound_cell}
use Rattle.freshness_routes.specs.declared.routes.Route.{Route}
use Rattle.freshness_routes.specs.Config.{Config, IsConfig}
use Rattle.bus_machine.specs.Node.{first_node}
use Rattle.secoc_node.specs.Cells.{CellsOf, bound_cells}
use Rattle.secoc_node.proofs.CallerLemmas.{first_is_kept, length-CellsOf}
use Rattle.bus_config.specs.declared.node_lines.NodeLine.{NodeLine}
use Rattle.bus_config.specs.Buses.{NamedBus, IsNamedBus}
use Rattle.bus_script.specs.EventForms.{node_line_at}
use Rattle.bus_world.specs.declared.start.Start.TheVariants.{Attach}
use Rattle.bus_world.specs.TakingUp.{cells_in, new_cells, TakenOver, LeavesDisk, KeptOn}
use Rattle.bus_world.specs.Starts.{HasRoom}
use Rattle.bus_world.specs.StartRows.{CanStart}
use Rattle.bus_world.specs.StartAnswers.{ComesOfStart}
use Rattle.bus_world.proofs.CallerLemmas.{older_one, no_line, Comes-leaves}
use Rattle.kept_starts.specs.Unfinished.{IsUnfinishedFormat}
use Rattle.kept_starts.specs.LookedAt.{cells_in_bus, config_in_bus, size_in_bus, KeepsInBus, UnfinishedInBus, LookedAt}
use Rattle.kept_starts.specs.KeepRows.{CanGoOn}
use Rattle.kept_starts.specs.KeptStores.{FirstTells}
use Rattle.kept_starts.specs.CutStarts.{IsOldOrNew, FoundNext, goes_on, cut_short, CutFirstStarts}
use Rattle.kept_starts.proofs.UnfinishedLaws.{no_header, headless_two, zero_at}
use Rattle.kept_starts.proofs.KeepLaws.{counted_of, still}
use Rattle.kept_starts.proofs.LookLaws.{first_line}

-- ---- heads

-- a header of version 1 stands, whatever its number
take-put : (at n : ℕ) (new x : List ℕ) → at + length new ≤ n → n ≤ length x → take n (splice at new x) ≡ splice at new (take n x)
unfolding splice
take-put at n new x inside room = same_lists _ _ (search (rules, places)) (λ k d h. grind (arith, places))

number_over : (kind : Kind) (n m : ℕ) → splice 10 (bytes_of 2 m) (header (layout kind One) n) ≡ header (layout kind One) m
unfolding splice header bytes_of
number_over kind n m = refl

first_head_of : (kind : Kind) (n : ℕ) (x : List ℕ) → 32 ≤ length x → HasHeader (layout kind One) n x → HasFirstHead kind x
first_head_of kind n x room head m = take-put 10 32 (bytes_of 2 m) x (omega (arith, length-bytes_of 2 m)) room ∙ (ap (splice 10 (bytes_of 2 m)) head ∙ number_over kind n m)

-- the first byte of version 2's header, if none stands there
second_byte : (x : List ℕ) → HasVersionTwo x → get_or x 32768 0 ≡ 0 → ⊥
second_byte x (kind, n, few, head) none = no_header (layout kind Two) n x none head

header_wanted : (kind : Kind) (version : Version) (n : ℕ) (x : List ℕ) → FewCells n → 32 ≤ length x → (version ≡ One → get_or x 32768 0 ≡ 0)
    → HasHeader (layout kind version) n x → HeaderStands x (Some (store_header kind version n))
header_wanted kind Two n x few room free head = in_second kind n few head
header_wanted kind One n x few room free head =
    let most = few.most in
    subst (λ (m : ℕ). HeaderStands x (Some (store_header kind One m))) (counted_of kind n x (omega (arith, most)) head)
    (in_first kind (λ two. second_byte x two (free refl)) (first_head_of kind n x room head))

-- ---- blank bytes

part_zeros : (at : ℕ) (x : List ℕ) → at + 32 ≤ length x → ((k : ℕ) → at ≤ k → k < at + 32 → get_or x k 0 ≡ 0) → part 0 32 (drop at x) ≡ replicate 32 0
part_zeros at x room zeros = ext_get_or 0 (part 0 32 (drop at x)) (replicate 32 0) lengths each where
  lengths : length (part 0 32 (drop at x)) ≡ length (replicate {A = ℕ} 32 0)
  lengths = simp (length-take, length-drop) (omega (arith, room))

  each : (k : ℕ) → k < length (part 0 32 (drop at x)) → get_or (part 0 32 (drop at x)) k 0 ≡ get_or (replicate 32 0) k 0
  each k below =
      let small : k < 32 = omega (arith, below, lengths, length-replicate {A = ℕ} 32 0) in
      get_or-take 32 (drop 0 (drop at x)) k 0 small
      ∙ (get_or-drop 0 (drop at x) k 0
      ∙ (get_or-drop at x (0 + k) 0
      ∙ (zeros (at + (0 + k)) (omega arith) (omega (arith, small)) ∙ sym (get_or-replicate 32 k 0 0 small))))

-- bytes of a blank place
blank_byte : (version : Version) (x : List ℕ) (k : ℕ) → IsBlank version x → base version ≤ k → k < base version + 32 → get_or x k 0 ≡ 0
blank_byte version x k blank from to =
    let e : base version + (0 + (k - base version)) ≡ k = omega (arith, from) in
    ap (λ (m : ℕ). get_or x m 0) (sym e)
    ∙ (sym (get_or-drop (base version) x (0 + (k - base version)) 0)
    ∙ (sym (get_or-drop 0 (from_base version x) (k - base version) 0)
    ∙ (sym (get_or-take 32 (drop 0 (from_base version x)) (k - base version) 0 (omega (arith, from, to)))
    ∙ (ap (λ (l : List ℕ). get_or l (k - base version) 0) blank ∙ get_or-replicate 32 (k - base version) 0 0 (omega (arith, from, to))))))

-- an unfinished format is found blank
unfinished_blank : (kind : Kind) (version : Version) (cells : List (List ℕ)) (n : ℕ) (x : List ℕ) → FewCells n → base version + 32 ≤ length x
    → IsUnfinishedFormat kind version cells x → IsFound kind version n x Blank
unfinished_blank kind One cells n x few room u = inr (
  (λ head. headless_two x u.headless (kind, n, few, head)),
  inl (part_zeros 0 x (omega (arith, room)) (λ k from to. u.zeros k (omega (arith, to))), refl),
)
unfinished_blank kind Two cells n x few room u = inr (
  (λ head. headless_two x u.headless (kind, n, few, head)),
  inr (
    (λ head. no_header (layout kind One) n x (u.zeros 0 (omega arith)) head),
    inl (
      (
        part_zeros 0 x (omega (arith, room)) (λ k from to. u.zeros k (omega (arith, to))),
        part_zeros 32768 x (omega (arith, room)) (λ k from to. u.zeros k (omega (arith, to))),
      ),
      refl,
    ),
  ),
)

-- zeros are found blank
zeros_blank : (kind : Kind) (version : Version) (n size : ℕ) → base version + 32 ≤ size → IsFound kind version n (replicate size 0) Blank
zeros_blank kind One n size room =
    let long = length-replicate {A = ℕ} size 0 in
    inr (
      no_header (layout kind Two) n (replicate size 0) (zero_at size 32768),
      inl (part_zeros 0 (replicate size 0) (omega (arith, long, room)) (λ k from to. zero_at size k), refl),
    )
zeros_blank kind Two n size room =
    let long = length-replicate {A = ℕ} size 0 in
    inr (
      no_header (layout kind Two) n (replicate size 0) (zero_at size 32768),
      inr (
        no_header (layout kind One) n (replicate size 0) (zero_at size 0),
        inl (
          (
            part_zeros 0 (replicate size 0) (omega (arith, long, room)) (λ k from to. zero_at size k),
            part_zeros 32768 (replicate size 0) (omega (arith, long, room)) (λ k from to. zero_at size k),
          ),
          refl,
        ),
      ),
    )

-- ---- a store that stands, and none of version 2 beside one of version 1

standing_there : (kind : Kind) (version : Version) (n : ℕ) (x : List ℕ) → (version ≡ One → get_or x 32768 0 ≡ 0) → HasHeader (layout kind version) n x
    → IsFound kind version n x Standing
standing_there kind One n x free head = inr (
  no_header (layout kind Two) n x (free refl),
  inr ((λ is. header-not_blank (layout kind One) n (sym head ∙ is)), inl (head, refl)),
)
standing_there kind Two n x free head = inl (head, refl)

counts_there : (kind : Kind) (version : Version) (n : ℕ) (x : List ℕ) → (version ≡ One → get_or x 32768 0 ≡ 0) → HasHeader (layout kind version) n x
    → CountsAs kind n x version
counts_there kind One n x free head = no_header (layout kind Two) n x (free refl)
counts_there kind Two n x free head = head

header_in : (kind : Kind) (version : Version) (n : ℕ) → 32 ≤ store_size (layout kind version) n
header_in Twin version n = omega arith
header_in Log version n = omega arith

low_room : (kind : Kind) (version : Version) (n : ℕ) → store_size (layout kind One) n ≤ store_size (layout kind version) n
low_room kind version n = omega arith

-- ---- a new node's cells

bounds_wide : (routes : List Route) (bounds : List ℕ) → Sized (bound_cells routes bounds)
unfolding bound_cell bytes_of
bounds_wide [] bounds i below = absurd (omega (arith, below))
bounds_wide (route ∷ routes) [] i below = absurd (omega (arith, below))
bounds_wide (route ∷ routes) (bound ∷ bounds) zero below = refl
bounds_wide (route ∷ routes) (bound ∷ bounds) (suc i) below = bounds_wide routes bounds i (omega (arith, below))

slots_wide : (n : ℕ) → Sized (map slot_cell (replicate n Empty))
unfolding slot_cell
slots_wide zero i below = absurd (omega (arith, below))
slots_wide (suc n) zero below = refl
slots_wide (suc n) (suc i) below = slots_wide n i (omega (arith, below))

joined_wide : (xs ys : List (List ℕ)) → Sized xs → Sized ys → Sized (xs ++ ys)
joined_wide xs ys one two i below = elim (cases_lt i (length xs)) [
  | inl low ↦ ap length (get_or_append_left xs ys [] i low) ∙ one i low
  | inr high ↦
      let at : length xs + (i - length xs) ≡ i = omega (arith, high) in
      ap length (ap (λ (k : ℕ). get_or (xs ++ ys) k []) (sym at) ∙ get_or-append-add xs ys (i - length xs) [])
      ∙ two (i - length xs) (omega (arith, below, high, length-append xs ys))
]

new_wide : (config : Config) → Sized (new_cells config)
unfolding CellsOf
new_wide config =
    joined_wide (map slot_cell (replicate 14 Empty)) (bound_cells config.routes (first_node config).kept.bounds) (slots_wide 14) (bounds_wide config.routes (first_node config).kept.bounds)

fresh_width : (kind : Kind) (version : Version) (cells : List (List ℕ)) → Sized cells
    → length (fresh_store (layout kind version) cells) ≡ size_from_base kind (length cells)
fresh_width Twin version cells sized =
    omega (arith, length-append (header (layout Twin version) (length cells)) (fresh_cells Twin cells), length-header (layout Twin version) (length cells), length-fresh_cells cells sized)
fresh_width Log version cells sized =
    omega (arith, length-append (header (layout Log version) (length cells)) (fresh_cells Log cells), length-header (layout Log version) (length cells), length-fresh_log cells sized)

-- a store of a node ends before the header of one in version 2
within_low : (kind : Kind) (n : ℕ) → n ≤ 270 → size_from_base kind n ≤ 32768
within_low Twin n most = omega (arith, most)
within_low Log n most = omega (arith, most)

head_room : (kind : Kind) (version : Version) (n size : ℕ) → store_size (layout kind version) n ≤ size → base version + 32 ≤ size
head_room Twin version n size room = omega (arith, room)
head_room Log version n size room = omega (arith, room)

-- a new store over zeros leaves the place of version 2's header, if it is one of version 1
fresh_second : (kind : Kind) (cells : List (List ℕ)) (size : ℕ) (y : List ℕ) → Sized cells → length cells ≤ 270 → store_size (layout kind One) (length cells) ≤ size
    → Fresh (layout kind One) cells (replicate size 0) y → get_or y 32768 0 ≡ 0
unfolding Fresh
fresh_second kind cells size y sized most room fresh =
    let wide = fresh_width kind One cells sized in
    let low = within_low kind (length cells) most in
    let long = length-replicate {A = ℕ} size 0 in
    ap (λ (z : List ℕ). get_or z 32768 0) fresh
    ∙ (get_or-splice_behind 0 (fresh_store (layout kind One) cells) (replicate size 0) 32768 0 (omega (arith, wide, long, room)) (omega (arith, wide, low))
    ∙ zero_at size 32768)

-- ---- the node of a bus

module _ (bus : NamedBus) (good : IsConfig (config_in_bus bus)) (size : ℕ) (room : size_in_bus bus ≤ size) where
  abbrev cells : List (List ℕ)
  cells = new_cells (config_in_bus bus)

  as_many : length cells ≡ cells_in_bus bus
  as_many = length-CellsOf (config_in_bus bus) (first_node (config_in_bus bus)).kept (first_is_kept (config_in_bus bus) good)

  most_cells : cells_in_bus bus ≤ 270
  most_cells = let f = good.few in omega (arith, f)

  few_cells : FewCells (cells_in_bus bus)
  few_cells = record { some = omega arith; most = omega (arith, most_cells) }

  head_fits : base bus.version + 32 ≤ size
  head_fits = head_room bus.kind bus.version (cells_in_bus bus) size room

  -- a new node is started over blank bytes
  blank_starts : (x : List ℕ) → IsFound bus.kind bus.version (cells_in_bus bus) x Blank → CanStart Attach bus.kind bus.version (config_in_bus bus) x
  blank_starts x blank = (
    (first_node (config_in_bus bus)).kept,
    record { is_kept = first_is_kept (config_in_bus bus) good; kept_as = inl (blank, refl) },
  )

  -- over an unfinished format
  unfinished_goes_on : (x : List ℕ) → length x ≡ size → UnfinishedInBus bus x → CanGoOn bus x
  unfinished_goes_on x long u =
      (inr u, blank_starts x (unfinished_blank bus.kind bus.version cells (cells_in_bus bus) x few_cells (omega (arith, long, head_fits)) u))

  -- the header's place is zeros, each byte after it is an old or a new one, and all outside of the store's place are zeros
  cut_goes_on : (x : List ℕ) → SameOutside (base bus.version) (size_from_base bus.kind (cells_in_bus bus)) (replicate size 0) x → IsBlank bus.version x → IsOldOrNew bus x
      → CanGoOn bus x
  cut_goes_on x besides blank begun = unfinished_goes_on x long (record { headless = none_stands no_two no_first; zeros = zeros; begun = begun }) where
    long : length x ≡ size
    long = besides.lengths ∙ length-replicate size 0

    zeros : (k : ℕ) → k < base bus.version + 32 → get_or x k 0 ≡ 0
    zeros k below = elim (cases_lt k (base bus.version)) [
      | inl low ↦ besides.below k low ∙ zero_at size k
      | inr from ↦ blank_byte bus.version x k blank from below
    ]

    second_zero : (version : Version) → version ≡ bus.version → get_or x 32768 0 ≡ 0
    second_zero One is =
        besides.above 32768 (let low = within_low bus.kind (cells_in_bus bus) most_cells in omega (arith, low, ap base (sym is))) ∙ zero_at size 32768
    second_zero Two is = zeros 32768 (omega (arith, ap base (sym is)))

    no_two : ¬ HasVersionTwo x
    no_two two = second_byte x two (second_zero bus.version refl)

    no_first : (kind : Kind) → ¬ HasFirstHead kind x
    no_first kind heads = omega (arith, first_begins kind x heads, zeros 0 (omega arith))

  -- zeros alone
  zeros_found : IsFound bus.kind bus.version (cells_in_bus bus) (replicate size 0) Blank
  zeros_found = zeros_blank bus.kind bus.version (cells_in_bus bus) size head_fits

  zeros_go_on : CanGoOn bus (replicate size 0)
  zeros_go_on = (
    inl (inl (ap (λ (n : ℕ). replicate n 0) (sym (length-replicate {A = ℕ} size 0)))),
    blank_starts (replicate size 0) zeros_found,
  )

  -- a new store stands
  second_free : (x : List ℕ) (version : Version) → Fresh (layout bus.kind version) cells (replicate size 0) x → version ≡ bus.version → version ≡ One → get_or x 32768 0 ≡ 0
  second_free x One fresh same is =
      fresh_second bus.kind cells size x (new_wide (config_in_bus bus)) (omega (arith, as_many, most_cells))
      (omega (arith, room, low_room bus.kind bus.version (cells_in_bus bus), ap (λ (n : ℕ). store_size (layout bus.kind One) n) as_many)) fresh
  second_free x Two fresh same is = absurd (let no : ⊥ = cc in no)

  fresh_goes_on : (x : List ℕ) → Fresh (layout bus.kind bus.version) cells (replicate size 0) x → Stands (layout bus.kind bus.version) x cells → CanGoOn bus x
  fresh_goes_on x fresh stands =
      let head : HasHeader (layout bus.kind bus.version) (cells_in_bus bus) x =
      subst (λ (n : ℕ). HasHeader (layout bus.kind bus.version) n x) as_many stands.head in
      let free : bus.version ≡ One → get_or x 32768 0 ≡ 0 = second_free x bus.version fresh refl in
      let there : HeaderStands x (Some (store_header bus.kind bus.version (cells_in_bus bus))) =
      header_wanted bus.kind bus.version (cells_in_bus bus) x few_cells (omega (arith, stands.room, header_in bus.kind bus.version (length cells))) free head in (
        inl (inr (store_header bus.kind bus.version (cells_in_bus bus), there, inl refl)),
        (
          (first_node (config_in_bus bus)).kept,
          record {
            is_kept = first_is_kept (config_in_bus bus) good;
            kept_as = inr (
              inl (standing_there bus.kind bus.version (cells_in_bus bus) x free head),
              record { version = bus.version; counting = counts_there bus.kind bus.version (length cells) x free stands.head; stands = stands },
            );
          },
        ),
      )

  -- ---- what a start leaves of zeros

  module _ (before after : DiskState) (told : before.told ≡ Some (firm (replicate size 0))) where
    abbrev Next : Type 0
    Next = EachImage after.told (FoundNext bus size)

    firm_next : (b : List ℕ) → after.told ≡ Some (firm b) → CanGoOn bus b → Next
    firm_next b now on t tells x image =
        let is : t ≡ firm b = same_Some t (firm b) (sym tells ∙ now) in
        subst (FoundNext bus size) (sym (image_of_firm (subst (λ (u : Told). Image u x) is image))) (goes_on on)

    fresh_next : FreshOn (layout bus.kind bus.version) cells (firm (replicate size 0)) after.told → Next
    fresh_next f = firm_next f.bytes f.told (fresh_goes_on f.bytes f.fresh f.stands)

    unformed_next : LeavesUnformed (layout bus.kind bus.version) cells before.told after.told → Next
    unformed_next u t tells x image =
        let left = u (replicate size 0) told t tells x image in
        cut_short left (cut_goes_on x (subst (λ (n : ℕ). SameOutside (base bus.version) (size_from_base bus.kind n) (replicate size 0) x) as_many left.besides))

    taken_next : TakenOver bus.kind bus.version (config_in_bus bus) (firm (replicate size 0)) after.told → Next
    taken_next (inl same) = firm_next (replicate size 0) same zeros_go_on
    taken_next (inr (inl (blank, fresh))) = fresh_next fresh
    taken_next (inr (inr (older, migrated))) =
        absurd (no_header (layout bus.kind One) (cells_in_bus bus) (replicate size 0) (zero_at size 0)
        (older_one bus.kind bus.version (cells_in_bus bus) (replicate size 0) older).1)

    left_next : LeavesDisk Attach bus.kind bus.version (config_in_bus bus) before after → Next
    left_next leaves = elim (leaves (firm (replicate size 0)) told) [
      | inl (taken, same) ↦ taken_next taken
      | inr failed ↦ elim (failed.blank zeros_found) [
        | inl fresh ↦ fresh_next fresh
        | inr unformed ↦ unformed_next unformed
      ]
    ]

pub cut_first_starts : CutFirstStarts
cut_first_starts bus before seen after size row is one room look has tells comes d =
    let inside : 0 < length bus.nodes = omega (arith, one) in
    let line : get_or bus.nodes 0 no_line ≡ node_line_at bus.nodes 0 = first_line bus.nodes 0 no_line one inside in
    let good : IsConfig (config_in_bus bus) = subst (λ (l : NodeLine). IsConfig l.config) line (is.are_nodes 0 no_line inside).config in
    let left = (Comes-leaves Attach bus (record { before = seen; after = after }) row comes).leaves 0 no_line d inside in
    left_next bus good size room (get_or seen 0 d) (get_or after 0 d) (still bus before seen (firm (replicate size 0)) one look has tells d)
    (subst (λ (l : NodeLine). LeavesDisk Attach bus.kind bus.version l.config (get_or seen 0 d) (get_or after 0 d)) line left)
