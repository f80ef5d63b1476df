-- What a run of `slots grow FILE BUS` that ends in a row of the table promises
use Rattle.std.proofs.Common.{◌≡◌, ◌⊎◌, ◌∙◌, ℕ, ◌<◌, ◌≤◌, List, [], inl, inr, refl, sym, ap, subst, arith}
use Rattle.std.specs.Prelude.{◌≢◌, false, None, Some, Option, Err, length, codes}
use Rattle.program_edge.specs.declared.input.InputFault.TheVariants as input
use Rattle.program_edge.specs.Input.{input_fault_text}
use Rattle.program_edge.specs.Rows.{Row, memory_row}
use Rattle.program_edge.specs.Inputs.{Reading, IsUnread, Offers, SourceFailed, GivesTooMuch}
use Rattle.program_edge.specs.Endings.{Ending, PrintsWhole, EndsInRow}
use Rattle.program_edge.proofs.CallerLemmas.{EndsInRow-at, EndsInRow-front, EndsInRow-rose, EndsInRow-only, EndsInRow-may, EndsInRow-done}
use Rattle.cut_disk.specs.State.{DiskState}
use Rattle.cut_disk.specs.Calls.{Rose, AsBefore}
use Rattle.file_disk.specs.NamedDisks.{TellsFirmBytes}
use Rattle.cell_store.specs.declared.kinds.Layout.{Layout}
use Rattle.cell_store.specs.declared.kinds.Version.{Version}
use Rattle.cell_store.specs.declared.kinds.Version.TheVariants.{One}
use Rattle.cell_store.specs.Layout.{twin_layout}
use Rattle.std.proofs.lemmas.List.Elements.{All-get_or}
use Rattle.freshness_routes.specs.declared.routes.Route.{Route}
use Rattle.bus_config.specs.declared.fault.ConfigFault.{ConfigFault}
use Rattle.bus_config.specs.BusFile.{bus_of}
use Rattle.bus_config.specs.declared.node_lines.NodeLine.{NodeLine}
use Rattle.bus_config.specs.Buses.{NamedBus, IsNamedBus, most_routes}
use Rattle.bus_script.specs.EventForms.{no_node}
use Rattle.bus_programs.specs.BusFiles.{OffersBus, no_file, file_refused}
use Rattle.bus_programs.specs.BusRoutes.{routes_of}
use Rattle.bus_programs.proofs.CallerLemmas.{same_bus, bus_or_fault, offered_no_fault, memory_status, told_fault, told_too_much, RowTells, ReadsCalmly, calm_unread, calm_whole, told_first}
use Rattle.store_growing.specs.declared.faults.GrowFault.{GrowFault}
use Rattle.store_growing.specs.declared.faults.GrowFault.TheVariants as fault
use Rattle.store_growing.specs.RouteCells.{route_cell}
use Rattle.store_growing.specs.GrowingStores.{GrowsStore, NotGrown, CanBeGrown, CannotBeGrown}
use Rattle.store_growing.proofs.CallerLemmas.{a_store_that_can_grow_is_not_refused, small_told}
use Rattle.bus_store_commands.specs.NodeBuses.{OffersNodeBus, LacksNodeBus, no_bus, other_nodes}
use Rattle.bus_store_commands.specs.BusWords.{asks_over_bus}
use Rattle.bus_store_commands.specs.GrowRows.{GrowsOnDisk, no_text, grown, not_grown, grown_row, OrMemory, IsGrowRow}
use Rattle.bus_store_commands.specs.GrowsOverBus.{GrowInputs, AsksGrowth, grow_usage, LacksGrowth, asks_none, without_bus, ComesNamed, not_opened, over_disk}
use Rattle.bus_store_commands.specs.GrowsOverBus.{OpensGrownDisk, ComesOfGrowth, lacks_bus, with_bus, file_of, layout_of_bus, OverStore, GrowsOverBus}
use Rattle.bus_store_commands.proofs.CheckTells.{asks_or_not, node_status}

-- ---- what comes over a disk, by its status

-- 0, 7, 9 or 10
abbrev pub IsGrowStatus : ℕ → Type 0
IsGrowStatus status = (status ≡ 0) ⊎ ((status ≡ 7) ⊎ ((status ≡ 9) ⊎ (status ≡ 10)))

status_of : {row other : Row} → row ≡ other → row.status ≡ other.status
status_of is = ap (λ (r : Row). r.status) is

-- A store isn't grown: the disk failed; or memory was out, for the text of a cause too; or a cause is printed. It is the
-- first if the disk tells its bytes.
data IsRefused (wanted : Layout) (routes : List Route) (old new : DiskState) (row : Row) : Type 0 where
  by_disk : NotGrown wanted routes old new fault.DiskFailed → IsGrowRow fault.DiskFailed row → IsRefused wanted routes old new row
  by_memory : AsBefore 2 old new → row ≡ memory_row → IsRefused wanted routes old new row
  by_cause : (f : GrowFault) → AsBefore 2 old new → (TellsFirmBytes old → CannotBeGrown wanted routes old f) → IsGrowRow f row
      → row.status ≡ 9 → IsRefused wanted routes old new row

module _ (wanted : Layout) (routes : List Route) (old new : DiskState) where
  abbrev Unchanged : Row → Type 0
  Unchanged row = IsRefused wanted routes old new row

  -- the text of a cause was made, or there was no memory for it
  by_text : (f : GrowFault) (text row : Row) → text.status ≡ 9 → AsBefore 2 old new → (TellsFirmBytes old → CannotBeGrown wanted routes old f)
      → (OrMemory text row → IsGrowRow f row) → OrMemory text row → Unchanged row
  by_text f text row nine before cannot says (inl is) = by_cause f before cannot (says (inl is)) (status_of is ∙ nine)
  by_text f text row nine before cannot says (inr is) = by_memory before is

  refused : (f : GrowFault) (row : Row) → NotGrown wanted routes old new f → IsGrowRow f row → Unchanged row
  refused fault.DiskFailed row why is = by_disk why is
  refused fault.TooSmall row why is =
      by_cause fault.TooSmall why.0 (λ tells. small_told wanted routes old tells.bytes tells.told why.1) is (status_of is)
  refused fault.NotFormatted row why is = by_cause fault.NotFormatted why.0 (λ tells. why.1 tells.bytes tells.told) is (status_of is)
  refused fault.Memory row why is = by_memory why is
  refused f row why is = by_text f _ row refl why.0 (λ tells. why.1 tells.bytes tells.told) (λ says. says) is

  abbrev Grows : Row → Type 0
  Grows row = GrowsOnDisk wanted routes old new row

  refused_status : (row : Row) → Unchanged row → IsGrowStatus row.status
  refused_status row un = grind (arith, status_of)

  pub disk_status : (row : Row) → Grows row → IsGrowStatus row.status
  disk_status row comes = grind (arith, refused_status, refused)

not_5 : ¬ IsGrowStatus 5
not_5 x = grind arith

not_8 : ¬ IsGrowStatus 8
not_8 x = grind arith

module _ (wanted : Layout) (routes : List Route) (old new : DiskState) where
  abbrev Grown : Row → Type 0
  Grown row = GrowsOnDisk wanted routes old new row

  abbrev Refused : Row → Type 0
  Refused row = IsRefused wanted routes old new row

  why_refused : (row : Row) (f : GrowFault) → NotGrown wanted routes old new f → IsGrowRow f row → Refused row
  why_refused row f why says = refused wanted routes old new f row why says

  refused_0 : (row : Row) → Refused row → row.status ≡ 0 → ⊥
  refused_0 row un is = grind (arith, status_of)

  disk_0 : (row : Row) → TellsFirmBytes old → Grown row → row.status ≡ 0
      → (wanted ≡ twin_layout One) × GrowsStore routes old new × (new.faults ≡ old.faults) × (row ≡ grown_row (route_cell (length routes)))
  disk_0 row tells (no_text same) is = absurd (omega (arith, is))
  disk_0 row tells (grown could grows faults) is = ((could tells.bytes tells.told).wants, grows, faults, refl)
  disk_0 row tells (not_grown f _ why says) is = absurd (refused_0 row (why_refused row f why says) is)

  refused_7 : (row : Row) → Refused row → row.status ≡ 7 → (new.told ≡ old.told) × (row ≡ memory_row)
  refused_7 row comes is = grind (arith, status_of)

  disk_7 : (row : Row) → Grown row → row.status ≡ 7 → (new.told ≡ old.told) × (row ≡ memory_row)
  disk_7 row comes is = grind (arith, refused_7, why_refused)

  refused_9 : (row : Row) → TellsFirmBytes old → Refused row → row.status ≡ 9 → AsBefore 2 old new × ((f : GrowFault) × CannotBeGrown wanted routes old f × IsGrowRow f row)
  refused_9 row tells comes is = grind (arith, status_of)

  disk_9 : (row : Row) → TellsFirmBytes old → Grown row → row.status ≡ 9 → AsBefore 2 old new × ((f : GrowFault) × CannotBeGrown wanted routes old f × IsGrowRow f row)
  disk_9 row tells (not_grown f _ why says) is = refused_9 row tells (why_refused row f why says) is
  disk_9 row tells comes is = absurd (omega arith)

  refused_10 : (row : Row) → Refused row → row.status ≡ 10 → NotGrown wanted routes old new fault.DiskFailed × IsGrowRow fault.DiskFailed row
  refused_10 row comes is = grind (arith, status_of)

  disk_10 : (row : Row) → Grown row → row.status ≡ 10 → NotGrown wanted routes old new fault.DiskFailed × IsGrowRow fault.DiskFailed row
  disk_10 row comes is = grind (arith, refused_10, why_refused)

  -- ---- which rows come over a disk that tells its bytes

  refused_cause : (row : Row) → Refused row → ¬ Rose old.faults new.faults → (row.status ≡ 9) ⊎ (row.status ≡ 7)
  refused_cause row un calm = grind (arith, status_of)

  -- a cause stands, and no call failed
  disk_cause : (row : Row) (f : GrowFault) → length routes ≤ 256 → TellsFirmBytes old → Grown row → CannotBeGrown wanted routes old f → ¬ Rose old.faults new.faults
      → (row.status ≡ 9) ⊎ (row.status ≡ 7)
  disk_cause row f few tells (no_text same) cannot calm = inr refl
  disk_cause row f few tells (grown could grows faults) cannot calm =
      absurd (a_store_that_can_grow_is_not_refused wanted routes old f few (could tells.bytes tells.told) cannot)
  disk_cause row f few tells (not_grown that _ why says) cannot calm = refused_cause row (why_refused row that why says) calm

  refused_can : (row : Row) → length routes ≤ 256 → TellsFirmBytes old → Refused row → CanBeGrown wanted routes old → ¬ Rose old.faults new.faults
      → (row.status ≡ 0) ⊎ (row.status ≡ 7)
  refused_can row few tells un can calm = grind (arith, status_of, a_store_that_can_grow_is_not_refused)

  -- the store can be grown, and no call failed
  disk_can : (row : Row) → length routes ≤ 256 → TellsFirmBytes old → Grown row → CanBeGrown wanted routes old → ¬ Rose old.faults new.faults
      → (row.status ≡ 0) ⊎ (row.status ≡ 7)
  disk_can row few tells (no_text same) can calm = inr refl
  disk_can row few tells (grown could grows faults) can calm = inl refl
  disk_can row few tells (not_grown f _ why says) can calm = refused_can row few tells (why_refused row f why says) can calm

  refused_rose : (row : Row) → Refused row → old.faults < new.faults → row.status ≡ 10
  refused_rose row un rose = grind (arith, status_of)

  -- a call failed
  disk_rose : (row : Row) → Grown row → old.faults < new.faults → row.status ≡ 10
  disk_rose row comes rose = grind (arith, refused_rose, why_refused)

-- ---- a node has at most 256 routes

most_256 : (version : Version) → most_routes version ≤ 256
most_256 version = grind arith

pub few_routes : (bus : NamedBus) → IsNamedBus bus → length (routes_of bus) ≤ 256
few_routes bus is =
    let few = All-get_or (λ (node : NodeLine). length node.config.routes ≤ most_routes bus.version) bus.nodes 0 no_node is.least is.few_routes in
    let most = most_256 bus.version in
    omega (arith, few, most)

-- ---- what comes of arguments or a bus file that give no bus

-- its status is 2, 3, 5, 7 or 8
lacks_0 : (i : GrowInputs) (row : Row) → LacksGrowth i row → (row.status ≡ 0) ⊎ ((row.status ≡ 9) ⊎ ((row.status ≡ 10) ⊎ (row.status ≡ 6))) → ⊥
lacks_0 i row lacks is = grind (arith, node_status)

-- ---- the statuses of a run

-- 0, 2, 3, or 5 to 10
abbrev pub IsRunStatus : ℕ → Type 0
IsRunStatus status = (status ≡ 0) ⊎ ((status ≡ 2) ⊎ ((status ≡ 3) ⊎ ((5 ≤ status) × (status ≤ 10))))

grow_status : (status : ℕ) → IsGrowStatus status → IsRunStatus status
grow_status status it = grind arith

lacks_status : (i : GrowInputs) (row : Row) → LacksGrowth i row → IsRunStatus row.status
lacks_status i row lacks = grind (arith, node_status)

-- the disk that was left is one
none_left : {left : Option DiskState} (new : DiskState) → left ≡ Some new → left ≡ None → ⊥
none_left new there none = cc

one_left : {left : Option DiskState} (new other : DiskState) → left ≡ Some new → left ≡ Some other → new ≡ other
one_left new other there also = cc

-- a source that is left as it is
abbrev left_so : Reading → Reading
left_so r = record { before = r.after; after = r.after }

calm_so : (r : Reading) → ReadsCalmly (left_so r)
calm_so r = calm_unread (left_so r) (refl {a = r.after})

-- what the row tells of the bus file's source
lacks_tells : (i : GrowInputs) (row : Row) → LacksGrowth i row → RowTells row i.bus (left_so i.bus)
lacks_tells i row (asks_none none unread) = inr (inr (calm_unread i.bus unread, calm_so i.bus))
lacks_tells i row (without_bus _ asks (no_bus _ (no_file cause lacks))) =
    told_first cause (input_fault_text cause) i.bus (left_so i.bus) lacks (calm_so i.bus)
lacks_tells i row (without_bus _ asks (no_bus _ (file_refused cause text (read, whole, is) says))) =
    inr (inr (calm_whole i.bus read whole, calm_so i.bus))
lacks_tells i row (without_bus _ asks (other_nodes bus (read, whole, is) others)) =
    inr (inr (calm_whole i.bus read whole, calm_so i.bus))

module _ (opens : List ℕ → DiskState → Type 0) (before after : List (List ℕ)) (i : GrowInputs) (was left : Option DiskState) (e : Ending) where
  abbrev Comes : Row → Type 0
  Comes = ComesOfGrowth opens before after i was left

  abbrev Over : (NamedBus → DiskState → DiskState → Type 0) → Type 0
  Over = OverStore opens before after i left was

  row_tells : (row : Row) → Comes row → RowTells row i.bus (left_so i.bus)
  row_tells row (lacks_bus _ lacks once unopened none) = lacks_tells i row lacks
  row_tells row (with_bus bus _ named asks ((read, whole, is), one) comes) = inr (inr (calm_whole i.bus read whole, calm_so i.bus))

  grown_at : (row : Row) → Comes row → row.status ≡ 0 → PrintsWhole e row.text
      → Over (λ bus old new. (layout_of_bus bus ≡ twin_layout One) × GrowsStore (routes_of bus) old new × (new.faults ≡ old.faults)
      × PrintsWhole e (grown_row (route_cell (length (routes_of bus)))).text)
  grown_at row (lacks_bus _ lacks once unopened none) is prints = absurd (lacks_0 i row lacks (inl is))
  grown_at row (with_bus bus _ named asks reads (not_opened once unopened none)) is prints = absurd (omega (arith, is))
  grown_at row (with_bus bus _ named asks reads (over_disk disk _ comes)) is prints =
      let (wants, grows, faults, row_is) = disk_0 _ _ _ _ row disk.tells comes is in
      (bus, named, asks, reads, disk, (wants, grows, faults, subst (λ (r : Row). PrintsWhole e r.text) row_is prints))

  no_memory_at : (row : Row) → Comes row → row.status ≡ 7 → PrintsWhole e row.text
      → PrintsWhole e [] × ((left ≡ None) ⊎ Over (λ bus old new. new.told ≡ old.told))
  no_memory_at row (lacks_bus _ (without_bus _ asks (no_bus _ (no_file input.Memory lacks))) once unopened opened) is prints = (prints, inl opened)
  no_memory_at row (with_bus bus _ named asks reads (not_opened once unopened none)) is prints = (prints, inl none)
  no_memory_at row (with_bus bus _ named asks reads (over_disk disk _ comes)) is prints =
      let (told, row_is) = disk_7 _ _ _ _ row comes is in
      (subst (λ (r : Row). PrintsWhole e r.text) row_is prints, inr (bus, named, asks, reads, disk, told))
  no_memory_at row comes is prints = absurd (omega arith)

  no_store_at : (row : Row) → Comes row → row.status ≡ 9 → PrintsWhole e row.text
      → Over (λ bus old new. AsBefore 2 old new × ((f : GrowFault) × (shown : Row) × CannotBeGrown (layout_of_bus bus) (routes_of bus) old f
      × IsGrowRow f shown × (shown.status ≡ 9) × PrintsWhole e shown.text))
  no_store_at row (lacks_bus _ lacks once unopened none) is prints = absurd (lacks_0 i row lacks (inr (inl is)))
  no_store_at row (with_bus bus _ named asks reads (not_opened once unopened none)) is prints = absurd (omega (arith, is))
  no_store_at row (with_bus bus _ named asks reads (over_disk disk _ comes)) is prints =
      let (before_is, (f, why, says)) = disk_9 _ _ _ _ row disk.tells comes is in
      (bus, named, asks, reads, disk, (before_is, (f, row, why, says, is, prints)))

  disk_failed_at : (row : Row) → Comes row → row.status ≡ 10 → PrintsWhole e row.text
      → Over (λ bus old new. NotGrown (layout_of_bus bus) (routes_of bus) old new fault.DiskFailed × PrintsWhole e (codes "store: DiskFailed\n"))
  disk_failed_at row (lacks_bus _ lacks once unopened none) is prints = absurd (lacks_0 i row lacks (inr (inr (inl is))))
  disk_failed_at row (with_bus bus _ named asks reads (not_opened once unopened none)) is prints = absurd (omega (arith, is))
  disk_failed_at row (with_bus bus _ named asks reads (over_disk disk _ comes)) is prints =
      let (why, says) = disk_10 _ _ _ _ row comes is in
      (bus, named, asks, reads, disk, (why, subst (λ (r : Row). PrintsWhole e r.text) says prints))

  -- over a bus
  over_status : (wanted : Layout) (routes : List Route) (row : Row) → ComesNamed opens before after (file_of i) wanted routes was left row → IsGrowStatus row.status
  over_status wanted routes row (not_opened once unopened none) = inr (inl refl)
  over_status wanted routes row (over_disk disk _ comes) = disk_status wanted routes disk.old disk.new row comes

  over_isnt : (n : ℕ) (bus : NamedBus) (row : Row) → AsksGrowth i.words → ComesNamed opens before after (file_of i) (layout_of_bus bus) (routes_of bus) was left row
      → row.status ≡ n → ¬ IsGrowStatus n → ⊥
  over_isnt n bus row asks comes is other = other (subst IsGrowStatus is (over_status _ _ row comes))

  at_2 : (row : Row) → Comes row → row.status ≡ 2 → PrintsWhole e row.text
      → (asks_over_bus (codes "grow") i.words ≡ false) × IsUnread i.bus × (after ≡ before) × PrintsWhole e grow_usage
  at_2 row comes is prints = grind (arith, over_status, node_status)

  at_3 : (row : Row) → Comes row → row.status ≡ 3 → PrintsWhole e row.text
      → AsksGrowth i.words × (after ≡ before) × ((row : Row) × LacksNodeBus i.bus row × (row.status ≡ 3) × PrintsWhole e row.text)
  at_3 row comes is prints = grind (arith, over_status)

  at_5 : (row : Row) → Comes row → row.status ≡ 5 → PrintsWhole e row.text
      → SourceFailed i.bus × (after ≡ before) × PrintsWhole e (codes "read fault\n")
  at_5 row (lacks_bus _ (asks_none none unread) once unopened opened) is prints = absurd (omega (arith, is))
  at_5 row (lacks_bus _ (without_bus _ asks (no_bus _ (no_file input.ReadFault lacks))) once unopened opened) is prints = (lacks.0, once, prints)
  at_5 row (lacks_bus _ (without_bus _ asks (no_bus _ (no_file input.TooLong lacks))) once unopened opened) is prints = absurd (omega (arith, is))
  at_5 row (lacks_bus _ (without_bus _ asks (no_bus _ (no_file input.Memory lacks))) once unopened opened) is prints = absurd (omega (arith, is))
  at_5 row (lacks_bus _ (without_bus _ asks (no_bus _ (file_refused cause text is_fault says))) once unopened opened) is prints = absurd (omega (arith, is))
  at_5 row (lacks_bus _ (without_bus _ asks (other_nodes bus reads others)) once unopened opened) is prints = absurd (omega (arith, is))
  at_5 row (with_bus bus _ named asks reads comes) is prints = absurd (over_isnt 5 bus row asks comes is not_5)

  at_8 : (row : Row) → Comes row → row.status ≡ 8 → PrintsWhole e row.text
      → GivesTooMuch i.bus × (after ≡ before) × PrintsWhole e (codes "input too long\n")
  at_8 row (lacks_bus _ (asks_none none unread) once unopened opened) is prints = absurd (omega (arith, is))
  at_8 row (lacks_bus _ (without_bus _ asks (no_bus _ (no_file input.ReadFault lacks))) once unopened opened) is prints = absurd (omega (arith, is))
  at_8 row (lacks_bus _ (without_bus _ asks (no_bus _ (no_file input.TooLong lacks))) once unopened opened) is prints = (lacks.1, once, prints)
  at_8 row (lacks_bus _ (without_bus _ asks (no_bus _ (no_file input.Memory lacks))) once unopened opened) is prints = absurd (omega (arith, is))
  at_8 row (lacks_bus _ (without_bus _ asks (no_bus _ (file_refused cause text is_fault says))) once unopened opened) is prints = absurd (omega (arith, is))
  at_8 row (lacks_bus _ (without_bus _ asks (other_nodes bus reads others)) once unopened opened) is prints = absurd (omega (arith, is))
  at_8 row (with_bus bus _ named asks reads comes) is prints = absurd (over_isnt 8 bus row asks comes is not_8)

  never_6 : (row : Row) → Comes row → ¬ (row.status ≡ 6)
  never_6 row comes is = grind (arith, lacks_0, over_status)

  -- ---- which rows come

  only_2 : asks_over_bus (codes "grow") i.words ≡ false → (row : Row) → Comes row → row.status ≡ 2
  only_2 none row comes = grind (arith, asks_or_not)

  only_config : (config : List ℕ) (cause : ConfigFault) → AsksGrowth i.words → Offers i.bus config → bus_of config ≡ Err cause
      → (row : Row) → Comes row → (row.status ≡ 3) ⊎ (row.status ≡ 7)
  only_config config cause asks offers err row (lacks_bus _ (asks_none none unread) once unopened opened) =
      absurd (asks_or_not (asks_over_bus (codes "grow") i.words) none asks)
  only_config config cause asks offers err row (lacks_bus _ (without_bus _ also (no_bus _ (no_file why lacks))) once unopened opened) =
      inr (memory_status i.bus config why offers lacks)
  only_config config cause asks offers err row (lacks_bus _ (without_bus _ also (no_bus _ (file_refused why text is_fault says))) once unopened opened) = inl refl
  only_config config cause asks offers err row (lacks_bus _ (without_bus _ also (other_nodes bus reads others)) once unopened opened) = inl refl
  only_config config cause asks offers err row (with_bus bus _ named also reads comes) = absurd (bus_or_fault i.bus bus config cause reads.0 offers err)

  only_nodes : (bus : NamedBus) → AsksGrowth i.words → OffersBus i.bus bus → length bus.nodes ≢ 1
      → (row : Row) → Comes row → (row.status ≡ 3) ⊎ (row.status ≡ 7)
  only_nodes bus asks offers others row (lacks_bus _ (asks_none none unread) once unopened opened) =
      absurd (asks_or_not (asks_over_bus (codes "grow") i.words) none asks)
  only_nodes bus asks (file, offers, is) others row (lacks_bus _ (without_bus _ also (no_bus _ (no_file why lacks))) once unopened opened) =
      inr (memory_status i.bus file why offers lacks)
  only_nodes bus asks offers others row (lacks_bus _ (without_bus _ also (no_bus _ (file_refused why text is_fault says))) once unopened opened) = inl refl
  only_nodes bus asks offers others row (lacks_bus _ (without_bus _ also (other_nodes that reads more)) once unopened opened) = inl refl
  only_nodes bus asks offers others row (with_bus that _ named also reads comes) =
      absurd (others (sym (ap (λ (b : NamedBus). length b.nodes) (same_bus i.bus that bus reads.0 offers)) ∙ reads.1))

  -- a bus file that is offered gives its bus, or memory is out
  offered : (bus : NamedBus) (n : ℕ) → AsksGrowth i.words → OffersNodeBus i.bus bus
      → ((disk : OpensGrownDisk opens before after (file_of i) was left) (row : Row) → IsNamedBus bus → GrowsOnDisk (layout_of_bus bus) (routes_of bus) disk.old disk.new row
      → (row.status ≡ n) ⊎ (row.status ≡ 7))
      → (row : Row) → Comes row → (row.status ≡ n) ⊎ (row.status ≡ 7)
  offered bus n asks offers each row (lacks_bus _ (asks_none none unread) once unopened opened) =
      absurd (asks_or_not (asks_over_bus (codes "grow") i.words) none asks)
  offered bus n asks ((file, offers, is), one) each row (lacks_bus _ (without_bus _ also (no_bus _ (no_file why lacks))) once unopened opened) =
      inr (memory_status i.bus file why offers lacks)
  offered bus n asks offers each row (lacks_bus _ (without_bus _ also (no_bus _ (file_refused why text is_fault says))) once unopened opened) =
      absurd (offered_no_fault i.bus bus why offers.0 is_fault)
  offered bus n asks offers each row (lacks_bus _ (without_bus _ also (other_nodes that reads more)) once unopened opened) =
      absurd (more (ap (λ (b : NamedBus). length b.nodes) (same_bus i.bus that bus reads offers.0) ∙ offers.1))
  offered bus n asks offers each row (with_bus that _ named also reads (not_opened once unopened none)) = inr refl
  offered bus n asks offers each row (with_bus that _ named also reads (over_disk disk _ comes)) =
      let same : that ≡ bus = same_bus i.bus that bus reads.0 offers.0 in
      each disk row (subst IsNamedBus same named) (subst (λ (b : NamedBus). GrowsOnDisk (layout_of_bus b) (routes_of b) disk.old disk.new row) same comes)

  only_cause : (bus : NamedBus) (f : GrowFault) → AsksGrowth i.words → OffersNodeBus i.bus bus
      → ((old new : DiskState) → was ≡ Some old → left ≡ Some new → CannotBeGrown (layout_of_bus bus) (routes_of bus) old f × (¬ Rose old.faults new.faults))
      → (row : Row) → Comes row → (row.status ≡ 9) ⊎ (row.status ≡ 7)
  only_cause bus f asks offers has =
      offered bus 9 asks offers (λ disk row named comes.
      let of = has disk.old disk.new disk.was_is disk.left_is in
      disk_cause (layout_of_bus bus) (routes_of bus) disk.old disk.new row f (few_routes bus named) disk.tells comes of.0 of.1)

  only_can : (bus : NamedBus) → AsksGrowth i.words → OffersNodeBus i.bus bus
      → ((old new : DiskState) → was ≡ Some old → left ≡ Some new → CanBeGrown (layout_of_bus bus) (routes_of bus) old × (¬ Rose old.faults new.faults))
      → (row : Row) → Comes row → (row.status ≡ 0) ⊎ (row.status ≡ 7)
  only_can bus asks offers has =
      offered bus 0 asks offers (λ disk row named comes.
      let of = has disk.old disk.new disk.was_is disk.left_is in
      disk_can (layout_of_bus bus) (routes_of bus) disk.old disk.new row (few_routes bus named) disk.tells comes of.0 of.1)

  only_rose : (old new : DiskState) → was ≡ Some old → left ≡ Some new → old.faults < new.faults → (row : Row) → Comes row → row.status ≡ 10
  only_rose old new is there rose row comes = grind (arith, none_left, disk_rose, one_left)

  row_status : (row : Row) → Comes row → IsRunStatus row.status
  row_status row comes = grind (arith, lacks_status, grow_status, disk_status)

  run_status : EndsInRow Comes e → IsRunStatus e.status
  run_status ends = grind (arith, row_status)

  pub grows_row : EndsInRow Comes e → GrowsOverBus opens before after i left e
  grows_row ends = record {
    was = was;
    ends = ends;
    grown = EndsInRow-at ends 0 refl grown_at;
    usage = EndsInRow-at ends 2 refl at_2;
    usage_only = λ none. EndsInRow-only ends 2 (only_2 none);
    refused = EndsInRow-at ends 3 refl at_3;
    config_refused_only = λ config cause asks offers err. EndsInRow-may ends 3 (only_config config cause asks offers err);
    nodes_refused_only = λ bus asks offers others. EndsInRow-may ends 3 (only_nodes bus asks offers others);
    read_fault = EndsInRow-at ends 5 refl at_5;
    read_fault_only = λ counts. EndsInRow-only ends 5 (λ row comes. told_fault row i.bus (left_so i.bus) (row_tells row comes) (inl counts));
    write_fault = EndsInRow-front ends never_6;
    write_fault_only = EndsInRow-rose ends;
    no_memory = EndsInRow-at ends 7 refl no_memory_at;
    too_long = EndsInRow-at ends 8 refl at_8;
    too_long_only = λ counts. EndsInRow-only ends 8 (λ row comes. told_too_much row i.bus (left_so i.bus) (row_tells row comes) (inl counts));
    no_store = EndsInRow-at ends 9 refl no_store_at;
    no_store_only = λ bus f asks offers has. EndsInRow-may ends 9 (only_cause bus f asks offers has);
    disk_failed = EndsInRow-at ends 10 refl disk_failed_at;
    disk_failed_only = λ old new is there rose. EndsInRow-only ends 10 (only_rose old new is there rose);
    complete = λ bus asks offers has well. EndsInRow-done ends well 0 (only_can bus asks offers has);
    statuses = run_status ends;
  }
