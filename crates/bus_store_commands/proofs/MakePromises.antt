-- What a run of `slots make FILE BUS` that ends in a row of the table promises
use Rattle.std.specs.Prelude.{◌≡◌, ◌≢◌, ◌⊎◌, ℕ, ◌<◌, false, None, Some, Err, List, [], length, codes}
use Rattle.std.proofs.Common.{refl, sym, ap, ◌∙◌, subst, arith, inl, inr}
use Rattle.cut_disk.specs.State.{DiskState, Told}
use Rattle.cut_disk.specs.Calls.{IsQuiet, Rose}
use Rattle.cell_store.specs.declared.faults.StoreFault.TheVariants as store
use Rattle.program_edge.specs.declared.input.InputFault.TheVariants as input
use Rattle.program_edge.specs.Rows.{Row}
use Rattle.program_edge.specs.Inputs.{IsUnread, Offers, SourceFailed, GivesTooMuch}
use Rattle.program_edge.proofs.CallerLemmas.{EndsInRow-at, EndsInRow-front, EndsInRow-rose, EndsInRow-only, EndsInRow-may, EndsInRow-done}
use Rattle.program_edge.specs.Endings.{Ending, PrintsWhole, EndsInRow}
use Rattle.freshness_routes.specs.Config.{IsConfig}
use Rattle.bus_config.specs.declared.fault.ConfigFault.{ConfigFault}
use Rattle.bus_config.specs.BusFile.{bus_of}
use Rattle.bus_config.specs.Buses.{NamedBus}
use Rattle.bus_programs.specs.BusFiles.{OffersBus, no_file, file_refused}
use Rattle.bus_programs.proofs.CallerLemmas.{same_bus, bus_or_fault, memory_status, told_fault, told_too_much}
use Rattle.bus_store_commands.specs.declared.making.MakeFault.{MakeFault}
use Rattle.bus_store_commands.specs.declared.making.MakeFault.TheVariants as fault
use Rattle.bus_store_commands.specs.NodeBuses.{ReadsNodeBus, OffersNodeBus, LacksNodeBus, no_bus, other_nodes}
use Rattle.bus_store_commands.specs.NodeStores.{StoreMade, StoreUnmade, FailedToMake, LeftAsItWas}
use Rattle.bus_store_commands.specs.BusWords.{asks_over_bus}
use Rattle.bus_store_commands.specs.MakeRows.{MakeInputs, AsksMake, OpensNoDisk, OverDisk, ComesOfMake, no_form, no_node, no_room, unmade, make_row, IsMakeRow, make_usage, made_text, node_config}
use Rattle.bus_store_commands.specs.MakeRows as rows
use Rattle.bus_store_commands.specs.MakesUnitStore.{MakesUnitStore, OpenedWell, NoStoreFits, StoreFits}
use Rattle.bus_store_commands.proofs.CheckTells.{asks_or_not, node_status}
use Rattle.bus_store_commands.proofs.MakeTells.{IsUnmadeStatus, unmade_status, unmade_at_9, unmade_at_10, rose_is_10, unmade_text_7, left_at_7, fit_refused, made_refused, unread_other, make_tells}

not_unmade : (n : ℕ) (cause : MakeFault) (row : Row) → IsMakeRow cause row → ¬ IsUnmadeStatus n → row.status ≡ n → ⊥
not_unmade n cause row is other same = other (subst IsUnmadeStatus same (unmade_status cause row is))

unlike_5 : ¬ IsUnmadeStatus 5
unlike_5 comes = grind arith

unlike_8 : ¬ IsUnmadeStatus 8
unlike_8 comes = grind arith

module _ (opens : List ℕ → DiskState → Type 0) (i : MakeInputs) (e : Ending) where
  -- ---- rows by their status

  at_0 : (row : Row) → ComesOfMake opens i row → row.status ≡ 0 → PrintsWhole e row.text
      → OverDisk opens i (λ bus disk after. StoreMade bus.kind bus.version (node_config bus) disk after × PrintsWhole e (made_text bus))
  at_0 row comes is prints = grind (arith, unmade_status, node_status)

  at_2 : (row : Row) → ComesOfMake opens i row → row.status ≡ 2 → PrintsWhole e row.text
      → (asks_over_bus (codes "make") i.words ≡ false) × IsUnread i.bus × OpensNoDisk i × PrintsWhole e make_usage
  at_2 row comes is prints = grind (arith, unmade_status, node_status)

  at_3 : (row : Row) → ComesOfMake opens i row → row.status ≡ 3 → PrintsWhole e row.text
      → AsksMake i.words × OpensNoDisk i × ((row : Row) × LacksNodeBus i.bus row × (row.status ≡ 3) × PrintsWhole e row.text)
  at_3 row comes is prints = grind (arith, unmade_status)

  at_5 : (row : Row) → ComesOfMake opens i row → row.status ≡ 5 → PrintsWhole e row.text
      → SourceFailed i.bus × OpensNoDisk i × PrintsWhole e (codes "read fault\n")
  at_5 row (no_form none unread opened) is prints = absurd (omega (arith, is))
  at_5 row (no_node _ asks (no_bus _ (no_file input.ReadFault lacks)) opened) is prints = (lacks.0, opened, prints)
  at_5 row (no_node _ asks (no_bus _ (no_file input.TooLong lacks)) opened) is prints = absurd (omega (arith, is))
  at_5 row (no_node _ asks (no_bus _ (no_file input.Memory lacks)) opened) is prints = absurd (omega (arith, is))
  at_5 row (no_node _ asks (no_bus _ (file_refused cause text is_fault says)) opened) is prints = absurd (omega (arith, is))
  at_5 row (no_node _ asks (other_nodes bus reads others) opened) is prints = absurd (omega (arith, is))
  at_5 row (no_room bus asks reads opened) is prints = absurd (omega (arith, is))
  at_5 row (rows.made bus disk after asks reads opened stands) is prints = absurd (omega (arith, is))
  at_5 row (unmade bus disk after cause _ asks reads good opened un is_row) is prints = absurd (not_unmade 5 cause row is_row unlike_5 is)

  at_8 : (row : Row) → ComesOfMake opens i row → row.status ≡ 8 → PrintsWhole e row.text
      → GivesTooMuch i.bus × OpensNoDisk i × PrintsWhole e (codes "input too long\n")
  at_8 row (no_form none unread opened) is prints = absurd (omega (arith, is))
  at_8 row (no_node _ asks (no_bus _ (no_file input.ReadFault lacks)) opened) is prints = absurd (omega (arith, is))
  at_8 row (no_node _ asks (no_bus _ (no_file input.TooLong lacks)) opened) is prints = (lacks.1, opened, prints)
  at_8 row (no_node _ asks (no_bus _ (no_file input.Memory lacks)) opened) is prints = absurd (omega (arith, is))
  at_8 row (no_node _ asks (no_bus _ (file_refused cause text is_fault says)) opened) is prints = absurd (omega (arith, is))
  at_8 row (no_node _ asks (other_nodes bus reads others) opened) is prints = absurd (omega (arith, is))
  at_8 row (no_room bus asks reads opened) is prints = absurd (omega (arith, is))
  at_8 row (rows.made bus disk after asks reads opened stands) is prints = absurd (omega (arith, is))
  at_8 row (unmade bus disk after cause _ asks reads good opened un is_row) is prints = absurd (not_unmade 8 cause row is_row unlike_8 is)

  at_7 : (row : Row) → ComesOfMake opens i row → row.status ≡ 7 → PrintsWhole e row.text
      → PrintsWhole e [] × (OpensNoDisk i ⊎ OverDisk opens i (λ bus disk after. LeftAsItWas disk after))
  at_7 row (no_node _ asks (no_bus _ (no_file input.Memory lacks)) opened) is prints = (prints, inl opened)
  at_7 row (no_room bus asks reads opened) is prints = (prints, inl opened)
  at_7 row (unmade bus disk after cause _ asks reads good opened un is_row) is prints = (
    subst (PrintsWhole e) (unmade_text_7 cause row is_row is) prints,
    inr (asks, (bus, disk, after, reads, opened, left_at_7 bus.kind bus.version (node_config bus) disk after cause row un is_row is)),
  )
  at_7 row comes is prints = absurd (omega arith)

  at_9 : (row : Row) → ComesOfMake opens i row → row.status ≡ 9 → PrintsWhole e row.text
      → OverDisk opens i (λ bus disk after. (cause : MakeFault) × StoreUnmade bus.kind bus.version (node_config bus) disk after cause
      × LeftAsItWas disk after × ((make_row cause).status ≡ 9) × PrintsWhole e (make_row cause).text)
  at_9 row (no_node _ asks (no_bus _ (no_file input.ReadFault lacks)) opened) is prints = absurd (omega (arith, is))
  at_9 row (unmade bus disk after cause _ asks reads good opened un is_row) is prints =
      let (left, nine, same) = unmade_at_9 bus.kind bus.version (node_config bus) disk after cause row un is_row is in
      (asks, (bus, disk, after, reads, opened, (cause, un, left, nine, subst (λ (r : Row). PrintsWhole e r.text) same prints)))
  at_9 row comes is prints = absurd (omega arith)

  at_10 : (row : Row) → ComesOfMake opens i row → row.status ≡ 10 → PrintsWhole e row.text
      → OverDisk opens i (λ bus disk after. FailedToMake bus.kind bus.version (node_config bus) disk after × PrintsWhole e (codes "store: DiskFailed\n"))
  at_10 row (no_node _ asks (no_bus _ (no_file input.ReadFault lacks)) opened) is prints = absurd (omega (arith, is))
  at_10 row (unmade bus disk after cause _ asks reads good opened un is_row) is prints =
      let (failed, text) = unmade_at_10 bus.kind bus.version (node_config bus) disk after cause row un is_row is in
      (asks, (bus, disk, after, reads, opened, (failed, subst (PrintsWhole e) text prints)))
  at_10 row comes is prints = absurd (omega arith)

  never_6 : (row : Row) → ComesOfMake opens i row → ¬ (row.status ≡ 6)
  never_6 row comes is = grind (arith, node_status, unmade_status)

  -- ---- which rows come

  clash : asks_over_bus (codes "make") i.words ≡ false → AsksMake i.words → ⊥
  clash none asks = asks_or_not (asks_over_bus (codes "make") i.words) none asks

  only_2 : asks_over_bus (codes "make") i.words ≡ false → (row : Row) → ComesOfMake opens i row → row.status ≡ 2
  only_2 none row comes = grind (arith, clash)

  only_config : (config : List ℕ) (err : ConfigFault) → AsksMake i.words → Offers i.bus config → bus_of config ≡ Err err
      → (row : Row) → ComesOfMake opens i row → (row.status ≡ 3) ⊎ (row.status ≡ 7)
  only_config config err asks offers is row (no_form none unread opened) = absurd (clash none asks)
  only_config config err asks offers is row (no_node _ also (no_bus _ (no_file cause lacks)) opened) = inr (memory_status i.bus config cause offers lacks)
  only_config config err asks offers is row (no_node _ also (no_bus _ (file_refused cause text is_fault says)) opened) = inl refl
  only_config config err asks offers is row (no_node _ also (other_nodes bus reads others) opened) = inl refl
  only_config config err asks offers is row (no_room bus also reads opened) = inr refl
  only_config config err asks offers is row (rows.made bus disk after also reads opened stands) = absurd (bus_or_fault i.bus bus config err reads.0 offers is)
  only_config config err asks offers is row (unmade bus disk after cause _ also reads good opened un is_row) =
      absurd (bus_or_fault i.bus bus config err reads.0 offers is)

  one_and_more : (bus that : NamedBus) → ReadsNodeBus i.bus that → OffersBus i.bus bus → length bus.nodes ≢ 1 → ⊥
  one_and_more bus that reads offers others =
      others (sym (ap (λ (b : NamedBus). length b.nodes) (same_bus i.bus that bus reads.0 offers)) ∙ reads.1)

  only_nodes : (bus : NamedBus) → AsksMake i.words → OffersBus i.bus bus → length bus.nodes ≢ 1
      → (row : Row) → ComesOfMake opens i row → (row.status ≡ 3) ⊎ (row.status ≡ 7)
  only_nodes bus asks offers others row (no_form none unread opened) = absurd (clash none asks)
  only_nodes bus asks (file, offers, is) others row (no_node _ also (no_bus _ (no_file cause lacks)) opened) = inr (memory_status i.bus file cause offers lacks)
  only_nodes bus asks offers others row (no_node _ also (no_bus _ (file_refused cause text is_fault says)) opened) = inl refl
  only_nodes bus asks offers others row (no_node _ also (other_nodes that reads more) opened) = inl refl
  only_nodes bus asks offers others row (no_room that also reads opened) = inr refl
  only_nodes bus asks offers others row (rows.made that disk after also reads opened stands) = absurd (one_and_more bus that reads offers others)
  only_nodes bus asks offers others row (unmade that disk after cause _ also reads good opened un is_row) = absurd (one_and_more bus that reads offers others)

  -- ---- the disk that was opened

  one_disk : (disk that : DiskState) → i.opened ≡ Some disk → i.opened ≡ Some that → disk ≡ that
  one_disk disk that first second = let same : Some disk ≡ Some that = sym first ∙ second in cc same

  no_disk : (disk : DiskState) → i.opened ≡ Some disk → OpensNoDisk i → ⊥
  no_disk disk first (same, none, left) = let is : Some disk ≡ None = sym first ∙ none in cc is

  last_disk : (disk that : DiskState) → i.left ≡ Some disk → i.left ≡ Some that → disk ≡ that
  last_disk disk that first second = let same : Some disk ≡ Some that = sym first ∙ second in cc same

  told_made : (bus : NamedBus) (disk after : DiskState) (t : Told) → StoreMade bus.kind bus.version (node_config bus) disk after → disk.told ≡ Some t
      → ReadsNodeBus i.bus bus → NoStoreFits bus disk.size t.bytes → ⊥
  told_made bus disk after t stands tells reads (inl small) = let room = stands.room in omega (arith, room, small)
  told_made bus disk after t stands tells reads (inr (cause, refused)) =
      made_refused bus.kind bus.version (node_config bus) t after.told cause stands.is_config (stands.told t tells) refused

  at_quiet : (bus : NamedBus) (disk after : DiskState) (cause : MakeFault) (row : Row) → StoreUnmade bus.kind bus.version (node_config bus) disk after cause
      → IsMakeRow cause row → ¬ (row.status ≡ 10) → (row.status ≡ 9) ⊎ (row.status ≡ 7)
  at_quiet bus disk after cause row un is_row not = grind (arith, unmade_status)

  -- a disk that was quiet, or whose count of faults didn't rise, didn't fail
  did_not_fail : (disk that after : DiskState) (bus : NamedBus) → disk ≡ that → i.left ≡ Some after
      → FailedToMake bus.kind bus.version (node_config bus) that after
      → IsQuiet disk ⊎ ((end : DiskState) → i.left ≡ Some end → ¬ Rose disk.faults end.faults) → ⊥
  did_not_fail disk that after bus same left failed (inl quiet) = failed.1 (subst IsQuiet same quiet)
  did_not_fail disk that after bus same left failed (inr calm) =
      calm after left (subst (λ (d : DiskState). Rose d.faults after.faults) (sym same) failed.0)

  -- on such a disk, on which no store fits, none is made
  refused_9 : (bus : NamedBus) → AsksMake i.words → OffersNodeBus i.bus bus → OpenedWell i (NoStoreFits bus)
      → (row : Row) → ComesOfMake opens i row → (row.status ≡ 9) ⊎ (row.status ≡ 7)
  refused_9 bus asks offers o row (no_form none unread opened) = absurd (clash none asks)
  refused_9 bus asks offers o row (no_node _ also lacks opened) = absurd (no_disk o.disk o.is opened)
  refused_9 bus asks offers o row (no_room that also reads opened) = inr refl
  refused_9 bus asks offers o row (rows.made that disk after also reads opened stands) =
      let bus_is = same_bus i.bus that bus reads.0 offers.0 in
      let disk_is = one_disk o.disk disk o.is opened.opened in
      absurd (told_made that disk after o.told stands (ap (λ (d : DiskState). d.told) (sym disk_is) ∙ o.tells) reads
      (subst (λ (b : NamedBus). NoStoreFits b disk.size o.told.bytes) (sym bus_is)
      (subst (λ (d : DiskState). NoStoreFits bus d.size o.told.bytes) disk_is o.has)))
  refused_9 bus asks offers o row (unmade that disk after cause _ also reads good opened un is_row) =
      let disk_is = one_disk o.disk disk o.is opened.opened in
      at_quiet that disk after cause row un is_row (λ ten.
      did_not_fail o.disk disk after that disk_is opened.left
      (unmade_at_10 that.kind that.version (node_config that) disk after cause row un is_row ten).0 o.did)

  -- the disk's count of faults rose
  rose_10 : (disk after : DiskState) → i.opened ≡ Some disk → i.left ≡ Some after → disk.faults < after.faults
      → (row : Row) → ComesOfMake opens i row → row.status ≡ 10
  rose_10 disk after first last rose row comes = grind (arith, no_disk, one_disk, last_disk, rose_is_10)

  fits_7 : (bus : NamedBus) (disk after : DiskState) (cause : MakeFault) (row : Row) → IsConfig (node_config bus)
      → StoreUnmade bus.kind bus.version (node_config bus) disk after cause → IsMakeRow cause row
      → ¬ FailedToMake bus.kind bus.version (node_config bus) disk after
      → (t : Told) → disk.told ≡ Some t → StoreFits bus disk.size t.bytes → (row.status ≡ 0) ⊎ (row.status ≡ 7)
  fits_7 bus disk after (fault.Store store.DiskFailed) row good un is well t tells (room, fit) = absurd (well un)
  fits_7 bus disk after (fault.Store store.TooSmall) row good un is well t tells (room, fit) = absurd (omega (arith, room, un.0))
  fits_7 bus disk after (fault.Store store.Memory) row good un (inl is) well t tells (room, fit) = inr (ap (λ (r : Row). r.status) is)
  fits_7 bus disk after (fault.Store store.Memory) row good un (inr (number, is)) well t tells (room, fit) = absurd number
  fits_7 bus disk after cause row good un is well t tells (room, fit) =
      absurd (fit_refused bus.kind bus.version (node_config bus) t.bytes cause good fit (un.1 t tells))

  -- such a disk that is blank gets its store, and one that has it is left, or memory is out
  fits_0 : (bus : NamedBus) → AsksMake i.words → OffersNodeBus i.bus bus → OpenedWell i (StoreFits bus)
      → (row : Row) → ComesOfMake opens i row → (row.status ≡ 0) ⊎ (row.status ≡ 7)
  fits_0 bus asks offers o row (no_form none unread opened) = absurd (clash none asks)
  fits_0 bus asks offers o row (no_node _ also lacks opened) = absurd (no_disk o.disk o.is opened)
  fits_0 bus asks offers o row (no_room that also reads opened) = inr refl
  fits_0 bus asks offers o row (rows.made that disk after also reads opened stands) = inl refl
  fits_0 bus asks offers o row (unmade that disk after cause _ also reads good opened un is_row) =
      let bus_is = same_bus i.bus that bus reads.0 offers.0 in
      let disk_is = one_disk o.disk disk o.is opened.opened in
      fits_7 that disk after cause row good un is_row
      (λ failed. did_not_fail o.disk disk after that disk_is opened.left failed o.did) o.told
      (ap (λ (d : DiskState). d.told) (sym disk_is) ∙ o.tells)
      (subst (λ (b : NamedBus). StoreFits b disk.size o.told.bytes) (sym bus_is)
      (subst (λ (d : DiskState). StoreFits bus d.size o.told.bytes) disk_is o.has))

  pub makes_row : EndsInRow (ComesOfMake opens i) e → MakesUnitStore opens i e
  makes_row ends = record {
    ends = ends;
    made = EndsInRow-at ends 0 refl at_0;
    usage = EndsInRow-at ends 2 refl at_2;
    usage_only = λ none. EndsInRow-only ends 2 (only_2 none);
    refused = EndsInRow-at ends 3 refl at_3;
    config_refused_only = λ config err asks offers is. EndsInRow-may ends 3 (only_config config err asks offers is);
    nodes_refused_only = λ bus asks offers others. EndsInRow-may ends 3 (only_nodes bus asks offers others);
    read_fault = EndsInRow-at ends 5 refl at_5;
    read_fault_only = λ counts. EndsInRow-only ends 5 (λ row comes. told_fault row i.bus (unread_other i.bus) (make_tells opens i row comes) (inl counts));
    too_long = EndsInRow-at ends 8 refl at_8;
    too_long_only = λ counts. EndsInRow-only ends 8 (λ row comes. told_too_much row i.bus (unread_other i.bus) (make_tells opens i row comes) (inl counts));
    write_fault = EndsInRow-front ends never_6;
    write_fault_only = EndsInRow-rose ends;
    no_memory = EndsInRow-at ends 7 refl at_7;
    store_refused = EndsInRow-at ends 9 refl at_9;
    store_refused_only = λ bus asks offers o. EndsInRow-may ends 9 (refused_9 bus asks offers o);
    disk_failed = EndsInRow-at ends 10 refl at_10;
    disk_failed_only = λ disk after first last rose. EndsInRow-only ends 10 (rose_10 disk after first last rose);
    complete = λ bus asks offers o well. EndsInRow-done ends well 0 (fits_0 bus asks offers o);
  }
