-- What a run of `slots check FILE BUS` that ends in a row of the table promises
use Rattle.std.proofs.Common.{◌≡◌, ◌⊎◌, ◌∙◌, ℕ, List, [], inl, inr, ⊎_elim, refl, sym, ap, subst, arith}
use Rattle.std.specs.Prelude.{◌≢◌, false, Err, length, codes}
use Rattle.program_edge.specs.declared.input.InputFault.TheVariants as input
use Rattle.program_edge.specs.Rows.{Row}
use Rattle.program_edge.specs.Inputs.{IsUnread, Offers, SourceFailed, GivesTooMuch}
use Rattle.program_edge.proofs.CallerLemmas.{Offers-whole, EndsInRow-at, EndsInRow-front, EndsInRow-rose, EndsInRow-only, EndsInRow-may, EndsInRow-done}
use Rattle.program_edge.specs.Endings.{Ending, PrintsWhole, EndsInRow, MayEndIn}
use Rattle.cell_store.specs.Layout.{layout}
use Rattle.any_cells.specs.declared.finding.CountingStore.{CountingStore}
use Rattle.any_cells.specs.declared.looking.Found.TheVariants.{Standing}
use Rattle.any_cells.specs.Looking.{IsFound}
use Rattle.key_commands.specs.Opening.{layout_of}
use Rattle.bus_config.specs.declared.fault.ConfigFault.{ConfigFault}
use Rattle.bus_config.specs.BusFile.{bus_of}
use Rattle.bus_config.specs.Buses.{NamedBus}
use Rattle.bus_programs.specs.BusFiles.{OffersBus, no_file, file_refused}
use Rattle.bus_programs.proofs.CallerLemmas.{same_bus, bus_or_fault, offered_no_fault, memory_status, told_fault, told_too_much}
use Rattle.slot_commands.specs.Stores.{HasStoreToCheck, NoStoreIn}
use Rattle.slot_commands.proofs.CallerLemmas.{no_store_row}
use Rattle.bus_store_commands.specs.NodeBuses.{ReadsNodeBus, OffersNodeBus, LacksNodeBus, no_bus, other_nodes}
use Rattle.bus_store_commands.specs.BusWords.{asks_over_bus}
use Rattle.bus_store_commands.specs.CheckRows.{BusCheckInputs, AsksBusCheck, OverStoreAndBus, wanted_store, ChecksNodeStore, DoesBusCheck, found_nothing, found, not_checked}
use Rattle.bus_store_commands.specs.CheckRows.{ComesOfBusCheck, no_form, no_node, done, bus_check_usage}
use Rattle.bus_store_commands.specs.CheckRows as rows
use Rattle.bus_store_commands.specs.ChecksOverBus.{ChecksOverBus}
use Rattle.bus_store_commands.proofs.CheckTells.{row_tells, node_status, asks_or_not, IsCheckStatus, check_status, check_once, kind_status, good_stands}

-- ---- what a check comes to, by its status

check_0 : (bus : NamedBus) (x : List ℕ) (row : Row) → DoesBusCheck bus x row → row.status ≡ 0 → ChecksNodeStore bus x [] row.text
check_0 bus x row (found_nothing text checks) is = checks
check_0 bus x row (found findings text some checks) is = absurd (omega (arith, is))
check_0 bus x row (not_checked _ none) is = absurd (omega (arith, no_store_row x row none, is))

check_1 : (bus : NamedBus) (x : List ℕ) (row : Row) → DoesBusCheck bus x row → row.status ≡ 1
    → (findings : List (List (List ℕ))) × (findings ≢ []) × ChecksNodeStore bus x findings row.text
check_1 bus x row (found_nothing text checks) is = absurd (omega (arith, is))
check_1 bus x row (found findings text some checks) is = (findings, some, checks)
check_1 bus x row (not_checked _ none) is = absurd (omega (arith, no_store_row x row none, is))

check_9 : (bus : NamedBus) (x : List ℕ) (row : Row) → DoesBusCheck bus x row → row.status ≡ 9 → NoStoreIn x row
check_9 bus x row comes is = grind arith

not_check : (n : ℕ) (bus : NamedBus) (x : List ℕ) (row : Row) → DoesBusCheck bus x row → ¬ IsCheckStatus n → row.status ≡ n → ⊥
not_check n bus x row does other is = other (subst IsCheckStatus is (check_status bus x row does))

not_5 : ¬ IsCheckStatus 5
not_5 comes = grind arith

not_7 : ¬ IsCheckStatus 7
not_7 comes = grind arith

not_8 : ¬ IsCheckStatus 8
not_8 comes = grind arith

module _ (i : BusCheckInputs) (e : Ending) where
  -- ---- rows by their status

  -- at 0, 1 and 9 the check was done
  done_at : (n : ℕ) → IsCheckStatus n → (row : Row) → ComesOfBusCheck i row → row.status ≡ n → OverStoreAndBus i (λ bus x. DoesBusCheck bus x row)
  done_at n of row comes is = grind (arith, node_status)

  good_at : (row : Row) → ComesOfBusCheck i row → row.status ≡ 0 → PrintsWhole e row.text
      → OverStoreAndBus i (λ bus x. (text : List ℕ) × ChecksNodeStore bus x [] text × PrintsWhole e text)
  good_at row comes is prints =
      let (bus, x, reads, whole, does) = done_at 0 (inl refl) row comes is in
      (bus, x, reads, whole, (row.text, check_0 bus x row does is, prints))

  found_at : (row : Row) → ComesOfBusCheck i row → row.status ≡ 1 → PrintsWhole e row.text
      → OverStoreAndBus i (λ bus x. (findings : List (List (List ℕ))) × (text : List ℕ) × (findings ≢ [])
      × ChecksNodeStore bus x findings text × PrintsWhole e text)
  found_at row comes is prints =
      let (bus, x, reads, whole, does) = done_at 1 (inr (inl refl)) row comes is in
      let (findings, some, checks) = check_1 bus x row does is in
      (bus, x, reads, whole, (findings, row.text, some, checks, prints))

  standing_at : (row : Row) → ComesOfBusCheck i row → row.status ≡ 0 → PrintsWhole e row.text
      → OverStoreAndBus i (λ bus x. IsFound bus.kind bus.version (wanted_store bus).cells x Standing)
  standing_at row comes is prints =
      let (bus, x, reads, whole, does) = done_at 0 (inl refl) row comes is in
      (bus, x, reads, whole, good_stands bus x row.text (check_0 bus x row does is))

  no_store_at : (row : Row) → ComesOfBusCheck i row → row.status ≡ 9 → PrintsWhole e row.text
      → OverStoreAndBus i (λ bus x. (row : Row) × NoStoreIn x row × PrintsWhole e row.text)
  no_store_at row comes is prints =
      let (bus, x, reads, whole, does) = done_at 9 (inr (inr refl)) row comes is in
      (bus, x, reads, whole, (row, check_9 bus x row does is, prints))

  at_2 : (row : Row) → ComesOfBusCheck i row → row.status ≡ 2 → PrintsWhole e row.text
      → (asks_over_bus (codes "check") i.words ≡ false) × IsUnread i.bus × IsUnread i.file × PrintsWhole e bus_check_usage
  at_2 row comes is prints = grind (arith, check_status, node_status)

  at_3 : (row : Row) → ComesOfBusCheck i row → row.status ≡ 3 → PrintsWhole e row.text
      → AsksBusCheck i.words × IsUnread i.file × ((row : Row) × LacksNodeBus i.bus row × (row.status ≡ 3) × PrintsWhole e row.text)
  at_3 row comes is prints = grind (arith, check_status)

  at_5 : (row : Row) → ComesOfBusCheck i row → row.status ≡ 5 → PrintsWhole e row.text
      → (SourceFailed i.bus ⊎ SourceFailed i.file) × PrintsWhole e (codes "read fault\n")
  at_5 row (no_form none bus_unread unread) is prints = absurd (omega (arith, is))
  at_5 row (no_node _ asks (no_bus _ (no_file input.ReadFault lacks)) unread) is prints = (inl lacks.0, prints)
  at_5 row (no_node _ asks (no_bus _ (no_file input.TooLong lacks)) unread) is prints = absurd (omega (arith, is))
  at_5 row (no_node _ asks (no_bus _ (no_file input.Memory lacks)) unread) is prints = absurd (omega (arith, is))
  at_5 row (no_node _ asks (no_bus _ (file_refused fault text is_fault says)) unread) is prints = absurd (omega (arith, is))
  at_5 row (no_node _ asks (other_nodes bus reads others) unread) is prints = absurd (omega (arith, is))
  at_5 row (rows.no_file bus input.ReadFault asks reads lacks) is prints = (inr lacks.0, prints)
  at_5 row (rows.no_file bus input.TooLong asks reads lacks) is prints = absurd (omega (arith, is))
  at_5 row (rows.no_file bus input.Memory asks reads lacks) is prints = absurd (omega (arith, is))
  at_5 row (done bus x _ asks reads whole does) is prints = absurd (not_check 5 bus x row does not_5 is)

  at_7 : (row : Row) → ComesOfBusCheck i row → row.status ≡ 7 → PrintsWhole e row.text → PrintsWhole e []
  at_7 row (no_form none bus_unread unread) is prints = absurd (omega (arith, is))
  at_7 row (no_node _ asks (no_bus _ (no_file input.ReadFault lacks)) unread) is prints = absurd (omega (arith, is))
  at_7 row (no_node _ asks (no_bus _ (no_file input.TooLong lacks)) unread) is prints = absurd (omega (arith, is))
  at_7 row (no_node _ asks (no_bus _ (no_file input.Memory lacks)) unread) is prints = prints
  at_7 row (no_node _ asks (no_bus _ (file_refused fault text is_fault says)) unread) is prints = absurd (omega (arith, is))
  at_7 row (no_node _ asks (other_nodes bus reads others) unread) is prints = absurd (omega (arith, is))
  at_7 row (rows.no_file bus input.ReadFault asks reads lacks) is prints = absurd (omega (arith, is))
  at_7 row (rows.no_file bus input.TooLong asks reads lacks) is prints = absurd (omega (arith, is))
  at_7 row (rows.no_file bus input.Memory asks reads lacks) is prints = prints
  at_7 row (done bus x _ asks reads whole does) is prints = absurd (not_check 7 bus x row does not_7 is)

  at_8 : (row : Row) → ComesOfBusCheck i row → row.status ≡ 8 → PrintsWhole e row.text
      → (GivesTooMuch i.bus ⊎ GivesTooMuch i.file) × PrintsWhole e (codes "input too long\n")
  at_8 row (no_form none bus_unread unread) is prints = absurd (omega (arith, is))
  at_8 row (no_node _ asks (no_bus _ (no_file input.ReadFault lacks)) unread) is prints = absurd (omega (arith, is))
  at_8 row (no_node _ asks (no_bus _ (no_file input.TooLong lacks)) unread) is prints = (inl lacks.1, prints)
  at_8 row (no_node _ asks (no_bus _ (no_file input.Memory lacks)) unread) is prints = absurd (omega (arith, is))
  at_8 row (no_node _ asks (no_bus _ (file_refused fault text is_fault says)) unread) is prints = absurd (omega (arith, is))
  at_8 row (no_node _ asks (other_nodes bus reads others) unread) is prints = absurd (omega (arith, is))
  at_8 row (rows.no_file bus input.ReadFault asks reads lacks) is prints = absurd (omega (arith, is))
  at_8 row (rows.no_file bus input.TooLong asks reads lacks) is prints = (inr lacks.1, prints)
  at_8 row (rows.no_file bus input.Memory asks reads lacks) is prints = absurd (omega (arith, is))
  at_8 row (done bus x _ asks reads whole does) is prints = absurd (not_check 8 bus x row does not_8 is)

  never_6 : (row : Row) → ComesOfBusCheck i row → ¬ (row.status ≡ 6)
  never_6 row comes is = grind (arith, check_status, node_status)

  -- ---- which rows come

  only_2 : asks_over_bus (codes "check") i.words ≡ false → (row : Row) → ComesOfBusCheck i row → row.status ≡ 2
  only_2 none row comes = grind (arith, asks_or_not)

  only_config : (config : List ℕ) (fault : ConfigFault) → AsksBusCheck i.words → Offers i.bus config → bus_of config ≡ Err fault
      → (row : Row) → ComesOfBusCheck i row → (row.status ≡ 3) ⊎ (row.status ≡ 7)
  only_config config fault asks offers err row (no_form none bus_unread unread) = absurd (asks_or_not (asks_over_bus (codes "check") i.words) none asks)
  only_config config fault asks offers err row (no_node _ also (no_bus _ (no_file cause lacks)) unread) = inr (memory_status i.bus config cause offers lacks)
  only_config config fault asks offers err row (no_node _ also (no_bus _ (file_refused cause text is_fault says)) unread) = inl refl
  only_config config fault asks offers err row (no_node _ also (other_nodes bus reads others) unread) = inl refl
  only_config config fault asks offers err row (rows.no_file bus cause also reads lacks) = absurd (bus_or_fault i.bus bus config fault reads.0 offers err)
  only_config config fault asks offers err row (done bus x _ also reads whole does) = absurd (bus_or_fault i.bus bus config fault reads.0 offers err)

  one_and_more : (bus that : NamedBus) → ReadsNodeBus i.bus that → OffersBus i.bus bus → length bus.nodes ≢ 1 → ⊥
  one_and_more bus that reads offers others =
      others (sym (ap (λ (b : NamedBus). length b.nodes) (same_bus i.bus that bus reads.0 offers)) ∙ reads.1)

  only_nodes : (bus : NamedBus) → AsksBusCheck i.words → OffersBus i.bus bus → length bus.nodes ≢ 1
      → (row : Row) → ComesOfBusCheck i row → (row.status ≡ 3) ⊎ (row.status ≡ 7)
  only_nodes bus asks offers others row (no_form none bus_unread unread) = absurd (asks_or_not (asks_over_bus (codes "check") i.words) none asks)
  only_nodes bus asks (file, offers, is) others row (no_node _ also (no_bus _ (no_file cause lacks)) unread) = inr (memory_status i.bus file cause offers lacks)
  only_nodes bus asks offers others row (no_node _ also (no_bus _ (file_refused cause text is_fault says)) unread) = inl refl
  only_nodes bus asks offers others row (no_node _ also (other_nodes that reads more) unread) = inl refl
  only_nodes bus asks offers others row (rows.no_file that cause also reads lacks) = absurd (one_and_more bus that reads offers others)
  only_nodes bus asks offers others row (done that x _ also reads whole does) = absurd (one_and_more bus that reads offers others)

  -- over a bus and bytes that the sources tell each row that comes is one of their check, or memory is out
  done_or_memory : (bus : NamedBus) (x : List ℕ) → AsksBusCheck i.words → OffersNodeBus i.bus bus → Offers i.file x
      → (other : Row) → ComesOfBusCheck i other → DoesBusCheck bus x other ⊎ (other.status ≡ 7)
  done_or_memory bus x asks offers told other (no_form none bus_unread unread) = absurd (asks_or_not (asks_over_bus (codes "check") i.words) none asks)
  done_or_memory bus x asks ((file, offers, is), one) told other (no_node _ also (no_bus _ (no_file cause lacks)) unread) =
      inr (memory_status i.bus file cause offers lacks)
  done_or_memory bus x asks offers told other (no_node _ also (no_bus _ (file_refused cause text is_fault says)) unread) =
      absurd (offered_no_fault i.bus bus cause offers.0 is_fault)
  done_or_memory bus x asks offers told other (no_node _ also (other_nodes that reads more) unread) =
      absurd (more (ap (λ (b : NamedBus). length b.nodes) (same_bus i.bus that bus reads offers.0) ∙ offers.1))
  done_or_memory bus x asks offers told other (rows.no_file that cause also reads lacks) = inr (memory_status i.file x cause told lacks)
  done_or_memory bus x asks offers told other (done that read _ also reads whole did) =
      let bus_is = same_bus i.bus that bus reads.0 offers.0 in
      let bytes_are = Offers-whole i.file x read told whole in
      inl (subst (λ (b : NamedBus). DoesBusCheck b x other) bus_is (subst (λ (r : List ℕ). DoesBusCheck that r other) bytes_are did))

  -- so it comes to the status of the check
  only_done : (bus : NamedBus) (x : List ℕ) (row : Row) → AsksBusCheck i.words → OffersNodeBus i.bus bus → Offers i.file x
      → DoesBusCheck bus x row → (other : Row) → ComesOfBusCheck i other → (other.status ≡ row.status) ⊎ (other.status ≡ 7)
  only_done bus x row asks offers told does other comes =
      ⊎_elim (λ did. inl (check_once bus x other row did does)) inr (done_or_memory bus x asks offers told other comes)

  -- of a store of another kind or version than the bus's that is 1
  only_kind : (bus : NamedBus) (x : List ℕ) (store : CountingStore) → AsksBusCheck i.words → OffersNodeBus i.bus bus → Offers i.file x
      → HasStoreToCheck x store → ¬ (layout_of store ≡ layout bus.kind bus.version) → (other : Row) → ComesOfBusCheck i other
      → (other.status ≡ 1) ⊎ (other.status ≡ 7)
  only_kind bus x store asks offers told has differs other comes =
      ⊎_elim (λ did. inl (kind_status bus x store other did has differs)) inr (done_or_memory bus x asks offers told other comes)

  may_done : EndsInRow (ComesOfBusCheck i) e → (n : ℕ) (bus : NamedBus) (x : List ℕ) (row : Row) → AsksBusCheck i.words → OffersNodeBus i.bus bus
      → Offers i.file x → DoesBusCheck bus x row → row.status ≡ n → MayEndIn n e
  may_done ends n bus x row asks offers told does is =
      EndsInRow-may ends n (subst (λ (k : ℕ). (other : Row) → ComesOfBusCheck i other → (other.status ≡ k) ⊎ (other.status ≡ 7)) is
      (only_done bus x row asks offers told does))

  pub checks_row : EndsInRow (ComesOfBusCheck i) e → ChecksOverBus i e
  checks_row ends = record {
    ends = ends;
    good = EndsInRow-at ends 0 refl good_at;
    found = EndsInRow-at ends 1 refl found_at;
    found_only = λ bus x text findings asks offers told checks some. may_done ends 1 bus x _ asks offers told (found findings text some checks) refl;
    standing = EndsInRow-at ends 0 refl standing_at;
    kind_found_only = λ bus x store asks offers told has differs. EndsInRow-may ends 1 (only_kind bus x store asks offers told has differs);
    usage = EndsInRow-at ends 2 refl at_2;
    usage_only = λ none. EndsInRow-only ends 2 (only_2 none);
    refused = EndsInRow-at ends 3 refl at_3;
    config_refused_only = λ config fault asks offers err. EndsInRow-may ends 3 (only_config config fault asks offers err);
    nodes_refused_only = λ bus asks offers others. EndsInRow-may ends 3 (only_nodes bus asks offers others);
    read_fault = EndsInRow-at ends 5 refl at_5;
    read_fault_only = λ counts. EndsInRow-only ends 5 (λ row comes. told_fault row i.bus i.file (row_tells i row comes) counts);
    write_fault = EndsInRow-front ends never_6;
    write_fault_only = EndsInRow-rose ends;
    no_memory = EndsInRow-at ends 7 refl at_7;
    too_long = EndsInRow-at ends 8 refl at_8;
    too_long_only = λ counts. EndsInRow-only ends 8 (λ row comes. told_too_much row i.bus i.file (row_tells i row comes) counts);
    no_store = EndsInRow-at ends 9 refl no_store_at;
    no_store_only = λ bus x row asks offers told none. may_done ends 9 bus x row asks offers told (not_checked row none) (no_store_row x row none);
    complete = λ bus x row asks offers told does well. EndsInRow-done ends well row.status (only_done bus x row asks offers told does);
  }
