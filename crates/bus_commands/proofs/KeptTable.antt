-- What `node --keep` promises over its disk, from how it ends
use Rattle.std.specs.Prelude.{◌≡◌, ◌⊎◌, ◌≤◌, ℕ, List, [], ◌∷◌, length, get_or, Result, Ok, Err}
use Rattle.std.proofs.Common.{refl, sym, ap, ◌∙◌, subst, arith, inl, inr}
use Rattle.program_edge.specs.Rows.{Row, memory_row}
use Rattle.program_edge.specs.Endings.{Ending, EndsInRow, PrintsWhole, SinkFailed, CountsWriteFault}
use Rattle.program_edge.proofs.CallerLemmas.{EndsInRow-at, EndsInRow-front, EndsInRow-rose, EndsInRow-may, EndsInRow-done}
use Rattle.run_driver.specs.declared.printing.Unwritten.{Unwritten}
use Rattle.run_driver.specs.declared.printing.Unwritten.TheVariants as unwritten
use Rattle.run_driver.specs.Statuses.{unwritten_status}
use Rattle.bus_machine.specs.declared.events.Event.{Event}
use Rattle.bus_config.specs.declared.node_lines.NodeLine.{NodeLine}
use Rattle.bus_config.specs.Buses.{NamedBus, IsNamedBus}
use Rattle.bus_script.specs.EventForms.{node_line_at}
use Rattle.bus_programs.specs.BusFiles.{OffersBus}
use Rattle.bus_programs.specs.Inputs.{BusInputs}
use Rattle.bus_programs.proofs.CallerLemmas.{same_bus}
use Rattle.bus_world.specs.declared.start.Start.TheVariants.{Attach}
use Rattle.bus_world.specs.declared.start.StartFault.{StartFault}
use Rattle.bus_world.specs.TakingUp.{KeptOn}
use Rattle.bus_world.specs.Starts.{HasRoom, FindsRoom}
use Rattle.bus_world.specs.StartRows.{start_row}
use Rattle.bus_world.specs.StartAnswers.{DiskStates, CountsDiskFault, failed_row}
use Rattle.bus_world.proofs.CallerLemmas.{no_disk, no_line, no_node}
use Rattle.kept_starts.specs.KeepRows.{ComesKept, BusKeepsDisk, HoldsNoStore, RefusesStart}
use Rattle.kept_starts.proofs.CallerLemmas.{kept_7, kept_9, kept_10, kept_complete, kept_failure, kept_status, kept_with_room, kept_without_room, look_keeps, refuses_more, room_before, same_told}
use Rattle.bus_commands.specs.declared.words.WorldCommand.TheVariants.{Replay}
use Rattle.bus_commands.specs.Inputs.{SetsWorld}
use Rattle.bus_commands.specs.Keeping.{DoneKept, AnswersKeepReplay, refused_kept, kept_done, KeptEvents, TellsKeptNode}

abbrev pub EndsKept : ℕ → Type 0
EndsKept n = (n ≡ 0) ⊎ (n ≡ 6) ⊎ (n ≡ 7) ⊎ (n ≡ 9) ⊎ (n ≡ 10)

-- the first of some node lines is the one at the place 0
first_in : (nodes : List NodeLine) → 1 ≤ length nodes → get_or nodes 0 no_line ≡ node_line_at nodes 0
first_in [] some = absurd (let no : ⊥ = omega (arith, some) in no)
first_in (n ∷ ns) some = refl

first_of : (bus : NamedBus) → IsNamedBus bus → get_or bus.nodes 0 no_line ≡ node_line_at bus.nodes 0
first_of bus is = first_in bus.nodes is.least

module _ (same : Type 0) (i : BusInputs) (d : DiskStates) (e : Ending) (bus : NamedBus) (events : List Event)
    (set : SetsWorld i (Replay Attach) bus events) (is : IsNamedBus bus) where
  -- the bus that the source tells is the one that was read
  told_bus : (P : NamedBus → Type 0) (other : NamedBus) → OffersBus i.config other → P other → P bus
  told_bus P other offers has = subst P (sym (same_bus i.config bus other set.of_bus offers)) has

  -- ---- it isn't started

  row_status : (row : Row) → ComesKept same bus d row → (row.status ≡ 9) ⊎ ((row.status ≡ 10) ⊎ (row.status ≡ 7))
  row_status row comes = kept_status same bus d row comes

  never : {A : Type 0} (n : ℕ) (row : Row) → ComesKept same bus d row → row.status ≡ n → (n ≡ 0) ⊎ (n ≡ 6) → A
  never n row comes at low = absurd (let no : ⊥ = omega (arith, row_status row comes, at, low) in no)

  row_7 : (row : Row) → ComesKept same bus d row → row.status ≡ 7 → PrintsWhole e row.text → ComesKept same bus d memory_row × PrintsWhole e []
  row_7 row comes seven well =
      let said : row ≡ memory_row = kept_7 same bus d row comes seven in
      (subst (ComesKept same bus d) said comes, subst (λ (r : Row). PrintsWhole e r.text) said well)

  row_9 : (row : Row) → ComesKept same bus d row → row.status ≡ 9 → PrintsWhole e row.text
      → ((fault : StartFault) × FindsRoom bus d.before fault × (d.after ≡ d.before) × PrintsWhole e (start_row fault).text) × same
  row_9 row comes nine well =
      let said = kept_9 same bus d row comes nine in
      ((said.0.0, said.0.1, said.0.2, subst (λ (text : List ℕ). PrintsWhole e text) said.0.3 well), said.1)

  row_10 : (row : Row) → ComesKept same bus d row → row.status ≡ 10 → PrintsWhole e row.text → RefusesStart bus d (λ text. PrintsWhole e text)
  row_10 row comes ten well =
      refuses_more bus d (λ text. row.text ≡ text) (λ text. PrintsWhole e text) (λ text at. subst (λ (t : List ℕ). PrintsWhole e t) at well)
      (kept_10 same bus d row comes ten)

  ends_in : EndsInRow (ComesKept same bus d) e → EndsKept e.status
  ends_in ends = elim ends.told [
    | inl (status_is, well) ↦ elim (row_status ends.row ends.comes) [
      | inl nine ↦ inr (inr (inr (inl (status_is ∙ nine))))
      | inr (inl ten) ↦ inr (inr (inr (inr (status_is ∙ ten))))
      | inr (inr seven) ↦ inr (inr (inl (status_is ∙ seven)))
    ]
    | inr (six, rose, part) ↦ inr (inl six)
  ]

  failed_row_told : EndsInRow (ComesKept same bus d) e → CountsDiskFault d 0 → EndsInRow (λ row. row ≡ failed_row 0) e
  failed_row_told ends rose = record { row = ends.row; comes = kept_failure same bus d ends.row ends.comes rose; told = ends.told }

  pub tells_refused : EndsInRow (ComesKept same bus d) e → TellsKeptNode same i d e
  tells_refused ends = record {
    ends = (bus, events, set, (is, refused_kept ends));
    statuses = ends_in ends;
    done = EndsInRow-at ends 0 refl (λ row comes at well. never 0 row comes at (inl refl));
    write_fault = λ six.
        let front = EndsInRow-front ends (λ row comes at. never 6 row comes at (inr refl)) six in
        (front.0, inl (bus, events, set, front.1));
    write_fault_only = EndsInRow-rose ends;
    no_memory = λ seven. inl (bus, events, set, EndsInRow-at ends 7 refl row_7 seven);
    disks_refused = λ nine. (bus, events, set, EndsInRow-at ends 9 refl row_9 nine);
    disks_refused_only = λ other offers none.
        EndsInRow-may ends 9 (λ row comes. kept_without_room same bus d row comes (told_bus (λ (b : NamedBus). ¬ HasRoom b d.before) other offers none));
    store_refused = λ ten. (bus, events, set, EndsInRow-at ends 10 refl row_10 ten);
    store_refused_only = λ other offers room unkept.
        EndsInRow-may ends 10 (λ row comes. kept_with_room same bus d row comes (told_bus (λ (b : NamedBus). HasRoom b d.before) other offers room));
    failed_disk_told = λ rose. inl (failed_row_told ends rose);
    complete = λ other offers able well.
        EndsInRow-done ends well 0 (λ row comes. inr (kept_complete same bus d is.least row comes (told_bus (λ (b : NamedBus). BusKeepsDisk b d) other offers able)));
  }

  -- ---- it did its first events

  done_status : (result : Result (Unit {0}) Unwritten) → e.status ≡ unwritten_status result → (e.status ≡ 0) ⊎ ((e.status ≡ 6) ⊎ (e.status ≡ 7))
  done_status (Ok u) at = inl at
  done_status (Err unwritten.SinkFailed) at = inr (inl at)
  done_status (Err unwritten.Memory) at = inr (inr at)

  events_done : (result : Result (Unit {0}) Unwritten) → DoneKept bus events d e result → KeptEvents i d e result
  events_done result ran = (bus, events, set, ran)

  done_0 : (result : Result (Unit {0}) Unwritten) → DoneKept bus events d e result → e.status ≡ 0 → KeptEvents i d e (Ok tt)
  done_0 (Ok tt) ran zero_is = events_done (Ok tt) ran
  done_0 (Err unwritten.SinkFailed) ran zero_is = absurd (let no : ⊥ = omega (arith, ran.status_is, zero_is) in no)
  done_0 (Err unwritten.Memory) ran zero_is = absurd (let no : ⊥ = omega (arith, ran.status_is, zero_is) in no)

  done_6 : (result : Result (Unit {0}) Unwritten) → DoneKept bus events d e result → e.status ≡ 6
      → SinkFailed e × KeptEvents i d e (Err unwritten.SinkFailed)
  done_6 (Ok tt) ran six = absurd (let no : ⊥ = omega (arith, ran.status_is, six) in no)
  done_6 (Err unwritten.SinkFailed) ran six = (ran.ran.printed.holds.written.0, events_done (Err unwritten.SinkFailed) ran)
  done_6 (Err unwritten.Memory) ran six = absurd (let no : ⊥ = omega (arith, ran.status_is, six) in no)

  done_7 : (result : Result (Unit {0}) Unwritten) → DoneKept bus events d e result → e.status ≡ 7 → KeptEvents i d e (Err unwritten.Memory)
  done_7 (Ok tt) ran seven = absurd (let no : ⊥ = omega (arith, ran.status_is, seven) in no)
  done_7 (Err unwritten.SinkFailed) ran seven = absurd (let no : ⊥ = omega (arith, ran.status_is, seven) in no)
  done_7 (Err unwritten.Memory) ran seven = events_done (Err unwritten.Memory) ran

  done_writes : (result : Result (Unit {0}) Unwritten) → DoneKept bus events d e result → CountsWriteFault e → e.status ≡ 6
  done_writes (Ok tt) ran rose = absurd (let no : ⊥ = omega (arith, ran.ran.printed.holds.1.0, rose) in no)
  done_writes (Err unwritten.SinkFailed) ran rose = ran.status_is
  done_writes (Err unwritten.Memory) ran rose = absurd (let no : ⊥ = omega (arith, ran.ran.printed.holds.written.0, rose) in no)

  done_well : (result : Result (Unit {0}) Unwritten) → DoneKept bus events d e result → ¬ SinkFailed e → (e.status ≡ 0) ⊎ (e.status ≡ 7)
  done_well (Ok tt) ran well = inl ran.status_is
  done_well (Err unwritten.SinkFailed) ran well = absurd (well ran.ran.printed.holds.written.0)
  done_well (Err unwritten.Memory) ran well = inr ran.status_is

  room_done : (result : Result (Unit {0}) Unwritten) → DoneKept bus events d e result → HasRoom bus d.before
  room_done result ran = room_before bus d.before ran.looked ran.look ran.ran.started.room

  -- told bytes were kept, and the node goes on over them
  taken_done : (result : Result (Unit {0}) Unwritten) → DoneKept bus events d e result → ¬ HoldsNoStore bus d.before
  taken_done result ran unkept =
      let told = unkept no_disk in
      let opened = ran.ran.started.nodes.opened 0 no_line no_disk (no_node bus no_disk) is.least in
      let kept = opened.kept told.0 (same_told bus d.before ran.looked ran.look 0 no_disk ∙ told.1) in
      told.2 (
        look_keeps bus d.before ran.looked ran.look (room_done result ran) no_disk told.0 told.1,
        ((get_or ran.ran.start.nodes 0 (no_node bus no_disk)).node.kept, subst (λ (l : NodeLine). KeptOn Attach bus.kind bus.version l.config told.0.bytes (get_or ran.ran.start.nodes 0 (no_node bus no_disk)).node.kept) (first_of bus is) kept),
      )

  done_ends : (result : Result (Unit {0}) Unwritten) → DoneKept bus events d e result → EndsKept e.status
  done_ends result ran = elim (done_status result ran.status_is) [
    | inl zero_is ↦ inl zero_is
    | inr (inl six) ↦ inr (inl six)
    | inr (inr seven) ↦ inr (inr (inl seven))
  ]

  not_refused : {A : Type 0} (n : ℕ) (result : Result (Unit {0}) Unwritten) → DoneKept bus events d e result → e.status ≡ n → (n ≡ 9) ⊎ (n ≡ 10) → A
  not_refused n result ran at high = absurd (let no : ⊥ = omega (arith, done_status result ran.status_is, at, high) in no)

  pub tells_done : (result : Result (Unit {0}) Unwritten) → DoneKept bus events d e result → TellsKeptNode same i d e
  tells_done result ran = record {
    ends = (bus, events, set, (is, kept_done result ran));
    statuses = done_ends result ran;
    done = done_0 result ran;
    write_fault = λ six. let at = done_6 result ran six in (at.0, inr at.1);
    write_fault_only = done_writes result ran;
    no_memory = λ seven. inr (done_7 result ran seven);
    disks_refused = λ nine. not_refused 9 result ran nine (inl refl);
    disks_refused_only = λ other offers none. absurd (told_bus (λ (b : NamedBus). ¬ HasRoom b d.before) other offers none (room_done result ran));
    store_refused = λ ten. not_refused 10 result ran ten (inr refl);
    store_refused_only = λ other offers room unkept.
        absurd (taken_done result ran (told_bus (λ (b : NamedBus). HoldsNoStore b d.before) other offers unkept));
    failed_disk_told = λ rose. inr (result, events_done result ran);
    complete = λ other offers able well. done_well result ran well;
  }

  pub tells_kept : AnswersKeepReplay same bus events d e → TellsKeptNode same i d e
  tells_kept (refused_kept ends) = tells_refused ends
  tells_kept (kept_done result ran) = tells_done result ran
