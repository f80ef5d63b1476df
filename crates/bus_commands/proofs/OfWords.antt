-- What comes of the arguments: the usage line for malformed ones alone, 9 and 10 for `node` alone, and `node` over the
-- disk that its last argument opens is one run
use Rattle.std.specs.Prelude.{◌≡◌, ◌⊎◌, ◌≤◌, ℕ, List, [], ◌∷◌, ◌++◌, length, map, Vec, Result}
use Rattle.std.specs.declared.alloc.Global.{Global}
use Rattle.std.proofs.Common.{refl, ap, sym, subst, arith, inl, inr}
use Rattle.bus_port.specs.Source.{SourceState}
use Rattle.cut_disk.specs.State.{DiskState}
use Rattle.cut_disk.specs.declared.mem_disk.MemDisk.{MemDisk}
use Rattle.file_disk.specs.NamedDisks.{IsOpenedBy, TellsFirmBytes, OpenedByWords}
use Rattle.run_driver.specs.declared.printing.Unwritten.{Unwritten}
use Rattle.bus_machine.specs.declared.events.Event.{Event}
use Rattle.bus_config.specs.Buses.{NamedBus, IsNamedBus}
use Rattle.bus_world.specs.declared.start.Start.{Start}
use Rattle.bus_world.specs.declared.start.Start.TheVariants.{Format, Attach}
use Rattle.bus_world.specs.declared.start.StartFault.{StartFault}
use Rattle.bus_world.specs.Starts.{HasRoom, FindsRoom}
use Rattle.bus_world.specs.StartAnswers.{DiskStates}
use Rattle.bus_world.specs.StartRows.{LeavesEach, StoreCause}
use Rattle.program_edge.specs.Endings.{Ending}
use Rattle.program_edge.specs.NamedSources.{Openings}
use Rattle.bus_programs.specs.Blank.{disk_states}
use Rattle.bus_programs.proofs.CallerLemmas.{blank_has_room, blank_no_cause}
use Rattle.bus_programs.specs.Inputs.{BusInputs}
use Rattle.bus_programs.specs.Named.{SourcesBack, inputs_had}
use Rattle.bus_commands.specs.declared.words.Command.TheVariants.{World}
use Rattle.bus_commands.specs.declared.words.WorldCommand.{WorldCommand}
use Rattle.bus_commands.specs.declared.words.WorldCommand.TheVariants.{Replay}
use Rattle.bus_commands.specs.Words.{Asks, AsksNothing, NamesDisk}
use Rattle.bus_commands.specs.Inputs.{start_of, OverWorld, OverReplayOf, SetsWorld}
use Rattle.bus_commands.specs.StartRows.{disks_between}
use Rattle.bus_commands.specs.Rows.{DoneReplay, ReplaysScript}
use Rattle.bus_commands.specs.Commands.{TellFirm}
use Rattle.bus_commands.specs.Keeping.{KeptEvents}
use Rattle.kept_starts.proofs.CallerLemmas.{room_before}
use Rattle.bus_commands.specs.Named.{RunsOver, AreGiven, RunsGiven, NodeIsRun, RunsOpened}
use Rattle.bus_commands.specs.Named.{RunsNamed, ran_in_memory, ran_over_disk, refused_node, wanted_disks}
use Rattle.bus_commands.proofs.Asking.{asks_one, same_start}
use Rattle.bus_commands.proofs.AskedWords.{names_node}
use Rattle.bus_commands.proofs.Headlines.{written_run}

-- ---- the words of `node`

-- words that ask for `node` name a disk
node_names : (words : List (List ℕ)) → Asks words (World (Replay Attach)) → (name : List ℕ) × NamesDisk words name
node_names (word ∷ bus ∷ file ∷ disk ∷ []) asks = (disk, (asks, refl))
node_names words asks = absurd (omega arith)

-- so each run over disks that are made formats them
formats : (words : List (List ℕ)) (c : WorldCommand) → Asks words (World c)
    → ((name : List ℕ) → ¬ NamesDisk words name) → start_of c ≡ Format
formats words c asks none = grind (arith, node_names)

-- ---- over disks in memory

never_9 : (i : BusInputs) (disks : List MemDisk) (after : List DiskState) (P : StartFault → Type 0)
    → AreGiven i.words disks
    → OverWorld i (λ start bus events. IsNamedBus bus × (after ≡ disk_states disks)
    × ((fault : StartFault) × FindsRoom bus (disk_states disks) fault × P fault)) → ⊥
never_9 i disks after P given (c, bus, events, set, (is, same, (fault, finds, told))) =
    blank_has_room 8 65536 disks bus fault is.most (omega arith) (given.0 (c, set.asks)) is finds

never_10 : (i : BusInputs) (disks : List MemDisk) (after : List DiskState) (P : StartFault → Type 0)
    → AreGiven i.words disks → ((name : List ℕ) → ¬ NamesDisk i.words name)
    → OverWorld i (λ start bus events. HasRoom bus (disk_states disks)
    × LeavesEach start bus (disk_states disks) after
    × ((fault : StartFault) × StoreCause start bus (disk_states disks) after fault × P fault)) → ⊥
never_10 i disks after P given none (c, bus, events, set, (room, left, (fault, cause, told))) =
    blank_no_cause 8 65536 disks bus after fault (given.0 (c, set.asks))
    (subst (λ (s : Start). StoreCause s bus (disk_states disks) after fault) (formats i.words c set.asks none) cause)

given_starts : (opens : List ℕ → SourceState → Type 0) (before after : Openings) (back : SourcesBack)
    (words : List (List ℕ)) (e : Ending)
    → RunsGiven opens before after back words e → (e.status ≡ 9) ⊎ (e.status ≡ 10) → ⊥
given_starts opens before after back words e ran (inl nine) =
    never_9 (inputs_had ran.over) ran.made.items (disk_states ran.used.items) _ ran.given
    (ran.over.over.has.0.valid.disks_refused nine)
given_starts opens before after back words e ran (inr ten) =
    never_10 (inputs_had ran.over) ran.made.items (disk_states ran.used.items) _ ran.given ran.no_disk
    (ran.over.over.has.0.valid.store_refused ten)

-- ---- over a disk that tells its bytes

-- one disk that tells its bytes serves one node
one_tells : (bus : NamedBus) (disk : DiskState) → TellsFirmBytes disk → length bus.nodes ≤ 1 → TellFirm bus (disk ∷ [])
one_tells bus disk tells one i d few =
    let first : i ≡ 0 = omega (arith, one, few) in
    rw first (tells.bytes, tells.told)

opened_tell : (bus : NamedBus) (disks : List DiskState) (disk : DiskState) → disks ≡ disk ∷ [] → TellsFirmBytes disk
    → length bus.nodes ≤ length disks → TellFirm bus disks
opened_tell bus disks disk one tells enough =
    let few : length bus.nodes ≤ 1 = omega (arith, enough, ap length one) in
    subst (λ (ds : List DiskState). TellFirm bus ds) (sym one) (one_tells bus disk tells few)

module _ (i : BusInputs) (d : DiskStates) (e : Ending) (result : Result (Unit {0}) Unwritten) (disk : DiskState)
    (one : d.before ≡ disk ∷ []) (tells : TellsFirmBytes disk) where
  done_run : (how : Start) (bus : NamedBus) (events : List Event) → how ≡ Attach
      → SetsWorld i (Replay how) bus events → DoneReplay how bus events d e result → NodeIsRun i d e result
  done_run Format bus events is set done = absurd (cc)
  done_run Attach bus events is set done =
      let over = done.one_run (opened_tell bus d.before disk one tells done.ran.started.room.enough) in
      (bus, events, set, (over.first, over.begins, written_run over.first bus d events e result over.replayed))

  node_run : Asks i.words (World (Replay Attach)) → ReplaysScript i d e result → NodeIsRun i d e result
  node_run asks (how, bus, events, set, done) =
      let same = asks_one i.words (World (Replay how)) (World (Replay Attach)) set.asks asks in
      done_run how bus events (same_start how Attach same) set done

  -- and of `node --keep`
  pub kept_node_run : KeptEvents i d e result → NodeIsRun i d e result
  kept_node_run (bus, events, set, done) =
      let enough = room_before bus d.before done.looked done.look done.ran.started.room in
      let over = done.one_run (opened_tell bus d.before disk one tells enough.enough) in
      (bus, events, set, (over.first, over.begins, written_run over.first bus d events e result over.replayed))

-- the statuses of a bus that is started, or isn't for want of a store
abbrev pub EndsStarted : ℕ → Type 0
EndsStarted n = (n ≡ 0) ⊎ (n ≡ 6) ⊎ (n ≡ 7) ⊎ (n ≡ 9) ⊎ (n ≡ 10)

started_no_refusal : (n : ℕ) → EndsStarted n → (n ≡ 2) ⊎ ((3 ≤ n) × (n ≤ 5)) ⊎ (n ≡ 8) → ⊥
started_no_refusal n is refused = omega (arith, is, refused)

module _ {D : Type 0} (state : D → DiskState) (opens : List ℕ → SourceState → Type 0)
    (opens_disk : List ℕ → DiskState → Type 0) (o : OpenedByWords) (back : SourcesBack) (left : Vec D Global)
    (words : List (List ℕ)) (e : Ending) where
  pub runs_opened : (name : List ℕ) (disks : Vec D Global) → NamesDisk words name
      → IsOpenedBy opens_disk name (map state disks.items) → o.disks_after ≡ o.disks_before ++ name ∷ []
      → (over : RunsOver opens o.before o.after back words (disks_between state disks left) e)
      → OverReplayOf Attach (inputs_had over) (λ bus events. IsNamedBus bus) → EndsStarted e.status
      → RunsOpened state opens opens_disk o back left words e
  runs_opened name disks names opened once over valid statuses = record {
    name = name;
    disk_named = names;
    disks = disks;
    opened = opened;
    opened_once = once;
    over = over;
    valid = valid;
    statuses = statuses;
    one_run = λ result. node_run (inputs_had over) _ e result opened.disk opened.one opened.tells (names_node words name names);
  }

  -- ---- either

  pub words_usage : RunsNamed state opens opens_disk o back left words e → e.status ≡ 2 → AsksNothing words
  words_usage runs two = grind arith

  pub words_usage_only : RunsNamed state opens opens_disk o back left words e → AsksNothing words
      → (e.status ≡ 2) ⊎ (e.status ≡ 6)
  words_usage_only runs nothing = grind arith

  pub words_start : RunsNamed state opens opens_disk o back left words e → (e.status ≡ 9) ⊎ (e.status ≡ 10)
      → Asks words (World (Replay Attach))
  words_start (ran_in_memory none empty ran) refused =
      absurd (given_starts opens o.before o.after back words e ran refused)
  words_start (ran_over_disk ran) refused = names_node words ran.name ran.disk_named
  words_start (refused_node ran) refused = ran.asks
  words_start (wanted_disks none empty wants) refused =
      absurd (let no : ⊥ = omega (arith, wants.wants.status_is, refused) in no)

  -- a status that refuses arguments or inputs
  pub words_no_disk : RunsNamed state opens opens_disk o back left words e
      → (e.status ≡ 2) ⊎ ((3 ≤ e.status) × (e.status ≤ 5)) ⊎ (e.status ≡ 8) → o.disks_after ≡ o.disks_before
  words_no_disk (ran_in_memory none empty ran) refused = none
  words_no_disk (ran_over_disk ran) refused = absurd (started_no_refusal e.status ran.statuses refused)
  words_no_disk (refused_node ran) refused = ran.not_opened
  words_no_disk (wanted_disks none empty wants) refused = none
