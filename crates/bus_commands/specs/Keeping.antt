-- `node --keep B F DISK`: what the arguments ask for, and what comes of them. The disk is looked at whole before the
-- start, and the start goes on only if the disk is unused or the node's store stands there.
use Rattle.std.specs.Prelude.{◌≡◌, ◌⊎◌, ℕ, List, [], ◌∷◌, ◌++◌, codes, map, Vec, Result, Ok, Err}
use Rattle.std.specs.declared.alloc.Global.{Global}
use Rattle.bus_port.specs.Source.{SourceState}
use Rattle.cut_disk.specs.State.{DiskState}
use Rattle.file_disk.specs.NamedDisks.{IsOpenedBy, OpenedByWords}
use Rattle.program_edge.specs.Rows.{memory_row}
use Rattle.program_edge.specs.Endings.{Ending, EndsInRow, MayEndIn, PrintsWhole, PrintsFront, SinkFailed, CountsWriteFault}
use Rattle.run_driver.specs.declared.printing.Unwritten.{Unwritten}
use Rattle.run_driver.specs.declared.printing.Unwritten.TheVariants as unwritten
use Rattle.run_driver.specs.Statuses.{unwritten_status}
use Rattle.bus_machine.specs.declared.events.Event.{Event}
use Rattle.bus_config.specs.Buses.{NamedBus, IsNamedBus}
use Rattle.bus_programs.specs.BusFiles.{OffersBus}
use Rattle.bus_programs.specs.Inputs.{BusInputs}
use Rattle.bus_programs.specs.Named.{SourcesBack, HadOverNamed, inputs_had}
use Rattle.bus_world.specs.declared.start.Start.TheVariants.{Attach}
use Rattle.bus_world.specs.declared.start.StartFault.{StartFault}
use Rattle.bus_world.specs.Starts.{HasRoom, FindsRoom}
use Rattle.bus_world.specs.StartRows.{start_row}
use Rattle.bus_world.specs.StartAnswers.{DiskStates, CountsDiskFault, failed_row}
use Rattle.bus_world.specs.NodeDisks.{DisksStay}
use Rattle.bus_world.specs.WorldTurns.{seen}
use Rattle.kept_starts.specs.LookedAt.{LookedAt}
use Rattle.kept_starts.specs.KeepRows.{ComesKept, BusKeepsDisk, HoldsNoStore, RefusesStart}
use Rattle.bus_commands.specs.declared.job.WorldJob.{WorldJob}
use Rattle.bus_commands.specs.Words.{NamesDisk}
use Rattle.bus_commands.specs.Inputs.{OverReplayOf}
use Rattle.bus_commands.specs.Replays.{ReplayTurns}
use Rattle.bus_commands.specs.Headline.{ReplayedOver}
use Rattle.bus_commands.specs.Commands.{TellFirm}
use Rattle.bus_commands.specs.Named.{NamesSources, NodeIsRun, RefusesNode}

-- `node --keep B F DISK`; without `--keep` the arguments are these, which ask for `node`
abbrev pub KeepsAs : List (List ℕ) → List (List ℕ) → Type 0
KeepsAs (word ∷ keep ∷ bus ∷ file ∷ disk ∷ []) plain =
    (word ≡ codes "node") × (keep ≡ codes "--keep") × (plain ≡ word ∷ bus ∷ file ∷ disk ∷ [])
KeepsAs words plain = ⊥

abbrev pub AsksToKeep : List (List ℕ) → Type 0
AsksToKeep words = (plain : List (List ℕ)) × KeepsAs words plain

-- ---- what was done

-- The first disk was looked at, and the bus was started where its disks stand. It did its first events, up to the first
-- whose text wasn't written, and has the status that says so. The look was only reads: all that is said of the disks is
-- said of them as they were before it. Over disks that tell their bytes, none of them loose, it is one run of the
-- machine from a world in which the bus goes on there.
pub record DoneKept (bus : NamedBus) (events : List Event) (d : DiskStates) (e : Ending)
    (result : Result (Unit {0}) Unwritten) : Type 0 where
  pub looked : List DiskState
  pub look : LookedAt bus d.before looked
  pub ran : ReplayTurns Attach bus looked d.after events e.before e.after result
  pub status_is : e.status ≡ unwritten_status result
  pub stay : DisksStay bus d.before d.after (seen ran.printed.moments)
  pub one_run : TellFirm bus d.before → ReplayedOver Attach bus d.before d.after events e.before e.after result

-- how it ends: it isn't started, for what a look or the start finds on the disk; or it did its first events
pub data AnswersKeepReplay (same : Type 0) (bus : NamedBus) (events : List Event) (d : DiskStates) (e : Ending)
    : Type 0 where
  refused_kept : EndsInRow (ComesKept same bus d) e → AnswersKeepReplay same bus events d e
  kept_done : (result : Result (Unit {0}) Unwritten) → DoneKept bus events d e result
      → AnswersKeepReplay same bus events d e

-- its inputs are valid, and it did the first events of its script, which ended so
abbrev pub KeptEvents : BusInputs → DiskStates → Ending → Result (Unit {0}) Unwritten → Type 0
KeptEvents i d e result = OverReplayOf Attach i (λ bus events. DoneKept bus events d e result)

-- ---- the table of answers

-- What `node --keep` promises over its disk, by status; its inputs are valid. "Both ways": the status has this cause,
-- and the cause brings the status, if the bus file's source tells the bus. A sink whose count of faults rises makes it 6
-- instead, and 0, 9 and 10 may give way to 7, out of memory: no clause brings 7.
pub record TellsKeptNode (same : Type 0) (i : BusInputs) (d : DiskStates) (e : Ending) : Type 0 where
  -- The inputs are valid. It isn't started, and the row that says why is printed; or it did its first events.
  pub ends : OverReplayOf Attach i (λ bus events. IsNamedBus bus × AnswersKeepReplay same bus events d e)
  -- No status comes but 0, 6, 7, 9 and 10.
  pub statuses : (e.status ≡ 0) ⊎ (e.status ≡ 6) ⊎ (e.status ≡ 7) ⊎ (e.status ≡ 9) ⊎ (e.status ≡ 10)
  -- 0: all events were done, and all lines were written.
  pub done : e.status ≡ 0 → KeptEvents i d e (Ok tt)
  -- 6, both ways: the sink's count of faults rose; 6 may come if it is full, too. A prefix was written of a row that
  -- comes; or the lines before one, and a prefix of this.
  pub write_fault : e.status ≡ 6 → SinkFailed e
      × (OverReplayOf Attach i (λ bus events. PrintsFront (ComesKept same bus d) e)
      ⊎ KeptEvents i d e (Err unwritten.SinkFailed))
  pub write_fault_only : CountsWriteFault e → e.status ≡ 6
  -- 7, one way: its row comes, and nothing was written; or the lines before one, and nothing of this.
  pub no_memory : e.status ≡ 7
      → OverReplayOf Attach i (λ bus events. ComesKept same bus d memory_row × PrintsWhole e [])
      ⊎ KeptEvents i d e (Err unwritten.Memory)
  -- 9, both ways: there are fewer disks than nodes, or the disk is too small. Each disk is as before.
  pub disks_refused : e.status ≡ 9 → OverReplayOf Attach i (λ bus events. ((fault : StartFault)
      × FindsRoom bus d.before fault × (d.after ≡ d.before) × PrintsWhole e (start_row fault).text) × same)
  pub disks_refused_only : (bus : NamedBus) → OffersBus i.config bus → ¬ HasRoom bus d.before → MayEndIn 9 e
  -- 10, both ways: the disk failed, or its bytes are refused. Another store is named, and so is a cell that isn't the
  -- node's. If the disk didn't fail, no byte of a disk in use changed (`RefusedStartsWriteNothing` of kept_starts).
  pub store_refused : e.status ≡ 10
      → OverReplayOf Attach i (λ bus events. RefusesStart bus d (λ text. PrintsWhole e text))
  pub store_refused_only : (bus : NamedBus) → OffersBus i.config bus → HasRoom bus d.before
      → HoldsNoStore bus d.before → MayEndIn 10 e
  -- If the count of faults of the disk rose, the row of 10 says so, or 6 comes with a prefix of it; or events were done.
  pub failed_disk_told : CountsDiskFault d 0
      → EndsInRow (λ row. row ≡ failed_row 0) e ⊎ ((result : Result (Unit {0}) Unwritten) × KeptEvents i d e result)
  -- 0 or 7 on two conditions: the disk serves, and its told bytes are all zeros or the node's store; and the sink's
  -- count of faults neither rose nor is full.
  pub complete : (bus : NamedBus) → OffersBus i.config bus → BusKeepsDisk bus d → ¬ SinkFailed e
      → (e.status ≡ 0) ⊎ (e.status ≡ 7)

-- ---- the disk that a word names

-- The second phase: the disk was opened, once, looked at, and the bus ran over it. Or there was no memory for it: none
-- was opened, and nothing was written.
pub data DoesKept {D : Type 0} (state : D → DiskState) (opens : List ℕ → DiskState → Type 0)
    (before after : List (List ℕ)) (word : List ℕ) (job : WorldJob) (left : Vec D Global) (e : Ending) : Type 0 where
  kept_over_disk : (disks : Vec D Global) → IsOpenedBy opens word (map state disks.items) → after ≡ before ++ word ∷ []
      → AnswersKeepReplay (left ≡ disks) job.bus job.events.items
      (record { before = map state disks.items; after = map state left.items }) e
      → DoesKept state opens before after word job left e
  kept_no_disk : after ≡ before → left.items ≡ [] → e.status ≡ 7 → e.after ≡ e.before
      → DoesKept state opens before after word job left e

-- It ran over the one disk that its last argument opens, once, and it is handed back. It was opened only because the
-- inputs were read whole and are valid. That disk tells its bytes, whatever the argument opens, and a power cut can take
-- none of them away. So what it did is one run, and lives of a bus have it as one of `node`.
pub record KeptOpened {D : Type 0} (state : D → DiskState) (opens : List ℕ → SourceState → Type 0)
    (opens_disk : List ℕ → DiskState → Type 0) (o : OpenedByWords) (back : SourcesBack) (left : Vec D Global)
    (plain : List (List ℕ)) (e : Ending) : Type 0 where
  pub name : List ℕ
  pub disk_named : NamesDisk plain name
  pub disks : Vec D Global
  pub opened : IsOpenedBy opens_disk name (map state disks.items)
  pub opened_once : o.disks_after ≡ o.disks_before ++ name ∷ []
  pub over : HadOverNamed opens o.before o.after back plain (NamesSources plain)
      (λ i. TellsKeptNode (left ≡ disks) i (record { before = map state disks.items; after = map state left.items }) e)
  pub one_run : (result : Result (Unit {0}) Unwritten)
      → KeptEvents (inputs_had over) (record { before = map state disks.items; after = map state left.items }) e result
      → NodeIsRun (inputs_had over) (record { before = map state disks.items; after = map state left.items }) e result

-- what comes of `node --keep`, which is `node` of these plain arguments over a disk that was looked at; or it ended
-- before the disk was opened, as `node` does
pub data RunsKept {D : Type 0} (state : D → DiskState) (opens : List ℕ → SourceState → Type 0)
    (opens_disk : List ℕ → DiskState → Type 0) (o : OpenedByWords) (back : SourcesBack) (left : Vec D Global)
    (plain : List (List ℕ)) (e : Ending) : Type 0 where
  kept_over_opened : KeptOpened state opens opens_disk o back left plain e
      → RunsKept state opens opens_disk o back left plain e
  refused_unopened : RefusesNode state opens o back left plain e → RunsKept state opens opens_disk o back left plain e
