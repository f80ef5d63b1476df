-- How `node` ends: before its disk is opened, as its inputs are refused or memory is out; or over its disk
use Rattle.std.specs.Prelude.{◌≡◌, ℕ, ◌≤◌, List, [], ◌∷◌, ◌++◌, map, Vec, Ok, Err}
use Rattle.std.specs.declared.alloc.Global.{Global}
use Rattle.std.proofs.Common.{refl, subst, sym, ◌∙◌, arith, inl, inr}
use Rattle.bus_port.specs.Source.{SourceState}
use Rattle.cut_disk.specs.State.{DiskState}
use Rattle.file_disk.specs.NamedDisks.{IsOpenedBy, OpenedByWords}
use Rattle.program_edge.specs.declared.input.InputFault.TheVariants as input
use Rattle.program_edge.specs.Rows.{Row, memory_row}
use Rattle.program_edge.specs.Endings.{Ending, EndsInRow}
use Rattle.program_edge.proofs.CallerLemmas.{EndsInRow-more, AppendedWell-nothing, Lacks-whole}
use Rattle.run_driver.specs.declared.printing.Unwritten.TheVariants as unwritten
use Rattle.bus_machine.specs.declared.events.Event.{Event}
use Rattle.bus_config.specs.Buses.{NamedBus}
use Rattle.bus_world.specs.declared.start.Start.TheVariants.{Attach}
use Rattle.bus_world.specs.StartAnswers.{DiskStates}
use Rattle.bus_world.proofs.CallerLemmas.{start_status, same_known}
use Rattle.bus_programs.specs.Inputs.{BusInputs}
use Rattle.bus_programs.specs.Named.{SourcesBack, HadOverNamed, inputs_had}
use Rattle.bus_commands.specs.declared.job.Job.TheVariants as job
use Rattle.bus_commands.specs.declared.job.WorldJob.{WorldJob}
use Rattle.bus_commands.specs.declared.words.Command.TheVariants.{Lines, World}
use Rattle.bus_commands.specs.declared.words.LineCommand.TheVariants as lines
use Rattle.bus_commands.specs.declared.words.WorldCommand.{WorldCommand}
use Rattle.bus_commands.specs.declared.words.WorldCommand.TheVariants.{Replay}
use Rattle.bus_commands.specs.Words.{Asks, NamesDisk}
use Rattle.bus_commands.specs.Tasks.{Task, frame, judge, check, replay}
use Rattle.bus_commands.specs.Texts.{IsOutput}
use Rattle.bus_commands.specs.Inputs.{SetsTask, SetsWorld}
use Rattle.bus_commands.specs.StartRows.{disks_between}
use Rattle.bus_commands.specs.Rows.{ComesOfInputs, no_form, no_config, config_refused, no_script, script_refused}
use Rattle.bus_commands.specs.Rows.{done, without_disks, in_row}
use Rattle.bus_commands.specs.Steps.{Prepares, AnswersWorld, AnswersReplay, refused_replay, first_done}
use Rattle.bus_commands.specs.Steps.{DoesNamed, over_disk, no_disk}
use Rattle.bus_commands.specs.Named.{NamesSources, RunsNamed, RefusesNode, ran_over_disk, refused_node}
use Rattle.bus_commands.specs.Keeping.{DoesKept, kept_over_disk, kept_no_disk, TellsKeptNode, RunsKept, kept_over_opened, refused_unopened}
use Rattle.bus_commands.proofs.Asking.{apart, asks_one}
use Rattle.bus_commands.proofs.AskedWords.{names_node}
use Rattle.bus_commands.proofs.Doing.{ends_world}
use Rattle.bus_commands.proofs.OneRun.{runs_bus}
use Rattle.bus_commands.proofs.OfWords.{EndsStarted, runs_opened, kept_node_run}
use Rattle.bus_commands.proofs.KeptTable.{tells_kept}

-- ---- before its disk is opened

-- `node` prints no output of lines
no_output : {A : Type 0} (i : BusInputs) (task : Task) (read text : List ℕ) → Asks i.words (World (Replay Attach))
    → SetsTask i task → IsOutput task read text → A
no_output i frame read text asks set is =
    apart i.words (Lines lines.Frame) (World (Replay Attach)) set.0 asks (λ e. cc)
no_output i judge read text asks set is =
    apart i.words (Lines lines.Judge) (World (Replay Attach)) set.0 asks (λ e. cc)
no_output i (check bus) read text asks set is =
    apart i.words (Lines lines.Check) (World (Replay Attach)) set.0 asks (λ e. cc)
no_output i (replay start bus) read text asks set is = absurd is

-- the statuses of the rows that come of its inputs
refused_status : (i : BusInputs) (row : Row) → Asks i.words (World (Replay Attach)) → ComesOfInputs i row
    → (3 ≤ row.status) × (row.status ≤ 8)
refused_status i row asks (no_form none config script) = absurd (none (World (Replay Attach)) asks)
refused_status i row asks (no_config input.ReadFault of) = (omega arith, omega arith)
refused_status i row asks (no_config input.TooLong of) = (omega arith, omega arith)
refused_status i row asks (no_config input.Memory of) = (omega arith, omega arith)
refused_status i row asks (config_refused fault text asks_bus of told unread) = (omega arith, omega arith)
refused_status i row asks (no_script input.ReadFault of) = (omega arith, omega arith)
refused_status i row asks (no_script input.TooLong of) = (omega arith, omega arith)
refused_status i row asks (no_script input.Memory of) = (omega arith, omega arith)
refused_status i row asks (script_refused fault of) = (omega arith, omega arith)
refused_status i row asks (done text (task, set, (read, whole, out))) = no_output i task read text asks set out

refused_ends : (i : BusInputs) (e : Ending) → Asks i.words (World (Replay Attach)) → EndsInRow (ComesOfInputs i) e
    → (3 ≤ e.status) × (e.status ≤ 8)
refused_ends i e asks ends = elim ends.told [
  | inl (status_is, well) ↦ subst (λ n. (3 ≤ n) × (n ≤ 8)) (sym status_is) (refused_status i ends.row asks ends.comes)
  | inr (six, rose, part) ↦ (omega (arith, six), omega (arith, six))
]

-- its inputs are valid, and memory is out
valid_memory : (i : BusInputs) (e : Ending) (bus : NamedBus) (events : List Event)
    → SetsWorld i (Replay Attach) bus events → e.status ≡ 7 → e.after ≡ e.before → EndsInRow (ComesOfInputs i) e
valid_memory i e bus events set seven unwritten = record {
  row = memory_row;
  comes = no_script input.Memory (replay Attach bus, (set.asks, set.of_bus), Lacks-whole i.script set.has.0 set.has.1);
  told = inl (seven, AppendedWell-nothing e.before e.after unwritten);
}

-- ---- over its disk

-- the bus wasn't started, or its first events were done
node_status : (same : Type 0) (bus : NamedBus) (events : List Event) (d : DiskStates) (e : Ending)
    → AnswersReplay same Attach bus events d e → EndsStarted e.status
node_status same bus events d e (refused_replay ends) = elim ends.told [
  | inl (status_is, well) ↦
      let is = start_status Attach bus d ends.row ends.comes.0 in
      elim is [
        | inl nine ↦ inr (inr (inr (inl (status_is ∙ nine))))
        | inr (inl ten) ↦ inr (inr (inr (inr (status_is ∙ ten))))
        | inr (inr seven) ↦ inr (inr (inl (status_is ∙ seven)))
      ]
  | inr (six, rose, part) ↦ inr (inl six)
]
node_status same bus events d e (first_done (Ok unit) ran) = inl ran.status_is
node_status same bus events d e (first_done (Err unwritten.SinkFailed) ran) = inr (inl ran.status_is)
node_status same bus events d e (first_done (Err unwritten.Memory) ran) = inr (inr (inl ran.status_is))

same_command : (c d : WorldCommand) → World c ≡ World d → c ≡ d
same_command c d is = cc

-- the job of words that name a disk is `node`
node_job : (i : BusInputs) (name : List ℕ) → NamesDisk i.words name → (j : WorldJob) → Prepares i (Ok (job.World j))
    → (j.command ≡ Replay Attach) × SetsWorld i (Replay Attach) j.bus j.events.items
node_job i name names j prepared =
    let asks = names_node i.words name names in
    let same = asks_one i.words (World j.command) (World (Replay Attach)) prepared.1.asks asks in
    let is : j.command ≡ Replay Attach = same_command j.command (Replay Attach) same in
    (is, subst (λ (c : WorldCommand). SetsWorld i c j.bus j.events.items) is prepared.1)

module _ {D : Type 0} (state : D → DiskState) (opens : List ℕ → SourceState → Type 0)
    (opens_disk : List ℕ → DiskState → Type 0) (o : OpenedByWords) (back : SourcesBack) (left : Vec D Global)
    (words : List (List ℕ)) (e : Ending) where
  -- what is had of the inputs is had of the sources that the words name
  abbrev pub OverSources : (BusInputs → Type 0) → Type 0
  OverSources Has = HadOverNamed opens o.before o.after back words (NamesSources words) Has

  abbrev had_more : {P Q : BusInputs → Type 0} → (had : OverSources P) → Q (inputs_had had) → OverSources Q
  had_more had has = record {
    config = had.config;
    script = had.script;
    names = had.names;
    over = record {
      one = had.over.one;
      other = had.over.other;
      named = had.over.named;
      opened_once = had.over.opened_once;
      one_left = had.over.one_left;
      other_left = had.over.other_left;
      has = has;
    };
  }

  pub refuses_node : (name : List ℕ) → NamesDisk words name → o.disks_after ≡ o.disks_before → left.items ≡ []
      → OverSources (λ i. EndsInRow (ComesOfInputs i) e) → RefusesNode state opens o back left words e
  refuses_node name names none empty had =
      let asks = names_node words name names in
      record {
        asks = asks;
        not_opened = none;
        no_disks = empty;
        over = had_more had (runs_bus (inputs_had had) (disks_between state left left) e (λ is. refl)
            (in_row (EndsInRow-more (λ row comes. without_disks row comes refl) had.over.has)));
        in_row = had.over.has;
        statuses = refused_ends (inputs_had had) e asks had.over.has;
      }

  pub node_refused : (name : List ℕ) → NamesDisk words name → o.disks_after ≡ o.disks_before → left.items ≡ []
      → OverSources (λ i. EndsInRow (ComesOfInputs i) e) → RunsNamed state opens opens_disk o back left words e
  node_refused name names none empty had = refused_node (refuses_node name names none empty had)

  -- ---- of `node --keep`, whose plain arguments these are

  pub kept_refused : (name : List ℕ) → NamesDisk words name → o.disks_after ≡ o.disks_before → left.items ≡ []
      → OverSources (λ i. EndsInRow (ComesOfInputs i) e) → RunsKept state opens opens_disk o back left words e
  kept_refused name names none empty had = refused_unopened (refuses_node name names none empty had)

  kept_opened : (name : List ℕ) (disks : Vec D Global) → NamesDisk words name → (opened : IsOpenedBy opens_disk name (map state disks.items))
      → o.disks_after ≡ o.disks_before ++ name ∷ []
      → OverSources (λ i. TellsKeptNode (left ≡ disks) i (record { before = map state disks.items; after = map state left.items }) e)
      → RunsKept state opens opens_disk o back left words e
  kept_opened name disks names opened once over = kept_over_opened (record {
    name = name;
    disk_named = names;
    disks = disks;
    opened = opened;
    opened_once = once;
    over = over;
    one_run = λ result did. kept_node_run (inputs_had over) _ e result opened.disk opened.one opened.tells did;
  })

  pub node_kept : (name : List ℕ) → NamesDisk words name → (j : WorldJob)
      → OverSources (λ i. Prepares i (Ok (job.World j)))
      → DoesKept state opens_disk o.disks_before o.disks_after name j left e
      → RunsKept state opens opens_disk o back left words e
  node_kept name names j had (kept_over_disk disks opened once does) =
      let i = inputs_had had in
      let (is, set) = node_job i name names j had.over.has in
      kept_opened name disks names opened once
      (had_more had (tells_kept (left ≡ disks) i (record { before = map state disks.items; after = map state left.items }) e j.bus j.events.items set had.over.has.0.0 does))
  node_kept name names j had (kept_no_disk none empty seven unwritten) =
      let i = inputs_had had in
      let (is, set) = node_job i name names j had.over.has in
      kept_refused name names none empty (had_more had (valid_memory i e j.bus j.events.items set seven unwritten))

  pub node_done : (name : List ℕ) → NamesDisk words name → (j : WorldJob)
      → OverSources (λ i. Prepares i (Ok (job.World j)))
      → DoesNamed state opens_disk o.disks_before o.disks_after name j left e
      → RunsNamed state opens opens_disk o back left words e
  node_done name names j had (over_disk disks opened once does) =
      let i = inputs_had had in
      let d = disks_between state disks left in
      let prepared = had.over.has in
      let (is, set) = node_job i name names j prepared in
      let runs = runs_bus i d e (same_known state disks left) (ends_world i d e j prepared does) in
      let answers = subst (λ (c : WorldCommand). AnswersWorld (left ≡ disks) c j.bus j.events.items d.states e) is does in
      ran_over_disk (runs_opened state opens opens_disk o back left words e name disks names opened once
      (had_more had runs) (j.bus, j.events.items, set, prepared.0.0)
      (node_status (left ≡ disks) j.bus j.events.items d.states e answers))
  node_done name names j had (no_disk none empty seven unwritten) =
      let i = inputs_had had in
      let (is, set) = node_job i name names j had.over.has in
      node_refused name names none empty (had_more had (valid_memory i e j.bus j.events.items set seven unwritten))
