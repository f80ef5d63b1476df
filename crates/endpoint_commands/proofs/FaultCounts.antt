-- The count of faults of the node's disk through a boot and lines of a log
use Rattle.std.specs.Prelude.{◌≡◌, ◌≤◌, ℕ, Bool, true, false, List, [], ◌∷◌, ◌++◌, get_or, Option, None, Some}
use Rattle.std.proofs.Common.{refl, sym, ap, ◌∙◌, subst, arith}
use Rattle.std.proofs.lemmas.List.Elements.{All-head, All-tail}
use Rattle.basics.specs.FaultCount.{Rose}
use Rattle.basics.proofs.CallerLemmas.{rose_after}
use Rattle.machine_runs.specs.Run.{Run}
use Rattle.machine_runs.proofs.CallerLemmas.{Run-split}
use Rattle.cut_disk.specs.State.{DiskState}
use Rattle.cut_disk.specs.Calls.{IsQuiet, StaysQuiet, KeepsQuiet}
use Rattle.store_keeping.specs.DiskTurns.{CountsFailure}
use Rattle.bus_machine.specs.declared.events.Event.{Event}
use Rattle.bus_machine.specs.declared.events.Event.TheVariants as event
use Rattle.bus_machine.specs.declared.lines.Line.{Line}
use Rattle.bus_machine.specs.declared.lines.Line.TheVariants.{Sent, Accepted, FreshnessFailure, VerificationFailure, Keyed, Loaded, Boot, Up, Armed, NoFrame, Refused}
use Rattle.bus_machine.specs.declared.lines.Refusal.TheVariants.{Down, NoRoute, BadLength, Key, Exhausted, MemoryFailure, NotFormatted, Damaged, BadSlot, BadBound}
use Rattle.bus_machine.specs.Node.{Node}
use Rattle.bus_machine.specs.Steps.{NodeStep, boots}
use Rattle.bus_world.specs.Turns.{TellsFaults}
use Rattle.bus_world.specs.StartAnswers.{DiskStates}
use Rattle.bus_world.proofs.CallerLemmas.{no_disk}
use Rattle.kept_starts.proofs.CallerLemmas.{look_at, same_faults}
use Rattle.bus_config.specs.Buses.{NamedBus}
use Rattle.secoc_node.specs.State.{NodeState}
use Rattle.endpoint_commands.specs.declared.rules.FrameRule.{FrameRule}
use Rattle.endpoint_commands.specs.Alone.{TurnsAlone}
use Rattle.endpoint_commands.specs.Asking.{asked_of_line, event_asked}
use Rattle.endpoint_commands.specs.Running.{LineMoment, DoesEvent, TakesLine, tells_failed_disk}
use Rattle.endpoint_commands.specs.Logs.{Unfailed}
use Rattle.endpoint_commands.specs.Headline.{BootsWith, RanEndpoint}
use Rattle.endpoint_commands.specs.Table.{FirstDiskFailed}
use Rattle.endpoint_commands.proofs.AloneRun.{IsOfEndpoint, is_send, is_inject, is_load, is_boot}
use Rattle.endpoint_commands.proofs.LineRun.{asked_is}

-- the faults that the node's disk counted
abbrev faults_of : NodeState → ℕ
faults_of n = n.store.disk.faults

-- ---- a line

told_counts : (line : Line) (before after : ℕ) → TellsFaults line before after → CountsFailure (tells_failed_disk (Some line)) before after
told_counts (Refused MemoryFailure) before after tells = tells
told_counts _ before after tells = tells

does_counts : (event : Option Event) (told : Option Line) (before after : NodeState) → DoesEvent event before told after
    → CountsFailure (tells_failed_disk told) (faults_of before) (faults_of after)
does_counts None None before after same = ap faults_of same
does_counts None (Some told) before after does = absurd does
does_counts (Some event) None before after does = absurd does
does_counts (Some event) (Some told) before after alone = told_counts told (faults_of before) (faults_of after) alone.turn.faults

does_later : (event : Option Event) (told : Option Line) (before after : NodeState) → DoesEvent event before told after → faults_of before ≤ faults_of after
does_later None None before after same = omega (arith, ap faults_of same)
does_later None (Some told) before after does = absurd does
does_later (Some event) None before after does = absurd does
does_later (Some event) (Some told) before after alone = alone.turn.runs.later

-- ---- lines

later_lines : (rules : List FrameRule) (start : NodeState) (ms : List LineMoment) (now : NodeState) → Run (TakesLine rules) start ms now → faults_of start ≤ faults_of now
later_lines rules start [] now run = omega (arith, ap faults_of run)
later_lines rules start (m ∷ ms) now run =
    omega (arith, does_later (event_asked rules (asked_of_line rules m.command)) m.line start m.after run.0, later_lines rules m.after ms now run.1)

calm_line : (fails : Bool) (before after : ℕ) → CountsFailure fails before after → fails ≡ false → after ≡ before
calm_line false before after counts is = counts
calm_line true before after counts is = absurd (let no : ⊥ = cc in no)

rose_line : (fails : Bool) (before after : ℕ) → CountsFailure fails before after → fails ≡ true → Rose before after
rose_line true before after counts is = counts
rose_line false before after counts is = absurd (let no : ⊥ = cc in no)

-- lines that tell no failure leave it
calm_lines : (rules : List FrameRule) (start : NodeState) (ms : List LineMoment) (now : NodeState) → Run (TakesLine rules) start ms now → Unfailed ms → faults_of now ≡ faults_of start
calm_lines rules start [] now run unfailed = ap faults_of run
calm_lines rules start (m ∷ ms) now run unfailed =
    calm_lines rules m.after ms now run.1 (All-tail (λ (x : LineMoment). tells_failed_disk x.line ≡ false) m ms unfailed)
    ∙ calm_line (tells_failed_disk m.line) (faults_of start) (faults_of m.after)
    (does_counts (event_asked rules (asked_of_line rules m.command)) m.line start m.after run.0)
    (All-head (λ (x : LineMoment). tells_failed_disk x.line ≡ false) m ms unfailed)

-- a last line that tells one raised it
rose_lines : (rules : List FrameRule) (start : NodeState) (ms : List LineMoment) (last : LineMoment) (now : NodeState) → Run (TakesLine rules) start (ms ++ last ∷ []) now
    → tells_failed_disk last.line ≡ true → Rose (faults_of start) (faults_of now)
rose_lines rules start ms last now run tells =
    let (mid, first, rest) = Run-split (TakesLine rules) start ms (last ∷ []) now run in
    let one : Rose (faults_of mid) (faults_of last.after) =
    rose_line (tells_failed_disk last.line) (faults_of mid) (faults_of last.after)
    (does_counts (event_asked rules (asked_of_line rules last.command)) last.line mid last.after rest.0) tells in
    subst (λ (n : NodeState). Rose (faults_of start) (faults_of n)) (sym rest.1)
    (rose_after (faults_of start) (faults_of mid) (faults_of last.after) (later_lines rules start ms mid first) one)

-- ---- a boot

boot_calm : (before after : Node) (image : List ℕ) (line : Line) (old new : ℕ) → NodeStep before (boots image) line after → TellsFaults line old new → new ≡ old
boot_calm before after image (Boot good) old new step tells = tells
boot_calm before after image (Refused Down) old new step tells = tells
boot_calm before after image (Refused NoRoute) old new step tells = tells
boot_calm before after image (Refused BadLength) old new step tells = tells
boot_calm before after image (Refused (Key refusal)) old new step tells = tells
boot_calm before after image (Refused Exhausted) old new step tells = tells
boot_calm before after image (Refused MemoryFailure) old new step tells = absurd step.0
boot_calm before after image (Refused NotFormatted) old new step tells = tells
boot_calm before after image (Refused (Damaged place)) old new step tells = tells
boot_calm before after image (Refused (BadSlot slot)) old new step tells = tells
boot_calm before after image (Refused (BadBound cell)) old new step tells = tells
boot_calm before after image (Sent id v pdu) old new step tells = tells
boot_calm before after image (Accepted id v payload source) old new step tells = tells
boot_calm before after image FreshnessFailure old new step tells = tells
boot_calm before after image VerificationFailure old new step tells = tells
boot_calm before after image (Keyed slot) old new step tells = tells
boot_calm before after image (Loaded reply) old new step tells = tells
boot_calm before after image Up old new step tells = tells
boot_calm before after image Armed old new step tells = tells
boot_calm before after image NoFrame old new step tells = tells

boots_calm : (image : Option (List ℕ)) (start : NodeState) (told : List Line) (booted : NodeState) → BootsWith image start told booted → faults_of booted ≡ faults_of start
boots_calm None start told booted (none, same) = ap faults_of same
boots_calm (Some image) start told booted (line, one, alone) =
    boot_calm start.node booted.node image line (faults_of start) (faults_of booted) (alone.turn.step tt) alone.turn.faults

-- ---- a disk that is quiet

event_keeps : (event : Event) (told : Line) (before after : NodeState) → IsOfEndpoint event → TurnsAlone before event told after → KeepsQuiet before.store.disk after.store.disk
event_keeps _ told before after (is_send id payload) alone = alone.turn.runs.quiet refl
event_keeps _ told before after (is_inject id pdu) alone = alone.turn.runs.quiet refl
event_keeps _ told before after (is_load request) alone = alone.turn.runs.quiet refl
event_keeps _ told before after (is_boot image) alone = alone.turn.runs.quiet refl

same_keeps : (before after : NodeState) → after ≡ before → KeepsQuiet before.store.disk after.store.disk
same_keeps before after same quiet = record { quiet = ap (λ (n : NodeState). n.store.disk.quiet) same ∙ quiet.quiet; faults = ap faults_of same }

does_keep : (event : Option Event) (told : Option Line) (before after : NodeState) → ((e : Event) → event ≡ Some e → IsOfEndpoint e) → DoesEvent event before told after
    → KeepsQuiet before.store.disk after.store.disk
does_keep None None before after is same = same_keeps before after same
does_keep None (Some told) before after is does = absurd does
does_keep (Some event) None before after is does = absurd does
does_keep (Some event) (Some told) before after is alone = event_keeps event told before after (is event refl) alone

keeps_then : (one two three : DiskState) → KeepsQuiet one two → KeepsQuiet two three → KeepsQuiet one three
keeps_then one two three first then quiet =
    let there : StaysQuiet one two = first quiet in
    let end : StaysQuiet two three = then (record { quiet = there.quiet; below = omega (arith, there.faults, quiet.below) }) in
    record { quiet = end.quiet; faults = end.faults ∙ there.faults }

lines_keep : (rules : List FrameRule) (start : NodeState) (ms : List LineMoment) (now : NodeState) → Run (TakesLine rules) start ms now → KeepsQuiet start.store.disk now.store.disk
lines_keep rules start [] now run = same_keeps start now run
lines_keep rules start (m ∷ ms) now run =
    keeps_then start.store.disk m.after.store.disk now.store.disk
    (does_keep (event_asked rules (asked_of_line rules m.command)) m.line start m.after (λ e is. asked_is rules (asked_of_line rules m.command) e is) run.0)
    (lines_keep rules m.after ms now run.1)

boot_keeps : (image : Option (List ℕ)) (start : NodeState) (told : List Line) (booted : NodeState) → BootsWith image start told booted → KeepsQuiet start.store.disk booted.store.disk
boot_keeps None start told booted (none, same) = same_keeps start booted same
boot_keeps (Some image) start told booted (line, one, alone) = event_keeps (event.Boot 0 image) line start booted (is_boot image) alone

-- ---- a run

module _ (bus : NamedBus) (rules : List FrameRule) (image : Option (List ℕ)) (d : DiskStates) (told : List Line) (lines : List LineMoment)
    (ran : RanEndpoint bus rules image d.before d.after told lines) where
  left_first : (disk : DiskState) → (get_or d.after 0 disk).faults ≡ faults_of ran.now
  left_first disk = ap (λ (disks : List DiskState). (get_or disks 0 disk).faults) ran.disks

  booted_first : (disk : DiskState) → faults_of ran.booted ≡ (get_or d.before 0 disk).faults
  booted_first disk = boots_calm image ran.start told ran.booted ran.boots ∙ ((ran.opened disk).faults ∙ same_faults bus d.before ran.seen ran.look 0 disk)

  pub ran_calm : Unfailed lines → (disk : DiskState) → (get_or d.after 0 disk).faults ≡ (get_or d.before 0 disk).faults
  ran_calm unfailed disk = left_first disk ∙ calm_lines rules ran.booted lines ran.now ran.run unfailed ∙ booted_first disk

  pub ran_rose : (earlier : List LineMoment) (last : LineMoment) → lines ≡ earlier ++ last ∷ [] → tells_failed_disk last.line ≡ true → FirstDiskFailed d
  ran_rose earlier last is tells = λ disk.
      let run : Run (TakesLine rules) ran.booted (earlier ++ last ∷ []) ran.now = subst (λ (ms : List LineMoment). Run (TakesLine rules) ran.booted ms ran.now) is ran.run in
      subst (λ (n : ℕ). Rose n (get_or d.after 0 disk).faults) (booted_first disk)
      (subst (λ (n : ℕ). Rose (faults_of ran.booted) n) (sym (left_first disk)) (rose_lines rules ran.booted earlier last ran.now run tells))

  -- a disk that was quiet didn't fail
  pub ran_quiet : IsQuiet (get_or d.before 0 no_disk) → FirstDiskFailed d → ⊥
  ran_quiet quiet failed =
      let first : DiskState = get_or d.before 0 no_disk in
      let keeps : KeepsQuiet first ran.now.store.disk =
      keeps_then first ran.start.store.disk ran.now.store.disk
      (keeps_then first (get_or ran.seen 0 no_disk) ran.start.store.disk ((look_at bus d.before ran.seen ran.look 0 no_disk).runs.quiet refl) ((ran.opened no_disk).runs.quiet refl))
      (keeps_then ran.start.store.disk ran.booted.store.disk ran.now.store.disk (boot_keeps image ran.start told ran.booted ran.boots) (lines_keep rules ran.booted lines ran.now ran.run)) in
      let stays : StaysQuiet first ran.now.store.disk = keeps quiet in
      omega (arith, failed no_disk, left_first no_disk, stays.faults, quiet.below)
