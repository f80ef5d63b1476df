-- What was done of an endpoint over a disk that tells its bytes is a run of the machine, and what holds of it
use Rattle.std.specs.Prelude.{◌≡◌, ℕ, ◌+◌, ◌<◌, ◌≤◌, Option, Some, List, [], ◌∷◌, ◌++◌, length, map, drop, get_or, false, All}
use Rattle.std.proofs.Common.{refl, sym, ap, ◌∙◌, subst, arith, inl, inr}
use Rattle.std.proofs.lemmas.List.{length-drop}
use Rattle.basics.specs.FaultCount.{Rose}
use Rattle.machine_runs.specs.Run.{Run, commands_in, lines_in}
use Rattle.machine_runs.proofs.CallerLemmas.{Run-seen_as}
use Rattle.cut_disk.specs.State.{DiskState, Entry}
use Rattle.cut_disk.specs.Calls.{IsQuiet, Later}
use Rattle.cut_disk.proofs.CallerLemmas.{runs_none, runs_join, later_of_runs, later_join, grows_after}
use Rattle.cell_store.specs.declared.kinds.Layout.{Layout}
use Rattle.any_cells.specs.Either.{layout}
use Rattle.store_keeping.specs.DiskTurns.{OpenedDisk, TellsBytes, TracedSince, FailuresTold}
use Rattle.store_keeping.proofs.CallerLemmas.{traced_since, failures_told, still_quiet}
use Rattle.freshness_routes.specs.declared.routes.Direction.TheVariants.{Receives}
use Rattle.bus_machine.specs.declared.events.Event.{Event}
use Rattle.bus_machine.specs.declared.lines.Line.{Line}
use Rattle.bus_machine.specs.declared.lines.Line.TheVariants.{Sent, Accepted, FreshnessFailure, VerificationFailure, Keyed, Loaded, Boot, Up, Armed, NoFrame, Refused}
use Rattle.bus_machine.specs.Node.{place_of}
use Rattle.bus_machine.specs.Bus.{World, SentLine, Instant, Moments, Step, state_after, node_at, silent_world}
use Rattle.bus_machine.specs.Honest.{IsInTime, IsHeard}
use Rattle.bus_laws.specs.Laws.{RunsAreCovered, RunsRise, RunsAreAuthentic, RunsAreSingle, RunsKeepKeys, EventsDetermineLines}
use Rattle.bus_config.specs.declared.node_lines.NodeLine.{NodeLine}
use Rattle.bus_config.specs.Buses.{NamedBus}
use Rattle.bus_script.specs.EventForms.{node_line_at}
use Rattle.secoc_node.specs.State.{NodeState}
use Rattle.bus_world.specs.declared.start.Start.TheVariants.{Attach}
use Rattle.bus_world.specs.Turns.{Brings}
use Rattle.bus_world.specs.Worlds.{BusState}
use Rattle.bus_world.specs.Starts.{start_calls, Opened, Started, StartsOver}
use Rattle.bus_world.proofs.CallerLemmas.{no_disk}
use Rattle.bus_world.specs.NodeDisks.{mark_at, most_at, tells_failure, fails_at, fits_at, DisksFollow}
use Rattle.bus_world.specs.WorldRuns.{OneListOfLines}
use Rattle.bus_world.specs.WorldTurns.{TellFirm, StartsGoOnFirst, GoesOnFirst}
use Rattle.kept_starts.specs.LookedAt.{look_calls}
use Rattle.kept_starts.proofs.CallerLemmas.{firm_then, look_at, room_then, same_told}
use Rattle.endpoint_commands.specs.declared.rules.FrameRule.{FrameRule}
use Rattle.endpoint_commands.specs.Running.{LineMoment}
use Rattle.endpoint_commands.specs.Headline.{RanEndpoint, DisksServe, OneEndpointRun, without_source, boot_events, events_asked}
use Rattle.endpoint_commands.proofs.AloneRun.{AloneState, alone_world, AloneStep, IsOfEndpoint, is_send, is_inject, is_load, is_boot, with_source, HoldsAlone, alone_step, alone_holds, alone_disk, alone_tells}
use Rattle.endpoint_commands.proofs.LineRun.{AloneMoment, seen, begun, EndpointAlone, endpoint_alone}
use Rattle.endpoint_commands.proofs.QuietRun.{no_line_fails, no_line_failed, one_list_alone}

-- the laws of the crates below, as their public functions ensure them
pub record Laws : Type 0 where
  pub go_on : StartsGoOnFirst
  pub cover : RunsAreCovered
  pub rise : RunsRise
  pub are_authentic : RunsAreAuthentic
  pub are_single : RunsAreSingle
  pub keep_keys : RunsKeepKeys
  pub determine : EventsDetermineLines

seen_commands : (ms : List AloneMoment) → commands_in (seen ms) ≡ commands_in ms
seen_commands [] = refl
seen_commands (m ∷ ms) = ap (λ (es : List Event). m.command ∷ es) (seen_commands ms)

seen_lines : (ms : List AloneMoment) → lines_in (seen ms) ≡ lines_in ms
seen_lines [] = refl
seen_lines (m ∷ ms) = ap (λ (ls : List Line). m.line ∷ ls) (seen_lines ms)

-- ---- what comes in time is heard

heard_line : (w : World) (s : SentLine) (line : Line) → IsHeard s line → IsHeard s (with_source w line)
heard_line w s (Accepted id v payload source) heard = heard
heard_line w s (Sent id v pdu) heard = heard
heard_line w s FreshnessFailure heard = heard
heard_line w s VerificationFailure heard = heard
heard_line w s (Keyed slot) heard = heard
heard_line w s (Loaded reply) heard = heard
heard_line w s (Boot good) heard = heard
heard_line w s Up heard = heard
heard_line w s Armed heard = heard
heard_line w s NoFrame heard = heard
heard_line w s (Refused refusal) heard = heard

brings_alone : (w : World) (e : Event) (s : SentLine) → IsOfEndpoint e → Brings w e s → Brings silent_world e s
brings_alone w _ s (is_send id payload) brings = brings
brings_alone w _ s (is_inject id pdu) brings = brings
brings_alone w _ s (is_load request) brings = brings
brings_alone w _ s (is_boot image) brings = brings

hears_one : (s : AloneState) (e : Event) (line : Line) (t : AloneState) (l : SentLine) → AloneStep s e line t → Brings (alone_world s) e l
    → IsInTime s.node.node l (place_of s.node.node l.id Receives) → IsHeard l line
hears_one s e line t l a brings in_time =
    subst (IsHeard l) (sym a.line_is) (heard_line (alone_world s) l a.told (a.alone.honest l (brings_alone (alone_world s) e l a.of_endpoint brings) in_time))

heard_in : (s : AloneState) (ms : List AloneMoment) (now : AloneState) → Run AloneStep s ms now → (front rest : Moments) (m : Instant) (l : SentLine) → seen ms ≡ front ++ m ∷ rest
    → Brings (state_after (alone_world s) front) m.command l
    → IsInTime (node_at (state_after (alone_world s) front) 0) l (place_of (node_at (state_after (alone_world s) front) 0) l.id Receives)
    → IsHeard l m.line
heard_in s [] now run [] rest m l whole brings in_time = absurd (let no : ⊥ = cc in no)
heard_in s [] now run (f ∷ front) rest m l whole brings in_time = absurd (let no : ⊥ = cc in no)
heard_in s (x ∷ ms) now run [] rest m l whole brings in_time =
    let same : m ≡ record { command = x.command; line = x.line; after = alone_world x.after } = cc in
    subst (λ (i : Instant). IsHeard l i.line) (sym same)
    (hears_one s x.command x.line x.after l run.0 (subst (λ (i : Instant). Brings (alone_world s) i.command l) same brings) in_time)
heard_in s (x ∷ ms) now run (f ∷ front) rest m l whole brings in_time =
    let same : f ≡ record { command = x.command; line = x.line; after = alone_world x.after } = cc in
    let others : seen ms ≡ front ++ m ∷ rest = cc in
    let there : f.after ≡ alone_world x.after = ap (λ (i : Instant). i.after) same in
    heard_in x.after ms now run.1 front rest m l others
    (subst (λ (w : World). Brings (state_after w front) m.command l) there brings)
    (subst (λ (w : World). IsInTime (node_at (state_after w front) 0) l (place_of (node_at (state_after w front) 0) l.id Receives)) there in_time)

-- ---- the disk

later_alone : (s : AloneState) (ms : List AloneMoment) (t : AloneState) → Run AloneStep s ms t → Later s.node.store.disk t.node.store.disk
later_alone s [] t run = subst (λ (n : AloneState). Later s.node.store.disk n.node.store.disk) (sym run) (later_of_runs (runs_none s.node.store.disk))
later_alone s (m ∷ ms) t run =
    later_join (later_of_runs (alone_disk s m.command m.line m.after run.0).runs) (later_alone m.after ms t run.1)

holds_alone : (l : Layout) (s : AloneState) (ms : List AloneMoment) (t : AloneState) → HoldsAlone l s → Run AloneStep s ms t → HoldsAlone l t
holds_alone l s [] t h run = subst (HoldsAlone l) (sym run) h
holds_alone l s (m ∷ ms) t h run = holds_alone l m.after ms t (alone_holds l s m.command m.line m.after h run.0) run.1

-- the first of one node line is the one at the place 0
first_there : (nodes : List NodeLine) (l : NodeLine) → length nodes ≡ 1 → get_or nodes 0 l ≡ node_line_at nodes 0
first_there [] l one = absurd (let no : ⊥ = omega (arith, one) in no)
first_there (n ∷ ns) l one = refl

only_first : (i : ℕ) (nodes : List NodeLine) → length nodes ≡ 1 → i < length nodes → 0 ≡ i
only_first i nodes one inside = omega (arith, one, inside)

count_back : (disk : DiskState) (before : List DiskState) → 1 ≤ length before → length (disk ∷ drop 1 before) ≡ length before
count_back disk before some = omega (arith, some, length-drop 1 before)

-- ---- all of one run

module _ (laws : Laws) (bus : NamedBus) (rules : List FrameRule) (image : Option (List ℕ)) (before after : List DiskState)
    (told : List Line) (lines : List LineMoment) (ran : RanEndpoint bus rules image before after told lines) (tell : TellFirm bus before) where
  abbrev l : Layout
  l = layout bus.kind bus.version

  abbrev over : BusState
  over = record { nodes = ran.start ∷ []; events = 0; most = 0; sent = [] }

  opened_at : (i : ℕ) (line : NodeLine) (d : DiskState) (n : NodeState) → i < length bus.nodes
      → Opened Attach bus.kind bus.version (get_or bus.nodes i line).config (get_or ran.seen i d) (get_or (ran.start ∷ []) i n)
  opened_at i line d n inside =
      subst (λ (k : ℕ). Opened Attach bus.kind bus.version (get_or bus.nodes k line).config (get_or ran.seen k d) (get_or (ran.start ∷ []) k n))
      (only_first i bus.nodes ran.one inside)
      (subst (λ (x : NodeLine). Opened Attach bus.kind bus.version x.config (get_or ran.seen 0 d) ran.start) (sym (first_there bus.nodes line ran.one)) (ran.opened d))

  started : Started Attach bus 0 ran.seen over
  started = record {
    room = room_then bus before ran.seen ran.look ran.room;
    nodes = record { count = sym ran.one; opened = opened_at };
    no_event = refl;
    most_is = refl;
    nothing_sent = refl;
  }

  first : GoesOnFirst bus ran.seen over
  first = laws.go_on bus 0 ran.seen over ran.is_bus started (firm_then bus before ran.seen ran.look tell)

  -- the look changed no byte, so it goes on where the disk stood before it
  goes_before : StartsOver bus before (alone_world (begun ran.start))
  goes_before = record {
    no_event = first.goes_on.no_event;
    nothing_sent = first.goes_on.nothing_sent;
    count = first.goes_on.count;
    nodes = λ i line d inside. record {
      just_powered = (first.goes_on.nodes i line d inside).just_powered;
      kept = λ t tells. (first.goes_on.nodes i line d inside).kept t (same_told bus before ran.seen ran.look i d ∙ tells);
    };
  }

  alone : EndpointAlone rules image ran.start told lines ran.now
  alone = endpoint_alone rules image ran.start ran.booted told lines ran.now ran.boots ran.run

  abbrev ms : List AloneMoment
  ms = alone.moments

  holds_first : HoldsAlone l (begun ran.start)
  holds_first = record { fitting = first.fits 0 ran.start refl; layout_is = (ran.opened no_disk).layout_is }

  run : Run Step (alone_world (begun ran.start)) (seen ms) (alone_world alone.last)
  run =
      Run-seen_as AloneStep Step (λ (e : Event). e) alone_world (HoldsAlone l)
      (λ s e line t h step. (alone_step s e line t step, alone_holds l s e line t h step))
      (begun ran.start) ms alone.last holds_first alone.run

  -- the disk handed back
  disk_there : alone.last.node.store.disk ≡ ran.now.store.disk
  disk_there = ap (λ (n : NodeState). n.store.disk) alone.ends

  disk_back : (d : DiskState) → get_or after 0 d ≡ alone.last.node.store.disk
  disk_back d = ap (λ (disks : List DiskState). get_or disks 0 d) ran.disks ∙ sym disk_there

  abbrev calls : ℕ
  calls = look_calls bus + start_calls Attach bus.kind (node_line_at bus.nodes 0).config

  opened_disk : (d : DiskState) → OpenedDisk calls (get_or before 0 d) ran.start.store.disk
  opened_disk d =
      let o = ran.opened d in
      let look = look_at bus before ran.seen ran.look 0 d in
      record { runs = runs_join look.runs o.runs; grows = grows_after look.runs o.grows; faults = o.faults ∙ look.faults }

  failures_first : (d : DiskState) → FailuresTold (mark_at 0) (fails_at 0) (seen ms) (get_or before 0 d) (get_or after 0 d)
  failures_first d =
      subst (λ (disk : DiskState). FailuresTold (mark_at 0) (fails_at 0) (seen ms) (get_or before 0 d) disk) (sym (disk_back d))
      (failures_told AloneStep alone_world (λ (s : AloneState). s.node.store.disk) (mark_at 0) (most_at 0) (fails_at 0) (HoldsAlone l)
      (λ s e line t h step. (alone_disk s e line t step, alone_holds l s e line t h step))
      calls (get_or before 0 d) (begun ran.start) ms alone.last (opened_disk d) holds_first alone.run)

  fit_first : (d : DiskState) → TellsBytes (fits_at l 0 (alone_world alone.last)) (get_or after 0 d)
  fit_first d =
      subst (TellsBytes (fits_at l 0 (alone_world alone.last))) (sym (disk_back d))
      (alone_tells l alone.last (holds_alone l (begun ran.start) ms alone.last holds_first alone.run))

  later_first : (d : DiskState) → Later (get_or before 0 d) (get_or after 0 d)
  later_first d =
      subst (Later (get_or before 0 d)) (sym (disk_back d))
      (later_join (later_of_runs (opened_disk d).runs) (later_alone (begun ran.start) ms alone.last alone.run))

  traced_first : (d : DiskState) (all : List Entry) → (get_or after 0 d).past ≡ Some all
      → TracedSince (mark_at 0) (most_at 0) (fits_at l 0) (alone_world (begun ran.start)) (seen ms) (get_or before 0 d) all
  traced_first d all tells =
      traced_since AloneStep alone_world (λ (s : AloneState). s.node.store.disk) (mark_at 0) (most_at 0) (fails_at 0) (HoldsAlone l)
      (λ s e line t h step. (alone_disk s e line t step, alone_holds l s e line t h step))
      (fits_at l 0) (alone_tells l)
      calls (get_or before 0 d) (begun ran.start) ms alone.last (opened_disk d) holds_first alone.run all
      (ap (λ (disk : DiskState). disk.past) (sym (disk_back d)) ∙ tells)

  -- what holds of the first disk holds of each that the bus has
  each : (P : ℕ → Type 0) → P 0 → (i : ℕ) → i < length bus.nodes → P i
  each P holds i inside = subst P (only_first i bus.nodes ran.one inside) holds

  follows : DisksFollow (alone_world (begun ran.start)) bus before after (seen ms) (alone_world alone.last)
  follows = record {
    fit = λ i d inside. each (λ (k : ℕ). TellsBytes (fits_at l k (alone_world alone.last)) (get_or after k d)) (fit_first d) i inside;
    later = λ i d inside. each (λ (k : ℕ). Later (get_or before k d) (get_or after k d)) (later_first d) i inside;
    count = ap (λ (disks : List DiskState). length disks) ran.disks ∙ count_back ran.now.store.disk before (omega (arith, ran.room.enough, ran.one));
    rest = subst (λ (n : ℕ). drop n after ≡ drop n before) (sym ran.one) (ap (λ (disks : List DiskState). drop 1 disks) ran.disks);
    traced = λ i d all inside tells.
        each (λ (k : ℕ). (get_or after k d).past ≡ Some all
        → TracedSince (mark_at k) (most_at k) (fits_at l k) (alone_world (begun ran.start)) (seen ms) (get_or before k d) all) (traced_first d all) i inside tells;
  }

  -- ---- over a disk that serves

  quiet_start : IsQuiet (get_or before 0 no_disk) → IsQuiet ran.start.store.disk
  quiet_start was = still_quiet (get_or before 0 no_disk) ran.start.store.disk was ((opened_disk no_disk).runs.quiet refl was)

  -- the counts of a run are those of its disk
  not_risen : (¬ Rose (get_or before 0 no_disk).faults (get_or after 0 no_disk).faults) → ¬ Rose ran.start.store.disk.faults alone.last.node.store.disk.faults
  not_risen calm = λ rose. calm
      (subst (λ (n : ℕ). Rose n (get_or after 0 no_disk).faults) (opened_disk no_disk).faults
      (subst (λ (disk : DiskState). Rose ran.start.store.disk.faults disk.faults) (sym (disk_back no_disk)) rose))

  unfailed : DisksServe bus before after → All (λ (m : Instant). tells_failure m.line ≡ false) (seen ms)
  unfailed serves = elim (serves 0 no_disk (omega (arith, ran.one))) [
    | inl calm ↦ no_line_failed (begun ran.start) ms alone.last (not_risen calm) alone.run
    | inr quiet ↦ no_line_fails (begun ran.start) ms alone.last (quiet_start quiet) alone.run
  ]

  one_list : DisksServe bus before after
      → OneListOfLines (alone_world (begun ran.start)) (boot_events image ++ events_asked rules (commands_in lines)) (lines_in (seen ms))
  one_list serves =
      subst (λ (es : List Event). OneListOfLines (alone_world (begun ran.start)) es (lines_in (seen ms))) (seen_commands ms ∙ alone.commands)
      (one_list_alone laws.determine (begun ran.start) ms alone.last first.is_first.is_first (unfailed serves) alone.run run)

  pub one_run : OneEndpointRun bus rules image before after told lines
  one_run =
      let world : World = alone_world (begun ran.start) in
      let last : World = alone_world alone.last in
      let is = first.is_first.is_first in
      record {
        first = world;
        moments = seen ms;
        last = last;
        goes_on = goes_before;
        begins = first.is_first;
        is_a_run = run;
        of_events = seen_commands ms ∙ alone.commands;
        of_lines = ap (map without_source) (seen_lines ms) ∙ alone.lines;
        rising = laws.rise world (seen ms) last is run;
        single = laws.are_single world (seen ms) last is run first.is_first.one_sender;
        authentic = laws.are_authentic world (seen ms) last is run;
        keys_kept = laws.keep_keys world (seen ms) last is run;
        covered = laws.cover world (seen ms) last is run;
        disks = follows;
        failures = λ i d inside. each (λ (k : ℕ). FailuresTold (mark_at k) (fails_at k) (seen ms) (get_or before k d) (get_or after k d)) (failures_first d) i inside;
        heard = heard_in (begun ran.start) ms alone.last alone.run;
        one_list = one_list;
      }
