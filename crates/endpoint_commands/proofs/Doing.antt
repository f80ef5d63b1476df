-- What was done over a disk, put together
use Rattle.std.proofs.Common.{◌≡◌, ℕ, List, [], ◌∷◌, ◌++◌, length, drop, get_or, refl, sym, ap, ◌∙◌, subst, arith, append-nil, length-append}
use Rattle.std.specs.Prelude.{Option, None, Some}
use Rattle.bus_port.specs.Sink.{SinkState}
use Rattle.bus_port.proofs.CallerLemmas.{Appended-nothing}
use Rattle.program_edge.specs.Told.{AppendedWell}
use Rattle.program_edge.specs.Inputs.{Reading}
use Rattle.can_logs.specs.LogRuns.{WatchEnding}
use Rattle.machine_runs.specs.Run.{Run}
use Rattle.cut_disk.specs.State.{DiskState}
use Rattle.bus_machine.specs.declared.events.Event.TheVariants as event
use Rattle.bus_machine.specs.declared.lines.Line.{Line}
use Rattle.bus_config.specs.declared.node_lines.NodeLine.{NodeLine}
use Rattle.bus_config.specs.Buses.{NamedBus, IsNamedBus}
use Rattle.bus_script.specs.EventForms.{node_line_at, no_node}
use Rattle.bus_script.specs.LineTexts.{told_words}
use Rattle.secoc_node.specs.State.{NodeState}
use Rattle.bus_world.specs.declared.start.Start.TheVariants.{Attach}
use Rattle.bus_world.specs.declared.start.StartFault.{StartFault}
use Rattle.bus_world.specs.Starts.{OpensNodes, Opened, HasRoom, NotStarted}
use Rattle.bus_world.specs.StartRows.{start_row}
use Rattle.bus_world.specs.declared.start.StartFault.TheVariants as start_fault
use Rattle.bus_world.proofs.CallerLemmas.{no_room_fault}
use Rattle.kept_starts.specs.LookedAt.{LookedAt}
use Rattle.kept_starts.proofs.CallerLemmas.{look_rest, room_before, room_then}
use Rattle.endpoint_commands.specs.declared.rules.FrameRule.{FrameRule}
use Rattle.endpoint_commands.specs.Alone.{TurnsAlone}
use Rattle.endpoint_commands.specs.Lines.{comment_text}
use Rattle.endpoint_commands.specs.Running.{LineMoment, TakesLine}
use Rattle.endpoint_commands.specs.Logs.{EndsLines, done, failed, too_long, stopped, stopped_last}
use Rattle.endpoint_commands.specs.Headline.{RanEndpoint, EndpointsAreRuns}
use Rattle.endpoint_commands.specs.Promises.{opening_of, EndsBooted, not_opened, of_log, AnswersAll, DidEndpoint}

-- ---- a start that is refused

-- if there is room, its status isn't 9
refused_not_9 : (bus : NamedBus) (before after : List DiskState) (f : StartFault)
    → HasRoom bus before → NotStarted Attach bus before after f → (start_row f).status ≡ 9 → ⊥
refused_not_9 bus before after start_fault.TooFew room refused is = no_room_fault bus before start_fault.TooFew room refused.0
refused_not_9 bus before after (start_fault.TooSmall node) room refused is =
    no_room_fault bus before (start_fault.TooSmall node) room refused.0
refused_not_9 bus before after (start_fault.Store node cause) room refused is = omega (arith, is)
refused_not_9 bus before after (start_fault.BadSlot node slot) room refused is = omega (arith, is)
refused_not_9 bus before after (start_fault.BadBound node cell) room refused is = omega (arith, is)
refused_not_9 bus before after start_fault.Memory room refused is = omega (arith, is)

-- ---- a run, however it ended

ran_lines : (rules : List FrameRule) (start : NodeState) (opening : List ℕ) (log : Reading) (e : WatchEnding) (now : NodeState) (lines : List LineMoment)
    → EndsLines rules start opening log e now lines → Run (TakesLine rules) start lines now
ran_lines rules start opening log e now _ (done moments last read unfailed ends untold) = read.run
ran_lines rules start opening log e now _ (failed moments read unfailed fails ends) = read.run
ran_lines rules start opening log e now _ (too_long moments read unfailed calm long ends) = read.run
ran_lines rules start opening log e now _ (stopped moments last read unfailed stops untold) = read.done.run
ran_lines rules start opening log e now _ (stopped_last moments last read unfailed stops untold) = read.run

pub ran_booted : (rules : List FrameRule) (booted : NodeState) (opening : List ℕ) (log : Reading) (e : WatchEnding) (now : NodeState) (lines : List LineMoment)
    → EndsBooted rules booted opening log e now lines → Run (TakesLine rules) booted lines now
ran_booted rules booted opening log e now _ (not_opened six fails part untold unread same) = same
ran_booted rules booted opening log e now _ (of_log lines ends) = ran_lines rules booted opening log e now lines ends

-- ---- behind a boot, or without one

pub nothing_printed : (sink : SinkState) → AppendedWell sink sink []
nothing_printed sink = (refl, Appended-nothing sink)

pub answers_unbooted : (rules : List FrameRule) (start now : NodeState) (log : Reading) (e : WatchEnding) (lines : List LineMoment) → EndsLines rules start [] log e now lines
    → AnswersAll None rules start log e now
answers_unbooted rules start now log e lines ends = record { told = []; booted = start; lines = lines; boots = (refl, refl); ends = of_log lines ends }

one_opening : (told : Line) → comment_text (told_words told) ≡ opening_of (told ∷ [])
one_opening told = sym (append-nil (comment_text (told_words told)))

pub answers_booted : (image : List ℕ) (rules : List FrameRule) (start booted now : NodeState) (told : Line) (log : Reading) (e : WatchEnding) (lines : List LineMoment)
    → TurnsAlone start (event.Boot 0 image) told booted → EndsLines rules booted (comment_text (told_words told)) log e now lines
    → AnswersAll (Some image) rules start log e now
answers_booted image rules start booted now told log e lines turn ends = record {
  told = told ∷ [];
  booted = booted;
  lines = lines;
  boots = (told, refl, turn);
  ends = subst (λ (opening : List ℕ). EndsBooted rules booted opening log e now lines) (one_opening told) (of_log lines ends);
}

pub answers_unopened : (image : List ℕ) (rules : List FrameRule) (start booted : NodeState) (told : Line) (log : Reading) (e : WatchEnding)
    → TurnsAlone start (event.Boot 0 image) told booted → EndsBooted rules booted (comment_text (told_words told)) log e booted []
    → AnswersAll (Some image) rules start log e booted
answers_unopened image rules start booted told log e turn ends = record {
  told = told ∷ [];
  booted = booted;
  lines = [];
  boots = (told, refl, turn);
  ends = subst (λ (opening : List ℕ). EndsBooted rules booted opening log e booted []) (one_opening told) ends;
}

-- ---- the one node

-- the last of one node is the first, and none is left
pub last_node : (nodes rest : List NodeState) (node d : NodeState) → nodes ≡ rest ++ node ∷ [] → length nodes ≡ 1 → node ≡ get_or nodes 0 d
last_node nodes [] node d is one = sym (ap (λ (ns : List NodeState). get_or ns 0 d) is)
last_node nodes (r ∷ rs) node d is one = absurd (let no : ⊥ = omega (arith, ap (λ (ns : List NodeState). length ns) is, length-append rs (node ∷ []), one) in no)

pub no_other : (nodes rest : List NodeState) (node : NodeState) → nodes ≡ rest ++ node ∷ [] → length nodes ≡ 1 → rest ≡ []
no_other nodes [] node is one = refl
no_other nodes (r ∷ rs) node is one = absurd (let no : ⊥ = omega (arith, ap (λ (ns : List NodeState). length ns) is, length-append rs (node ∷ []), one) in no)

first_line : (nodes : List NodeLine) → length nodes ≡ 1 → get_or nodes 0 no_node ≡ node_line_at nodes 0
first_line [] one = absurd (let no : ⊥ = omega (arith, one) in no)
first_line (n ∷ ns) one = refl

pub opened_first : (bus : NamedBus) (before : List DiskState) (nodes : List NodeState) (node : NodeState) (d : DiskState) → length bus.nodes ≡ 1 → OpensNodes Attach bus before nodes
    → node ≡ get_or nodes 0 node → Opened Attach bus.kind bus.version (node_line_at bus.nodes 0).config (get_or before 0 d) node
opened_first bus before nodes node d one opens is =
    subst (λ (l : NodeLine). Opened Attach bus.kind bus.version l.config (get_or before 0 d) node) (first_line bus.nodes one)
    (subst (Opened Attach bus.kind bus.version (get_or bus.nodes 0 no_node).config (get_or before 0 d)) (sym is)
    (opens.opened.opened 0 no_node d node (omega (arith, one))))

-- the node was opened, answered, and its disk is back
abbrev pub ran_endpoint : (bus : NamedBus) (rules : List FrameRule) (image : Option (List ℕ)) (before seen after : List DiskState) (nodes : List NodeState) (node now : NodeState) (log : Reading) (e : WatchEnding)
    → IsNamedBus bus → length bus.nodes ≡ 1 → LookedAt bus before seen → OpensNodes Attach bus seen nodes → node ≡ get_or nodes 0 node → (a : AnswersAll image rules node log e now)
    → after ≡ now.store.disk ∷ drop 1 seen → RanEndpoint bus rules image before after a.told a.lines
ran_endpoint bus rules image before seen after nodes node now log e is_bus one look opens is a back = record {
  is_bus = is_bus;
  one = one;
  room = room_before bus before seen look opens.room;
  seen = seen;
  look = look;
  start = node;
  booted = a.booted;
  now = now;
  opened = λ d. opened_first bus seen nodes node d one opens is;
  boots = a.boots;
  run = ran_booted rules a.booted (opening_of a.told) log e now a.lines a.ends;
  disks = back ∙ ap (λ (rest : List DiskState). now.store.disk ∷ rest) (look_rest bus before seen look);
}

pub did_endpoint : (bus : NamedBus) (rules : List FrameRule) (image : Option (List ℕ)) (before seen after : List DiskState) (nodes : List NodeState) (node now : NodeState) (log : Reading) (e : WatchEnding)
    → IsNamedBus bus → length bus.nodes ≡ 1 → LookedAt bus before seen → OpensNodes Attach bus seen nodes → node ≡ get_or nodes 0 node → AnswersAll image rules node log e now
    → after ≡ now.store.disk ∷ drop 1 seen → EndpointsAreRuns → DidEndpoint bus rules image log (record { before = before; after = after }) e
did_endpoint bus rules image before seen after nodes node now log e is_bus one look opens is a back law = record {
  told = a.told;
  lines = a.lines;
  ran = ran_endpoint bus rules image before seen after nodes node now log e is_bus one look opens is a back;
  ends = a.ends;
  one_run = law bus rules image before after a.told a.lines (ran_endpoint bus rules image before seen after nodes node now log e is_bus one look opens is a back);
}

-- a row of 9 comes only without room, and then no disk was looked at
pub known_at_9 : (same : Type 0) (bus : NamedBus) (before seen after : List DiskState) (fault : StartFault) → LookedAt bus before seen → NotStarted Attach bus seen after fault
    → ((¬ HasRoom bus before) → same) → (start_row fault).status ≡ 9 → same
known_at_9 same bus before seen after fault look refused known nine =
    known (λ room. refused_not_9 bus seen after fault (room_then bus before seen look room) refused nine)
