-- How a chart whose events were done ends
use Rattle.std.specs.Prelude.{◌≡◌, ℕ, ◌+◌, ◌≤◌, Option, None, Some, List, [], ◌∷◌, ◌++◌, length, Ok, Err, Vec}
use Rattle.std.specs.Vec.{vec_len, vec_capacity}
use Rattle.std.specs.declared.alloc.AllocError.{AllocError}
use Rattle.std.specs.declared.alloc.Global.{Global}
use Rattle.std.proofs.Common.{refl, sym, ap, ◌∙◌, subst, arith, append_assoc, append-nil, length-append}
use Rattle.std.proofs.lemmas.List.{length-map}
use Rattle.program_edge.specs.Rows.{Row, row_of}
use Rattle.program_edge.specs.Endings.{Ending, EndsInRow}
use Rattle.program_edge.proofs.CallerLemmas.{EndsInRow-more}
use Rattle.machine_runs.specs.Run.{Moment, lines_in}
use Rattle.run_driver.specs.Driven.{TakenUp, Driven}
use Rattle.run_driver.specs.DrivenLaws.{FirstDone-few}
use Rattle.bus_machine.specs.declared.events.Event.{Event}
use Rattle.bus_machine.specs.declared.lines.Line.{Line}
use Rattle.bus_config.specs.Buses.{NamedBus}
use Rattle.bus_world.specs.Worlds.{BusState, BusTurn}
use Rattle.bus_world.specs.WorldTurns.{TurnsLeaveDisks, StartsSetUp}
use Rattle.chart_commands.specs.ChartTexts.{chart_text}
use Rattle.bus_programs.specs.Inputs.{BusInputs}
use Rattle.chart_commands.specs.Inputs.{SetsChart}
use Rattle.bus_world.specs.StartAnswers.{DiskStates}
use Rattle.chart_commands.specs.Runs.{KeepsLines, KeptTurns, ChartTurns, ChartsAreRuns}
use Rattle.chart_commands.specs.Rows.{DoneChart, ChartRow, not_started, all_done, done_without_memory}
use Rattle.chart_commands.specs.Steps.{KeepsLine, AreOfEvents, ToldOfLines, their_chart, no_chart, AnswersChart, refused_chart, charted}
use Rattle.chart_commands.proofs.OneChart.{chart_stays}

-- ---- the lines that are kept

-- lines that were taken up one after another are all there, after those that there were
kept_all : (number : ℕ) (before after : Vec Line Global) (lines : List Line) → TakenUp KeepsLine number before lines after → after.items ≡ before.items ++ lines
kept_all number before after [] same = ap (λ (v : Vec Line Global). v.items) same ∙ sym (append-nil before.items)
kept_all number before after (line ∷ lines) (mid, here, rest) =
    kept_all (number + 1) mid after lines rest ∙ ap (λ (l : List Line). l ++ lines) here.0 ∙ append_assoc before.items (line ∷ []) lines

-- and so many more are kept, for which the room is no less
room_left : (number : ℕ) (before after : Vec Line Global) (lines : List Line) → TakenUp KeepsLine number before lines after
    → (vec_len after ≡ vec_len before + length lines) × (vec_capacity before ≤ vec_capacity after)
room_left number before after [] same =
    let count = ap (λ (v : Vec Line Global). vec_len v) same in
    let room = ap (λ (v : Vec Line Global). vec_capacity v) same in
    (omega (arith, count), omega (arith, room))
room_left number before after (line ∷ lines) (mid, here, rest) =
    let behind = room_left (number + 1) mid after lines rest in
    (omega (arith, here.1, behind.0), omega (arith, here.2, behind.1))

-- all events were done
pub kept_whole : (start now : BusState) (before kept : Vec Line Global) (events : List Event) → before.items ≡ []
    → Driven BusTurn KeepsLine start now before kept events (Ok tt) → KeptTurns start now events (Some kept.items)
kept_whole start now before kept events none done = record {
  moments = done.moments;
  run = done.run;
  first = done.first;
  holds = (done.holds.0, kept_all 1 before kept (lines_in done.moments) done.holds.1 ∙ ap (λ (l : List Line). l ++ lines_in done.moments) none);
}

-- if there is room for the lines of all events, none is refused
pub never_short : (start now : BusState) (before kept : Vec Line Global) (events : List Event) (cause : AllocError) → vec_len before ≡ 0
    → length events ≤ vec_capacity before → Driven BusTurn KeepsLine start now before kept events (Err cause) → ⊥
never_short start now before kept events cause none room done =
    let refused = done.holds in
    let few = FirstDone-few done in
    let taken = room_left 1 before refused.mid (lines_in refused.front) refused.taken in
    let count : length done.moments ≡ length refused.front + length (refused.last ∷ []) = ap length refused.all ∙ length-append refused.front (refused.last ∷ []) in
    let lines : length (lines_in refused.front) ≡ length refused.front = length-map refused.front (λ (m : Moment Event Line BusState). m.line) in
    omega (arith, none, room, few, taken.0, taken.1, count, lines, refused.refused)

-- nothing was done
pub kept_none : (start now : BusState) (events : List Event) → now ≡ start → KeptTurns start now events None
kept_none start now events same = record { moments = []; run = same; first = refl; holds = refl }

-- if all lines were kept, there is one for each event
pub of_events : {S : Type 0} (events : List Event) (kept : Option (List Line)) (ms : List (Moment Event Line S)) → KeepsLines events kept ms → AreOfEvents events kept
of_events {S} events (Some lines) ms keeps = ap length keeps.1 ∙ length-map ms (λ (m : Moment Event Line S). m.line) ∙ keeps.0
of_events events None ms keeps = tt

-- ---- the rows

-- the row of a text that is the lines' chart
pub told_as_chart : (bus : NamedBus) (events : List Event) (lines : List Line) (text : List ℕ) → text ≡ chart_text bus events lines
    → ToldOfLines bus events (Some lines) (row_of 0 text)
told_as_chart bus events lines text is = subst (λ (t : List ℕ). ToldOfLines bus events (Some lines) (row_of 0 t)) (sym is) (their_chart lines refl)

pub Answers-charted : StartsSetUp → TurnsLeaveDisks → ChartsAreRuns → (same : Type 0) (bus : NamedBus) (events : List Event) (d : DiskStates) (e : Ending) (kept : Option (List Line))
    → ChartTurns bus d.before d.after events kept → EndsInRow (ToldOfLines bus events kept) e → EndsInRow (AnswersChart same bus events d) e
Answers-charted set_up leave laws same bus events d e kept ran ends =
    EndsInRow-more
    (λ row told. charted kept row (record {
      ran = ran;
      stay = chart_stays bus d.before d.after events kept ran set_up leave;
      one_run = laws bus d.before d.after events kept ran;
    }) told)
    ends

-- ---- the table

of_lines : (same : Type 0) (i : BusInputs) (d : DiskStates) (bus : NamedBus) (events : List Event) (kept : Option (List Line)) (row : Row) → SetsChart i bus events
    → DoneChart bus events d kept → ToldOfLines bus events kept row → ChartRow same i d row
of_lines same i d bus events kept row set done (their_chart lines is) =
    all_done (chart_text bus events lines) (bus, events, set, (lines, subst (DoneChart bus events d) is done, refl))
of_lines same i d bus events kept row set done no_chart = done_without_memory kept (bus, events, set, done)

pub ChartRow-answers : (same : Type 0) (i : BusInputs) (d : DiskStates) (bus : NamedBus) (events : List Event) (row : Row) → SetsChart i bus events
    → AnswersChart same bus events d row → ChartRow same i d row
ChartRow-answers same i d bus events row set (refused_chart _ start) = not_started row (bus, events, set, start.0) start.1
ChartRow-answers same i d bus events row set (charted kept _ done told) = of_lines same i d bus events kept row set done told
