-- The headline's record and that of a run of a bus give each other
use Rattle.std.specs.Prelude.{List, Result}
use Rattle.program_edge.specs.Endings.{Ending}
use Rattle.run_driver.specs.declared.printing.Unwritten.{Unwritten}
use Rattle.bus_machine.specs.declared.events.Event.{Event}
use Rattle.bus_machine.specs.Bus.{World, Moments}
use Rattle.bus_config.specs.Buses.{NamedBus}
use Rattle.bus_world.specs.StartAnswers.{DiskStates}
use Rattle.bus_world.specs.WorldRuns.{WorldRun}
use Rattle.bus_commands.specs.declared.summary.Summary.{Summary}
use Rattle.bus_commands.specs.Headline.{Replayed}
use Rattle.bus_commands.specs.TrialRuns.{Tried}
use Rattle.bus_commands.specs.Commands.{HeadlineRun, WrittenRun, SummedRun}
use Rattle.bus_commands.specs.SharedRuns.{HeadlineIsWorldRun}

headline_of : (first : World) (bus : NamedBus) (d : DiskStates) (events : List Event) (moments : Moments) (last : World) → WorldRun first bus d.before d.after events moments last
    → HeadlineRun first bus d events moments last
headline_of first bus d events moments last run = record {
  begins = run.begins;
  is_a_run = run.is_a_run;
  of_events = run.of_events;
  are_lines = run.are_lines;
  rising = run.rising;
  authentic = run.authentic;
  single = run.single;
  keys_kept = run.keys_kept;
  cuts_skip_little = run.cuts_skip_little;
  covered = run.covered;
  disks = run.disks;
  failures = run.failures;
  honest = run.honest;
}

of_headline : (first : World) (bus : NamedBus) (d : DiskStates) (events : List Event) (moments : Moments) (last : World) → HeadlineRun first bus d events moments last
    → WorldRun first bus d.before d.after events moments last
of_headline first bus d events moments last run = record {
  begins = run.begins;
  is_a_run = run.is_a_run;
  of_events = run.of_events;
  are_lines = run.are_lines;
  rising = run.rising;
  authentic = run.authentic;
  single = run.single;
  keys_kept = run.keys_kept;
  cuts_skip_little = run.cuts_skip_little;
  covered = run.covered;
  disks = run.disks;
  failures = run.failures;
  honest = run.honest;
}

pub headline_is_world_run : HeadlineIsWorldRun
headline_is_world_run first bus d events moments last = (headline_of first bus d events moments last, of_headline first bus d events moments last)

-- ---- of a replay and of a trial

pub written_run : (first : World) (bus : NamedBus) (d : DiskStates) (events : List Event) (e : Ending) (result : Result (Unit {0}) Unwritten)
    → Replayed first bus d.before d.after events e.before e.after result → WrittenRun first bus d events e result
written_run first bus d events e result ran = record {
  moments = ran.moments;
  last = ran.last;
  run = headline_of first bus d events ran.moments ran.last ran.run;
  written = ran.written;
}

pub summed_run : (bus : NamedBus) (d : DiskStates) (events : List Event) (summary : Summary) → Tried bus d.before d.after events summary → SummedRun bus d events summary
summed_run bus d events summary ran = record {
  moments = ran.moments;
  last = ran.last;
  run = headline_of _ bus d events ran.moments ran.last ran.run;
  whole = ran.whole;
  numbers = ran.numbers;
}
