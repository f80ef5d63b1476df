-- The run of a chart over disks that tell their bytes is one run of the machine, and its lines are those that were kept
use Rattle.std.specs.Prelude.{Option, None, Some, List, length}
use Rattle.std.proofs.Common.{sym, ap, ◌∙◌, subst}
use Rattle.cut_disk.specs.State.{DiskState}
use Rattle.machine_runs.specs.Run.{Moment}
use Rattle.bus_machine.specs.declared.events.Event.{Event}
use Rattle.bus_machine.specs.declared.lines.Line.{Line}
use Rattle.bus_machine.specs.Bus.{World}
use Rattle.bus_config.specs.Buses.{NamedBus}
use Rattle.bus_world.specs.declared.start.Start.TheVariants.{Format}
use Rattle.bus_world.specs.Worlds.{BusState, world_of}
use Rattle.bus_world.specs.NodeDisks.{DisksStay}
use Rattle.bus_world.specs.WorldRuns.{IsFirstOf, WorldRun}
use Rattle.bus_world.specs.WorldTurns.{seen, TakesTurns, TurnsLeaveDisks, TurnsAreWorldRuns, StartsSetUp, StartsBeginAtFirst}
use Rattle.bus_world.proofs.CallerLemmas.{same_lines, same_length}
use Rattle.chart_commands.specs.Runs.{KeepsLines, ChartTurns, ChartsAreRuns}

-- the same moments, seen as the machine's
keeps_seen : (events : List Event) (kept : Option (List Line)) (ms : List (Moment Event Line BusState)) → KeepsLines events kept ms → KeepsLines events kept (seen ms)
keeps_seen events (Some lines) ms keeps = (same_length ms ∙ keeps.0, keeps.1 ∙ sym (same_lines ms))
keeps_seen events None ms keeps = ap seen keeps

module _ (bus : NamedBus) (before after : List DiskState) (events : List Event) (kept : Option (List Line)) (ran : ChartTurns bus before after events kept) where
  turns_taken : TakesTurns bus before after events ran.start ran.turns.moments ran.now
  turns_taken = record { run = ran.turns.run; of_events = ran.turns.first; disks = ran.disks }

  pub chart_stays : StartsSetUp → TurnsLeaveDisks → DisksStay bus before after (seen ran.turns.moments)
  chart_stays set_up leave =
      leave bus before after events ran.start ran.turns.moments ran.now (set_up Format bus (length events) before ran.start ran.started) turns_taken

pub whole_chart : StartsSetUp → StartsBeginAtFirst → TurnsAreWorldRuns → ChartsAreRuns
whole_chart set_up begin runs bus before after events kept ran tell =
    let begun = begin bus (length events) before ran.start ran.is_bus ran.started tell in
    let ms : List (Moment Event Line BusState) = ran.turns.moments in
    record {
      moments = seen ms;
      last = world_of ran.now;
      run = subst (λ (w : World). WorldRun w bus before after events (seen ms) (world_of ran.now)) begun.first
          (runs bus before after events ran.start ms ran.now (set_up Format bus (length events) before ran.start ran.started) begun.fits
          (subst (IsFirstOf bus) (sym begun.first) begun.is_first)
          (turns_taken bus before after events kept ran));
      whole = keeps_seen events kept ms ran.turns.holds;
    }
