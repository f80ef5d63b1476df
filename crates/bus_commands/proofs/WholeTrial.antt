-- A trial over disks that tell their bytes is one run of the machine, over whose lines the seven numbers are
use Rattle.std.specs.Prelude.{List, length}
use Rattle.std.proofs.Common.{sym, ap, ◌∙◌, subst, arith}
use Rattle.std.proofs.lemmas.List.{take_all}
use Rattle.cut_disk.specs.State.{DiskState}
use Rattle.machine_runs.specs.Run.{Moment}
use Rattle.bus_machine.specs.declared.events.Event.{Event}
use Rattle.bus_machine.specs.declared.lines.Line.{Line}
use Rattle.bus_machine.specs.Bus.{World}
use Rattle.bus_config.specs.Buses.{NamedBus}
use Rattle.bus_world.specs.declared.start.Start.TheVariants.{Format}
use Rattle.bus_world.specs.Worlds.{BusState, world_of}
use Rattle.bus_world.specs.NodeDisks.{DisksStay}
use Rattle.bus_world.specs.WorldRuns.{IsFirstOf, WorldRun}
use Rattle.bus_world.specs.WorldTurns.{seen, TakesTurns, TurnsLeaveDisks, TurnsAreWorldRuns, StartsSetUp, StartsBeginAtFirst}
use Rattle.bus_world.proofs.CallerLemmas.{same_commands, same_lines}
use Rattle.bus_commands.specs.declared.summary.Summary.{Summary}
use Rattle.bus_commands.specs.Summaries.{summary_of}
use Rattle.bus_commands.specs.TrialRuns.{TrialTurns, TrialsAreRuns}

module _ (bus : NamedBus) (before after : List DiskState) (events : List Event) (summary : Summary) (ran : TrialTurns bus before after events summary) where
  turns_taken : TakesTurns bus before after events ran.start ran.turns.moments ran.now
  turns_taken = record { run = ran.turns.run; of_events = ran.turns.first; disks = ran.disks }

  pub trial_stays : StartsSetUp → TurnsLeaveDisks → DisksStay bus before after (seen ran.turns.moments)
  trial_stays set_up leave =
      leave bus before after events ran.start ran.turns.moments ran.now (set_up Format bus (length events) before ran.start ran.started) turns_taken

pub whole_trial : StartsSetUp → StartsBeginAtFirst → TurnsAreWorldRuns → TrialsAreRuns
whole_trial set_up begin runs bus before after events summary ran tell =
    let begun = begin bus (length events) before ran.start ran.is_bus ran.started tell in
    let ms : List (Moment Event Line BusState) = ran.turns.moments in
    record {
      moments = seen ms;
      last = world_of ran.now;
      run = subst (λ (w : World). WorldRun w bus before after events (seen ms) (world_of ran.now)) begun.first
          (runs bus before after events ran.start ms ran.now (set_up Format bus (length events) before ran.start ran.started) begun.fits
          (subst (IsFirstOf bus) (sym begun.first) begun.is_first)
          (turns_taken bus before after events summary ran));
      whole = same_commands ms ∙ ran.turns.first ∙ take_all (length ms) events (omega (arith, ran.turns.holds.0));
      numbers = ran.turns.holds.1 ∙ ap summary_of (sym (same_lines ms));
    }
