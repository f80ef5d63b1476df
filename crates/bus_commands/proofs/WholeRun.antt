-- A replay over disks that tell their bytes is one run of the machine, and the texts of its lines were written
use Rattle.std.specs.Prelude.{Ok, Err, Result, List, [], ◌∷◌, ◌++◌, ℕ, length, ◌≡◌}
use Rattle.std.proofs.Common.{refl, sym, ap, ◌∙◌, subst}
use Rattle.bus_port.specs.Sink.{SinkState}
use Rattle.cut_disk.specs.State.{DiskState}
use Rattle.machine_runs.specs.Run.{Moment}
use Rattle.run_driver.specs.declared.printing.Unwritten.{Unwritten}
use Rattle.run_driver.specs.Printed.{Written}
use Rattle.bus_machine.specs.declared.events.Event.{Event}
use Rattle.bus_machine.specs.declared.lines.Line.{Line}
use Rattle.bus_machine.specs.Bus.{World, First, Moments}
use Rattle.bus_config.specs.Buses.{NamedBus, configs_of}
use Rattle.bus_script.specs.LineTexts.{line_text}
use Rattle.bus_world.specs.declared.start.Start.{Start}
use Rattle.bus_world.specs.declared.start.Start.TheVariants.{Format, Attach}
use Rattle.bus_world.specs.Worlds.{BusState, world_of, EachFits}
use Rattle.bus_world.specs.NodeDisks.{DisksStay}
use Rattle.bus_world.specs.WorldRuns.{IsFirstOf}
use Rattle.bus_world.specs.WorldTurns.{seen, TakesTurns, TurnsLeaveDisks, TurnsAreWorldRuns, StartsSetUp, StartsBeginAtFirst, StartsGoOnFirst}
use Rattle.bus_world.proofs.CallerLemmas.{same_lines, same_length}
use Rattle.bus_commands.specs.Replays.{ReplayTurns}
use Rattle.bus_commands.specs.Headline.{Replayed, ReplaysAreRuns}

-- ---- the texts

seen_more : (front : List (Moment Event Line BusState)) (last : Moment Event Line BusState) → seen (front ++ last ∷ []) ≡ seen front ++ seen (last ∷ [])
seen_more [] last = refl
seen_more (m ∷ ms) last = ap (λ (xs : Moments). seen (m ∷ []) ++ xs) (seen_more ms last)

-- the same texts were written
pub written_as : (text : ℕ → Line → List ℕ) (ms : List (Moment Event Line BusState)) (events : List Event) (before after : SinkState) (result : Result (Unit {0}) Unwritten)
    → Written text before after events result ms → Written text before after events result (seen ms)
written_as text ms events before after (Ok done) written =
    (same_length ms ∙ written.0, rw (same_lines ms) written.1)
written_as text ms events before after (Err cause) written = record {
  front = seen written.front;
  last = record { command = written.last.command; line = written.last.line; after = world_of written.last.after };
  all = ap seen written.all ∙ seen_more written.front written.last;
  written = rw (same_lines written.front) (rw (same_length ms) written.written);
}

-- ---- the run

module _ (how : Start) (bus : NamedBus) (before after : List DiskState) (events : List Event) (sink_before sink_after : SinkState) (result : Result (Unit {0}) Unwritten)
    (ran : ReplayTurns how bus before after events sink_before sink_after result) where
  turns_taken : TakesTurns bus before after events ran.start ran.printed.moments ran.now
  turns_taken = record { run = ran.printed.run; of_events = ran.printed.first; disks = ran.disks }

  pub replay_stays : StartsSetUp → TurnsLeaveDisks → DisksStay bus before after (seen ran.printed.moments)
  replay_stays set_up leave =
      leave bus before after events ran.start ran.printed.moments ran.now (set_up how bus (length events) before ran.start ran.started) turns_taken

  -- from where it was set up, over disks that fit
  run_from : StartsSetUp → TurnsAreWorldRuns → EachFits ran.start → IsFirstOf bus (world_of ran.start) → Replayed (world_of ran.start) bus before after events sink_before sink_after result
  run_from set_up runs fits is_first = record {
    moments = seen ran.printed.moments;
    last = world_of ran.now;
    run = runs bus before after events ran.start ran.printed.moments ran.now (set_up how bus (length events) before ran.start ran.started) fits is_first turns_taken;
    written = written_as line_text ran.printed.moments events sink_before sink_after result ran.printed.holds;
  }

pub whole_run : StartsSetUp → StartsBeginAtFirst → StartsGoOnFirst → TurnsAreWorldRuns → ReplaysAreRuns
whole_run set_up begin goes_on runs Format bus before after events sink_before sink_after result ran tell =
    let begun = begin bus (length events) before ran.start ran.is_bus ran.started tell in
    record {
      first = First (configs_of bus);
      begins = refl;
      replayed = subst (λ (w : World). Replayed w bus before after events sink_before sink_after result) begun.first
          (run_from Format bus before after events sink_before sink_after result ran set_up runs begun.fits (subst (IsFirstOf bus) (sym begun.first) begun.is_first));
    }
whole_run set_up begin goes_on runs Attach bus before after events sink_before sink_after result ran tell =
    let begun = goes_on bus (length events) before ran.start ran.is_bus ran.started tell in
    record {
      first = world_of ran.start;
      begins = begun.goes_on;
      replayed = run_from Attach bus before after events sink_before sink_after result ran set_up runs begun.fits begun.is_first;
    }
