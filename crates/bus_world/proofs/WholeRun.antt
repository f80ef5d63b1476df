-- All that holds of a run of a bus over disks that tell their bytes, put together
use Rattle.std.specs.Prelude.{List, ◌∷◌}
use Rattle.std.proofs.Common.{subst}
use Rattle.machine_runs.specs.Run.{Moment, Run}
use Rattle.machine_runs.proofs.CallerLemmas.{Run-split}
use Rattle.cut_disk.specs.State.{DiskState}
use Rattle.bus_machine.specs.declared.events.Event.{Event}
use Rattle.bus_machine.specs.declared.lines.Line.{Line}
use Rattle.bus_machine.specs.Bus.{World, Moments, Step}
use Rattle.bus_machine.specs.Skips.{SkipsLittle}
use Rattle.bus_laws.specs.Laws.{IsFirst, RunsAreCovered, RunsRise, RunsAreAuthentic, RunsAreSingle, RunsKeepKeys, CutsSkipLittle, HonestIsHeard, EventsDetermineLines}
use Rattle.bus_config.specs.Buses.{NamedBus}
use Rattle.bus_world.specs.Worlds.{BusState, world_of, EachFits, TurnsAreRuns}
use Rattle.bus_world.proofs.StartRowLaws.{no_disk}
use Rattle.bus_world.specs.WorldRuns.{IsFirstOf, EachSkipsLittle, WorldRun}
use Rattle.bus_world.specs.WorldTurns.{seen, SetUp, TakesTurns}
use Rattle.bus_world.proofs.TurnLaws.{turns_are_lines, first_commands}
use Rattle.bus_world.proofs.DisksBack.{failures_at, disks_follow}
use Rattle.bus_world.proofs.Honesty.{state_at, honest}

-- the laws of the crates below, as their public functions ensure them
pub record Laws : Type 0 where
  pub turns : TurnsAreRuns
  pub cover : RunsAreCovered
  pub rise : RunsRise
  pub are_authentic : RunsAreAuthentic
  pub are_single : RunsAreSingle
  pub keep_keys : RunsKeepKeys
  pub skip_little : CutsSkipLittle
  pub hear : HonestIsHeard
  pub determine : EventsDetermineLines

cuts_skip_little : CutsSkipLittle → (first : World) (ms : Moments) (last : World) → IsFirst first → Run Step first ms last → EachSkipsLittle first ms
cuts_skip_little law first ms last is run = λ front rest m whole.
    let parts = Run-split Step first front (m ∷ rest) last (subst (λ (xs : Moments). Run Step first xs last) whole run) in
    subst (λ (w : World). SkipsLittle first front w m) (state_at first front parts.0 parts.1)
    (law first front parts.0 is parts.1 m parts.2.0)

pub world_run : (laws : Laws) (bus : NamedBus) (before after : List DiskState) (events : List Event) (start : BusState) (ms : List (Moment Event Line BusState)) (now : BusState)
    → SetUp bus before start → EachFits start → IsFirstOf bus (world_of start) → TakesTurns bus before after events start ms now
    → WorldRun (world_of start) bus before after events (seen ms) (world_of now)
world_run laws bus before after events start ms now set_up fits is taken =
    let first : World = world_of start in
    let run : Run Step first (seen ms) (world_of now) = (laws.turns start now ms fits taken.run).0 in
    let done = first_commands ms events taken.of_events in
    let failures = failures_at bus before after events start ms now set_up taken in
    record {
      begins = is;
      is_a_run = run;
      of_events = done;
      are_lines = turns_are_lines start ms now taken.run;
      rising = laws.rise first (seen ms) (world_of now) is.is_first run;
      authentic = laws.are_authentic first (seen ms) (world_of now) is.is_first run;
      single = laws.are_single first (seen ms) (world_of now) is.is_first run is.one_sender;
      keys_kept = laws.keep_keys first (seen ms) (world_of now) is.is_first run;
      cuts_skip_little = cuts_skip_little laws.skip_little first (seen ms) (world_of now) is.is_first run;
      covered = laws.cover first (seen ms) (world_of now) is.is_first run;
      disks = disks_follow bus before after events start ms now set_up taken laws.turns fits;
      failures = failures;
      honest = honest bus before after events first (seen ms) (world_of now) is run laws.hear laws.determine no_disk (λ i inside. failures i no_disk inside) done;
    }
