-- What was done of a bus that was looked at before its start, over the disks as they were before the look
use Rattle.std.specs.Prelude.{◌≡◌, ◌≤◌, ◌+◌, ℕ, List, length, drop, ◌++◌, get_or, Some, Result}
use Rattle.std.proofs.Common.{suc, zero, refl, sym, ap, ◌∙◌, arith}
use Rattle.cut_disk.specs.State.{DiskState}
use Rattle.cut_disk.proofs.CallerLemmas.{runs_join, grows_after}
use Rattle.program_edge.specs.Rows.{Row}
use Rattle.program_edge.specs.Endings.{Ending}
use Rattle.run_driver.specs.declared.printing.Unwritten.{Unwritten}
use Rattle.bus_machine.specs.declared.events.Event.{Event}
use Rattle.bus_config.specs.Buses.{NamedBus}
use Rattle.bus_script.specs.LineTexts.{line_text}
use Rattle.bus_world.specs.declared.start.Start.TheVariants.{Attach}
use Rattle.bus_world.specs.Worlds.{world_of}
use Rattle.bus_world.specs.Starts.{HasRoom, StartsOver, disks_of}
use Rattle.bus_world.specs.StartAnswers.{DiskStates, ComesOfStart, ComesUnstarted, disks_refused, store_refused, start_without_memory}
use Rattle.bus_world.specs.WorldTurns.{seen, SetUp, TakesTurns, TellFirm, TurnsLeaveDisks, TurnsAreWorldRuns, StartsSetUp, StartsGoOnFirst, GoesOnFirst}
use Rattle.bus_world.proofs.CallerLemmas.{no_room_fault}
use Rattle.kept_starts.specs.LookedAt.{LookedAt, look_calls, no_room, looked}
use Rattle.kept_starts.specs.KeepRows.{ComesKept, of_start}
use Rattle.kept_starts.proofs.CallerLemmas.{firm_then, look_at, look_count, room_then, same_told}
use Rattle.program_edge.proofs.CallerLemmas.{EndsInRow-more}
use Rattle.bus_commands.specs.Rows.{DoneReplay}
use Rattle.bus_commands.specs.Headline.{ReplayedOver}
use Rattle.bus_commands.specs.Steps.{AnswersReplay, refused_replay, first_done}
use Rattle.bus_commands.specs.Keeping.{DoneKept, AnswersKeepReplay, refused_kept, kept_done}
use Rattle.bus_commands.proofs.WholeRun.{written_as}

-- ---- a start that is refused after the look

-- its row is that of 9 only if there is no room, and then no disk was looked at
nine_without_room : (bus : NamedBus) (d : DiskStates) (disks : List DiskState) → LookedAt bus d.before disks → (row : Row)
    → ComesOfStart Attach bus (record { before = disks; after = d.after }) row → row.status ≡ 9 → ¬ HasRoom bus d.before
nine_without_room bus d disks look _ (disks_refused fault finds left) is =
    λ room. no_room_fault bus disks fault (room_then bus d.before disks look room) finds
nine_without_room bus d disks look _ (store_refused fault also cause leaves) is = absurd (let no : ⊥ = omega (arith, is) in no)
nine_without_room bus d disks look _ (start_without_memory fault may refused calm) is = absurd (let no : ⊥ = omega (arith, is) in no)

pub comes_behind_look : (same known : Type 0) (bus : NamedBus) (d : DiskStates) (disks : List DiskState) → LookedAt bus d.before disks
    → (¬ HasRoom bus d.before → known → same) → (row : Row)
    → ComesUnstarted known Attach bus (record { before = disks; after = d.after }) row → ComesKept same bus d row
comes_behind_look same known bus d disks look back row comes =
    of_start disks look (comes.0, λ nine. back (nine_without_room bus d disks look row comes.0 nine) (comes.1 nine))

-- one disk has no room for more nodes
pub no_room_for_many : (bus : NamedBus) (disks : List DiskState) {count : ℕ} → 1 ≤ length bus.nodes → length disks ≡ count → count ≡ 1 → ¬ (length bus.nodes ≡ 1) → ¬ HasRoom bus disks
no_room_for_many bus disks some long one many room = many (omega (arith, some, long, one, room.enough))

-- ---- a run after the look

-- the disks that no look is at are as they were
rest_same : (k : ℕ) (bus : NamedBus) (before disks : List DiskState) → LookedAt bus before disks → 1 ≤ k → drop k disks ≡ drop k before
rest_same zero bus before disks look some = absurd (let no : ⊥ = omega (arith, some) in no)
rest_same (suc k) bus before _ (no_room none) some = refl
rest_same (suc k) bus before _ (looked disk first rest is room look keeps older) some = sym (ap (λ (ds : List DiskState). drop (suc k) ds) is)

module _ (set_up : StartsSetUp) (go_on : StartsGoOnFirst) (leave : TurnsLeaveDisks) (runs : TurnsAreWorldRuns)
    (bus : NamedBus) (d : DiskStates) (events : List Event) (e : Ending) (result : Result (Unit {0}) Unwritten)
    (disks : List DiskState) (look : LookedAt bus d.before disks)
    (done : DoneReplay Attach bus events (record { before = disks; after = d.after }) e result) where
  set_up_before : SetUp bus d.before done.ran.start
  set_up_before =
      let s = set_up Attach bus (length events) disks done.ran.start done.ran.started in
      record {
        enough = omega (arith, s.enough, look_count bus d.before disks look);
        count = s.count;
        layout_is = s.layout_is;
        opened = λ i disk n inside.
            let o = s.opened i disk n inside in
            let at = look_at bus d.before disks look i disk in
            (look_calls bus + o.0, record { runs = runs_join at.runs o.1.runs; grows = grows_after at.runs o.1.grows; faults = o.1.faults ∙ at.faults });
      }

  turns_before : TakesTurns bus d.before d.after events done.ran.start done.ran.printed.moments done.ran.now
  turns_before = record {
    run = done.ran.printed.run;
    of_events = done.ran.printed.first;
    disks = done.ran.disks ∙ ap (λ (ds : List DiskState). disks_of done.ran.now.nodes ++ ds) (rest_same (length bus.nodes) bus d.before disks look done.ran.is_bus.least);
  }

  -- the look changed no byte, so it goes on where the disks stood before it
  goes_before : GoesOnFirst bus disks done.ran.start → StartsOver bus d.before (world_of done.ran.start)
  goes_before first = record {
    no_event = first.goes_on.no_event;
    nothing_sent = first.goes_on.nothing_sent;
    count = first.goes_on.count;
    nodes = λ i line disk inside. record {
      just_powered = (first.goes_on.nodes i line disk inside).just_powered;
      kept = λ t tells. (first.goes_on.nodes i line disk inside).kept t (same_told bus d.before disks look i disk ∙ tells);
    };
  }

  run_before : TellFirm bus d.before → ReplayedOver Attach bus d.before d.after events e.before e.after result
  run_before tell =
      let first = go_on bus (length events) disks done.ran.start done.ran.is_bus done.ran.started (firm_then bus d.before disks look tell) in
      record {
        first = world_of done.ran.start;
        begins = goes_before first;
        replayed = record {
          moments = seen done.ran.printed.moments;
          last = world_of done.ran.now;
          run = runs bus d.before d.after events done.ran.start done.ran.printed.moments done.ran.now set_up_before first.fits first.is_first turns_before;
          written = written_as line_text done.ran.printed.moments events e.before e.after result done.ran.printed.holds;
        };
      }

  pub kept_run : DoneKept bus events d e result
  kept_run = record {
    looked = disks;
    look = look;
    ran = done.ran;
    status_is = done.status_is;
    stay = leave bus d.before d.after events done.ran.start done.ran.printed.moments done.ran.now set_up_before turns_before;
    one_run = run_before;
  }

-- how the replay after the look ends
pub kept_answers : StartsSetUp → StartsGoOnFirst → TurnsLeaveDisks → TurnsAreWorldRuns → (same known : Type 0) (bus : NamedBus) (events : List Event)
    (d : DiskStates) (disks : List DiskState) (e : Ending) → LookedAt bus d.before disks → (¬ HasRoom bus d.before → known → same)
    → AnswersReplay known Attach bus events (record { before = disks; after = d.after }) e → AnswersKeepReplay same bus events d e
kept_answers set_up go_on leave runs same known bus events d disks e look back (refused_replay ends) =
    refused_kept (EndsInRow-more (comes_behind_look same known bus d disks look back) ends)
kept_answers set_up go_on leave runs same known bus events d disks e look back (first_done result done) =
    kept_done result (kept_run set_up go_on leave runs bus d events e result disks look done)
