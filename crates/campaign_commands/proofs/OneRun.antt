-- What holds of a campaign over a disk that tells its bytes
use Rattle.std.specs.Prelude.{◌≡◌, ℕ, suc, Bool, Ok, Err, Result, List, [], ◌∷◌, ◌++◌, length, take}
use Rattle.std.proofs.Common.{refl, sym, ap, ◌∙◌, subst}
use Rattle.bus_port.specs.Sink.{SinkState}
use Rattle.machine_runs.specs.Run.{Moment, Run, seen_as, commands_in, lines_in}
use Rattle.machine_runs.proofs.CallerLemmas.{Run-seen_as}
use Rattle.run_driver.specs.declared.printing.Unwritten.{Unwritten}
use Rattle.run_driver.specs.Printed.{Written}
use Rattle.cut_disk.specs.State.{DiskState}
use Rattle.cut_disk.specs.Calls.{Later}
use Rattle.cut_disk.proofs.CallerLemmas.{later_of_runs, later_join, runs_none}
use Rattle.cell_store.specs.declared.kinds.Layout.{Layout}
use Rattle.store_keeping.specs.Keeping.{Fits}
use Rattle.store_keeping.proofs.CallerLemmas.{told_before, fits_store, tells_kept, failures_told, traced_since}
use Rattle.store_keeping.specs.DiskTurns.{DiskTurn, TellsBytes, TracedSince, FailuresTold}
use Rattle.key_campaign.specs.declared.commands.LedgerCommand.{LedgerCommand}
use Rattle.key_campaign.specs.declared.commands.LedgerCommand.TheVariants as command
use Rattle.key_campaign.specs.declared.lines.LedgerLine.{LedgerLine}
use Rattle.key_campaign.specs.Campaign.{Campaign, powered_ledger, SoundLedger}
use Rattle.key_campaign.specs.Steps.{LedgerStep}
use Rattle.key_campaign.specs.Claims.{LedgerMoment, BeginsLedger, RunsCountersRise, RunsBuildUpdates, RunsAreAllowed, RunsConfirmByReply, RunsKeepEntries, RunsSkipFew}
use Rattle.key_campaign.specs.State.{LedgerState, keeping_of, TellsLedger}
use Rattle.campaign_commands.specs.LedgerTexts.{ledger_line_text}
use Rattle.campaign_commands.specs.Turns.{ledger_mark, ledger_calls, tells_disk_failure, StepIsKnown, LedgerTurn}
use Rattle.campaign_commands.specs.Opening.{ledger_layout, calls_to_open, TellsFirm}
use Rattle.campaign_commands.specs.Headline.{RanCampaign, FitsCampaign, LedgerDisk, LedgerDiskStays, Campaigned, ledger_seen}

-- the laws of the machine, as its public functions ensure them
pub record Laws : Type 0 where
  pub rise : RunsCountersRise
  pub build : RunsBuildUpdates
  pub allow : RunsAreAllowed
  pub confirm : RunsConfirmByReply
  pub keep : RunsKeepEntries
  pub skip : RunsSkipFew

-- ---- moments of a ledger over its disk, and those of the machine

abbrev LedgerDone : Type 0
LedgerDone = Moment LedgerCommand LedgerLine LedgerState

abbrev campaign_in : LedgerState → Campaign
campaign_in s = s.campaign

abbrev disk_in : LedgerState → DiskState
disk_in s = s.store.disk

abbrev seen : List LedgerDone → List LedgerMoment
seen ms = seen_as (λ (c : LedgerCommand). c) campaign_in ms

abbrev calls_of : Campaign → LedgerCommand → ℕ
calls_of c cmd = ledger_calls cmd

abbrev fails_with : LedgerCommand → LedgerLine → Bool
fails_with cmd told = tells_disk_failure told

same_commands : (ms : List LedgerDone) → commands_in (seen ms) ≡ commands_in ms
same_commands [] = refl
same_commands (m ∷ ms) = ap (λ (cs : List LedgerCommand). m.command ∷ cs) (same_commands ms)

same_lines : (ms : List LedgerDone) → lines_in (seen ms) ≡ lines_in ms
same_lines [] = refl
same_lines (m ∷ ms) = ap (λ (ls : List LedgerLine). m.line ∷ ls) (same_lines ms)

same_length : (ms : List LedgerDone) → length (seen ms) ≡ length ms
same_length [] = refl
same_length (m ∷ ms) = ap suc (same_length ms)

first_commands : (ms : List LedgerDone) (commands : List LedgerCommand) → commands_in ms ≡ take (length ms) commands
    → commands_in (seen ms) ≡ take (length (seen ms)) commands
first_commands ms commands first = same_commands ms ∙ first ∙ ap (λ (n : ℕ). take n commands) (sym (same_length ms))

seen_more : (front : List LedgerDone) (last : LedgerDone) → seen (front ++ last ∷ []) ≡ seen front ++ seen (last ∷ [])
seen_more [] last = refl
seen_more (m ∷ ms) last = ap (λ (xs : List LedgerMoment). seen (m ∷ []) ++ xs) (seen_more ms last)

-- the same texts were written
written_seen : (ms : List LedgerDone) (commands : List LedgerCommand) (before after : SinkState) (result : Result (Unit {0}) Unwritten)
    → Written ledger_line_text before after commands result ms → Written ledger_line_text before after commands result (seen ms)
written_seen ms commands before after (Ok done) written = (same_length ms ∙ written.0, rw (same_lines ms) written.1)
written_seen ms commands before after (Err cause) written = record {
  front = seen written.front;
  last = record { command = written.last.command; line = written.last.line; after = written.last.after.campaign };
  all = ap seen written.all ∙ seen_more written.front written.last;
  written = rw (same_lines written.front) (rw (same_length ms) written.written);
}

-- ---- a ledger whose disk tells bytes that fit

-- in the layout of a ledger
pub record TellsAll (s : LedgerState) : Type 0 where
  pub tells : TellsLedger s
  pub laid_out : s.store.layout ≡ ledger_layout

keeps_telling : (s : LedgerState) (cmd : LedgerCommand) (told : LedgerLine) (t : LedgerState) → TellsAll s → LedgerTurn s cmd told t → TellsAll t
keeps_telling s cmd told t all turn =
    let fits = turn.fits (fits_store (keeping_of s.campaign) s.store all.tells) in
    let now = told_before t.store.disk.told s.store.disk.told (sym turn.disk.runs.tells) all.tells.now all.tells.told in
    record {
      tells = tells_kept (keeping_of t.campaign) t.store fits now.0 now.1;
      laid_out = turn.layout ∙ all.laid_out;
    }

turns : (s : LedgerState) (cmd : LedgerCommand) (told : LedgerLine) (t : LedgerState) → TellsAll s → LedgerTurn s cmd told t
    → DiskTurn (ledger_mark cmd) (calls_of (campaign_in t) cmd) (fails_with cmd told) (disk_in s) (disk_in t) × TellsAll t
turns s cmd told t all turn = (turn.disk, keeps_telling s cmd told t all turn)

-- bytes that fit make the step of every command known
known_of : (cmd : LedgerCommand) (s : LedgerState) → TellsLedger s → StepIsKnown cmd s
known_of (command.Issue i) s tells = tt
known_of (command.Confirm k) s tells = tt
known_of (command.Show uid id) s tells = tt
known_of (command.Cut torn) s tells = tells
known_of (command.Stop calls) s tells = tt
known_of (command.Fail calls) s tells = tt

steps : (s : LedgerState) (cmd : LedgerCommand) (told : LedgerLine) (t : LedgerState) → TellsAll s → LedgerTurn s cmd told t
    → LedgerStep (campaign_in s) cmd told (campaign_in t) × TellsAll t
steps s cmd told t all turn = (turn.step (known_of cmd s all.tells), keeps_telling s cmd told t all turn)

fitting : (s : LedgerState) → TellsAll s → TellsBytes (FitsCampaign (campaign_in s)) (disk_in s)
fitting s all = record {
  now = all.tells.now;
  told = all.tells.told;
  fit = subst (λ (l : Layout). Fits l (keeping_of s.campaign) all.tells.now) all.laid_out all.tells.fits;
}

ends_telling : (start : LedgerState) (ms : List LedgerDone) (now : LedgerState) → TellsAll start → Run LedgerTurn start ms now → TellsAll now
ends_telling start [] now all run = subst TellsAll (sym run) all
ends_telling start (m ∷ ms) now all run = ends_telling m.after ms now (keeps_telling start m.command m.line m.after all run.0) run.1

-- ---- the disk, whether it tells its bytes or not

any_turns : (s : LedgerState) (cmd : LedgerCommand) (told : LedgerLine) (t : LedgerState) → Unit {0} → LedgerTurn s cmd told t
    → DiskTurn (ledger_mark cmd) (calls_of (campaign_in t) cmd) (fails_with cmd told) (disk_in s) (disk_in t) × Unit {0}
any_turns s cmd told t any turn = (turn.disk, tt)

later_after : (s : LedgerState) (ms : List LedgerDone) (t : LedgerState) → Run LedgerTurn s ms t → Later (disk_in s) (disk_in t)
later_after s [] t run = subst (λ (x : LedgerState). Later (disk_in s) (disk_in x)) (sym run) (later_of_runs (runs_none (disk_in s)))
later_after s (m ∷ ms) t run = later_join (later_of_runs run.0.disk.runs) (later_after m.after ms t run.1)

pub ledger_stays : (before after : DiskState) (commands : List LedgerCommand) (sink_before sink_after : SinkState) (result : Result (Unit {0}) Unwritten)
    (ran : RanCampaign before after commands sink_before sink_after result) → LedgerDiskStays before after (ledger_seen ran.printed.moments)
ledger_stays before after commands sink_before sink_after result ran =
    let ms = ran.printed.moments in
    subst (λ (d : DiskState). LedgerDiskStays before d (ledger_seen ms)) (sym ran.disk) (record {
      later = later_join (later_of_runs ran.opened.opened.runs) (later_after ran.start ms ran.now ran.printed.run);
      failures = failures_told LedgerTurn campaign_in disk_in ledger_mark calls_of fails_with (λ _. Unit {0}) any_turns calls_to_open before ran.start ms ran.now
          ran.opened.opened tt ran.printed.run;
    })

-- ---- all of one run

module _ (laws : Laws) (before after : DiskState) (commands : List LedgerCommand) (sink_before sink_after : SinkState) (result : Result (Unit {0}) Unwritten)
    (ran : RanCampaign before after commands sink_before sink_after result) (firm : TellsFirm before) where
  abbrev ms : List LedgerDone
  ms = ran.printed.moments

  abbrev entries-start : Campaign
  entries-start = powered_ledger ran.start.campaign.entries

  abbrev last : Campaign
  last = ran.now.campaign

  all-start : TellsAll ran.start
  all-start = record { tells = ran.opened.tells firm; laid_out = ran.opened.laid_out }

  begins : BeginsLedger entries-start
  begins = record { sound = subst SoundLedger ran.opened.up ran.opened.sound; calm = refl }

  one_run : Run LedgerStep entries-start (seen ms) last
  one_run = subst (λ (c : Campaign). Run LedgerStep c (seen ms) last) ran.opened.up
      (Run-seen_as LedgerTurn LedgerStep (λ (c : LedgerCommand). c) campaign_in TellsAll steps ran.start ms ran.now all-start ran.printed.run)

  failed : FailuresTold ledger_mark fails_with (seen ms) before after
  failed = subst (λ (d : DiskState). FailuresTold ledger_mark fails_with (seen ms) before d) (sym ran.disk)
      (failures_told LedgerTurn campaign_in disk_in ledger_mark calls_of fails_with TellsAll turns calls_to_open before ran.start ms ran.now ran.opened.opened all-start ran.printed.run)

  disk_is : LedgerDisk before after entries-start (seen ms) last
  disk_is =
      let end = fitting ran.now (ends_telling ran.start ms ran.now all-start ran.printed.run) in
      record {
        now = end.now;
        told = ap (λ (d : DiskState). d.told) ran.disk ∙ end.told;
        fits = end.fit;
        traced = λ all tells.
            subst (λ (c : Campaign). TracedSince ledger_mark calls_of FitsCampaign c (seen ms) before all) ran.opened.up
            (traced_since LedgerTurn campaign_in disk_in ledger_mark calls_of fails_with TellsAll turns FitsCampaign fitting calls_to_open before ran.start ms ran.now
            ran.opened.opened all-start ran.printed.run all (sym (ap (λ (d : DiskState). d.past) ran.disk) ∙ tells));
      }

  pub campaigned : Campaigned before after commands sink_before sink_after result
  campaigned = record {
    entries = ran.start.campaign.entries;
    moments = seen ms;
    last = last;
    starts = ran.opened.starts;
    entries_are = ran.opened.sound.entries_are;
    is_a_run = one_run;
    first = first_commands ms commands ran.printed.first;
    written = written_seen ms commands sink_before sink_after result ran.printed.holds;
    disks = disk_is;
    failures = failed;
    counters_rise = laws.rise entries-start (seen ms) last begins one_run;
    builds = laws.build entries-start (seen ms) last begins one_run;
    taken = laws.allow entries-start (seen ms) last begins one_run;
    confirmed_by_a_reply = laws.confirm entries-start (seen ms) last begins one_run;
    none_goes = laws.keep entries-start (seen ms) last begins one_run;
    few_are_skipped = laws.skip entries-start (seen ms) last begins one_run;
  }
