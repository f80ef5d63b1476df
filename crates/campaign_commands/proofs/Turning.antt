-- The calls of a ledger as turns
use Rattle.std.specs.Prelude.{◌≡◌, ◌≢◌, ℕ, ◌+◌, Bool, Option, option_map, Result, Ok, Err, IfErr, OnOk, List}
use Rattle.std.proofs.Common.{refl, ap}
use Rattle.cut_disk.specs.declared.Torn.{Torn}
use Rattle.cut_disk.specs.Armed.{ArmsStop, ArmsFail}
use Rattle.cut_disk.specs.Calls.{Rose}
use Rattle.cut_disk.proofs.CallerLemmas.{runs_none}
use Rattle.cell_store.specs.declared.faults.Reread.TheVariants as reread
use Rattle.cell_store.specs.Reading.{CutAndRead}
use Rattle.cell_store.specs.Cells.{CellsState}
use Rattle.memory_update.specs.declared.messages.Request.{Request}
use Rattle.key_campaign.specs.declared.commands.Confirm.{Confirm}
use Rattle.key_campaign.specs.declared.commands.Issue.{Issue}
use Rattle.key_campaign.specs.declared.commands.LedgerCommand.TheVariants as command
use Rattle.key_campaign.specs.declared.lines.LedgerLine.TheVariants as line
use Rattle.key_campaign.specs.Entries.{place_count, entry_for}
use Rattle.key_campaign.specs.Campaign.{SoundLedger}
use Rattle.key_campaign.specs.Steps.{told_entry, LedgerStep}
use Rattle.key_campaign.specs.declared.faults.LedgerCut.{LedgerCut}
use Rattle.key_campaign.specs.declared.faults.LedgerCut.TheVariants as cut
use Rattle.key_campaign.specs.declared.faults.LedgerFault.{LedgerFault}
use Rattle.key_campaign.specs.declared.faults.LedgerFault.TheVariants as fault
use Rattle.key_campaign.specs.Causes.{LedgerCutCause}
use Rattle.key_campaign.specs.Powering.{LedgerComesUp, LedgerStaysDown}
use Rattle.key_campaign.specs.Lines.{ledger_refusal, issued_line, confirmed_line, ledger_cut_line}
use Rattle.key_campaign.specs.State.{LedgerState, FitsLedger, TellsLedger, ServedLedger}
use Rattle.store_keeping.specs.DiskTurns.{CountsFailure}
use Rattle.campaign_commands.specs.Turns.{tells_disk_failure, LeavesRefused, LedgerTurn}

-- ---- an issue and a confirmation

-- the count of faults of a call that answers so
counts_fault : (why : LedgerFault) (old new : LedgerState) → (why ≢ fault.Faulted → new ≡ old) → (why ≡ fault.Faulted → Rose old.store.disk.faults new.store.disk.faults)
    → CountsFailure (tells_disk_failure (line.Refused (ledger_refusal why))) old.store.disk.faults new.store.disk.faults
counts_fault fault.Down old new same rose = ap (λ (s : LedgerState). s.store.disk.faults) (same (λ e. cc))
counts_fault fault.BadPair old new same rose = ap (λ (s : LedgerState). s.store.disk.faults) (same (λ e. cc))
counts_fault fault.Full old new same rose = ap (λ (s : LedgerState). s.store.disk.faults) (same (λ e. cc))
counts_fault fault.Spent old new same rose = ap (λ (s : LedgerState). s.store.disk.faults) (same (λ e. cc))
counts_fault fault.Faulted old new same rose = rose refl
counts_fault fault.Unknown old new same rose = ap (λ (s : LedgerState). s.store.disk.faults) (same (λ e. cc))
counts_fault fault.AlreadyConfirmed old new same rose = ap (λ (s : LedgerState). s.store.disk.faults) (same (λ e. cc))
counts_fault fault.NotConfirmed old new same rose = ap (λ (s : LedgerState). s.store.disk.faults) (same (λ e. cc))

-- what it leaves, unless the disk failed
leaves_refused : (why : LedgerFault) (old new : LedgerState) → (why ≢ fault.Faulted → new ≡ old) → LeavesRefused (line.Refused (ledger_refusal why)) old new
leaves_refused fault.Down old new same = same (λ e. cc)
leaves_refused fault.BadPair old new same = same (λ e. cc)
leaves_refused fault.Full old new same = same (λ e. cc)
leaves_refused fault.Spent old new same = same (λ e. cc)
leaves_refused fault.Faulted old new same = tt
leaves_refused fault.Unknown old new same = same (λ e. cc)
leaves_refused fault.AlreadyConfirmed old new same = same (λ e. cc)
leaves_refused fault.NotConfirmed old new same = same (λ e. cc)

pub turn_of_issue : (i : Issue) (old new : LedgerState) (r : Result (ℕ × Request) LedgerFault) → LedgerStep old.campaign (command.Issue i) (issued_line r) new.campaign
    → IfErr r (λ why. why ≢ fault.Faulted → new ≡ old) → ServedLedger old new r → LedgerTurn old (command.Issue i) (issued_line r) new
turn_of_issue i old new (Ok (counter, request)) step untouched served = record {
  step = λ known. step;
  of_cut = tt;
  disk = record { runs = served.runs; counts = served.faults };
  layout = served.layout;
  fits = served.fits;
  untouched = tt;
  sound = λ _. served.sound;
  stays = tt;
}
turn_of_issue i old new (Err why) step untouched served = record {
  step = λ known. step;
  of_cut = tt;
  disk = record { runs = served.runs; counts = counts_fault why old new untouched (λ is. served.faulted (ap Err is)) };
  layout = served.layout;
  fits = served.fits;
  untouched = leaves_refused why old new untouched;
  sound = λ _. served.sound;
  stays = tt;
}

pub turn_of_confirm : (k : Confirm) (old new : LedgerState) (r : Result ℕ LedgerFault) → LedgerStep old.campaign (command.Confirm k) (confirmed_line r) new.campaign
    → IfErr r (λ why. why ≢ fault.Faulted → new ≡ old) → ServedLedger old new r → LedgerTurn old (command.Confirm k) (confirmed_line r) new
turn_of_confirm k old new (Ok counter) step untouched served = record {
  step = λ known. step;
  of_cut = tt;
  disk = record { runs = served.runs; counts = served.faults };
  layout = served.layout;
  fits = served.fits;
  untouched = tt;
  sound = λ _. served.sound;
  stays = tt;
}
turn_of_confirm k old new (Err why) step untouched served = record {
  step = λ known. step;
  of_cut = tt;
  disk = record { runs = served.runs; counts = counts_fault why old new untouched (λ is. served.faulted (ap Err is)) };
  layout = served.layout;
  fits = served.fits;
  untouched = leaves_refused why old new untouched;
  sound = λ _. served.sound;
  stays = tt;
}

-- ---- the other calls

pub turn_of_show : (uid : List ℕ) (id : ℕ) (s : LedgerState) (told : Option (ℕ × Bool)) → told ≡ option_map told_entry (entry_for uid id s.campaign.entries)
    → LedgerTurn s (command.Show uid id) (line.Shown told) s
turn_of_show uid id s told is = record {
  step = λ known. (is, refl);
  of_cut = tt;
  disk = record { runs = runs_none s.store.disk; counts = refl };
  layout = refl;
  fits = λ fits. fits;
  untouched = refl;
  sound = λ sound. sound;
  stays = tt;
}

counts_cut : (why : LedgerCut) (old new : CellsState) → LedgerCutCause old new why
    → CountsFailure (tells_disk_failure (ledger_cut_line (Err why))) old.disk.faults new.disk.faults
counts_cut (cut.Store reread.DiskFailed) old new cause = cause
counts_cut (cut.Store reread.NotFormatted) old new cause = cause.faults
counts_cut (cut.Store (reread.Damaged cell)) old new cause = cause.faults
counts_cut (cut.BadEntry bad) old new cause = cause.faults

counts_after_cut : (r : Result (Unit {0}) LedgerCut) (old new : CellsState) → OnOk r (new.disk.faults ≡ old.disk.faults) → IfErr r (LedgerCutCause old new)
    → CountsFailure (tells_disk_failure (ledger_cut_line r)) old.disk.faults new.disk.faults
counts_after_cut (Ok done) old new faults cause = faults
counts_after_cut (Err why) old new faults cause = counts_cut why old new cause

pub turn_of_cut : (torn : Torn) (old new : LedgerState) (r : Result (Unit {0}) LedgerCut)
    → (TellsLedger old → LedgerStep old.campaign (command.Cut torn) (ledger_cut_line r) new.campaign)
    → OnOk r (LedgerComesUp old new) → IfErr r (LedgerStaysDown old new) → CutAndRead torn (68 + place_count) old.store.disk new.store.disk
    → new.store.layout ≡ old.store.layout → (FitsLedger old → FitsLedger new) → SoundLedger new.campaign
    → LedgerTurn old (command.Cut torn) (ledger_cut_line r) new
turn_of_cut torn old new (Ok u) step up down cut layout fits sound = record {
  step = step;
  of_cut = record { result = Ok u; line_is = refl; up = up.up; held = up.held; stands = up.stands; down = tt; cause = tt; image = cut.image };
  disk = record { runs = cut.runs; counts = counts_after_cut (Ok u) old.store new.store up.faults tt };
  layout = layout;
  fits = fits;
  untouched = tt;
  sound = λ _. sound;
  stays = cut.stays;
}
turn_of_cut torn old new (Err f) step up down cut layout fits sound = record {
  step = step;
  of_cut = record { result = Err f; line_is = refl; up = tt; held = tt; stands = tt; down = down.refused; cause = down.cause; image = cut.image };
  disk = record { runs = cut.runs; counts = counts_after_cut (Err f) old.store new.store tt down.cause };
  layout = layout;
  fits = fits;
  untouched = tt;
  sound = λ _. sound;
  stays = cut.stays;
}

pub turn_of_stop : (calls : ℕ) (old new : LedgerState) → LedgerStep old.campaign (command.Stop calls) line.Armed new.campaign
    → new ≡ record old { store = record old.store { disk = new.store.disk } } → ArmsStop calls old.store.disk new.store.disk
    → (FitsLedger old → FitsLedger new) → SoundLedger new.campaign → LedgerTurn old (command.Stop calls) line.Armed new
turn_of_stop calls old new step rest arms fits sound = record {
  step = λ known. step;
  of_cut = tt;
  disk = record { runs = arms.runs; counts = arms.faults };
  layout = ap (λ (s : LedgerState). s.store.layout) rest;
  fits = fits;
  untouched = tt;
  sound = λ _. sound;
  stays = tt;
}

pub turn_of_fail : (calls : ℕ) (old new : LedgerState) → LedgerStep old.campaign (command.Fail calls) line.Armed new.campaign
    → new ≡ record old { store = record old.store { disk = new.store.disk } } → ArmsFail calls old.store.disk new.store.disk
    → (FitsLedger old → FitsLedger new) → SoundLedger new.campaign → LedgerTurn old (command.Fail calls) line.Armed new
turn_of_fail calls old new step rest arms fits sound = record {
  step = λ known. step;
  of_cut = tt;
  disk = record { runs = arms.runs; counts = arms.faults };
  layout = ap (λ (s : LedgerState). s.store.layout) rest;
  fits = fits;
  untouched = tt;
  sound = λ _. sound;
  stays = tt;
}
