-- What each command does to a ledger and its disk, whether the disk tells its bytes or not (own)
use Rattle.std.specs.Prelude.{◌≡◌, ℕ, ◌+◌, Bool, true, false, Option, None, Some, Result, OnOk, OnErr, IfErr}
use Rattle.cut_disk.specs.declared.Mark.{Mark}
use Rattle.cut_disk.specs.State.{Cut, Stop, Fail, DiskState}
use Rattle.cut_disk.specs.Images.{CutsTo}
use Rattle.cell_store.specs.Reading.{CutStays}
use Rattle.cell_store.specs.Cells.{StandsNow}
use Rattle.store_keeping.specs.DiskTurns.{DiskTurn}
use Rattle.key_campaign.specs.declared.commands.LedgerCommand.{LedgerCommand}
use Rattle.key_campaign.specs.declared.commands.LedgerCommand.TheVariants as command
use Rattle.key_campaign.specs.declared.lines.LedgerLine.{LedgerLine}
use Rattle.key_campaign.specs.declared.lines.LedgerLine.TheVariants as line
use Rattle.key_campaign.specs.declared.lines.LedgerRefusal.TheVariants as refusal
use Rattle.key_campaign.specs.Entries.{place_count}
use Rattle.key_campaign.specs.Campaign.{powered_ledger, stays_off, SoundLedger}
use Rattle.key_campaign.specs.Steps.{LedgerStep}
use Rattle.key_campaign.specs.declared.faults.LedgerCut.{LedgerCut}
use Rattle.key_campaign.specs.Causes.{LedgerCutCause}
use Rattle.key_campaign.specs.Cell.{HoldEntries}
use Rattle.key_campaign.specs.Lines.{ledger_cut_line}
use Rattle.key_campaign.specs.State.{LedgerState, FitsLedger, TellsLedger}

-- the mark that a command leaves in the disk's past
abbrev pub ledger_mark : LedgerCommand → Option Mark
ledger_mark (command.Cut torn) = Some (Cut torn)
ledger_mark (command.Stop calls) = Some (Stop calls)
ledger_mark (command.Fail calls) = Some (Fail calls)
ledger_mark cmd = None

-- the most calls of the disk that a command makes: a put, a cut and the reading of a header and of 256 cells, or one
-- call
abbrev pub ledger_calls : LedgerCommand → ℕ
ledger_calls (command.Issue i) = 6
ledger_calls (command.Confirm k) = 6
ledger_calls (command.Show uid id) = 0
ledger_calls (command.Cut torn) = 68 + place_count
ledger_calls (command.Stop calls) = 1
ledger_calls (command.Fail calls) = 1

-- the line tells a failure of the disk
abbrev pub tells_disk_failure : LedgerLine → Bool
tells_disk_failure (line.Refused refusal.MemoryFailure) = true
tells_disk_failure _ = false

-- if it is known that a command and its line are a step of the machine: a cut's only over a disk that tells its bytes,
-- which fit the ledger; anything else's always
abbrev pub StepIsKnown : LedgerCommand → LedgerState → Type 0
StepIsKnown (command.Cut torn) s = TellsLedger s
StepIsKnown cmd s = Unit {0}

-- What a power cut leads to over a disk of any kind. The ledger is up with the entries that its store's cells hold, and
-- told bytes stand for these. Or it is down with the entries and the pending change that it had. The disk failed, or
-- told bytes show another cause, and its line tells which.
pub record AnswersLedgerCut (old : LedgerState) (told : LedgerLine) (new : LedgerState) : Type 0 where
  pub result : Result (Unit {0}) LedgerCut
  pub line_is : told ≡ ledger_cut_line result
  pub up : OnOk result (new.campaign ≡ powered_ledger new.campaign.entries)
  pub held : OnOk result (HoldEntries new.store.cells new.campaign.entries)
  pub stands : OnOk result (StandsNow new.store)
  pub down : OnErr result (new.campaign ≡ stays_off old.campaign)
  pub cause : IfErr result (LedgerCutCause old.store new.store)
  pub image : CutsTo old.store.disk.told new.store.disk.told

-- what is answered to a cut, and nothing more of any other command
abbrev pub AnswersIfCut : LedgerCommand → LedgerState → LedgerLine → LedgerState → Type 0
AnswersIfCut (command.Cut torn) old told new = AnswersLedgerCut old told new
AnswersIfCut cmd old told new = Unit {0}

-- after a power cut nothing is written: each entry that a told past got has what the cut left
abbrev pub StaysIfCut : LedgerCommand → DiskState → DiskState → Type 0
StaysIfCut (command.Cut torn) old new = CutStays torn old new
StaysIfCut cmd old new = Unit {0}

-- what a refused issue or confirmation leaves: all, unless the disk failed
abbrev pub LeavesRefused : LedgerLine → LedgerState → LedgerState → Type 0
LeavesRefused (line.Refused refusal.MemoryFailure) old new = Unit {0}
LeavesRefused (line.Refused why) old new = new ≡ old
LeavesRefused told old new = Unit {0}

-- a command that did nothing leaves the ledger, its store and its disk as they were; a show always does
abbrev pub LeavesLedgerAlone : LedgerCommand → LedgerLine → LedgerState → LedgerState → Type 0
LeavesLedgerAlone (command.Issue i) told old new = LeavesRefused told old new
LeavesLedgerAlone (command.Confirm k) told old new = LeavesRefused told old new
LeavesLedgerAlone (command.Show uid id) told old new = new ≡ old
LeavesLedgerAlone cmd told old new = Unit {0}

-- A command and its line are a turn of the disk, and a step of the machine, whether the disk tells its bytes or not. Of
-- a cut the step is known if these fit the ledger, and its answer with its cause always. A disk that fits stays so.
pub record LedgerTurn (old : LedgerState) (cmd : LedgerCommand) (told : LedgerLine) (new : LedgerState) : Type 0 where
  pub step : StepIsKnown cmd old → LedgerStep old.campaign cmd told new.campaign
  pub of_cut : AnswersIfCut cmd old told new
  pub disk : DiskTurn (ledger_mark cmd) (ledger_calls cmd) (tells_disk_failure told) old.store.disk new.store.disk
  pub layout : new.store.layout ≡ old.store.layout
  pub fits : FitsLedger old → FitsLedger new
  pub untouched : LeavesLedgerAlone cmd told old new
  pub sound : SoundLedger old.campaign → SoundLedger new.campaign
  pub stays : StaysIfCut cmd old.store.disk new.store.disk
