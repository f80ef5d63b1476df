-- The line of the machine that each answer of a ledger stands for
use Rattle.std.specs.Prelude.{ℕ, Result, Ok, Err}
use Rattle.cell_store.specs.declared.faults.Reread.TheVariants as reread
use Rattle.memory_update.specs.declared.messages.Request.{Request}
use Rattle.key_campaign.specs.declared.lines.LedgerLine.{LedgerLine}
use Rattle.key_campaign.specs.declared.lines.LedgerLine.TheVariants as line
use Rattle.key_campaign.specs.declared.lines.LedgerRefusal.{LedgerRefusal}
use Rattle.key_campaign.specs.declared.lines.LedgerRefusal.TheVariants as refusal
use Rattle.key_campaign.specs.declared.faults.LedgerFault.{LedgerFault}
use Rattle.key_campaign.specs.declared.faults.LedgerFault.TheVariants as fault
use Rattle.key_campaign.specs.declared.faults.LedgerCut.{LedgerCut}
use Rattle.key_campaign.specs.declared.faults.LedgerCut.TheVariants as cut

-- each refusal by its name; a failure of the disk is `MemoryFailure`
abbrev pub ledger_refusal : LedgerFault → LedgerRefusal
ledger_refusal fault.Down = refusal.Down
ledger_refusal fault.BadPair = refusal.BadPair
ledger_refusal fault.Full = refusal.Full
ledger_refusal fault.Spent = refusal.Spent
ledger_refusal fault.Faulted = refusal.MemoryFailure
ledger_refusal fault.Unknown = refusal.Unknown
ledger_refusal fault.AlreadyConfirmed = refusal.AlreadyConfirmed
ledger_refusal fault.NotConfirmed = refusal.NotConfirmed

-- of an issue
abbrev pub issued_line : Result (ℕ × Request) LedgerFault → LedgerLine
issued_line (Ok (counter, request)) = line.Issued counter request
issued_line (Err why) = line.Refused (ledger_refusal why)

-- of a confirmation
abbrev pub confirmed_line : Result ℕ LedgerFault → LedgerLine
confirmed_line (Ok counter) = line.Confirmed counter
confirmed_line (Err why) = line.Refused (ledger_refusal why)

-- of a power cut
abbrev pub cut_refusal : LedgerCut → LedgerRefusal
cut_refusal (cut.Store reread.DiskFailed) = refusal.MemoryFailure
cut_refusal (cut.Store reread.NotFormatted) = refusal.NotFormatted
cut_refusal (cut.Store (reread.Damaged cell)) = refusal.Damaged cell
cut_refusal (cut.BadEntry bad) = refusal.BadEntry bad

abbrev pub ledger_cut_line : Result (Unit {0}) LedgerCut → LedgerLine
ledger_cut_line (Ok u) = line.Up
ledger_cut_line (Err why) = line.Refused (cut_refusal why)
