-- How the file of a ledger is opened, served and closed (own)
use Rattle.std.specs.Prelude.{◌≡◌, ◌⊎◌, ◌<◌, ◌≤◌, ℕ, Bool, true, false, []}
use Rattle.bus_port.specs.Sink.{SinkState}
use Rattle.program_edge.specs.Inputs.{Reading}
use Rattle.program_edge.specs.Told.{EndingTold}
use Rattle.sqlite_disk.specs.declared.Disk.{Ghosts}
use Rattle.sqlite_disk.specs.declared.Files.{Files}
use Rattle.sqlite_wal.specs.Reads.{AreClean}
use Rattle.sqlite_store.specs.declared.store.FileStore.{FileStore}
use Rattle.sqlite_store.specs.FileStore.{view}
use Rattle.sqlite_trees.specs.View.{IsClean}
use Rattle.sqlite.specs.Held.{Held}
use Rattle.sqlite.specs.Closing.{IsCopied}
use Rattle.sqlite.specs.Files.{file_state, over_files, IsOpened, FailsToClose}
use Rattle.sqlite.specs.State.{HasCleanDisk}
use Rattle.sqlite.specs.declared.error.Error.{Error}
use Rattle.ledger_tables.specs.Held.{ledger_in, HasLedgerTable}
use Rattle.ledger_shift.specs.declared.opening.FileFault.{FileFault}
use Rattle.ledger_shift.specs.Opening.{file_row, file_fault_row, IsOpenFault, IsTableFault}
use Rattle.ledger_shift.specs.Statuses.{RunsShift}

-- what a run over a file has from its caller: whether a ledger is to be made, the script, where answers and refusals go,
-- and the status
pub record FileRun : Type 0 where
  pub is_new : Bool
  pub script : Reading
  pub sink_before : SinkState
  pub sink_after : SinkState
  pub errors_before : SinkState
  pub errors_after : SinkState
  pub status : ℕ

-- the file isn't served: nothing is read of the script, nothing is answered, and the row of the cause is printed
pub record RefusesFile (call : FileRun) (fault : FileFault) : Type 0 where
  pub unread : call.script.after ≡ call.script.before
  pub unanswered : call.sink_after ≡ call.sink_before
  pub told : EndingTold call.errors_before call.errors_after (file_fault_row fault).text (file_fault_row fault).status call.status

-- the close failed after a shift with this status: 0 and 1 give way to the row of the error, and any other stays
abbrev pub TellsClosing : Error → SinkState → ℕ → SinkState → ℕ → Type 0
TellsClosing e before status after answer =
    ((1 < status) × (after ≡ before) × (answer ≡ status))
    ⊎ ((status ≤ 1) × EndingTold before after (file_row e).text (file_row e).status answer)

module _ {D : Type 0} (g : Ghosts D) where
  -- a connection over files
  abbrev pub FileConn : Type 0
  FileConn = Held (FileStore D g)

  -- the close after a shift: each commit is in the database file alone, as it reads now and after a crash, and the
  -- status stays; or it failed
  abbrev pub ClosesShift : FileConn → SinkState → ℕ → SinkState → ℕ → Type 0
  ClosesShift conn before status after answer =
      ((files : Files D) × (AreClean g files.log files.db → IsCopied conn files) × (after ≡ before) × (answer ≡ status))
      ⊎ ((e : Error) × (last : FileStore D g) × (IsClean (view last) → FailsToClose conn last e)
      × TellsClosing e before status after answer)

  -- an opened file isn't served, and nothing was added to it
  abbrev pub IsUnserved : FileConn → FileRun → Type 0
  IsUnserved opened call =
      (fault : FileFault) × (conn : FileConn) × IsTableFault call.is_new (file_state opened) (file_state conn) fault
      × RefusesFile call fault

  -- An opened file is served by a shift, and closed. It has a ledger: an empty one that was made, or that which was found.
  pub record IsServed (opened : FileConn) (call : FileRun) : Type 0 where
    pub ready : FileConn
    pub table : HasCleanDisk (file_state ready) → HasLedgerTable (file_state ready)
    pub made : call.is_new ≡ true → HasCleanDisk (file_state ready) → ledger_in (file_state ready) ≡ []
    pub found : call.is_new ≡ false → ready ≡ opened
    pub last : FileConn
    pub errors : SinkState
    pub status : ℕ
    pub shift : RunsShift (over_files {D = D} {g = g}) (record {
      conn_before = ready;
      conn_after = last;
      script = call.script;
      sink_before = call.sink_before;
      sink_after = call.sink_after;
      errors_before = call.errors_before;
      errors_after = errors;
      status = status;
    })
    pub closes : ClosesShift last errors status call.errors_after call.status

  abbrev pub ServesOpened : FileConn → FileRun → Type 0
  ServesOpened opened call = IsUnserved opened call ⊎ IsServed opened call

  -- the file wasn't opened; or it was, and the connection sees what was committed
  abbrev pub ServesFile : FileRun → Type 0
  ServesFile call =
      ((fault : FileFault) × IsOpenFault call.is_new fault × RefusesFile call fault)
      ⊎ ((opened : FileConn) × (HasCleanDisk (file_state opened) → IsOpened opened) × ServesOpened opened call)
