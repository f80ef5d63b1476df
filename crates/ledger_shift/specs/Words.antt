-- What the arguments of ledger name, and what comes of them (own)
use Rattle.std.specs.Prelude.{◌≡◌, ℕ, Bool, List, [], ◌∷◌, ◌++◌, drop, codes, bytes_eq, if◌then◌else◌, None, Some}
use Rattle.bus_port.specs.Source.{SourceState}
use Rattle.bus_port.specs.Sink.{SinkState}
use Rattle.program_edge.specs.Told.{EndingTold}
use Rattle.program_edge.specs.NamedSources.{Openings, first_of_two, second_of_two, OverNamed}
use Rattle.text_lines.specs.Readings.{nth_word}
use Rattle.sqlite_disk.specs.declared.Disk.{Ghosts}
use Rattle.ledger_shift.specs.FileRuns.{ServesFile}

-- `--new` is the first argument
abbrev pub makes_ledger : List (List ℕ) → Bool
makes_ledger words = bytes_eq (nth_word words 1) (codes "--new")

-- FILE and SCRIPT, after it
abbrev pub file_and_script : List (List ℕ) → List (List ℕ)
file_and_script words = if makes_ledger words then drop 1 words else words

-- what a run has from its caller: the arguments, which files and sources were opened so far, the script as it was left,
-- where answers and refusals go, and the status
pub record LedgerCall : Type 0 where
  pub words : List (List ℕ)
  pub files_before : List (List ℕ)
  pub files_after : List (List ℕ)
  pub sources_before : Openings
  pub sources_after : Openings
  pub script_after : SourceState
  pub sink_before : SinkState
  pub sink_after : SinkState
  pub errors_before : SinkState
  pub errors_after : SinkState
  pub status : ℕ

-- there are other arguments than FILE and SCRIPT: nothing is opened, and the usage is printed
pub record IsMalformed (call : LedgerCall) : Type 0 where
  pub none : first_of_two (file_and_script call.words) ≡ None
  pub files : call.files_after ≡ call.files_before
  pub sources : call.sources_after ≡ call.sources_before
  pub unanswered : call.sink_after ≡ call.sink_before
  pub told : EndingTold call.errors_before call.errors_after (codes "usage: ledger [--new] FILE SCRIPT\n") 2 call.status

-- FILE was opened, and no other, and served by the script that SCRIPT names
pub record RunsOverFile {D : Type 0} (g : Ghosts D) (opens : List ℕ → SourceState → Type 0) (call : LedgerCall)
    : Type 0 where
  pub file : List ℕ
  pub file_is : first_of_two (file_and_script call.words) ≡ Some file
  pub files : call.files_after ≡ call.files_before ++ file ∷ []
  pub over_script : OverNamed opens call.sources_before call.sources_after (second_of_two (file_and_script call.words))
      call.script_after (λ script. ServesFile g (record {
        is_new = makes_ledger call.words;
        script = script;
        sink_before = call.sink_before;
        sink_after = call.sink_after;
        errors_before = call.errors_before;
        errors_after = call.errors_after;
        status = call.status;
      }))

-- what comes of the arguments
pub data RunsLedger {D : Type 0} (g : Ghosts D) (opens : List ℕ → SourceState → Type 0) (call : LedgerCall) : Type 0 where
  malformed : IsMalformed call → RunsLedger g opens call
  ran : RunsOverFile g opens call → RunsLedger g opens call
