-- What a run of `watch --expect` promises
use Rattle.std.specs.Prelude.{◌≡◌, ℕ, List, [], take, codes}
use Rattle.text_lines.specs.Texts.{line}
use Rattle.program_edge.specs.declared.input.InputFault.{InputFault}
use Rattle.program_edge.specs.declared.input.InputFault.TheVariants.{ReadFault, TooLong, Memory}
use Rattle.program_edge.specs.Inputs.{Reading, IsUnread, ReadsWhole, Lacks}
use Rattle.program_edge.specs.Rows.{Row, row_of}
use Rattle.program_edge.specs.Endings.{EndsInRow}
use Rattle.can_logs.specs.LogRuns.{LogInputs, Writing, WritesWhole, ending_of}
use Rattle.watch_commands.specs.WatchRows.{OverMap, ComesOnErrors}
use Rattle.watch_expect.specs.Comparing.{difference_text, PrintsAll, DiffersIn, writes_bytes}

-- the arguments, the kept text, the map and the log
pub record ExpectInputs : Type 0 where
  pub words : List (List ℕ)
  pub kept : Reading
  pub map : Reading
  pub log : Reading

abbrev pub watched_of : ExpectInputs → LogInputs
watched_of i = record { words = i.words; map = i.map; log = i.log }

-- how a run ended: what was written to standard error, and its status
pub record ExpectEnding : Type 0 where
  pub errors : Writing
  pub status : ℕ

-- the rows of a kept text that can't be read
abbrev pub kept_row : InputFault → Row
kept_row ReadFault = row_of 5 (line (codes "expect: read fault"))
kept_row TooLong = row_of 8 (line (codes "expect: input too long"))
kept_row Memory = row_of 7 []

-- the table: when each row comes on standard error, with its status and text
pub data ComesExpected (i : ExpectInputs) : Row → Type 0 where
  same : (text : List ℕ) → ReadsWhole i.kept text → OverMap (watched_of i) (λ mapping. PrintsAll mapping i.log text)
      → ComesExpected i (row_of 0 [])
  differs : (text : List ℕ) (n : ℕ) (came : List ℕ) → ReadsWhole i.kept text
      → OverMap (watched_of i) (λ mapping. DiffersIn mapping i.log text n came)
      → ComesExpected i (row_of 1 (difference_text text n came))
  no_kept : (fault : InputFault) → Lacks i.kept fault → IsUnread i.map → IsUnread i.log → ComesExpected i (kept_row fault)
  -- a fault of the map or of the log, as a run of `watch` tells it that printed the first n bytes of the kept text
  fault : (text : List ℕ) (n : ℕ) (row : Row) → ReadsWhole i.kept text
      → ComesOnErrors (watched_of i) (writes_bytes (take n text)) row → ComesExpected i row

-- what a run promises that has these inputs and ends so
pub record Expects (i : ExpectInputs) (e : ExpectEnding) : Type 0 where
  -- The program prints a row of the table on standard error, and ends with its status, or at 6 a prefix of one.
  pub ends : EndsInRow (ComesExpected i) (ending_of e.errors e.status)
  -- 0: `watch` prints exactly the kept text.
  pub same : e.status ≡ 0 → WritesWhole e.errors [] × ((text : List ℕ) × ReadsWhole i.kept text
      × OverMap (watched_of i) (λ mapping. PrintsAll mapping i.log text))
  -- 1: it doesn't, and the line of the first difference is told, with what is kept there and what came.
  pub differs : e.status ≡ 1 → (text : List ℕ) × (n : ℕ) × (came : List ℕ) × ReadsWhole i.kept text
      × OverMap (watched_of i) (λ mapping. DiffersIn mapping i.log text n came)
      × WritesWhole e.errors (difference_text text n came)
