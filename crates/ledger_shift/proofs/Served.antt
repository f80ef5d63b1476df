-- How a command ends, by what was served
use Rattle.std.proofs.Common.{◌≡◌, ◌⊎◌, inl, inr, ℕ, false, Result, Ok, Err, IfOk, IfErr, OnOk, OnErr, List, refl, sym, subst, subst₂}
use Rattle.bus_port.specs.Sink.{SinkState}
use Rattle.program_edge.specs.Rows.{Row}
use Rattle.program_edge.specs.Told.{EndingTold}
use Rattle.line_stream.specs.Streams.{Streamed}
use Rattle.line_stream.specs.declared.driver.StreamFault.{StreamFault}
use Rattle.sqlite_trees.specs.declared.store.Store.{Ghosts}
use Rattle.sqlite.specs.Held.{Held}
use Rattle.ledger_rows.specs.Rows.{RowOrigin}
use Rattle.ledger_tables.specs.Adding.{origin_by}
use Rattle.sqlite.specs.State.{HasCleanDisk}
use Rattle.sqlite.specs.declared.error.Error.{Error}
use Rattle.ledger_tables.specs.Failing.{IsUndone}
use Rattle.ledger_shift.specs.declared.line.ShiftLine.{ShiftLine}
use Rattle.ledger_shift.specs.declared.told.ShiftTold.{ShiftTold}
use Rattle.ledger_shift.specs.Told.{tells_refusal}
use Rattle.ledger_shift.specs.declared.port.ShiftEnd.{ShiftEnd}
use Rattle.ledger_shift.specs.Answers.{AnswersAsk, FailsAsk}
use Rattle.ledger_shift.specs.declared.port.Noted.{Noted}
use Rattle.ledger_shift.specs.Shifts.{ShiftAt, conn_of, nothing_noted, noted_of, TellsServed, IsAnswered, HasFailedAt, TakesShiftLine, PausesShift, EndsShift}
use Rattle.ledger_shift.specs.Statuses.{IsEndRow, nobody, ShiftCall, RunsShift}

module _ {S : Type 0} (g : Ghosts S) (before after : ShiftAt S) (number : ℕ) (asked : ShiftLine) where
  abbrev IsClean : Type 0
  IsClean = HasCleanDisk (conn_of g after)

  pub ends_of : (served : Result ShiftTold Error) (result : Result (Unit {0}) ShiftEnd)
      → (IsClean → IfOk served (AnswersAsk before.origin (conn_of g before) (conn_of g after) asked))
      → (IsClean → IfErr served (FailsAsk before.origin (conn_of g before) (conn_of g after) asked))
      → (IsClean → OnErr served (IsUndone (conn_of g before) (conn_of g after)))
      → after.noted ≡ noted_of before.noted served
      → TellsServed before.sink after.sink number served result
      → IsAnswered g before number asked after result ⊎ HasFailedAt g before asked after result
  ends_of (Ok told) result answers fails undone noted tells = inl (told, answers, noted, tells)
  ends_of (Err e) result answers fails undone noted (same, is) =
      inr (subst (HasFailedAt g before asked after) (sym is) (same, λ clean. (fails clean, undone clean)))

-- a look notes nothing
pub noted_shown : (noted : Noted) (served : Result ShiftTold Error) → IfOk served (λ told. tells_refusal told ≡ false) → noted ≡ noted_of noted served
noted_shown noted (Ok told) calm = rw calm refl
noted_shown noted (Err e) calm = refl

-- if the shift goes on, the command was served
pub served_if : (P : Type 0) (before after : SinkState) (number : ℕ) (served : Result ShiftTold Error) (result : Result (Unit {0}) ShiftEnd) → TellsServed before after number served result → OnOk served P → OnOk result P
served_if P before after number (Ok told) (Ok done) tells p = p
served_if P before after number (Ok told) (Err e) tells p = tt
served_if P before after number (Err e) result (same, is) p = subst (λ r. OnOk r P) (sym is) tt

-- what is said of a value that is there
pub ok_done : {T E : Type 0} (P : T → Type 0) (r : Result T E) (x : T) → r ≡ Ok x → IfOk r P → P x
ok_done P r x is h = subst (λ y. IfOk y P) is h

pub on_done : {T E : Type 0} (P : Type 0) (r : Result T E) (x : T) → r ≡ Ok x → OnOk r P → P
on_done P r x is h = subst (λ y. OnOk y P) is h

-- who enters rows, from what is read of it
pub origin_is : (origin : RowOrigin) (station operator time : List ℕ) → station ≡ origin.station → operator ≡ origin.operator → time ≡ origin.time → origin_by station operator time ≡ origin
origin_is origin station operator time s o t = rw (s, o, t) refl

-- a shift, from what the driver says of it
pub shift_of : {S : Type 0} (g : Ghosts S) (call : ShiftCall S) (first : RowOrigin) (ended : Result ShiftEnd StreamFault) (conn : Held S) (origin : RowOrigin) (noted : Noted) (sink : SinkState) (row : Row)
    → first ≡ nobody → call.conn_after ≡ conn → call.sink_after ≡ sink
    → Streamed (TakesShiftLine g) (PausesShift g) (EndsShift g) call.script (record { conn = call.conn_before; origin = first; noted = nothing_noted; sink = call.sink_before })
    (record { conn = conn; origin = origin; noted = noted; sink = sink }) ended
    → IsEndRow ended row → EndingTold call.errors_before call.errors_after row.text row.status call.status → RunsShift g call
shift_of g call first ended conn origin noted sink row is same_conn same_sink streamed row_is told = record {
  ended = ended;
  origin = origin;
  noted = noted;
  streamed = subst (λ o. Streamed (TakesShiftLine g) (PausesShift g) (EndsShift g) call.script (record { conn = call.conn_before; origin = o; noted = nothing_noted; sink = call.sink_before })
      (record { conn = call.conn_after; origin = origin; noted = noted; sink = call.sink_after }) ended) is
      (subst₂ (λ a b. Streamed (TakesShiftLine g) (PausesShift g) (EndsShift g) call.script (record { conn = call.conn_before; origin = first; noted = nothing_noted; sink = call.sink_before })
      (record { conn = a; origin = origin; noted = noted; sink = b }) ended) (sym same_conn) (sym same_sink) streamed);
  row = row;
  row_is = row_is;
  told = told;
}
