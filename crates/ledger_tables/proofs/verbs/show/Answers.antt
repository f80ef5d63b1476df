use Rattle.std.proofs.Common.{subst}
use Rattle.sqlite.specs.Held.{state}
use Rattle.ledger_rows.specs.Rows.{slot_rows}
use Rattle.ledger_rows.specs.Steps.{IsShown}
use Rattle.ledger_rows.proofs.CallerLemmas.{shown_permuted}
use Rattle.std.proofs.lemmas.List.Sorted.{IsPermutation-sym}
use Rattle.ledger_tables.specs.Held.{ledger_in}
use Rattle.ledger_tables.proofs.verbs.show.Goals as goal

pub returns-clause-shown : goal.returns-clause-shown
returns-clause-shown g c clean =
    let all = slot_rows c.args.uid.now c.args.id (ledger_in (state g.S.Store c.args.conn.now)) in
    let read = c.in_ok-rows.rows.items in
    shown_permuted read all (IsPermutation-sym all read (c.in_ok-rows.ensures.rows clean)) c.shown.result (subst (λ xs. IsShown xs c.shown.result) c.as_slice.ensures.value c.shown.ensures)
