use Rattle.std.proofs.Common.{arith}
use Rattle.sqlite.specs.State.{HasCleanDisk}
use Rattle.sqlite.specs.Held.{state}
use Rattle.sqlite.proofs.StateLemmas.{survives_weaker}
use Rattle.ledger_tables.proofs.Added.{adds, keeps, commits}
use Rattle.ledger_tables.proofs.Failed.{add_failed}
use Rattle.ledger_tables.proofs.adding.add.Goals as goal

pub returns-clause-adds : goal.returns-clause-adds
returns-clause-adds g c clean =
    let early : HasCleanDisk (state g.S.Store c.args.conn.now) = omega (arith, c.execute.ensures.survives.clean) in
    (adds c.args.row.now c.args.station.now c.args.operator.now c.args.time.now (state g.S.Store c.args.conn.now) (state g.S.Store c.execute.new.self) c.execute.result
    (c.requires early) (rw (c.params-to_sql.ensures, c.params-to_sql-2.ensures, c.params-to_sql-3.ensures, c.params-to_sql-4.ensures, c.params-to_sql-5.ensures, c.params-to_sql-6.ensures, c.params-to_sql-7.ensures, c.params-to_sql-8.ensures, c.params-to_sql-9.ensures, c.from.ensures, c.from-2.ensures, c.as_slice.ensures.value, c.number.ensures.value, c.number-2.ensures.value, c.number-3.ensures.value, c.word.ensures, c.as_slice-2.ensures) at (c.execute.ensures.runs clean))).0

pub returns-clause-ready : goal.returns-clause-ready
returns-clause-ready g c clean =
    let early : HasCleanDisk (state g.S.Store c.args.conn.now) = omega (arith, c.execute.ensures.survives.clean) in
    (adds c.args.row.now c.args.station.now c.args.operator.now c.args.time.now (state g.S.Store c.args.conn.now) (state g.S.Store c.execute.new.self) c.execute.result
    (c.requires early) (rw (c.params-to_sql.ensures, c.params-to_sql-2.ensures, c.params-to_sql-3.ensures, c.params-to_sql-4.ensures, c.params-to_sql-5.ensures, c.params-to_sql-6.ensures, c.params-to_sql-7.ensures, c.params-to_sql-8.ensures, c.params-to_sql-9.ensures, c.from.ensures, c.from-2.ensures, c.as_slice.ensures.value, c.number.ensures.value, c.number-2.ensures.value, c.number-3.ensures.value, c.word.ensures, c.as_slice-2.ensures) at (c.execute.ensures.runs clean))).1

pub returns-clause-kept : goal.returns-clause-kept
returns-clause-kept g c clean =
    let early : HasCleanDisk (state g.S.Store c.args.conn.now) = omega (arith, c.execute.ensures.survives.clean) in
    keeps c.args.row.now c.args.station.now c.args.operator.now c.args.time.now (state g.S.Store c.args.conn.now) (state g.S.Store c.execute.new.self) c.execute.result
    (c.requires early) (λ db is_open may. g.met.S.Store.settled c.execute.new.self.store db is_open may) (rw (c.params-to_sql.ensures, c.params-to_sql-2.ensures, c.params-to_sql-3.ensures, c.params-to_sql-4.ensures, c.params-to_sql-5.ensures, c.params-to_sql-6.ensures, c.params-to_sql-7.ensures, c.params-to_sql-8.ensures, c.params-to_sql-9.ensures, c.from.ensures, c.from-2.ensures, c.as_slice.ensures.value, c.number.ensures.value, c.number-2.ensures.value, c.number-3.ensures.value, c.word.ensures, c.as_slice-2.ensures) at (c.execute.ensures.runs clean))

pub returns-clause-crash : goal.returns-clause-crash
returns-clause-crash g c =
    survives_weaker (state g.S.Store c.args.conn.now) (state g.S.Store c.execute.new.self) _ _
    (λ clean left h. commits c.args.row.now c.args.station.now c.args.operator.now c.args.time.now (state g.S.Store c.args.conn.now) left
    (c.requires (omega (arith, c.execute.ensures.survives.clean))).schema h) (rw (c.params-to_sql.ensures, c.params-to_sql-2.ensures, c.params-to_sql-3.ensures, c.params-to_sql-4.ensures, c.params-to_sql-5.ensures, c.params-to_sql-6.ensures, c.params-to_sql-7.ensures, c.params-to_sql-8.ensures, c.params-to_sql-9.ensures, c.from.ensures, c.from-2.ensures, c.as_slice.ensures.value, c.number.ensures.value, c.number-2.ensures.value, c.number-3.ensures.value, c.word.ensures, c.as_slice-2.ensures) at c.execute.ensures.survives)

pub returns-clause-failed : goal.returns-clause-failed
returns-clause-failed g c clean =
    let early : HasCleanDisk (state g.S.Store c.args.conn.now) = omega (arith, c.execute.ensures.survives.clean) in
    (add_failed c.args.row.now c.args.station.now c.args.operator.now c.args.time.now (state g.S.Store c.args.conn.now) (state g.S.Store c.execute.new.self) c.execute.result
    (c.requires early) (rw (c.params-to_sql.ensures, c.params-to_sql-2.ensures, c.params-to_sql-3.ensures, c.params-to_sql-4.ensures, c.params-to_sql-5.ensures, c.params-to_sql-6.ensures, c.params-to_sql-7.ensures, c.params-to_sql-8.ensures, c.params-to_sql-9.ensures, c.from.ensures, c.from-2.ensures, c.as_slice.ensures.value, c.number.ensures.value, c.number-2.ensures.value, c.number-3.ensures.value, c.word.ensures, c.as_slice-2.ensures) at (c.execute.ensures.runs clean))).0

pub returns-clause-undone : goal.returns-clause-undone
returns-clause-undone g c clean =
    let early : HasCleanDisk (state g.S.Store c.args.conn.now) = omega (arith, c.execute.ensures.survives.clean) in
    (add_failed c.args.row.now c.args.station.now c.args.operator.now c.args.time.now (state g.S.Store c.args.conn.now) (state g.S.Store c.execute.new.self) c.execute.result
    (c.requires early) (rw (c.params-to_sql.ensures, c.params-to_sql-2.ensures, c.params-to_sql-3.ensures, c.params-to_sql-4.ensures, c.params-to_sql-5.ensures, c.params-to_sql-6.ensures, c.params-to_sql-7.ensures, c.params-to_sql-8.ensures, c.params-to_sql-9.ensures, c.from.ensures, c.from-2.ensures, c.as_slice.ensures.value, c.number.ensures.value, c.number-2.ensures.value, c.number-3.ensures.value, c.word.ensures, c.as_slice-2.ensures) at (c.execute.ensures.runs clean))).1
