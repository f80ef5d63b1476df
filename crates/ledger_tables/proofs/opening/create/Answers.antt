use Rattle.sqlite.specs.Held.{state}
use Rattle.sqlite.proofs.StateLemmas.{survives_weaker}
use Rattle.ledger_tables.proofs.Created.{creates, commits_empty, create_failed}
use Rattle.ledger_tables.proofs.opening.create.Goals as goal

pub returns-clause-ready : goal.returns-clause-ready
returns-clause-ready g c clean = (creates (state g.S.Store c.args.conn.now) (state g.S.Store c.execute.new.self) c.execute.result c.requires.schema c.requires.alone (c.execute.ensures.runs clean)).0

pub returns-clause-none : goal.returns-clause-none
returns-clause-none g c clean = (creates (state g.S.Store c.args.conn.now) (state g.S.Store c.execute.new.self) c.execute.result c.requires.schema c.requires.alone (c.execute.ensures.runs clean)).1

pub returns-clause-crash : goal.returns-clause-crash
returns-clause-crash g c =
    survives_weaker (state g.S.Store c.args.conn.now) (state g.S.Store c.execute.new.self) _ _
    (λ clean left h. commits_empty (state g.S.Store c.args.conn.now) left c.requires.schema h) c.execute.ensures.survives

pub returns-clause-failed : goal.returns-clause-failed
returns-clause-failed g c clean = create_failed (state g.S.Store c.args.conn.now) (state g.S.Store c.execute.new.self) c.execute.result c.requires.schema (c.execute.ensures.runs clean)
