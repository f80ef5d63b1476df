use Rattle.std.proofs.Common.{inr}
use Rattle.ledger_shift.proofs.file_run.serve_file.Goals as goal

pub returns-in-Ok-clause-serves : goal.returns-in-Ok-clause-serves
returns-in-Ok-clause-serves g c = inr (c.in-Ok.conn, c.in-Ok.ensures.sound, c.serve_opened.ensures)
