use Rattle.std.proofs.Common.{refl, subst, sym}
use Rattle.gateway_commands.specs.Rows.{RowOfInputs, no_form}
use Rattle.gateway_commands.proofs.run.prepare.Goals as goal

pub returns-in-None : goal.returns-in-None
returns-in-None g c words asks = subst (RowOfInputs _) (sym c.fixed.ensures) (no_form (rw c.in-None.is at asks) refl refl)

pub returns-in-Some : goal.returns-in-Some
returns-in-Some g c words asks = c.read_job.ensures words (rw c.in-Some.is at asks)
