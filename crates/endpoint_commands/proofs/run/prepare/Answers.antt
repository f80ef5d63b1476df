use Rattle.std.proofs.Common.{subst, sym, refl}
use Rattle.endpoint_commands.specs.Rows.{AsksForm, ComesBeforeLog, no_form}
use Rattle.endpoint_commands.proofs.run.prepare.Goals as goal

pub returns-in-Some : goal.returns-in-Some
returns-in-Some g c = λ words log form. c.prepare_inputs.ensures words log (subst (AsksForm words) c.in-Some.is form)

pub returns-in-None : goal.returns-in-None
returns-in-None g c = λ words log form.
    subst (ComesBeforeLog _) (sym c.fixed.ensures) (no_form (subst (AsksForm words) c.in-None.is form) refl refl refl refl)
