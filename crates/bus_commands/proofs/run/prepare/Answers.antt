use Rattle.std.proofs.Common.{◌≡◌, refl, subst, sym}
use Rattle.bus_commands.specs.declared.words.Command.TheVariants as command
use Rattle.bus_commands.specs.Words.{Asks}
use Rattle.bus_commands.specs.Rows.{ComesOfInputs, no_form}
use Rattle.bus_commands.proofs.Asking.{few_events}
use Rattle.bus_commands.proofs.run.prepare.Goals as goal

pub returns-in-None : goal.returns-in-None
returns-in-None g c words asks = subst (ComesOfInputs _) (sym c.fixed.ensures) (no_form (rw c.in-None.is at asks) refl refl)

pub returns-in-Ok : goal.returns-in-Ok
returns-in-Ok g c words asks =
    let found : Asks words c.in-Some-Lines.field-0 = rw c.in-Some-Lines.is at asks in
    let same : c.in-Some-Lines.field-0 ≡ command.Lines c.in-Some-Lines.command = rw c.in-Some-Lines.is at c.in-Some-Lines.field-0-is in
    let asked : Asks words (command.Lines c.in-Some-Lines.command) = subst (λ x. Asks words x) same found in
    c.in-Ok.ensures words asked

pub returns-in-Err : goal.returns-in-Err
returns-in-Err g c words asks =
    let found : Asks words c.in-Some-Lines.field-0 = rw c.in-Some-Lines.is at asks in
    let same : c.in-Some-Lines.field-0 ≡ command.Lines c.in-Some-Lines.command = rw c.in-Some-Lines.is at c.in-Some-Lines.field-0-is in
    let asked : Asks words (command.Lines c.in-Some-Lines.command) = subst (λ x. Asks words x) same found in
    c.in-Err.ensures words asked

pub world_job-requires : goal.world_job-requires
world_job-requires g c =
    let found : Asks c.requires.0 c.in-Some-World.field-0 = rw c.in-Some-World.is at c.requires.1 in
    let same : c.in-Some-World.field-0 ≡ command.World c.in-Some-World.command = rw c.in-Some-World.is at c.in-Some-World.field-0-is in
    let asked : Asks c.requires.0 (command.World c.in-Some-World.command) = subst (λ x. Asks c.requires.0 x) same found in
    few_events c.requires.0 c.in-Some-World.command asked

pub returns-in-Ok-world_job : goal.returns-in-Ok-world_job
returns-in-Ok-world_job g c words asks =
    let found : Asks words c.in-Some-World.field-0 = rw c.in-Some-World.is at asks in
    let same : c.in-Some-World.field-0 ≡ command.World c.in-Some-World.command = rw c.in-Some-World.is at c.in-Some-World.field-0-is in
    let asked : Asks words (command.World c.in-Some-World.command) = subst (λ x. Asks words x) same found in
    c.in-Ok-world_job.ensures words asked

pub returns-in-Err-world_job : goal.returns-in-Err-world_job
returns-in-Err-world_job g c words asks =
    let found : Asks words c.in-Some-World.field-0 = rw c.in-Some-World.is at asks in
    let same : c.in-Some-World.field-0 ≡ command.World c.in-Some-World.command = rw c.in-Some-World.is at c.in-Some-World.field-0-is in
    let asked : Asks words (command.World c.in-Some-World.command) = subst (λ x. Asks words x) same found in
    c.in-Err-world_job.ensures words asked
