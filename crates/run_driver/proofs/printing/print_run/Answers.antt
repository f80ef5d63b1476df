use Rattle.std.proofs.Common.{rules}
use Rattle.run_driver.proofs.PrintedLines.{Driven-printed}
use Rattle.run_driver.proofs.printing.print_run.Goals as goal

pub returns-clause-printed : goal.returns-clause-printed
returns-clause-printed g c = Driven-printed _ _ _ _ _ _ _ _ (search rules)
