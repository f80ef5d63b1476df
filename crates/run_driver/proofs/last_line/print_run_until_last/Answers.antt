use Rattle.std.proofs.Common.{rules}
use Rattle.run_driver.proofs.PrintedUpToLast.{Driven-printed_until}
use Rattle.run_driver.proofs.last_line.print_run_until_last.Goals as goal

pub returns-clause-printed : goal.returns-clause-printed
returns-clause-printed g c = Driven-printed_until g.M.Machine.steps g.W.LineText.text g.W.EndingText.ends _ _ _ _ _ _ (search rules)
