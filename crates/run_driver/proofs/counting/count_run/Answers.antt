use Rattle.std.proofs.Common.{rules}
use Rattle.run_driver.proofs.CountedLines.{Driven-counted}
use Rattle.run_driver.proofs.counting.count_run.Goals as goal

pub returns-clause-counted : goal.returns-clause-counted
returns-clause-counted g c = Driven-counted g.M.Machine.steps g.T.Tally.counts _ _ _ _ _ c.in-Ok.field-0 (search rules)
