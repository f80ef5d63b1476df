use Rattle.std.proofs.Common.{sym, subst}
use Rattle.any_cells.specs.Looking.{IsFound}
use Rattle.any_cells.proofs.looking.found_as.Goals as goal

pub returns-in-One-clause-found : goal.returns-in-One-clause-found
returns-in-One-clause-found c = λ x high low. subst (λ v. IsFound c.args.kind v c.args.cells x c.found_as_one.result) (sym c.in-One.is) (c.found_as_one.ensures.found x high low)

pub returns-in-Two-clause-found : goal.returns-in-Two-clause-found
returns-in-Two-clause-found c = λ x high low. subst (λ v. IsFound c.args.kind v c.args.cells x c.found_as_two.result) (sym c.in-Two.is) (c.found_as_two.ensures x high low)
