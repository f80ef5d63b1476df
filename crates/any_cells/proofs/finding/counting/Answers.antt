use Rattle.std.proofs.Common.{rules}
use Rattle.any_cells.proofs.CountingLaws.{both_stand, first_stands, second_stands, none_stands}
use Rattle.any_cells.proofs.finding.counting.Goals as goal

pub returns-then-eq-clause-counts : goal.returns-then-eq-clause-counts
returns-then-eq-clause-counts c = λ x low high. both_stand x c.args.low c.args.high low high _ _ c.in-Store-default.is-0 (search rules)

pub returns-else-eq-clause-counts : goal.returns-else-eq-clause-counts
returns-else-eq-clause-counts c = λ x low high. first_stands x c.args.low c.args.high low high _ _ c.in-Store-default.is-0 (search rules)

pub returns-in_default-Store : goal.returns-in_default-Store
returns-in_default-Store c = record {
  few = search rules;
  counts = λ x low high. second_stands x c.args.low c.args.high low high _ _ c.in_default-Store.not-Store-0 c.in_default-Store.is-1;
}

pub returns-in_default : goal.returns-in_default
returns-in_default c = record {
  few = tt;
  counts = λ x low high. none_stands x c.args.low c.args.high low high c.in_default.not-Store-0 c.in_default.not-Store-1;
}
