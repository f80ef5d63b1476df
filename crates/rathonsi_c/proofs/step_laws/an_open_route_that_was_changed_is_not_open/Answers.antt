use Rattle.std.proofs.Common.{sym, ◌∙◌}
use Rattle.rathonsi_c.proofs.OpenedLaws.{counter_apart, id_apart, direction_apart, mark_apart, cell_apart, no_zeros}
use Rattle.rathonsi_c.proofs.step_laws.an_open_route_that_was_changed_is_not_open.Goals as goal

pub returns-clause-counter : goal.returns-clause-counter
returns-clause-counter c = λ r counter o p. counter_apart r.opened r.direction r.cell r.data_id r.counter counter (sym o.check_is ∙ p.check_is)

pub returns-clause-data_id : goal.returns-clause-data_id
returns-clause-data_id c = λ r id x y o p. id_apart r.opened r.direction r.cell r.data_id r.counter id x y (sym o.check_is ∙ p.check_is)

pub returns-clause-direction : goal.returns-clause-direction
returns-clause-direction c = λ r direction x y o p. direction_apart r.opened r.direction r.cell r.data_id r.counter direction x y (sym o.check_is ∙ p.check_is)

pub returns-clause-cell : goal.returns-clause-cell
returns-clause-cell c = λ r cell x y o p. cell_apart r.opened r.direction r.cell r.data_id r.counter cell x y (sym o.check_is ∙ p.check_is)

pub returns-clause-mark : goal.returns-clause-mark
returns-clause-mark c = λ r mark x y o p. mark_apart r.opened r.direction r.cell r.data_id r.counter mark x y (sym o.check_is ∙ p.check_is)

pub returns-clause-zeros : goal.returns-clause-zeros
returns-clause-zeros c = λ r o e. no_zeros r.opened r.direction r.cell r.data_id r.counter (sym o.check_is ∙ e)
