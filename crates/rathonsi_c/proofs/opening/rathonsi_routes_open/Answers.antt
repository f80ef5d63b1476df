use Rattle.rathonsi_c.proofs.OpeningLaws.{apart_when_opened}
use Rattle.rathonsi_c.proofs.opening.rathonsi_routes_open.Goals as goal

pub returns-clause-opened : goal.returns-clause-opened
returns-clause-opened c = λ _. record {
  opens = c.open_each.ensures;
  apart = apart_when_opened c.args.routes.now c.args.image.now c.open_each.new.routes c.in_default.ensures.none c.open_each.ensures;
}
