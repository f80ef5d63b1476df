use Rattle.std.proofs.Common.{ap, ◌∙◌}
use Rattle.bus_world.proofs.Searching.{none_numbered}
use Rattle.bus_world.proofs.records.place_numbered.Goals as goal

pub returns-else-line-number : goal.returns-else-line-number
returns-else-line-number c =
    none_numbered c.args.records.now c.args.number c.first_from-place.result c.in-Some.line.now c.requires c.first_from-place.ensures.below
    (λ inside is. c.if-line-number.false (ap (λ y. y.number) c.in-Some.ensures.lookup.1 ∙ is)) c.first_from-place.ensures.above
