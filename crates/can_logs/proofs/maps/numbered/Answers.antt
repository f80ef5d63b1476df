use Rattle.std.proofs.Common.{length, ap, ◌∙◌}
use Rattle.can_logs.proofs.MapPhases.{numbers_fit}
use Rattle.can_logs.proofs.maps.numbered.Goals as goal

pub with_numbers-requires-clause-few : goal.with_numbers-requires-clause-few
with_numbers-requires-clause-few c = (numbers_fit c.args.text.now c.args.lines.items c.requires.lines).0

pub with_numbers-requires-clause-as_many : goal.with_numbers-requires-clause-as_many
with_numbers-requires-clause-as_many c = ap length c.in-Ok.ensures ∙ (numbers_fit c.args.text.now c.args.lines.items c.requires.lines).1
