use Rattle.key_commands.proofs.SourceLaws.{few_requests}
use Rattle.key_commands.proofs.loads.requests_of.Goals as goal

pub returns-in-Ok-clause-few : goal.returns-in-Ok-clause-few
returns-in-Ok-clause-few c = few_requests c.args.text.now c.in-Ok.requests.items c.in-Ok.ensures
