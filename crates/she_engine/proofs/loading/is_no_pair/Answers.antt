use Rattle.std.proofs.Common.{ap, not}
use Rattle.key_slots.proofs.CallerLemmas.{answer_is_pair}
use Rattle.she_engine.proofs.loading.is_no_pair.Goals as goal

pub returns : goal.returns
returns c = ap not (answer_is_pair c.may_authorise.result c.args.id c.args.auth c.may_authorise.ensures)
