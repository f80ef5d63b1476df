use Rattle.basics.proofs.CallerLemmas.{xor_is}
use Rattle.she_aes.proofs.rounds.xor.Goals as goal

pub returns : goal.returns
returns c = xor_is c.args.a.now c.args.b.now c.told-a c.told-b
