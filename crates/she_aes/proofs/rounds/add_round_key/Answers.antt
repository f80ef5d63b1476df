use Rattle.she_aes.specs.Cipher.{add_round_key}
use Rattle.basics.proofs.CallerLemmas.{xor_is}
use Rattle.she_aes.proofs.rounds.add_round_key.Goals as goal

pub returns : goal.returns
unfolding add_round_key
returns c = xor_is c.args.state c.args.key.now c.fits-state.0 c.told-key
