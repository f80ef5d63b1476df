use Rattle.std.proofs.Common.{slice_index}
use Rattle.she_aes.proofs.Turning.{turned_bit}
use Rattle.she_aes.proofs.planes.turned.Goals as goal

pub returns : goal.returns
returns c = λ q i j hq hi hj. turned_bit (slice_index c.args.words.now) q i j hq hi hj
