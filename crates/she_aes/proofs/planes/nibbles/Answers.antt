use Rattle.she_aes.proofs.Turning.{low_nibble_bit, high_nibble_bit}
use Rattle.she_aes.proofs.planes.nibbles.Goals as goal

pub returns-clause-low : goal.returns-clause-low
returns-clause-low c = λ r col hr hc. low_nibble_bit c.args.low c.args.high r col hr hc

pub returns-clause-high : goal.returns-clause-high
returns-clause-high c = λ r col hr hc. high_nibble_bit c.args.low c.args.high r col hr hc
