use Rattle.std.proofs.Common.{refl}
use Rattle.flash_lines.specs.Crc.{times_x, crc_step, crc_from, crc64}
use Rattle.flash_lines.proofs.laws.crc_of_nine_digits.Goals as goal

pub returns : goal.returns
unfolding times_x crc_step crc_from crc64
returns c = refl
