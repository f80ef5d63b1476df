-- One byte more.
use Rattle.std.proofs.Common.{refl, ◌∙◌, arith}
use Rattle.flash_lines.specs.Crc.{crc_from}
use Rattle.flash_lines.proofs.CrcSteps.{one_byte_more}
use Rattle.flash_lines.proofs.crc.crc64.Goals as goal

pub loop-byte-init : goal.loop-byte-init
unfolding crc_from
loop-byte-init c = refl

pub loop-byte-preserved : goal.loop-byte-preserved
loop-byte-preserved c =
    c.step-remainder.ensures ∙ one_byte_more c.args.bytes.now c.loop-byte.byte-index c.loop-byte.remainder (omega arith) c.loop-byte.invariant
