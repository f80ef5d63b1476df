-- One doubling more.
use Rattle.std.proofs.Common.{ap, ◌∙◌}
use Rattle.flash_lines.specs.Crc.{times_x}
use Rattle.flash_lines.proofs.CrcSteps.{doubled_once_more}
use Rattle.flash_lines.proofs.crc.step.Goals as goal

pub loop-preserved : goal.loop-preserved
loop-preserved c = c.double-after.ensures ∙ ap times_x c.loop.invariant ∙ doubled_once_more c.loop.counter _
