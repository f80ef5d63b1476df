-- So many of the eight doublings are done.
use Rattle.std.proofs.Common.{◌≡◌, ◌*◌, ◌^◌}
use Rattle.std.specs.Int.Bits.{bit_xor}
use Rattle.std.specs.Fn.{iterate}
use Rattle.flash_lines.specs.Crc.{times_x}
use Rattle.flash_lines.proofs.crc.step.Given as goal

abbrev pub invariant-loop : goal.invariant-loop
invariant-loop l = l.after ≡ iterate times_x l.counter (bit_xor l.remainder (l.byte * 2 ^ 56))
