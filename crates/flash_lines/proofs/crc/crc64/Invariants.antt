-- The remainder of the bytes so far.
use Rattle.std.proofs.Common.{◌≡◌, ◌-◌, ◌^◌, take}
use Rattle.flash_lines.specs.Crc.{crc_from}
use Rattle.flash_lines.proofs.crc.crc64.Given as goal

abbrev pub invariant-loop-byte : goal.invariant-loop-byte
invariant-loop-byte l = l.remainder ≡ crc_from (2 ^ 64 - 1) (take l.byte-index l.bytes)
