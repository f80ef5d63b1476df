use Rattle.std.proofs.Common.{refl}
use Rattle.std.proofs.Math.Nat.{div-one}
use Rattle.basics.specs.Numbers.{bytes_of}
use Rattle.slot_disk.specs.Cell.{slot_cell}
use Rattle.slot_disk.proofs.cell.filled_bytes.Goals as goal

pub returns : goal.returns
unfolding slot_cell bytes_of
returns c =
    rw (div-one c.args.counter, c.to_be_bytes.ensures, c.number.ensures.value, c.number-2.ensures.value, c.copy_from_slice.ensures.after, c.bytes.ensures.value) refl
