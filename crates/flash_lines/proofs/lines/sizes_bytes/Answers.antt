-- The numbers of sizes, as bytes.
use Rattle.std.proofs.Common.{refl}
use Rattle.std.proofs.Math.Nat.{div-one}
use Rattle.basics.specs.Numbers.{bytes_of}
use Rattle.flash_lines.specs.Lines.{sizes_bytes}
use Rattle.flash_lines.proofs.lines.sizes_bytes.Goals as goal

pub returns : goal.returns
unfolding sizes_bytes bytes_of
returns c =
    rw (c.to_be_bytes.ensures, c.to_be_bytes-2.ensures, c.to_be_bytes-3.ensures, div-one c.args.sizes.now.unit, div-one c.args.sizes.now.bank_size, div-one c.args.sizes.now.cells) refl
