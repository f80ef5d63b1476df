use Rattle.std.proofs.Common.{refl, ◌∙◌}
use Rattle.std.proofs.Math.Nat.{div-one}
use Rattle.basics.specs.Numbers.{bytes_of}
use Rattle.key_campaign.specs.Cell.{place_cell}
use Rattle.key_campaign.proofs.Parts.{from_bool}
use Rattle.key_campaign.proofs.cell.entry_bytes.Goals as goal

pub returns : goal.returns
unfolding place_cell bytes_of
returns c =
    rw (div-one c.args.entry.now.counter, c.to_be_bytes.ensures, c.number.ensures.value, c.number-2.ensures.value, c.from.ensures ∙ from_bool c.args.entry.now.confirmed, c.copy_from_slice.ensures.after, c.bytes.ensures.value) refl
