-- The numbers of the sizes that a head tells.
use Rattle.std.proofs.Common.{◌∙◌}
use Rattle.flash_lines.proofs.LineLaws.{same_sizes}
use Rattle.flash_lines.proofs.Parts.{unit_told, banks_told, bank_size_told, cells_told}
use Rattle.flash_lines.proofs.lines.told_parts.Goals as goal

pub returns : goal.returns
returns c told t =
    same_sizes _ told
    (c.from_be_bytes.ensures ∙ unit_told _ told t)
    (banks_told _ told t)
    (c.from_be_bytes-2.ensures ∙ bank_size_told _ told t)
    (c.from_be_bytes-3.ensures ∙ cells_told _ told t)
