use Rattle.std.proofs.Common.{suc, ◌*◌}
use Rattle.flash_lines.proofs.LineLaws.{erased_is_none}
use Rattle.flash_lines.proofs.laws.a_line_without_its_last_unit_is_none.Goals as goal

pub returns : goal.returns
returns c unit erased told line bytes torn differs inside other h =
    differs (erased_is_none bytes other (unit * suc torn.torn) erased torn.behind inside h)
