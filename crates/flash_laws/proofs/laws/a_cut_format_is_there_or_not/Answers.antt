use Rattle.flash_laws.proofs.CutFormats.{cut_format_lives, cut_format_found}
use Rattle.flash_laws.proofs.laws.a_cut_format_is_there_or_not.Goals as goal

pub returns-clause-cells : goal.returns-clause-cells
returns-clause-cells c = cut_format_lives

pub returns-clause-found : goal.returns-clause-found
returns-clause-found c = cut_format_found
