use Rattle.kept_starts.proofs.CutLaws.{cut_first_starts}
use Rattle.kept_starts.proofs.laws.a_first_start_that_is_cut_short_is_finished_next.Goals as goal

pub returns : goal.returns
returns c = cut_first_starts
