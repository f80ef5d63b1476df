use Rattle.key_campaign.proofs.CutLaws.{none_bad}
use Rattle.key_campaign.proofs.laws.held_cells_have_no_bad_entry.Goals as goal

pub returns : goal.returns
returns c = λ cells entries bad hold first. none_bad cells entries hold bad first
