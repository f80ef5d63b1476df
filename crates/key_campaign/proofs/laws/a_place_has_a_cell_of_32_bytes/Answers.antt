use Rattle.key_campaign.proofs.CellLaws.{cell_bytes}
use Rattle.key_campaign.proofs.laws.a_place_has_a_cell_of_32_bytes.Goals as goal

pub returns : goal.returns
returns c = cell_bytes
