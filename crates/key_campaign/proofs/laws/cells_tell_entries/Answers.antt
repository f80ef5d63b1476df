use Rattle.key_campaign.proofs.CellLaws.{one_place, one_ledger}
use Rattle.key_campaign.proofs.laws.cells_tell_entries.Goals as goal

pub returns-clause-cell : goal.returns-clause-cell
returns-clause-cell c = one_place

pub returns-clause-cells : goal.returns-clause-cells
returns-clause-cells c = one_ledger
