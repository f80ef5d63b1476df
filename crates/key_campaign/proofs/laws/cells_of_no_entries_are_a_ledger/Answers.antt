use Rattle.key_campaign.proofs.NoEntries.{no_entries-held, no_entries-zeros}
use Rattle.key_campaign.proofs.laws.cells_of_no_entries_are_a_ledger.Goals as goal

pub returns-clause-held : goal.returns-clause-held
returns-clause-held c = no_entries-held

pub returns-clause-zeros : goal.returns-clause-zeros
returns-clause-zeros c = no_entries-zeros
