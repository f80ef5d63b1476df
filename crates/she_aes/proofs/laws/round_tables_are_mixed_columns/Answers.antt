use Rattle.she_aes.proofs.RoundTables.{round_tables}
use Rattle.she_aes.proofs.laws.round_tables_are_mixed_columns.Goals as goal

pub returns : goal.returns
returns c = round_tables
