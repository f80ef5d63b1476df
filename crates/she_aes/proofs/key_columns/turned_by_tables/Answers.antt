use Rattle.she_aes.proofs.KeyColumns.{last_column, turned_by_bytes}
use Rattle.she_aes.proofs.key_columns.turned_by_tables.Goals as goal

pub returns : goal.returns
returns c =
    λ k key is. turned_by_bytes k c.to_be_bytes.result (last_column k key is c.to_be_bytes.ensures) c.substitute.ensures c.substitute-2.ensures c.substitute-3.ensures c.substitute-4.ensures c.from_be_bytes.ensures
