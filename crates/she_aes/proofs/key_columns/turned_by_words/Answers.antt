use Rattle.she_aes.proofs.KeyColumns.{last_column, turned_by_box}
use Rattle.she_aes.proofs.key_columns.turned_by_words.Goals as goal

pub returns : goal.returns
returns c =
    λ k key is. turned_by_box k key c.to_be_bytes.result (last_column k key is c.to_be_bytes.ensures) c.from_be_bytes.ensures c.sub_bytes.ensures
