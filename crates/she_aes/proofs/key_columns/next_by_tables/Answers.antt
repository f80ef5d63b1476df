use Rattle.she_aes.proofs.key_columns.next_by_tables.Goals as goal

pub returns : goal.returns
returns c = λ p k below key power is. c.next_key.ensures p k below key power (c.turned_by_tables.ensures k key is) is
