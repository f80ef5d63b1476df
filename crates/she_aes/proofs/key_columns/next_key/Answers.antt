use Rattle.she_aes.proofs.KeyColumns.{next_columns}
use Rattle.she_aes.proofs.key_columns.next_key.Goals as goal

pub returns : goal.returns
returns c = λ p k below key power turned is. next_columns p k below key c.args.power c.args.turned c.args.key.now power turned is
