use Rattle.she_aes.proofs.CipherFacts.{IsBlock-bytes}
use Rattle.she_aes.proofs.ColumnWords.{key_added}
use Rattle.she_aes.proofs.columns.with_key.Goals as goal

pub returns : goal.returns
returns c =
    λ s block key is. key_added c.args.key.now s c.args.columns.now c.columns_of.result (IsBlock-bytes c.args.key.now key) (IsBlock-bytes s block) is c.columns_of.ensures
