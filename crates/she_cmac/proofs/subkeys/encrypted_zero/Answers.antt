use Rattle.std.proofs.Common.{length, ap, ◌∙◌}
use Rattle.basics.specs.Numbers.{number_of}
use Rattle.basics.proofs.CallerLemmas.{from_be_bytes-128}
use Rattle.she_aes.specs.Cipher.{enc}
use Rattle.she_cmac.specs.Cmac.{encrypted_zero}
use Rattle.she_cmac.proofs.subkeys.encrypted_zero.Goals as goal

pub returns : goal.returns
unfolding encrypted_zero
returns c =
    let bytes = c.bytes.ensures.value in
    c.from_be_bytes.ensures
    ∙ from_be_bytes-128 c.bytes.result.now (ap length bytes ∙ c.encrypt.ensures.is_block.size)
    ∙ ap number_of (bytes ∙ c.encrypt.ensures.value ∙ ap (enc c.args.schedule.now) c.zero.ensures.value)
