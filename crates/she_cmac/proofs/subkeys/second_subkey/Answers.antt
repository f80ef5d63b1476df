use Rattle.std.proofs.Common.{ap, ◌∙◌}
use Rattle.basics.specs.Numbers.{bytes_of}
use Rattle.she_cmac.specs.Cmac.{dbl, second_subkey}
use Rattle.she_cmac.proofs.subkeys.second_subkey.Goals as goal

pub returns : goal.returns
unfolding second_subkey
returns c =
    c.block_of.ensures ∙ ap (bytes_of 16) (c.double-2.ensures ∙ ap dbl (c.double.ensures ∙ ap dbl c.encrypted_zero.ensures))
