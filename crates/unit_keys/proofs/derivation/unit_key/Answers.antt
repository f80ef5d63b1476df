use Rattle.std.proofs.Common.{ap, sym}
use Rattle.basics.specs.Numbers.{bytes_of}
use Rattle.she_cmac.specs.Cmac.{cmac}
use Rattle.unit_keys.specs.Derived.{unit_key}
use Rattle.unit_keys.proofs.Inputs.{input_is}
use Rattle.unit_keys.proofs.derivation.unit_key.Goals as goal

pub returns-clause-value : goal.returns-clause-value
unfolding unit_key bytes_of
returns-clause-value c =
    rw (c.cmac_of_parts.ensures.value, c.as_slice.ensures.value, c.number.ensures.value, c.expand.ensures.value) (ap (cmac c.args.master.now) (sym (input_is c.args.uid.now c.args.slot)))
