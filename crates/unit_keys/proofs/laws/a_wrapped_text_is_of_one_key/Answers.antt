use Rattle.unit_keys.proofs.Steps.{wrapped_once}
use Rattle.unit_keys.proofs.laws.a_wrapped_text_is_of_one_key.Goals as goal

pub returns : goal.returns
returns c = wrapped_once
