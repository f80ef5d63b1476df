use Rattle.std.proofs.Common.{ap, ◌∙◌, rules}
use Rattle.basics.specs.Numbers.{number_of}
use Rattle.basics.proofs.CallerLemmas.{from_be_bytes-64}
use Rattle.counter_answers.proofs.answering.counter_of.Goals as goal

pub returns : goal.returns
returns c = c.from_be_bytes.ensures ∙ (from_be_bytes-64 c.copy_from_slice.new.self (search rules) ∙ ap number_of c.copy_from_slice.ensures.after)
