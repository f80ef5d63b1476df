use Rattle.secoc_words.proofs.CountingLaws.{KeepsCounters-rise}
use Rattle.secoc_words.proofs.counting_laws.accepted_freshness_rises.Goals as goal

pub returns : goal.returns
returns c = λ first answers. KeepsCounters-rise first answers
