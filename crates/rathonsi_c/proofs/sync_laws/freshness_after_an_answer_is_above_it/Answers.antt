use Rattle.rathonsi_c.proofs.SyncLaws.{rises_after}
use Rattle.rathonsi_c.proofs.sync_laws.freshness_after_an_answer_is_above_it.Goals as goal

pub returns : goal.returns
returns c = λ n before after first mid last k powered lived lives x never q answer a mac told t.
    rises_after n k before after first mid last powered lived lives x never q answer a mac told t
