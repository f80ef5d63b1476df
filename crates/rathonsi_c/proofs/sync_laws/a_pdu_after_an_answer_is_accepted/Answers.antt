use Rattle.rathonsi_c.proofs.SyncLaws.{after_answer}
use Rattle.rathonsi_c.proofs.sync_laws.a_pdu_after_an_answer_is_accepted.Goals as goal

pub returns : goal.returns
returns c = λ s r taken sent image later answer q p verdict told answers is advances key payload pdu bound freshness second secured above near fits own ready receives.
    after_answer s r taken sent image later answer q p verdict told answers is advances key payload pdu bound freshness second secured above near fits own ready receives
