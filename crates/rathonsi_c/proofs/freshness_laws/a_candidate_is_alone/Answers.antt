use Rattle.secured_pdu.proofs.CallerLemmas.{same_from_AheadWithBits}
use Rattle.rathonsi_c.proofs.freshness_laws.a_candidate_is_alone.Goals as goal

pub returns-clause-alone : goal.returns-clause-alone
returns-clause-alone c = λ counter window bits truncated one other takes x y. same_from_AheadWithBits counter window bits truncated one other takes.window_fits x y
