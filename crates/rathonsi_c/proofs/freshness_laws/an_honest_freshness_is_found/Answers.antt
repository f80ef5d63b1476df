use Rattle.rathonsi_c.proofs.CandidateLaws.{honest_found, honest_answered, honest_accepted}
use Rattle.rathonsi_c.proofs.freshness_laws.an_honest_freshness_is_found.Goals as goal

pub returns-clause-found : goal.returns-clause-found
returns-clause-found c = λ counter window bits sent told small within fits x. honest_found counter window bits sent told small within fits x

pub returns-clause-answered : goal.returns-clause-answered
returns-clause-answered c = λ r image bits sent bound status only in_use kept least most small within fits h. honest_answered r image bits sent bound status only in_use kept least most small within fits h

pub returns-clause-accepted : goal.returns-clause-accepted
returns-clause-accepted c = λ r image sent status only in_use covered within h. honest_accepted r image sent status only in_use covered within h
