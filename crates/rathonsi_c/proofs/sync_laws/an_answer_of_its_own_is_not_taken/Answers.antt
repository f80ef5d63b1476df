use Rattle.rathonsi_c.proofs.SyncLaws.{asked_this, not_its_own}
use Rattle.rathonsi_c.proofs.RejoinSteps.{rejoined_asked, rejoined_not_own}
use Rattle.rathonsi_c.proofs.sync_laws.an_answer_of_its_own_is_not_taken.Goals as goal

pub returns-clause-asked : goal.returns-clause-asked
returns-clause-asked c = λ s r sent image answer q p told a t hq hp same apart. asked_this s r sent image answer q p told a t hq hp same apart

pub returns-clause-own : goal.returns-clause-own
returns-clause-own c = λ s r sent image answer q p told a t hq hp same own. not_its_own s r sent image answer q p told a t hq hp same own

pub returns-clause-rejoined : goal.returns-clause-rejoined
returns-clause-rejoined c = λ s r sent image answer q p told a t hq hp same apart. rejoined_asked s r sent image answer q p told a t hq hp same apart

pub returns-clause-own_rejoined : goal.returns-clause-own_rejoined
returns-clause-own_rejoined c = λ s r sent image answer q p told a t hq hp same own. rejoined_not_own s r sent image answer q p told a t hq hp same own
