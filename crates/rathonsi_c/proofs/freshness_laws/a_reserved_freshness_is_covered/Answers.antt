use Rattle.rathonsi_c.proofs.CandidateLaws.{reserved_covers, next_given}
use Rattle.rathonsi_c.proofs.freshness_laws.a_reserved_freshness_is_covered.Goals as goal

pub returns-clause-covered : goal.returns-clause-covered
returns-clause-covered c = λ r image next direction freshness old plan emptied in_use fits reserved done. reserved_covers r image next direction freshness old plan emptied in_use fits reserved done

pub returns-clause-given : goal.returns-clause-given
returns-clause-given c = λ r image status only in_use covered h. next_given r image status only in_use covered h
