use Rattle.flash_calls.proofs.HeadLives.{other_never_idle, other_reads_heads, other_ends}
use Rattle.flash_calls.proofs.laws.a_start_over_another_geometry_is_refused.Goals as goal

pub returns-clause-idle : goal.returns-clause-idle
returns-clause-idle c = other_never_idle

pub returns-clause-reads : goal.returns-clause-reads
returns-clause-reads c = other_reads_heads

pub returns-clause-ends : goal.returns-clause-ends
returns-clause-ends c = other_ends
