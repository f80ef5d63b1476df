-- Two calls, or one if the write failed.
use Rattle.std.proofs.Common.{arith}
use Rattle.cut_disk.proofs.CallerLemmas.{runs_of_call, runs_then, runs_more}
use Rattle.cut_disk.proofs.lasting.write_and_sync.Goals as goal

pub returns-in-Ok-clause-runs : goal.returns-in-Ok-clause-runs
returns-in-Ok-clause-runs g c = runs_then (runs_of_call c.write.ensures.call) c.sync.ensures.call

pub returns-in-Err-clause-runs : goal.returns-in-Err-clause-runs
returns-in-Err-clause-runs g c = runs_more 2 (omega arith) (runs_of_call c.write.ensures.call)
