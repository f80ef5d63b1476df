use Rattle.store_plan.proofs.CutLaws.{still-firm}
use Rattle.store_plan.proofs.performing.do_write.Goals as goal

pub returns-then-write-eq0-clause-whole : goal.returns-then-write-eq0-clause-whole
returns-then-write-eq0-clause-whole g c x was = still-firm c.args.write.now x _ c.if-write-eq0.true was
