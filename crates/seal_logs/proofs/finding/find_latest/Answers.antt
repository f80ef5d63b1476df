use Rattle.std.proofs.Common.{◌≡◌, ◌+◌, suc, subst, arith}
use Rattle.seal_logs.specs.Reads.{reads_in}
use Rattle.seal_logs.specs.Found.{LatestSeen}
use Rattle.seal_logs.proofs.LatestLaws.{seen_all, seen_none}
use Rattle.seal_logs.proofs.finding.find_latest.Goals as goal

pub loop-bank-init : goal.loop-bank-init
loop-bank-init c = record { seen = seen_none c.args.sizes (reads_in c.args.sizes c.args.reads.now) }

pub loop-bank-preserved : goal.loop-bank-preserved
loop-bank-preserved c = record {
  seen = subst (λ k. LatestSeen c.args.sizes (reads_in c.args.sizes c.args.reads.now) k 0 c.latest_to-best.result) (let e : suc c.loop-bank.bank ≡ c.loop-bank.bank + 1 = omega arith in e)
      (c.latest_to-best.ensures c.loop-bank.invariant.seen);
}

pub returns : goal.returns
returns c = seen_all c.args.sizes (reads_in c.args.sizes c.args.reads.now) c.loop-bank.bank c.loop-bank.best (omega arith) c.loop-bank.invariant.seen
