-- One write of 32 bytes each.
use Rattle.std.proofs.Common.{ℕ, ◌+◌, ◌*◌, ◌∙◌, sym, refl, replicate, arith}
use Rattle.std.proofs.lemmas.List.{length-replicate}
use Rattle.cut_disk.proofs.CallerLemmas.{runs_then, runs_more}
use Rattle.cell_store.proofs.WroteLaws.{chunks-none, chunk-more, chunk-failed, zeros-more}
use Rattle.cell_store.proofs.log_formatting.write_zeros.Goals as goal

pub loop-i-init : goal.loop-i-init
loop-i-init g c = chunks-none c.args.at (32 * c.args.times) (g.D.Disk.state c.args.disk.now)

pub returns-in_err-write-clause-runs : goal.returns-in_err-write-clause-runs
returns-in_err-write-clause-runs g c = runs_more _ (omega arith) (runs_then c.loop-i.invariant.runs c.write.ensures.call)

pub returns-in_err-write-clause-loosens : goal.returns-in_err-write-clause-loosens
returns-in_err-write-clause-loosens g c =
    chunk-failed c.args.at (32 * c.args.times) (c.args.at + 32 * c.from.result) c.loop-i.i _ _ _ _ c.loop-i.invariant (omega (arith, c.from.ensures))
    (length-replicate {A = ℕ} (32 * c.loop-i.i) 0) (let b = c.loop-i-test.true in omega arith)
    (λ t h. let z = (g.met.D.Disk.is_disk c.args.disk.now).bytes_sized t h in omega arith)
    (λ t h. let d = g.met.D.Disk.is_disk c.loop-i.disk in let z = d.bytes_sized t h in let l = d.loose_sized t h in let s = c.loop-i.invariant.runs.size in (omega arith, l ∙ sym z))
    c.write.ensures.call c.in_err-write.ensures.torn

pub loop-i-preserved : goal.loop-i-preserved
loop-i-preserved g c =
    chunk-more c.args.at (32 * c.args.times) (c.args.at + 32 * c.from.result) c.loop-i.i _ _ _ _ c.loop-i.invariant (omega (arith, c.from.ensures))
    (length-replicate {A = ℕ} (32 * c.loop-i.i) 0) (let b = c.loop-i-test.true in omega arith)
    (λ t h. let z = (g.met.D.Disk.is_disk c.args.disk.now).bytes_sized t h in omega arith)
    (λ t h. let d = g.met.D.Disk.is_disk c.loop-i.disk in let z = d.bytes_sized t h in let l = d.loose_sized t h in let s = c.loop-i.invariant.runs.size in (omega arith, l ∙ sym z))
    c.write.ensures.call (replicate {A = ℕ} 32 0) _ refl (zeros-more c.loop-i.i) c.in_ok-write.ensures.count c.in_ok-write.ensures.written
