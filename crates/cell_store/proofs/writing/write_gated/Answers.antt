use Rattle.std.proofs.Common.{◌+◌, [], ◌∷◌, length, refl, arith}
use Rattle.std.proofs.lemmas.Result.{on_ok_weaker, on_err_weaker}
use Rattle.cut_disk.proofs.CallerLemmas.{runs_join, runs_more}
use Rattle.cell_store.proofs.GateLaws.{filling, opening, opened, most-closing, most-filling, most-opening, unfinished-outside, lasts-outside, either-outside}
use Rattle.cell_store.proofs.WritingLaws.{torn-outside}
use Rattle.cell_store.proofs.Results.{OnErr-from}
use Rattle.cell_store.proofs.writing.write_gated.Goals as goal

pub returns-in_err-close_gate-clause-runs : goal.returns-in_err-close_gate-clause-runs
returns-in_err-close_gate-clause-runs g c = runs_more _ (most-closing c.args.live) c.close_gate.ensures.runs

pub returns-in_err-close_gate-clause-torn : goal.returns-in_err-close_gate-clause-torn
returns-in_err-close_gate-clause-torn g c =
    OnErr-from c.from_residual.result (c.in_err-close_gate.ensures.torn (length c.args.bytes.now) _)

pub returns-in_err-write_and_sync-clause-runs : goal.returns-in_err-write_and_sync-clause-runs
returns-in_err-write_and_sync-clause-runs g c = runs_more _ (most-filling c.args.live) (runs_join c.close_gate.ensures.runs c.write_and_sync.ensures.runs)

pub returns-in_err-write_and_sync-clause-torn : goal.returns-in_err-write_and_sync-clause-torn
returns-in_err-write_and_sync-clause-torn g c =
    OnErr-from c.from_residual-in_err-write_and_sync.result
    (filling (length c.args.bytes.now) c.args.at _ _ _ _ (c.in_ok-close_gate.ensures.closed (length c.args.bytes.now))
    (torn-outside (c.args.at + 1) (length c.args.bytes.now) _ _ (λ t h. let z = (g.met.D.Disk.is_disk c.close_gate.new.disk).bytes_sized t h in let s = c.close_gate.ensures.runs.size in omega arith) c.in_err-write_and_sync.ensures.torn))

pub returns-clause-runs : goal.returns-clause-runs
returns-clause-runs g c = runs_more _ (most-opening c.args.live) (runs_join (runs_join c.close_gate.ensures.runs c.write_and_sync.ensures.runs) c.open_gate.ensures.runs)

pub returns-clause-written : goal.returns-clause-written
returns-clause-written g c =
    on_ok_weaker c.open_gate.result
    (opened (length c.args.bytes.now) c.args.at c.args.bytes.now refl _ _ _ _ (λ t h. let z = (g.met.D.Disk.is_disk c.args.disk.now).bytes_sized t h in omega arith) (c.in_ok-close_gate.ensures.closed (length c.args.bytes.now)) c.in_ok-write_and_sync.ensures.lasts)
    c.open_gate.ensures.written

pub returns-clause-torn : goal.returns-clause-torn
returns-clause-torn g c =
    on_err_weaker c.open_gate.result
    (λ tears. opening (length c.args.bytes.now) c.args.at c.args.bytes.now refl _ _ _ _ (λ t h. let z = (g.met.D.Disk.is_disk c.args.disk.now).bytes_sized t h in omega arith) (c.in_ok-close_gate.ensures.closed (length c.args.bytes.now)) c.in_ok-write_and_sync.ensures.lasts
    (torn-outside c.args.at 1 _ _ (λ t h. let z = (g.met.D.Disk.is_disk c.write_and_sync.new.disk).bytes_sized t h in let s = c.close_gate.ensures.runs.size in let r = c.write_and_sync.ensures.runs.size in omega arith) tears))
    c.open_gate.ensures.torn

pub returns-in_err-close_gate-clause-outside : goal.returns-in_err-close_gate-clause-outside
returns-in_err-close_gate-clause-outside g c = unfinished-outside (length c.args.bytes.now) c.args.at [] _ _ (c.in_err-close_gate.ensures.torn (length c.args.bytes.now) [])

pub returns-in_err-write_and_sync-clause-outside : goal.returns-in_err-write_and_sync-clause-outside
returns-in_err-write_and_sync-clause-outside g c =
    unfinished-outside (length c.args.bytes.now) c.args.at [] _ _
    (filling (length c.args.bytes.now) c.args.at [] _ _ _ (c.in_ok-close_gate.ensures.closed (length c.args.bytes.now))
    (torn-outside (c.args.at + 1) (length c.args.bytes.now) _ _ (λ t h. let z = (g.met.D.Disk.is_disk c.close_gate.new.disk).bytes_sized t h in let s = c.close_gate.ensures.runs.size in omega arith) c.in_err-write_and_sync.ensures.torn))

pub returns-clause-outside : goal.returns-clause-outside
returns-clause-outside g c =
    either-outside c.open_gate.result _
    (on_ok_weaker c.open_gate.result
    (λ w. lasts-outside c.args.at (1 + length c.args.bytes.now) (167 ∷ c.args.bytes.now) _ _ (omega arith) (λ t h. let z = (g.met.D.Disk.is_disk c.args.disk.now).bytes_sized t h in omega arith)
    (opened (length c.args.bytes.now) c.args.at c.args.bytes.now refl _ _ _ _ (λ t h. let z = (g.met.D.Disk.is_disk c.args.disk.now).bytes_sized t h in omega arith) (c.in_ok-close_gate.ensures.closed (length c.args.bytes.now)) c.in_ok-write_and_sync.ensures.lasts w))
    c.open_gate.ensures.written)
    (on_err_weaker c.open_gate.result
    (λ tears. unfinished-outside (length c.args.bytes.now) c.args.at (167 ∷ c.args.bytes.now) _ _
    (opening (length c.args.bytes.now) c.args.at c.args.bytes.now refl _ _ _ _ (λ t h. let z = (g.met.D.Disk.is_disk c.args.disk.now).bytes_sized t h in omega arith) (c.in_ok-close_gate.ensures.closed (length c.args.bytes.now)) c.in_ok-write_and_sync.ensures.lasts
    (torn-outside c.args.at 1 _ _ (λ t h. let z = (g.met.D.Disk.is_disk c.write_and_sync.new.disk).bytes_sized t h in let s = c.close_gate.ensures.runs.size in let r = c.write_and_sync.ensures.runs.size in omega arith) tears)))
    c.open_gate.ensures.torn)
