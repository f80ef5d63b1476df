use Rattle.std.proofs.Common.{◌≡◌, suc, length, sym, ap, ◌∙◌, arith}
use Rattle.std.proofs.lemmas.Result.{on_ok_weaker, on_err_weaker}
use Rattle.cut_disk.proofs.CallerLemmas.{runs_more}
use Rattle.cell_store.proofs.GateLaws.{is_live-wide, most-any, gated-lasts, gated-leaves}
use Rattle.cell_store.proofs.writing.write_copy.Goals as goal

pub write_gated-requires-clause-gate : goal.write_gated-requires-clause-gate
write_gated-requires-clause-gate g c t h = sym (is_live-wide 33 c.args.at t.bytes) ∙ c.requires.gate t h

pub returns-clause-runs : goal.returns-clause-runs
returns-clause-runs g c = runs_more 6 (most-any c.args.live) c.write_gated.ensures.runs

pub returns-clause-written : goal.returns-clause-written
returns-clause-written g c =
    on_ok_weaker c.write_gated.result (gated-lasts c.args.at _ _ _ _ c.marked.ensures) c.write_gated.ensures.written

pub returns-clause-torn : goal.returns-clause-torn
returns-clause-torn g c =
    let sized : length c.args.payload.now ≡ 32 = omega arith in
    on_err_weaker c.write_gated.result (gated-leaves 33 c.args.at _ _ _ _ c.marked.ensures (ap suc sized)) c.write_gated.ensures.torn
