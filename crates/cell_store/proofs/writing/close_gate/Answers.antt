use Rattle.std.proofs.Common.{◌∙◌, arith}
use Rattle.std.proofs.lemmas.Result.{on_ok_weaker, on_err_weaker}
use Rattle.cell_store.proofs.WritingLaws.{torn-outside}
use Rattle.cell_store.proofs.GateLaws.{closing, closed-write, closed-already, is_live-wide}
use Rattle.cell_store.proofs.writing.close_gate.Goals as goal

pub returns-clause-closed : goal.returns-clause-closed
returns-clause-closed g c =
    on_ok_weaker c.write_and_sync.result (λ l n. closed-write n c.args.at _ _ (λ t h. let z = (g.met.D.Disk.is_disk c.args.disk.now).bytes_sized t h in omega arith) l) c.write_and_sync.ensures.lasts

pub returns-clause-torn : goal.returns-clause-torn
returns-clause-torn g c =
    on_err_weaker c.write_and_sync.result
    (λ l n bytes. closing n c.args.at bytes _ _ (λ t h. is_live-wide n c.args.at t.bytes ∙ (c.requires.gate t h ∙ cc))
    (torn-outside c.args.at 1 _ _ (λ t h. let z = (g.met.D.Disk.is_disk c.args.disk.now).bytes_sized t h in omega arith) l))
    c.write_and_sync.ensures.torn

pub returns-then-not-live-clause-closed : goal.returns-then-not-live-clause-closed
returns-then-not-live-clause-closed g c n = closed-already n c.args.at _ (λ t h. is_live-wide n c.args.at t.bytes ∙ (c.requires.gate t h ∙ cc))
