use Rattle.std.proofs.Common.{sym, ap, ◌∙◌}
use Rattle.seal_laws.specs.declared.SealPoint.{SealPoint}
use Rattle.seal_store.proofs.StartWrites.{point_still, bank_started}
use Rattle.seal_store.proofs.starting.point_after.Goals as goal

pub returns-then-is_move-clause-bank : goal.returns-then-is_move-clause-bank
returns-then-is_move-clause-bank c =
    let found = c.args.found.now in
    ap (λ (p : SealPoint). p.bank) c.point_moved.ensures ∙ bank_started c.args.sizes found found.latest.deed.body

pub returns-clause-is : goal.returns-clause-is
returns-clause-is c =
    let found = c.args.found.now in
    c.point_stayed.ensures ∙ sym (point_still c.args.sizes found found.latest.deed.body (c.is_move.ensures.isnt c.if-is_move.false))
