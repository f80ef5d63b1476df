use Rattle.std.proofs.Common.{sym, ◌∙◌}
use Rattle.freshness_routes.proofs.OwnIds.{own_more, own_here}
use Rattle.freshness_routes.proofs.config.have_own_ids.Goals as goal

-- src/config.rt:85:13
pub returns-then-not-is_free : goal.returns-then-not-is_free
returns-then-not-is_free c =
    (λ h. cc, λ own. sym c.if-not-is_free.true ∙ c.is_free.ensures.1 (own_here c.args.routes.now c.loop-i.i c.index-routes-i.result c.loop-i-test.true (sym c.index-routes-i.is) own))

-- src/config.rt:83:5
pub loop-i-preserved : goal.loop-i-preserved
loop-i-preserved c =
    own_more c.args.routes.now c.loop-i.i c.index-routes-i.result c.loop-i-test.true (sym c.index-routes-i.is) c.loop-i.invariant
    (c.is_free.ensures.0 c.if-not-is_free.false)
