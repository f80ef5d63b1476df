use Rattle.std.proofs.Common.{◌≢◌, All, sym, subst, ◌∙◌}
use Rattle.bus_config.proofs.heads.node_head.Goals as goal

pub returns-clause-new : goal.returns-clause-new
returns-clause-new c = record {
  named = c.bytes.ensures.named;
  new = subst (λ name. All (λ n. n.name ≢ name) c.args.before.now) c.bytes.ensures.value (c.place_named.ensures.nowhere (sym c.is_some.ensures ∙ c.if-is_some.false));
  is_uid = c.in_ok-uid.ensures.is_uid;
  not_zero = c.in_ok-uid.ensures.not_zero;
  few = c.in_ok-rows.ensures.few;
}
