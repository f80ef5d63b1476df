use Rattle.std.proofs.Common.{sym, ◌∙◌}
use Rattle.bus_config.proofs.Uids.{uid_not_zero}
use Rattle.bus_config.proofs.values.uid.Goals as goal

pub returns-clause-not_zero : goal.returns-clause-not_zero
returns-clause-not_zero c zero = uid_not_zero c.as_bytes.result.now c.in_ok-uid.uid (sym c.engine_uid.ensures ∙ c.in_ok-uid.was) zero
