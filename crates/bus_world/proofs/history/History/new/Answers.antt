use Rattle.std.proofs.Common.{arith}
use Rattle.bus_world.proofs.Keeping.{well_kept_new}
use Rattle.bus_world.proofs.history.History.new.Goals as goal

pub invariant_of-result : goal.invariant_of-result
invariant_of-result c =
    well_kept_new c.args.most _ _ _ (omega arith) (omega (arith, c.in_ok-records.ensures.exact)) c.in_ok-records.ensures.items c.in_ok-latest.ensures
