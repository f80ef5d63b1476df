use Rattle.std.proofs.Common.{refl}
use Rattle.slot_commands.proofs.Finds.{found_none, found_more}
use Rattle.slot_commands.proofs.checking.push_twin_findings.Goals as goal

pub loop-place-init : goal.loop-place-init
loop-place-init c = found_none _ _ _ _ refl

pub loop-place-preserved : goal.loop-place-preserved
loop-place-preserved c = found_more _ _ _ _ _ _ c.loop-place.invariant c.in_ok-push_twin_finding.ensures
