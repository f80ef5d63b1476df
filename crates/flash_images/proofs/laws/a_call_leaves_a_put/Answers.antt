use Rattle.flash_images.proofs.LeavingLaws.{call-leaves, call-done}
use Rattle.flash_images.proofs.laws.a_call_leaves_a_put.Goals as goal

pub returns-clause-left : goal.returns-clause-left
returns-clause-left c = call-leaves

pub returns-clause-done : goal.returns-clause-done
returns-clause-done c = call-done
