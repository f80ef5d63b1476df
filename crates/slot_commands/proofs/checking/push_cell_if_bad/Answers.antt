use Rattle.std.proofs.Common.{ap, sym, Some}
use Rattle.std.proofs.lemmas.Result.{on_ok_weaker}
use Rattle.slot_commands.proofs.Finds.{found_there}
use Rattle.slot_commands.proofs.checking.push_cell_if_bad.Goals as goal

pub returns : goal.returns
returns c =
    on_ok_weaker c.push_if_bad.result (λ d. found_there _ _ _ _ _ _ (ap Some (sym c.get.ensures)) d) c.push_if_bad.ensures
