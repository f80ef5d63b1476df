use Rattle.std.proofs.Common.{inl, codes, refl}
use Rattle.std.proofs.lemmas.Result.{on_ok_weaker}
use Rattle.slot_commands.specs.StoreWords.{cell_words}
use Rattle.slot_commands.proofs.CellLaws.{finds_damaged}
use Rattle.slot_commands.proofs.Finds.{found_there}
use Rattle.slot_commands.proofs.checking.push_twin_finding.Goals as goal

pub returns-in-Ok : goal.returns-in-Ok
returns-in-Ok c =
    on_ok_weaker c.push_if_bad.result (λ d. found_there _ _ _ _ _ _ c.in-Ok.ensures.held d) c.push_if_bad.ensures

pub returns-in-Err : goal.returns-in-Err
returns-in-Err c =
    on_ok_weaker c.push_bad.result
    (λ d. found_there _ _ _ _ _ _ (c.in-Err.ensures.none refl c.requires.room)
    (inl (cell_words c.args.place (codes "Damaged"), finds_damaged _ c.args.place, d)))
    c.push_bad.ensures
