use Rattle.std.proofs.Common.{subst}
use Rattle.std.specs.Prelude.{List, ℕ}
use Rattle.std.proofs.lemmas.Result.{on_ok_weaker}
use Rattle.slot_commands.specs.Cells.{SaysCell}
use Rattle.slot_commands.specs.Meanings.{meaning_words}
use Rattle.slot_commands.proofs.CellLaws.{says_meaning}
use Rattle.slot_commands.proofs.listing.push_cell.Goals as goal

pub returns : goal.returns
returns c =
    let words = meaning_words c.args.place c.meaning_of.result in
    on_ok_weaker c.push_meaning.result
    (λ d. (words, subst (λ (cell : List ℕ). SaysCell c.args.place cell words) c.get.ensures (says_meaning _ _ _ c.meaning_of.ensures), d))
    c.push_meaning.ensures
