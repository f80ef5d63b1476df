use Rattle.std.proofs.Common.{inr, replicate, refl, ap, ◌∙◌}
use Rattle.cell_store.specs.declared.kinds.Version.TheVariants.{One}
use Rattle.cell_store.specs.Layout.{twin_layout}
use Rattle.cell_store.specs.Store.{fresh_store}
use Rattle.key_slots.specs.declared.memory.Slot.TheVariants.{Empty}
use Rattle.slot_disk.specs.Cell.{slot_cell}
use Rattle.rathonsi_c.proofs.AnswerLaws.{one_size}
use Rattle.rathonsi_c.proofs.store.rathonsi_store_make.Goals as goal

pub returns-in-Some-clause-answer : goal.returns-in-Some-clause-answer
returns-in-Some-clause-answer c = inr ((λ none. none c.in-Some.cells c.in-Some.ensures), refl)

pub returns-in-Some-clause-made : goal.returns-in-Some-clause-made
unfolding slot_cell
returns-in-Some-clause-made c = λ n is _.
    c.make.ensures ∙ ap (λ k. fresh_store (twin_layout One) (replicate k (slot_cell Empty))) (one_size c.in-Some.cells n _ c.in-Some.ensures is)
