use Rattle.std.proofs.Common.{inl, inr, refl, ◌∙◌}
use Rattle.key_slots.specs.declared.memory.Slot.TheVariants.{Empty}
use Rattle.rathonsi_c.proofs.ImageLaws.{slot_once}
use Rattle.rathonsi_c.proofs.AnswerLaws.{empty_not_filled}
use Rattle.rathonsi_c.proofs.boot.boot_begun.Goals as goal

pub returns-clause-done : goal.returns-clause-done
returns-clause-done c =
    let image = c.args.image.now in
    let second = c.in-Some.second in
    let third = c.in-Some-slot_at.third in
    inr (
      (λ none. elim none [
        | inl none_second ↦ none_second second c.in-Some.ensures
        | inr none_third ↦ none_third third c.in-Some-slot_at.ensures
      ]),
      inr (
        (λ empty. elim empty [
          | inl one ↦ empty_not_filled c.in-Filled.key c.in-Filled.counter c.in-Filled.flags (slot_once image 2 Empty second one c.in-Some.ensures ∙ c.in-Filled.is)
          | inr two ↦ empty_not_filled c.in-Filled-third.wanted c.in-Filled-third.counter c.in-Filled-third.flags (slot_once image 3 Empty third two c.in-Some-slot_at.ensures ∙ c.in-Filled-third.is)
        ]),
        refl,
      ),
    )
