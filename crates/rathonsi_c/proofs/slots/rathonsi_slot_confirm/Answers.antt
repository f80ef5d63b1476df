use Rattle.std.proofs.Common.{◌≡◌, ℕ, inl, inr, List, refl, sym, subst, ◌∙◌}
use Rattle.key_slots.specs.declared.memory.Slot.{Slot}
use Rattle.key_slots.specs.declared.memory.Slot.TheVariants.{Empty}
use Rattle.memory_update.specs.Messages.{HeadOf, id_of}
use Rattle.memory_update.proofs.CallerLemmas.{id_of-head, HasSlots-head}
use Rattle.rathonsi_c.specs.Images.{ImageSlot, NoSlot}
use Rattle.rathonsi_c.proofs.AnswerLaws.{empty_slot, empty_not_filled}
use Rattle.rathonsi_c.proofs.ImageLaws.{slot_once}
use Rattle.rathonsi_c.proofs.slots.rathonsi_slot_confirm.Goals as goal

pub returns-in_default-slot_at-clause-answer : goal.returns-in_default-slot_at-clause-answer
returns-in_default-slot_at-clause-answer c =
    let found = subst (λ (m : List ℕ). HeadOf m c.in-Some.head) c.of.ensures.value c.in-Some.ensures.found in
    let place : c.number.result ≡ id_of c.args.m1.now = c.number.ensures.value ∙ sym (id_of-head c.args.m1.now c.in-Some.head found) in
    inr ((λ out. out (HasSlots-head c.args.m1.now c.in-Some.head found)), inl (subst (λ p. NoSlot c.args.image.now p) place c.in_default-slot_at.ensures, refl))

pub returns-in_default-slot-clause-answer : goal.returns-in_default-slot-clause-answer
returns-in_default-slot-clause-answer c =
    let found = subst (λ (m : List ℕ). HeadOf m c.in-Some.head) c.of.ensures.value c.in-Some.ensures.found in
    let place : c.number.result ≡ id_of c.args.m1.now = c.number.ensures.value ∙ sym (id_of-head c.args.m1.now c.in-Some.head found) in
    let held = subst (λ p. ImageSlot c.args.image.now p c.in-Some-slot_at.slot) place c.in-Some-slot_at.ensures in
    inr (
      (λ out. out (HasSlots-head c.args.m1.now c.in-Some.head found)),
      inr (
        (λ none. none c.in-Some-slot_at.slot held),
        inl (
          subst (λ (s : Slot). ImageSlot c.args.image.now (id_of c.args.m1.now) s) (empty_slot c.in-Some-slot_at.slot c.in_default-slot.not-Filled) held,
          refl,
        ),
      ),
    )

pub returns-clause-answer : goal.returns-clause-answer
returns-clause-answer c =
    let found = subst (λ (m : List ℕ). HeadOf m c.in-Some.head) c.of.ensures.value c.in-Some.ensures.found in
    let place : c.number.result ≡ id_of c.args.m1.now = c.number.ensures.value ∙ sym (id_of-head c.args.m1.now c.in-Some.head found) in
    let held = subst (λ p. ImageSlot c.args.image.now p c.in-Some-slot_at.slot) place c.in-Some-slot_at.ensures in
    inr (
      (λ out. out (HasSlots-head c.args.m1.now c.in-Some.head found)),
      inr (
        (λ none. none c.in-Some-slot_at.slot held),
        inr (
          (λ empty. empty_not_filled c.in-Filled.key c.in-Filled.counter c.in-Filled.flags (slot_once c.args.image.now (id_of c.args.m1.now) Empty c.in-Some-slot_at.slot empty held ∙ c.in-Filled.is)),
          refl,
        ),
      ),
    )
