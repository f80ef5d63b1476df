use Rattle.std.proofs.Common.{◌≡◌, ℕ, inl, inr, List, sym, subst, ◌∙◌}
use Rattle.memory_update.specs.Messages.{HeadOf, id_of, auth_of}
use Rattle.memory_update.proofs.CallerLemmas.{id_of-head, auth_of-head, HasSlots-head}
use Rattle.rathonsi_c.specs.Images.{ImageSlot, NoSlot}
use Rattle.rathonsi_c.proofs.SlotLaws.{reads_named}
use Rattle.rathonsi_c.proofs.images.slots_named.Goals as goal

pub returns-in_default-slot_at : goal.returns-in_default-slot_at
returns-in_default-slot_at c =
    let m1 = c.args.m1.now in
    let head = c.in-Some.head in
    let found = subst (λ (m : List ℕ). HeadOf m head) c.of.ensures.value c.in-Some.ensures.found in
    let place : c.number.result ≡ id_of m1 = c.number.ensures.value ∙ sym (id_of-head m1 head found) in
    (HasSlots-head m1 head found, inl (subst (λ p. NoSlot c.args.image.now p) place c.in_default-slot_at.ensures))

pub returns-in_default-slot_at-2 : goal.returns-in_default-slot_at-2
returns-in_default-slot_at-2 c =
    let m1 = c.args.m1.now in
    let head = c.in-Some.head in
    let found = subst (λ (m : List ℕ). HeadOf m head) c.of.ensures.value c.in-Some.ensures.found in
    let place : c.number-2.result ≡ auth_of m1 = c.number-2.ensures.value ∙ sym (auth_of-head m1 head found) in
    (HasSlots-head m1 head found, inr (subst (λ p. NoSlot c.args.image.now p) place c.in_default-slot_at-2.ensures))

pub returns : goal.returns
returns c =
    let m1 = c.args.m1.now in
    let image = c.args.image.now in
    let head = c.in-Some.head in
    let target = c.in-Some-slot_at.target in
    let authority = c.in-Some-slot_at-2.authority in
    let found = subst (λ (m : List ℕ). HeadOf m head) c.of.ensures.value c.in-Some.ensures.found in
    reads_named image m1 head c.empty-slots.result c.set.new.self c.set-2.new.self target authority found
    c.empty-slots.ensures.whole c.set.ensures.whole c.set-2.ensures.whole c.set.ensures.value c.set-2.ensures.value
    (subst (λ p. ImageSlot image p target) c.number.ensures.value c.in-Some-slot_at.ensures)
    (subst (λ p. ImageSlot image p authority) c.number-2.ensures.value c.in-Some-slot_at-2.ensures)
