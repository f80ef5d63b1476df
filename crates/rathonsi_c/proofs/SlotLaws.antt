-- The two slots that M1 names.
use Rattle.std.proofs.Common.{◌≡◌, ℕ, inl, inr, List, set, get_or, sym, ap, subst, ◌∙◌, arith}
use Rattle.std.proofs.lemmas.Bool.{cases_eq}
use Rattle.std.proofs.lemmas.List.{get_or-set_same, get_or-set_other}
use Rattle.key_slots.specs.declared.memory.Slot.{Slot}
use Rattle.key_slots.specs.declared.memory.Slot.TheVariants.{Empty}
use Rattle.key_slots.specs.Slots.{IsSlots, slot_at}
use Rattle.memory_update.specs.Messages.{HeadOf, id_of, auth_of}
use Rattle.memory_update.proofs.CallerLemmas.{id_of-head, auth_of-head, HasSlots-head}
use Rattle.memory_update.specs.declared.messages.Head.{Head}
use Rattle.rathonsi_c.specs.Images.{ImageSlot, ReadsSlots}

-- the one is put first, and the other over it
pub reads_named : (image m1 : List ℕ) (h : Head) (first second third : List Slot) (target authority : Slot) → HeadOf m1 h
    → IsSlots first → IsSlots second → IsSlots third → second ≡ set first h.id target → third ≡ set second h.auth authority
    → ImageSlot image h.id target → ImageSlot image h.auth authority → ReadsSlots image m1 third
reads_named image m1 h first second third target authority found one two three e f held_target held_authority =
    let named = HasSlots-head m1 h found in
    let id : id_of m1 ≡ h.id = id_of-head m1 h found in
    let auth : auth_of m1 ≡ h.auth = auth_of-head m1 h found in
    let here : slot_at third h.auth ≡ authority = ap (λ (s : List Slot). get_or s h.auth Empty) f ∙ get_or-set_same second h.auth authority Empty (let l = two.size in omega (arith, named.1)) in
    let at_target : ImageSlot image h.id (slot_at third h.id) = elim (cases_eq h.id h.auth) [
      | inl same ↦ subst (λ i. ImageSlot image i (slot_at third i)) (sym same) (subst (λ (s : Slot). ImageSlot image h.auth s) (sym here) held_authority)
      | inr apart ↦
          let kept : slot_at third h.id ≡ target = ap (λ (s : List Slot). get_or s h.id Empty) f ∙ get_or-set_other second h.auth h.id authority Empty apart
          ∙ ap (λ (s : List Slot). get_or s h.id Empty) e ∙ get_or-set_same first h.id target Empty (let l = one.size in omega (arith, named.0)) in
          subst (λ (s : Slot). ImageSlot image h.id s) (sym kept) held_target
    ] in
    record {
      are_slots = three;
      target = λ _. subst (λ i. ImageSlot image i (slot_at third i)) (sym id) at_target;
      authority = λ _. subst (λ i. ImageSlot image i (slot_at third i)) (sym auth) (subst (λ (s : Slot). ImageSlot image h.auth s) (sym here) held_authority);
    }
