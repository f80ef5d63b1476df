-- What a MAC under a slot's key answers.
use Rattle.std.proofs.Common.{ℤ, ◌≡◌, ℕ, ◌==◌, inl, inr, Bool, List, refl, sym, ap, ◌∙◌}
use Rattle.std.proofs.lemmas.Option.{none-some}
use Rattle.key_slots.specs.declared.memory.Slot.{Slot}
use Rattle.key_slots.specs.declared.memory.Slot.TheVariants.{Filled}
use Rattle.key_slots.specs.declared.refusals.Erc.{Erc}
use Rattle.key_slots.specs.declared.usage.Purpose.TheVariants.{Mac}
use Rattle.key_slots.specs.Usage.{slot_refusals, first_applying}
use Rattle.rathonsi_c.specs.declared.refusals.Refusal.{Refusal}
use Rattle.rathonsi_c.specs.declared.refusals.Refusal.TheVariants.{BadValue, WrongCell, Damaged, Key, Exhausted, Reserve}
use Rattle.rathonsi_c.specs.Causes.{IsDone}
use Rattle.rathonsi_c.specs.Images.{ImageKey, SlotRefuses}
use Rattle.rathonsi_c.specs.Refused.{route_status, KeyRefused}
use Rattle.rathonsi_c.specs.SlotMacs.{NamesKey, SlotMacAnswers}
use Rattle.rathonsi_c.proofs.ImageLaws.{slot_once}

-- a key that may be used is refused for nothing
may_be_used : (image : List ℕ) (place : ℕ) (booted : Bool) (key : List ℕ) (refusal : Erc) → ImageKey image place booted key → SlotRefuses image place booted refusal → ⊥
may_be_used image place booted key refusal k s =
    let e : s.slot ≡ Filled key k.counter k.flags = slot_once image place s.slot (Filled key k.counter k.flags) s.held k.held in
    none-some refusal (sym k.may ∙ (ap (λ (slot : Slot). first_applying (slot_refusals slot booted Mac)) (sym e) ∙ s.first))

pub refused_mac : (slot booted : ℕ) (image : List ℕ) (refusal : Refusal) → NamesKey slot booted → KeyRefused image slot (booted == 1) refusal → SlotMacAnswers slot booted image (route_status refusal)
refused_mac slot booted image BadValue named h = absurd h
refused_mac slot booted image WrongCell named h = absurd h
refused_mac slot booted image Damaged named h = inr ((λ out. out named), inl (h, refl))
refused_mac slot booted image (Key refusal) named h = inr ((λ out. out named), inr ((λ none. none h.slot h.held), inl (refusal, (h, refl))))
refused_mac slot booted image Exhausted named h = absurd h
refused_mac slot booted image Reserve named h = absurd h

pub done_mac : (slot booted : ℕ) (image key : List ℕ) (status : ℤ) → NamesKey slot booted → ImageKey image slot (booted == 1) key → IsDone status → SlotMacAnswers slot booted image status
done_mac slot booted image key status named keyed done =
    inr (
      (λ out. out named),
      inr (
        (λ none. none (Filled key keyed.counter keyed.flags) keyed.held),
        inr ((λ refusal refuses. may_be_used image slot (booted == 1) key refusal keyed refuses), done),
      ),
    )
