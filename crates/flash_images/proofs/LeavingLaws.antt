-- What a store on flash leaves of a plan that is under way.
use Rattle.std.proofs.Common.{◌≡◌, inl, inr, ℕ, List, [], ◌∷◌, set, sym, subst, ◌∙◌}
use Rattle.flash_laws.specs.Logs.{CellList}
use Rattle.flash_laws.specs.Lives.{FlashDeed, puts, cuts_put, Possible}
use Rattle.flash_plan.specs.Plans.{IsIdle}
use Rattle.flash_calls.specs.Numbers.{plan_in}
use Rattle.flash_calls.specs.CallLives.{FlashSizes, CallState, CallDeed, CallLives, OperationsDone, TakesPut, IsFoundStore}
use Rattle.flash_calls.proofs.CallerLemmas.{put_there, none_there, put_done}
use Rattle.store_plan.specs.declared.planning.Plan.{Plan}
use Rattle.store_plan.specs.Plans.{PlansPut, applied}
use Rattle.store_plan.specs.Leaving.{LeavesPut, IsImageOf}
use Rattle.store_plan.proofs.CallerLemmas.{image-put, images-unchanged, images-put}
use Rattle.flash_images.specs.Putting.{PutsOnly, TakesPutOnly}

module _ (plan : Plan) (x y : List ℕ) (olds cells : CellList) (a : IsImageOf x olds) (b : IsImageOf y cells) where
  same-leaves : cells ≡ olds → LeavesPut plan x y
  same-leaves e = images-unchanged plan x y olds a (subst (λ (z : CellList). IsImageOf y z) e b)

  put-leaves : (i : ℕ) (c : List ℕ) → PlansPut plan x i c → cells ≡ set olds i c → LeavesPut plan x y
  put-leaves i c p e = images-put plan x y olds i c a p (subst (λ (z : CellList). IsImageOf y z) e b)

  module _ (deeds : List FlashDeed) (only : PutsOnly plan x deeds) (may : Possible deeds olds cells) where
    possible-as : (others : List FlashDeed) → deeds ≡ others → Possible others olds cells
    possible-as others e = subst (λ (ds : List FlashDeed). Possible ds olds cells) e may

    either-leaves : (i : ℕ) (c : List ℕ) → PlansPut plan x i c → LeavesPut plan x y
    either-leaves i c p = elim (only.put i c p) [
      | inl none ↦ same-leaves (possible-as [] none)
      | inr some ↦ elim some [
        | inl done ↦ (let t = possible-as (puts i c ∷ []) done in put-leaves i c p (t.1.1 ∙ t.1.0))
        | inr cut ↦
            let t = possible-as (cuts_put i c ∷ []) cut in
            elim t.1.0 [
              | inl old ↦ same-leaves (t.1.1 ∙ old)
              | inr new ↦ put-leaves i c p (t.1.1 ∙ new)
            ]
      ]
    ]

    pub flash-leaves : LeavesPut plan x y
    flash-leaves = record {
      put = λ i c p. (either-leaves i c p).put i c p;
      none = λ empty. (same-leaves (possible-as [] (only.none empty))).none empty;
    }

-- ---- a caller in C

one-left : (s : FlashSizes) (deeds : List CallDeed) (first : CellList) (a b : CallState) (plan : Plan) (x y : List ℕ) → IsFoundStore s first a
    → CallLives s deeds a b → IsIdle (plan_in b.numbers) → IsImageOf x a.cells → IsImageOf y b.cells → TakesPutOnly plan x deeds
    → (i : ℕ) (c : List ℕ) → PlansPut plan x i c → LeavesPut plan x y
one-left s deeds first a b plan x y found lives idle old new only i c p = elim (put_there s deeds first i c a b found (only.put i c p) lives idle) [
  | inl kept ↦ same-leaves plan x y a.cells b.cells old new kept
  | inr put ↦ put-leaves plan x y a.cells b.cells old new i c p put
]

pub call-leaves : (s : FlashSizes) (deeds : List CallDeed) (first : CellList) (a b : CallState) (plan : Plan) (x y : List ℕ) → IsFoundStore s first a
    → CallLives s deeds a b → IsIdle (plan_in b.numbers) → IsImageOf x a.cells → IsImageOf y b.cells → TakesPutOnly plan x deeds → LeavesPut plan x y
call-leaves s deeds first a b plan x y found lives idle old new only = record {
  put = λ i c p. (one-left s deeds first a b plan x y found lives idle old new only i c p).put i c p;
  none = λ empty.
      (same-leaves plan x y a.cells b.cells old new (none_there s deeds first a b found (only.none empty) lives idle)).none empty;
}

pub call-done : (s : FlashSizes) (deeds : List CallDeed) (first : CellList) (i : ℕ) (c : List ℕ) (a between b : CallState) (plan : Plan) (x : List ℕ)
    → IsFoundStore s first a → TakesPut i c a between → OperationsDone deeds between b → IsIdle (plan_in b.numbers) → IsImageOf x a.cells
    → PlansPut plan x i c → IsImageOf (applied plan x) b.cells
call-done s deeds first i c a between b plan x found taken all idle old p =
    subst (λ (z : CellList). IsImageOf (applied plan x) z) (sym (put_done s deeds first i c a between b found taken all idle))
    (image-put plan x a.cells i c old p)
