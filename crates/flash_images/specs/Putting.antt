-- What a store on flash puts while a plan is under way.
use Rattle.std.specs.Prelude.{◌≡◌, ◌⊎◌, ℕ, List, [], ◌∷◌}
use Rattle.flash_laws.specs.Lives.{FlashDeed, puts, cuts_put}
use Rattle.store_plan.specs.declared.planning.Plan.{Plan}
use Rattle.store_plan.specs.Plans.{PlansPut, IsEmptyPlan}
use Rattle.flash_calls.specs.CallLives.{CallDeed, EachPutTaken, IsPutOf, TakesNoPut}

-- The store on flash puts nothing but what the plan puts: that put was done, or the power cut into it, or it wasn't
-- begun.
pub record PutsOnly (plan : Plan) (x : List ℕ) (deeds : List FlashDeed) : Type 0 where
  pub put : (i : ℕ) (c : List ℕ) → PlansPut plan x i c
      → (deeds ≡ []) ⊎ ((deeds ≡ puts i c ∷ []) ⊎ (deeds ≡ cuts_put i c ∷ []))
  pub none : IsEmptyPlan plan → deeds ≡ []

-- a caller hands in no put but what the plan puts
pub record TakesPutOnly (plan : Plan) (x : List ℕ) (deeds : List CallDeed) : Type 0 where
  pub put : (i : ℕ) (c : List ℕ) → PlansPut plan x i c → EachPutTaken (IsPutOf i c) deeds
  pub none : IsEmptyPlan plan → TakesNoPut deeds
