-- What becomes of a put that a caller hands in.
use Rattle.std.proofs.Common.{◌≡◌, ◌⊎◌, inl, inr, ℕ, Option, Some, None, IfSome, List, [], ◌∷◌, ◌++◌, set, refl, sym, ap, subst, ◌∙◌}
use Rattle.std.proofs.lemmas.Bool.{cases_eq}
use Rattle.std.proofs.lemmas.List.{set-set}
use Rattle.std.proofs.lemmas.Option.{none-some, same_Some}
use Rattle.flash_laws.specs.Logs.{CellList}
use Rattle.flash_laws.specs.Lives.{FlashDeed, puts, Possible}
use Rattle.flash_plan.specs.declared.operations.FlashOutcome.{FlashOutcome}
use Rattle.flash_plan.specs.declared.operations.FlashOutcome.TheVariants.{Answered, Done, Failed}
use Rattle.flash_plan.specs.declared.plans.PlanEnd.TheVariants.{Failed as end_failed}
use Rattle.flash_plan.specs.declared.plans.WaitingPut.{WaitingPut}
use Rattle.flash_plan.specs.declared.plans.PlanStep.{PlanStep}
use Rattle.flash_plan.specs.declared.plans.PlanStep.TheVariants.{Heading, Copied, Puts, Free, Erasing, Copying, Ready, Clearing, Filling, Ended}
use Rattle.flash_plan.specs.declared.plans.FlashPlan.{FlashPlan}
use Rattle.flash_plan.specs.Plans.{IsIdle, IsIdleStep, step_operation, operation_of, put_at, put_in}
use Rattle.flash_plan.specs.Turns.{deed_in}
use Rattle.flash_calls.specs.Numbers.{plan_in}
use Rattle.flash_calls.specs.Calls.{PutMoves}
use Rattle.flash_calls.specs.CallLives.{FlashSizes, CallState, CallDeed, performs, takes_put, starts, is_cut, ComesNext, PerformsNext, TakesPut}
use Rattle.flash_calls.specs.CallLives.{CallLives, OperationsDone, program_outcome, puts_made, IsFoundStore, EachPutTaken, IsPutOf, TakesNoPut}
use Rattle.flash_calls.proofs.CallLaws.{put_judged}
use Rattle.flash_calls.proofs.PutMoves.{some_put}
use Rattle.flash_calls.proofs.LifeLaws.{call_later}

-- the put that is programmed next is the one that waits
put_same : (w : WaitingPut) (put : Option WaitingPut) (step : PlanStep) → put_at step put ≡ Some w → put ≡ Some w
put_same w put (Heading bank) is = absurd (none-some w is)
put_same w put (Copied bank generation done) is = absurd (none-some w is)
put_same w put (Puts bank generation place) is = absurd (none-some w is)
put_same w put (Free bank generation next place) is = absurd (none-some w is)
put_same w put (Erasing bank generation) is = absurd (none-some w is)
put_same w put (Copying bank generation done) is = absurd (none-some w is)
put_same w put (Ready bank generation next) is = is
put_same w put (Clearing bank) is = absurd (none-some w is)
put_same w put (Filling done) is = absurd (none-some w is)
put_same w put (Ended end) is = absurd (none-some w is)

-- an operation comes next
comes_some : (put : Option WaitingPut) (a : CallState) → ComesNext put a → operation_of (plan_in a.numbers) a.cells ≡ None → ⊥
comes_some put a c none = none-some c.operation (sym none ∙ c.next)

moves_in : (put : Option WaitingPut) (outcome : ℕ) (bytes : List ℕ) (a b : CallState) → PerformsNext put outcome bytes a b
    → PutMoves outcome (plan_in a.numbers) (plan_in b.numbers)
moves_in put outcome bytes a b d = d.reported.put (comes_some put a d.comes)

-- ---- what lives with such puts make of cells

module _ (P : ℕ → List ℕ → Type 0) (Q : CellList → CellList → Type 0) (same : (x : CellList) → Q x x)
    (more : (x z : CellList) (i : ℕ) (c : List ℕ) → P i c → Q (set x i c) z → Q x z) where
  abbrev Waits : Option WaitingPut → Type 0
  Waits put = IfSome put (λ w. P w.cell w.payload)

  put_waits : (step : PlanStep) (put : Option WaitingPut) → Waits put → Waits (put_at step put)
  put_waits (Heading bank) put w = tt
  put_waits (Copied bank generation done) put w = tt
  put_waits (Puts bank generation place) put w = tt
  put_waits (Free bank generation next place) put w = tt
  put_waits (Erasing bank generation) put w = tt
  put_waits (Copying bank generation done) put w = tt
  put_waits (Ready bank generation next) put w = w
  put_waits (Clearing bank) put w = tt
  put_waits (Filling done) put w = tt
  put_waits (Ended end) put w = tt

  still_waits : (outcome : ℕ) (old new : FlashPlan) → PutMoves outcome old new → Waits old.put → Waits new.put
  still_waits outcome old new m w = elim (put_judged (put_in old)) [
    | inl none ↦ elim (m.waits none) [
      | inl kept ↦ subst (λ (o : Option WaitingPut). Waits o) (sym kept) w
      | inr failed ↦ subst (λ (o : Option WaitingPut). Waits o) (sym failed.1) tt
    ]
    | inr some ↦ subst (λ (o : Option WaitingPut). Waits o) (sym (m.programmed some)) tt
  ]

  comes_waits : (put : Option WaitingPut) (a : CallState) → ComesNext put a → Waits (plan_in a.numbers).put → Waits put
  comes_waits put a c w = subst (λ (o : Option WaitingPut). Waits o) c.put_is (put_waits (plan_in a.numbers).step (plan_in a.numbers).put w)

  cut_made : (x z : CellList) (i : ℕ) (c : List ℕ) (es : List FlashDeed) → P i c → ((y : CellList) → Possible es y z → Q y z)
      → (y : CellList) → (y ≡ x) ⊎ (y ≡ set x i c) → Possible es y z → Q x z
  cut_made x z i c es w h y (inl old) p = subst (λ (v : CellList). Q v z) old (h y p)
  cut_made x z i c es w h y (inr new) p = more x z i c w (subst (λ (v : CellList). Q v z) new (h y p))

  deed_made : (put : Option WaitingPut) (outcome : FlashOutcome) (es : List FlashDeed) (x z : CellList) → Waits put
      → ((y : CellList) → Possible es y z → Q y z) → Possible (deed_in put outcome ++ es) x z → Q x z
  deed_made None outcome es x z w h p = h x p
  deed_made (Some put) (Answered answer) es x z w h p = cut_made x z put.cell put.payload es w h p.0 p.1.0 p.1.1
  deed_made (Some put) Done es x z w h p =
      more x z put.cell put.payload w (subst (λ (v : CellList). Q v z) p.1.0 (h p.0 p.1.1))
  deed_made (Some put) Failed es x z w h p = cut_made x z put.cell put.payload es w h p.0 p.1.0 p.1.1

  pub lives_make : (s : FlashSizes) (deeds : List CallDeed) (a b : CallState) → Waits (plan_in a.numbers).put → EachPutTaken P deeds
      → CallLives s deeds a b → (x z : CellList) → Possible (puts_made deeds) x z → Q x z
  lives_make s [] a b w taken lives x z p = subst (λ (v : CellList). Q x v) (sym p) (same x)
  lives_make s (performs put outcome bytes ∷ deeds) a b w taken lives x z p =
      let d = lives.1.0 in
      deed_made put (program_outcome outcome) (puts_made deeds) x z (comes_waits put a d.comes w)
      (λ y q. lives_make s deeds lives.0 b
      (still_waits outcome (plan_in a.numbers) (plan_in lives.0.numbers) (moves_in put outcome bytes a lives.0 d) w) taken lives.1.1 y z q) p
  lives_make s (takes_put cell payload ∷ deeds) a b w taken lives x z p =
      lives_make s deeds lives.0 b (subst (λ (o : Option WaitingPut). Waits o) (sym lives.1.0.taken.waits) taken.0) taken.1 lives.1.1 x z p
  lives_make s (starts ∷ deeds) a b w taken lives x z p =
      lives_make s deeds lives.0 b (subst (λ (o : Option WaitingPut). Waits o) (sym lives.1.0.begun.begun.none) tt) taken lives.1.1 x z p
  lives_make s (is_cut put ∷ deeds) a b w taken lives x z p =
      deed_made put Failed (puts_made deeds) x z (comes_waits put a lives.1.0.comes w)
      (λ y q. lives_make s deeds lives.0 b (subst (λ (o : Option WaitingPut). Waits o) (sym lives.1.0.begun.begun.none) tt) taken lives.1.1 y z q) p

  pub found_make : (s : FlashSizes) (deeds : List CallDeed) (first : CellList) (a b : CallState) → IsFoundStore s first a → EachPutTaken P deeds
      → CallLives s deeds a b → IsIdle (plan_in b.numbers) → Q a.cells b.cells
  found_make s deeds first a b found taken lives idle =
      lives_make s deeds a b (subst (λ (o : Option WaitingPut). Waits o) (sym found.idle.none) tt) taken lives a.cells b.cells
      (call_later s deeds first a b found lives idle)

-- one put, as often as it is taken
abbrev IsThere : ℕ → List ℕ → CellList → CellList → Type 0
IsThere i c x z = (z ≡ x) ⊎ (z ≡ set x i c)

there_too : (cell : ℕ) (payload : List ℕ) (x z : CellList) (i : ℕ) (c : List ℕ) → IsPutOf cell payload i c → IsThere cell payload (set x i c) z
    → IsThere cell payload x z
there_too cell payload x z i c is (inl old) = inr (old ∙ (ap (λ (k : ℕ). set x k c) is.0 ∙ ap (set x cell) is.1))
there_too cell payload x z i c is (inr new) =
    inr (new ∙ (ap (λ (v : CellList). set v cell payload) (ap (λ (k : ℕ). set x k c) is.0 ∙ ap (set x cell) is.1)
    ∙ set-set x cell payload payload))

pub put_there : (s : FlashSizes) (deeds : List CallDeed) (first : CellList) (cell : ℕ) (payload : List ℕ) (a b : CallState) → IsFoundStore s first a
    → EachPutTaken (IsPutOf cell payload) deeds → CallLives s deeds a b → IsIdle (plan_in b.numbers)
    → (b.cells ≡ a.cells) ⊎ (b.cells ≡ set a.cells cell payload)
put_there s deeds first cell payload a b found taken lives idle =
    found_make (IsPutOf cell payload) (IsThere cell payload) (λ x. inl refl) (there_too cell payload) s deeds first a b found taken lives idle

pub none_there : (s : FlashSizes) (deeds : List CallDeed) (first : CellList) (a b : CallState) → IsFoundStore s first a → TakesNoPut deeds
    → CallLives s deeds a b → IsIdle (plan_in b.numbers) → b.cells ≡ a.cells
none_there s deeds first a b found taken lives idle =
    found_make (λ i c. ⊥) (λ x z. z ≡ x) (λ x. refl) (λ x z i c none q. absurd none) s deeds first a b found taken lives idle

-- ---- a put that is done

-- nothing comes next of a plan that has failed, and it isn't idle
failed_rests : (deeds : List CallDeed) (a b : CallState) → (plan_in a.numbers).step ≡ Ended end_failed → OperationsDone deeds a b
    → IsIdle (plan_in b.numbers) → ⊥
failed_rests [] a b is same idle =
    subst IsIdleStep (ap (λ (x : CallState). (plan_in x.numbers).step) same ∙ is) idle.step
failed_rests (performs put outcome bytes ∷ deeds) a b is all idle =
    let c = all.1.0.comes in
    let plan : FlashPlan = plan_in a.numbers in
    none-some c.operation (subst (λ (step : PlanStep). step_operation plan.banks step plan.put a.cells ≡ Some c.operation) is c.next)
failed_rests (takes_put cell payload ∷ deeds) a b is all idle = all.1.0
failed_rests (starts ∷ deeds) a b is all idle = all.1.0
failed_rests (is_cut put ∷ deeds) a b is all idle = all.1.0

-- no put waits: none is made
none_made : (deeds : List CallDeed) (a b : CallState) → (plan_in a.numbers).put ≡ None → OperationsDone deeds a b → puts_made deeds ≡ []
none_made [] a b none all = refl
none_made (performs put outcome bytes ∷ deeds) a b none all =
    let d = all.1.0 in
    let m = moves_in put outcome bytes a all.0 d in
    elim (put_judged put) [
      | inl free ↦
          ap (λ (o : Option WaitingPut). deed_in o (program_outcome outcome) ++ puts_made deeds) free
          ∙ none_made deeds all.0 b (elim (m.waits (d.comes.put_is ∙ free)) [
            | inl kept ↦ kept ∙ none
            | inr failed ↦ failed.1
          ]) all.1.1
      | inr some ↦
          let w = some_put put some in
          absurd (none-some w.0 (sym none ∙ put_same w.0 (plan_in a.numbers).put (plan_in a.numbers).step (d.comes.put_is ∙ w.1)))
    ]
none_made (takes_put cell payload ∷ deeds) a b none all = absurd all.1.0
none_made (starts ∷ deeds) a b none all = absurd all.1.0
none_made (is_cut put ∷ deeds) a b none all = absurd all.1.0

one_made : (deeds : List CallDeed) (w : WaitingPut) (a b : CallState) → (plan_in a.numbers).put ≡ Some w → OperationsDone deeds a b
    → IsIdle (plan_in b.numbers) → puts_made deeds ≡ puts w.cell w.payload ∷ []
one_made [] w a b is same idle =
    absurd (none-some w (sym idle.none ∙ (ap (λ (x : CallState). (plan_in x.numbers).put) same ∙ is)))
one_made (performs put outcome bytes ∷ deeds) w a b is all idle =
    let d = all.1.0 in
    let m = moves_in put outcome bytes a all.0 d in
    elim (put_judged put) [
      | inl free ↦ elim (m.waits (d.comes.put_is ∙ free)) [
        | inl kept ↦
            ap (λ (o : Option WaitingPut). deed_in o (program_outcome outcome) ++ puts_made deeds) free
            ∙ one_made deeds w all.0 b (kept ∙ is) all.1.1 idle
        | inr failed ↦ absurd (failed_rests deeds all.0 b failed.0 all.1.1 idle)
      ]
      | inr some ↦
          let v = some_put put some in
          let it : put_in (plan_in a.numbers) ≡ Some v.0 = d.comes.put_is ∙ v.1 in
          let one : v.0 ≡ w = same_Some v.0 w (sym (put_same v.0 (plan_in a.numbers).put (plan_in a.numbers).step it) ∙ is) in
          let there : put_in (plan_in a.numbers) ≡ None → ⊥ = λ none. none-some v.0 (sym none ∙ it) in
          elim (cases_eq outcome 0) [
            | inl done ↦
                ap (λ (o : Option WaitingPut). deed_in o (program_outcome outcome) ++ puts_made deeds) (v.1 ∙ ap Some one)
                ∙ (ap (λ (k : ℕ). deed_in (Some w) (program_outcome k) ++ puts_made deeds) done
                ∙ ap (λ (ds : List FlashDeed). puts w.cell w.payload ∷ ds) (none_made deeds all.0 b (m.programmed there) all.1.1))
            | inr wrong ↦ absurd (failed_rests deeds all.0 b (m.failed there wrong).0 all.1.1 idle)
          ]
    ]
one_made (takes_put cell payload ∷ deeds) w a b is all idle = absurd all.1.0
one_made (starts ∷ deeds) w a b is all idle = absurd all.1.0
one_made (is_cut put ∷ deeds) w a b is all idle = absurd all.1.0

operations_live : (s : FlashSizes) (deeds : List CallDeed) (a b : CallState) → OperationsDone deeds a b → CallLives s deeds a b
operations_live s [] a b same = same
operations_live s (performs put outcome bytes ∷ deeds) a b all = (all.0, (all.1.0, operations_live s deeds all.0 b all.1.1))
operations_live s (takes_put cell payload ∷ deeds) a b all = absurd all.1.0
operations_live s (starts ∷ deeds) a b all = absurd all.1.0
operations_live s (is_cut put ∷ deeds) a b all = absurd all.1.0

pub put_done : (s : FlashSizes) (deeds : List CallDeed) (first : CellList) (cell : ℕ) (payload : List ℕ) (a between b : CallState)
    → IsFoundStore s first a → TakesPut cell payload a between → OperationsDone deeds between b → IsIdle (plan_in b.numbers)
    → b.cells ≡ set a.cells cell payload
put_done s deeds first cell payload a between b found taken all idle =
    let made = one_made deeds (record { cell = cell; payload = payload }) between b taken.taken.waits all idle in
    let p = call_later s (takes_put cell payload ∷ deeds) first a b found (between, (taken, operations_live s deeds between b all)) idle in
    let q : Possible (puts cell payload ∷ []) a.cells b.cells = subst (λ (ds : List FlashDeed). Possible ds a.cells b.cells) made p in
    q.1.1 ∙ q.1.0
