-- What a plan that formats has done to the flash.
use Rattle.std.specs.Prelude.{◌≡◌, ◌<◌, ◌≤◌, ℕ, suc, [], length, get_or}
use Rattle.flash_places.specs.declared.FlashLine.TheVariants.{Entry}
use Rattle.flash_places.specs.Places.{Flash, blank_place, whole_place}
use Rattle.flash_laws.specs.Logs.{CellList}
use Rattle.flash_laws.specs.Lives.{FlashLayout, FlashFormatted, off}
use Rattle.flash_log.specs.Going.{machine, BlankFrom}
use Rattle.flash_plan.specs.declared.plans.PlanEnd.{PlanEnd}
use Rattle.flash_plan.specs.declared.plans.PlanEnd.TheVariants.{NoStore, Exhausted, Formatted, Failed as end_failed}
use Rattle.flash_plan.specs.declared.plans.PlanEnd.TheVariants.{OtherSizes}
use Rattle.flash_plan.specs.declared.plans.PlanStep.{PlanStep}
use Rattle.flash_plan.specs.declared.plans.PlanStep.TheVariants.{Heading, Copied, Puts, Free, Erasing, Copying, Ready}
use Rattle.flash_plan.specs.declared.plans.PlanStep.TheVariants.{Clearing, Filling, Ended}
use Rattle.flash_plan.specs.declared.plans.FlashPlan.{FlashPlan}
use Rattle.flash_plan.specs.Standing.{plan_layout}

-- the first place of each bank after this one is blank
abbrev pub ClearedTo : ℕ → ℕ → Flash → Type 0
ClearedTo banks bank f = (x : ℕ) → bank < x → x < banks → f x 0 ≡ blank_place

-- bank 0 has so many cells of the copy, and no more
pub record FilledTo (l : FlashLayout) (done : ℕ) (cells : CellList) (f : Flash) : Type 0 where
  pub spare : (x : ℕ) → 0 < x → x < l.banks → f x 0 ≡ blank_place
  pub most : done ≤ length cells
  pub head : f 0 0 ≡ blank_place
  pub copied : (i : ℕ) → i < done → f 0 (suc i) ≡ whole_place (Entry i (get_or cells i []))
  pub rest : BlankFrom f 0 (suc done)

abbrev pub FormatEnds : FlashLayout → CellList → Flash → PlanEnd → Type 0
FormatEnds l cells f NoStore = ⊥
FormatEnds l cells f Exhausted = ⊥
FormatEnds l cells f Formatted = FlashFormatted l cells (machine f off)
FormatEnds l cells f end_failed = Unit {0}
FormatEnds l cells f OtherSizes = ⊥

abbrev pub FormatStep : FlashLayout → CellList → Flash → PlanStep → Type 0
FormatStep l cells f (Heading bank) = ⊥
FormatStep l cells f (Copied bank generation done) = ⊥
FormatStep l cells f (Puts bank generation place) = ⊥
FormatStep l cells f (Free bank generation next place) = ⊥
FormatStep l cells f (Erasing bank generation) = ⊥
FormatStep l cells f (Copying bank generation done) = ⊥
FormatStep l cells f (Ready bank generation next) = ⊥
FormatStep l cells f (Clearing bank) = ClearedTo l.banks bank f
FormatStep l cells f (Filling done) = FilledTo l done cells f
FormatStep l cells f (Ended end) = FormatEnds l cells f end

-- the plan formats this flash with these cells, or has done so
abbrev pub FormatsAt : FlashPlan → CellList → Flash → Type 0
FormatsAt plan cells f = FormatStep (plan_layout plan (length cells)) cells f plan.step
