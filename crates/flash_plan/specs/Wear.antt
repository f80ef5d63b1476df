-- What a plan spends on erases. An erase costs as many puts as a bank takes, and each put earns one.
use Rattle.std.specs.Prelude.{◌-◌, ◌*◌, ℕ, suc, Option, Some, None}
use Rattle.flash_plan.specs.declared.operations.Operation.{Operation}
use Rattle.flash_plan.specs.declared.operations.Operation.TheVariants.{Read, Erase, Program}
use Rattle.flash_plan.specs.declared.plans.PlanStep.{PlanStep}
use Rattle.flash_plan.specs.declared.plans.PlanStep.TheVariants.{Heading, Copied, Puts, Free, Erasing, Copying, Ready}
use Rattle.flash_plan.specs.declared.plans.PlanStep.TheVariants.{Clearing, Filling, Ended}

-- how many puts a bank takes behind the head and the copy of n cells
abbrev pub puts_to_bank : ℕ → ℕ → ℕ
puts_to_bank places n = places - suc n

-- how many erases an operation is
abbrev pub erases_by : Option Operation → ℕ
erases_by None = 0
erases_by (Some (Read bank place)) = 0
erases_by (Some (Erase bank)) = 1
erases_by (Some (Program bank place line)) = 0

-- What a plan may still spend on erases, before it begins anew: a start pays for one, a format for one of each bank,
-- and a plan that is ready has earned what its bank has taken.
abbrev pub erase_credit : ℕ → ℕ → PlanStep → ℕ
erase_credit places n (Heading bank) = puts_to_bank places n
erase_credit places n (Copied bank generation done) = puts_to_bank places n
erase_credit places n (Puts bank generation place) = puts_to_bank places n
erase_credit places n (Free bank generation next place) = puts_to_bank places n
erase_credit places n (Erasing bank generation) = puts_to_bank places n
erase_credit places n (Copying bank generation done) = 0
erase_credit places n (Ready bank generation next) = puts_to_bank places n - (places - next)
erase_credit places n (Clearing bank) = suc bank * puts_to_bank places n
erase_credit places n (Filling done) = 0
erase_credit places n (Ended end) = 0
