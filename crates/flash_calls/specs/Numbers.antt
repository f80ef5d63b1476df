-- A plan as numbers, in a struct that C keeps.
use Rattle.std.specs.Prelude.{true, false, nat_eq, if◌then◌else◌, Option, Some, None}
use Rattle.flash_lines.specs.declared.sizes.FlashSizes.{FlashSizes}
use Rattle.flash_lines.specs.Lines.{untold}
use Rattle.flash_log.specs.declared.scanning.Best.{Best}
use Rattle.flash_log.specs.declared.scanning.Best.TheVariants.{NoLog, One, Tie}
use Rattle.flash_plan.specs.declared.plans.PlanEnd.TheVariants.{NoStore, Exhausted, Formatted, Failed as end_failed}
use Rattle.flash_plan.specs.declared.plans.PlanEnd.TheVariants.{OtherSizes}
use Rattle.flash_plan.specs.declared.plans.WaitingPut.{WaitingPut}
use Rattle.flash_plan.specs.declared.plans.PlanStep.{PlanStep}
use Rattle.flash_plan.specs.declared.plans.PlanStep.TheVariants.{Heading, Copied, Puts, Free, Erasing, Copying}
use Rattle.flash_plan.specs.declared.plans.PlanStep.TheVariants.{Ready, Clearing, Filling, Ended}
use Rattle.flash_plan.specs.declared.plans.FlashPlan.{FlashPlan}
use Rattle.flash_calls.specs.declared.numbers.StepNumbers.{StepNumbers}
use Rattle.flash_calls.specs.declared.numbers.BestNumbers.{BestNumbers}
use Rattle.flash_calls.specs.declared.numbers.PutNumbers.{PutNumbers}
use Rattle.flash_calls.specs.declared.numbers.FlashNumbers.{FlashNumbers}

abbrev pub step_in : StepNumbers → PlanStep
step_in n =
    if nat_eq n.kind 0 then Heading n.bank
    else (if nat_eq n.kind 1 then Copied n.bank n.generation n.done
    else (if nat_eq n.kind 2 then Puts n.bank n.generation n.place
    else (if nat_eq n.kind 3 then Free n.bank n.generation n.next n.place
    else (if nat_eq n.kind 4 then Erasing n.bank n.generation
    else (if nat_eq n.kind 5 then Copying n.bank n.generation n.done
    else (if nat_eq n.kind 6 then Ready n.bank n.generation n.next
    else (if nat_eq n.kind 7 then Ended NoStore
    else (if nat_eq n.kind 8 then Ended Exhausted
    else (if nat_eq n.kind 9 then Clearing n.bank
    else (if nat_eq n.kind 10 then Filling n.done
    else (if nat_eq n.kind 11 then Ended Formatted
    else (if nat_eq n.kind 12 then Ended OtherSizes
    else Ended end_failed))))))))))))

abbrev pub best_in : BestNumbers → Best
best_in n =
    if nat_eq n.kind 0 then NoLog
    else (if nat_eq n.kind 1 then One (record {
      bank = n.bank;
      generation = n.generation;
      next = n.next;
      is_free = if nat_eq n.is_free 0 then false else true;
    })
    else Tie n.generation)

abbrev pub waiting_in : PutNumbers → Option WaitingPut
waiting_in n = if nat_eq n.waits 0 then None else Some (record { cell = n.cell; payload = n.bytes })

-- the plan that these numbers are
abbrev pub plan_in : FlashNumbers → FlashPlan
plan_in n = record {
  banks = n.banks;
  places = n.places;
  step = step_in n.step;
  best = best_in n.best;
  latest = n.latest;
  put = waiting_in n.put;
}

-- the sizes that these numbers say
abbrev pub sizes_in : FlashNumbers → FlashSizes
sizes_in n = record { unit = n.unit; banks = n.banks; bank_size = n.bank_size; cells = n.cells }

-- what a head tells that is programmed: these sizes; none if this start has read a head that tells none
abbrev pub head_sizes : FlashNumbers → FlashSizes
head_sizes n = if nat_eq n.is_untold 0 then sizes_in n else untold
