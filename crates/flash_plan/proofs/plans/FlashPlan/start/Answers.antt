use Rattle.std.proofs.Common.{refl, arith}
use Rattle.flash_log.proofs.CallerLemmas.{scanned_first}
use Rattle.flash_plan.proofs.plans.FlashPlan.start.Goals as goal

pub returns-clause-stands : goal.returns-clause-stands
returns-clause-stands c n cells scratch f = record {
  first = f;
  is = refl;
  reads = record { scanned = scanned_first n f cells; free = tt; heads = λ x below. absurd (omega (arith, below)) };
}

pub returns-clause-told : goal.returns-clause-told
returns-clause-told c told = record { log = tt; heads = λ x below. absurd (omega (arith, below)) }
