use Rattle.std.proofs.Common.{◌≡◌, inl, inr, [], length, refl, sym, subst, ◌∙◌, arith, None, ◌<◌}
use Rattle.flash_plan.specs.Performing.{Performs, IsWithinFlash, MayBegin}
use Rattle.flash_plan.specs.Plans.{IsPlanOf, operation_of, operations_left}
use Rattle.flash_plan.specs.Formatting.{FormatsAt}
use Rattle.flash_plan.proofs.TurnLaws.{turns_more, inside_as, stands_as, if_some}
use Rattle.flash_plan.proofs.running.run_plan.Goals as goal

pub loop-operation-init : goal.loop-operation-init
loop-operation-init g c = record {
  plan = c.requires.plan;
  sizes = record { banks = refl; places = refl };
  runs = record { banks = refl; places = refl; later = omega arith; tells = refl };
  cells = refl;
  scratch = c.requires.alike;
  formats = λ h. h;
  turns = λ at h. record { turns = []; at = at; run = refl; stands = h };
}

pub next-requires : goal.next-requires
next-requires g c = record { plan = subst (λ k. IsPlanOf k c.loop-operation.plan) (sym c.loop-operation.invariant.cells) c.loop-operation.invariant.plan }

pub perform-outcome-requires : goal.perform-outcome-requires
perform-outcome-requires g c =
    let v = c.loop-operation.invariant in
    record {
      inside = inside_as (g.D.FlashDevice.state c.loop-operation.device).banks c.loop-operation.plan.banks (g.D.FlashDevice.state c.loop-operation.device).places c.loop-operation.plan.places c.in-Some.operation
          (v.sizes.banks ∙ (c.requires.banks ∙ sym v.runs.banks)) (v.sizes.places ∙ (c.requires.places ∙ sym v.runs.places))
          (if_some c.next.result (λ it. IsWithinFlash c.loop-operation.plan.banks c.loop-operation.plan.places it) c.in-Some.operation c.in-Some.is c.next.ensures.inside);
      blank = if_some c.next.result (λ it. MayBegin it (g.D.FlashDevice.state c.loop-operation.device).flash) c.in-Some.operation c.in-Some.is
          (elim c.requires.known [
            | inl s ↦ (
                let t = v.turns s.at s.stands in
                c.next.ensures.blank c.loop-operation.scratch t.at (g.D.FlashDevice.state c.loop-operation.device).flash
                (stands_as c.args.plan.now.banks c.loop-operation.plan.banks (length c.args.cells.now) (length c.loop-operation.cells) c.loop-operation.plan c.loop-operation.cells c.loop-operation.scratch t.at (g.D.FlashDevice.state c.loop-operation.device).flash
                v.sizes.banks v.cells t.stands))
            | inr f ↦ c.next.ensures.formats (g.D.FlashDevice.state c.loop-operation.device).flash (v.formats f)
          ]);
    }

pub did-requires : goal.did-requires
did-requires g c = record {
  plan = subst (λ k. IsPlanOf k c.loop-operation.plan) (sym c.loop-operation.invariant.cells) c.loop-operation.invariant.plan;
  alike = c.loop-operation.invariant.scratch ∙ sym c.loop-operation.invariant.cells;
}

pub loop-operation-preserved : goal.loop-operation-preserved
loop-operation-preserved g c =
    let v = c.loop-operation.invariant in
    record {
      plan = subst (λ k. IsPlanOf k c.did.new.self) v.cells c.did.ensures.plan;
      sizes = record { banks = c.did.ensures.sizes.banks ∙ v.sizes.banks; places = c.did.ensures.sizes.places ∙ v.sizes.places };
      runs = record {
        banks = c.perform-outcome.ensures.runs.banks ∙ v.runs.banks;
        places = c.perform-outcome.ensures.runs.places ∙ v.runs.places;
        later = omega (arith, v.runs.later, c.perform-outcome.ensures.runs.later);
        tells = c.perform-outcome.ensures.runs.tells ∙ v.runs.tells;
      };
      cells = c.did.auto.cells ∙ v.cells;
      scratch = c.did.auto.scratch ∙ v.scratch;
      formats = λ h. if_some (operation_of c.loop-operation.plan c.loop-operation.cells)
          (λ it. Performs c.loop-operation.plan.places it c.perform-outcome.result (g.D.FlashDevice.state c.loop-operation.device).flash (g.D.FlashDevice.state c.perform-outcome.new.device).flash
          → FormatsAt c.did.new.self c.did.new.cells (g.D.FlashDevice.state c.perform-outcome.new.device).flash) c.in-Some.operation (sym c.next.ensures.is ∙ c.in-Some.is)
          (c.did.ensures.formats (g.D.FlashDevice.state c.loop-operation.device).flash (g.D.FlashDevice.state c.perform-outcome.new.device).flash (v.formats h))
          (subst (λ k. Performs k c.in-Some.operation c.perform-outcome.result (g.D.FlashDevice.state c.loop-operation.device).flash (g.D.FlashDevice.state c.perform-outcome.new.device).flash)
          (v.runs.places ∙ (sym c.requires.places ∙ sym v.sizes.places)) c.perform-outcome.ensures.performs);
      turns = λ at h. turns_more c.args.plan.now.banks c.loop-operation.plan.banks (length c.args.cells.now) (length c.loop-operation.cells) c.loop-operation.plan.places c.loop-operation.plan c.did.new.self
          c.loop-operation.cells c.loop-operation.scratch c.did.new.cells c.did.new.scratch (g.D.FlashDevice.state c.loop-operation.device).flash (g.D.FlashDevice.state c.perform-outcome.new.device).flash
          c.perform-outcome.result (operation_of c.loop-operation.plan c.loop-operation.cells) c.in-Some.operation v.sizes.banks v.cells (sym c.next.ensures.is ∙ c.in-Some.is)
          (subst (λ k. Performs k c.in-Some.operation c.perform-outcome.result (g.D.FlashDevice.state c.loop-operation.device).flash (g.D.FlashDevice.state c.perform-outcome.new.device).flash)
          (v.runs.places ∙ (sym c.requires.places ∙ sym v.sizes.places)) c.perform-outcome.ensures.performs)
          c.did.ensures.steps at (v.turns at h);
    }

pub returns-clause-stands : goal.returns-clause-stands
returns-clause-stands g c s = let t = c.loop-operation.invariant.turns s.at s.stands in record { at = t.at; stands = t.stands }

pub loop-operation-smaller : goal.loop-operation-smaller
loop-operation-smaller g c =
    let less = c.did.ensures.less (λ none. let e : c.next.result ≡ None = c.next.ensures.is ∙ none in absurd (cc)) in
    subst (λ k. operations_left k c.did.new.self < operations_left (length c.loop-operation.cells) c.loop-operation.plan) (sym c.did.auto.cells) less
