-- The plan stands where the operation leads that was performed.
use Rattle.std.proofs.Common.{◌≡◌, ◌≢◌, ◌⊎◌, ◌↔◌, inl, inr, ◌<◌, ◌≤◌, ◌+◌, ◌*◌, ℕ, Option, Some, None, length, take, refl, subst, sym, ap, ◌∙◌, arith}
use Rattle.std.specs.Prelude.{IfSome}
use Rattle.std.proofs.lemmas.Option.{none-some}
use Rattle.flash_lines.specs.Lines.{line_length}
use Rattle.flash_lines.proofs.CallerLemmas.{same_sizes}
use Rattle.flash_log.specs.declared.scanning.Best.TheVariants.{NoLog}
use Rattle.flash_plan.specs.declared.operations.Operation.{Operation}
use Rattle.flash_plan.specs.declared.operations.Operation.TheVariants.{Read}
use Rattle.flash_plan.specs.declared.plans.PlanEnd.TheVariants.{Failed as end_failed, OtherSizes, Formatted}
use Rattle.flash_plan.specs.declared.plans.PlanStep.TheVariants.{Heading, Clearing, Ended}
use Rattle.flash_plan.specs.declared.plans.FlashPlan.{FlashPlan}
use Rattle.flash_plan.specs.Performing.{Performs}
use Rattle.flash_plan.specs.Plans.{IsPlanOf, ReadsAt, ReadsNoHead, FindsNothing, SkipsOlder, SameSizes, IsFailure, failed_plan, operation_of, operations_left, put_in, put_left}
use Rattle.flash_plan.specs.Wear.{puts_to_bank, erases_by, erase_credit}
use Rattle.flash_plan.specs.Formatting.{FormatsAt}
use Rattle.flash_plan.specs.Standing.{plan_layout, StandsAt, PlanMovesOn}
use Rattle.flash_calls.specs.Numbers.{plan_in, sizes_in}
use Rattle.flash_calls.specs.Operations.{PerformsBytes, Comes, FailsBy}
use Rattle.flash_calls.specs.Calls.{TakesHead, other_plan}
use Rattle.flash_calls.proofs.ReadLaws.{told_other, told_nothing, none_read}
use Rattle.flash_calls.proofs.CallLaws.{still_call}
use Rattle.flash_calls.proofs.PutMoves.{put_moves, fails_exactly}
use Rattle.flash_calls.proofs.MoveLaws.{moves_so, holds_so, also_holds, format_keeps, read_reads, moves_other, some_if, other_is_plan, next_not_ended, heads_next}
use Rattle.flash_calls.proofs.calls.did.Goals as goal

pub returns-clause-answer : goal.returns-clause-answer
returns-clause-answer c =
    let n : ℕ = length c.args.cells.now in
    let old = c.args.flash.now in
    let new = c.numbers_after.result in
    let now : FlashPlan = c.did.new.self in
    let was : c.plan_of-plan.result ≡ plan_in old = c.plan_of-plan.ensures in
    let sizes : SameSizes (plan_in old) now = subst (λ (p : FlashPlan). SameSizes p now) was c.did.ensures.sizes in
    let next : operation_of (plan_in old) c.args.cells.now ≡ Some c.in-Some-next.operation =
    subst (λ (p : FlashPlan). operation_of p c.args.cells.now ≡ Some c.in-Some-next.operation) was (sym c.in-Some-next.ensures.is) in
    let whole : IsPlanOf n now = c.did.ensures.plan in
    let noted = told_nothing c.in-Some-next.operation c.args.outcome old.is_untold new.is_untold (take c.in-Some.size c.args.bytes.now) c.told_by-told.result c.told_by-told.ensures c.numbers_after.ensures.untold in
    let others = told_other (sizes_in old) c.in-Some-next.operation c.args.outcome (take c.in-Some.size c.args.bytes.now) c.told_by-told.result c.told_by-told.ensures in
    elim c.numbers_after.ensures.plan [
      | inl went ↦
          let is : plan_in new ≡ now = went.1 in
          record {
            was = c.in-Some.ensures.1;
            alike = c.if-scratch-cells.false;
            count = c.did.auto.cells;
            scratch_count = c.did.auto.scratch;
            call = still_call n old new now c.in-Some.ensures.1 is c.numbers_after.ensures.unit c.numbers_after.ensures.cells whole sizes;
            unit_is = c.numbers_after.ensures.unit;
            banks_is = ap (λ (p : FlashPlan). p.banks) is ∙ sizes.banks;
            places_is = ap (λ (p : FlashPlan). p.places) is ∙ sizes.places;
            sizes_are = same_sizes (sizes_in new) (sizes_in old) c.numbers_after.ensures.unit (ap (λ (p : FlashPlan). p.banks) is ∙ sizes.banks)
                c.numbers_after.ensures.bank_size c.numbers_after.ensures.cells;
            head = some_if (λ it. TakesHead c.args.outcome (take (line_length old.unit) c.args.bytes.now) old it new)
                (operation_of (plan_in old) c.args.cells.now) c.in-Some-next.operation next
                (subst (λ k. TakesHead c.args.outcome (take k c.args.bytes.now) old c.in-Some-next.operation new) c.in-Some.ensures.0.is (record {
                  other = (
                    (λ ended. absurd (next_not_ended (plan_in old).banks (plan_in old).put c.args.cells.now c.in-Some-next.operation OtherSizes (plan_in old).step next
                        (subst (λ (p : FlashPlan). now.step ≡ Ended OtherSizes → p.step ≡ Ended OtherSizes) was c.did.ensures.other
                        (sym (ap (λ (p : FlashPlan). p.step) is) ∙ ended)))),
                    (λ r. absurd (went.0 (others.1 r))),
                  );
                  noted = noted.0;
                  kept = noted.1;
                  nothing = λ h each.
                      let at = heads_next (plan_in old).banks (plan_in old).put c.args.cells.now c.in-Some-next.operation (plan_in old).best (plan_in old).step h next in
                      subst FindsNothing (sym is)
                      (subst (λ (p : FlashPlan). (bank : ℕ) → p.step ≡ Heading bank → ReadsNoHead c.outcome_of.result → p.best ≡ NoLog → FindsNothing now) was
                      c.did.ensures.no_head at.0.bank at.0.at
                      (c.outcome_of.ensures.no_head at.0.bank at.0.reads
                      (none_read (sizes_in old) c.in-Some-next.operation c.args.outcome (take c.in-Some.size c.args.bytes.now) c.told_by-told.result c.told_by-told.ensures went.0 each))
                      at.1);
                }));
            cleared = λ bank at made.
                subst (λ (p : FlashPlan). (bank : ℕ) → p.step ≡ Clearing bank → now.step ≢ Ended Formatted) was c.did.ensures.cleared bank at
                (sym (ap (λ (p : FlashPlan). p.step) is) ∙ made);
            moves = λ at f g stands.
                moves_so
                (λ came. PlanMovesOn (plan_layout (plan_in old) n) (put_in (plan_in old)) came (plan_in new) c.did.new.cells c.did.new.scratch at g)
                (operation_of (plan_in old) c.args.cells.now) c.in-Some-next.operation old.places (line_length old.unit) c.in-Some.size
                c.args.outcome c.args.bytes.now c.outcome_of.result f g
                (subst (λ (p : FlashPlan). operation_of p c.args.cells.now ≡ Some c.in-Some-next.operation) was (sym c.in-Some-next.ensures.is))
                c.in-Some.ensures.0.is
                c.outcome_of.ensures.does
                c.outcome_of.ensures.comes
                (subst
                (λ (p : FlashPlan). StandsAt (plan_layout p n) p c.args.cells.now c.args.scratch.now at f
                → IfSome (operation_of p c.args.cells.now) (λ it. Performs p.places it c.outcome_of.result f g
                → PlanMovesOn (plan_layout p n) (put_in p) c.outcome_of.result (plan_in new) c.did.new.cells c.did.new.scratch at g))
                was
                (subst
                (λ (q : FlashPlan). StandsAt (plan_layout c.plan_of-plan.result n) c.plan_of-plan.result c.args.cells.now c.args.scratch.now at f
                → IfSome (operation_of c.plan_of-plan.result c.args.cells.now) (λ it. Performs c.plan_of-plan.result.places it c.outcome_of.result f g
                → PlanMovesOn (plan_layout c.plan_of-plan.result n) (put_in c.plan_of-plan.result) c.outcome_of.result q c.did.new.cells c.did.new.scratch at g))
                (sym is)
                (c.did.ensures.steps at f g))
                stands);
            formats = λ f g formats.
                let keeps = format_keeps (plan_layout (plan_in old) n) c.args.cells.now f (plan_in old).put (plan_in old).step formats in
                also_holds (λ it. PerformsBytes old.places (line_length old.unit) it c.args.outcome c.args.bytes.now f g)
                (FormatsAt (plan_in new) c.did.new.cells g) (c.did.new.cells ≡ c.args.cells.now) (operation_of (plan_in old) c.args.cells.now)
                (holds_so (FormatsAt (plan_in new) c.did.new.cells g)
                (operation_of (plan_in old) c.args.cells.now) c.in-Some-next.operation old.places (line_length old.unit) c.in-Some.size
                c.args.outcome c.args.bytes.now c.outcome_of.result f g
                (subst (λ (p : FlashPlan). operation_of p c.args.cells.now ≡ Some c.in-Some-next.operation) was (sym c.in-Some-next.ensures.is))
                c.in-Some.ensures.0.is
                c.outcome_of.ensures.does
                c.outcome_of.ensures.comes
                (subst
                (λ (p : FlashPlan). FormatsAt p c.args.cells.now f
                → IfSome (operation_of p c.args.cells.now) (λ it. Performs p.places it c.outcome_of.result f g
                → FormatsAt (plan_in new) c.did.new.cells g))
                was
                (subst
                (λ (q : FlashPlan). FormatsAt c.plan_of-plan.result c.args.cells.now f
                → IfSome (operation_of c.plan_of-plan.result c.args.cells.now)
                (λ it. Performs c.plan_of-plan.result.places it c.outcome_of.result f g → FormatsAt q c.did.new.cells g))
                (sym is)
                (c.did.ensures.formats f g))
                formats))
                (subst (λ (p : FlashPlan). (ReadsAt p.step → ⊥) → put_in p ≡ None → c.did.new.cells ≡ c.args.cells.now) was
                c.did.ensures.kept keeps.0 keeps.1);
            put = λ some.
                put_moves (plan_in old) (plan_in new) c.args.cells.now c.in-Some-next.operation c.args.outcome c.outcome_of.result
                (subst (λ (p : FlashPlan). operation_of p c.args.cells.now ≡ Some c.in-Some-next.operation) was (sym c.in-Some-next.ensures.is))
                c.outcome_of.ensures.comes
                (λ fails. is ∙ (subst
                (λ (p : FlashPlan). IsFailure (operation_of p c.args.cells.now) c.outcome_of.result → now ≡ failed_plan p) was
                c.did.ensures.fails fails))
                (λ none well. ap (λ (p : FlashPlan). p.put) is ∙ (subst
                (λ (p : FlashPlan). put_in p ≡ None → (IsFailure (operation_of p c.args.cells.now) c.outcome_of.result → ⊥) → now.put ≡ p.put) was
                c.did.ensures.waits none well))
                (λ it. ap (λ (p : FlashPlan). p.put) is ∙ (subst (λ (p : FlashPlan). put_in p ≢ None → now.put ≡ None) was c.did.ensures.taken it));
            fails =
                fails_exactly (plan_in old) (plan_in new) c.args.cells.now c.in-Some-next.operation c.args.outcome c.outcome_of.result
                (subst (λ (p : FlashPlan). operation_of p c.args.cells.now ≡ Some c.in-Some-next.operation) was (sym c.in-Some-next.ensures.is))
                c.outcome_of.ensures.comes
                (λ fails. is ∙ (subst
                (λ (p : FlashPlan). IsFailure (operation_of p c.args.cells.now) c.outcome_of.result → now ≡ failed_plan p) was
                c.did.ensures.fails fails))
                (λ none well. ap (λ (p : FlashPlan). p.put) is ∙ (subst
                (λ (p : FlashPlan). put_in p ≡ None → (IsFailure (operation_of p c.args.cells.now) c.outcome_of.result → ⊥) → now.put ≡ p.put) was
                c.did.ensures.waits none well))
                (λ it. ap (λ (p : FlashPlan). p.put) is ∙ (subst (λ (p : FlashPlan). put_in p ≢ None → now.put ≡ None) was c.did.ensures.taken it))
                (λ ended. subst
                (λ (p : FlashPlan). (p.step ≡ Ended end_failed) ⊎ IsFailure (operation_of p c.args.cells.now) c.outcome_of.result) was
                (c.did.ensures.failed (ap (λ (p : FlashPlan). p.step) (sym is) ∙ ended)));
            less = subst
                (λ (p : FlashPlan). (operation_of p c.args.cells.now ≡ None → ⊥) → operations_left n (plan_in new) < operations_left n p)
                was
                (subst
                (λ (q : FlashPlan). (operation_of c.plan_of-plan.result c.args.cells.now ≡ None → ⊥) → operations_left n q < operations_left n c.plan_of-plan.result)
                (sym is) c.did.ensures.less);
            none = λ nothing.
                absurd (none-some c.in-Some-next.operation (sym nothing
                ∙ subst (λ (p : FlashPlan). operation_of p c.args.cells.now ≡ Some c.in-Some-next.operation) was (sym c.in-Some-next.ensures.is)));
            skips = subst (λ (p : FlashPlan). SkipsOlder p.best p.step → SkipsOlder (plan_in new).best (plan_in new).step) was
                (subst
                (λ (q : FlashPlan). SkipsOlder c.plan_of-plan.result.best c.plan_of-plan.result.step → SkipsOlder q.best q.step)
                (sym is) c.did.ensures.skips);
            wear = subst
                (λ (p : FlashPlan). (ReadsAt p.step → ⊥)
                → erases_by (operation_of p c.args.cells.now) * puts_to_bank p.places n + erase_credit p.places n (plan_in new).step
                ≤ erase_credit p.places n p.step + put_left (put_in p))
                was
                (subst
                (λ (q : FlashPlan). (ReadsAt c.plan_of-plan.result.step → ⊥)
                → erases_by (operation_of c.plan_of-plan.result c.args.cells.now) * puts_to_bank c.plan_of-plan.result.places n
                + erase_credit c.plan_of-plan.result.places n q.step
                ≤ erase_credit c.plan_of-plan.result.places n c.plan_of-plan.result.step + put_left (put_in c.plan_of-plan.result))
                (sym is) c.did.ensures.wear);
          }
      | inr ended ↦
          let is : plan_in new ≡ other_plan now = ended.1 in
          let at_other : (plan_in new).step ≡ Ended OtherSizes = ap (λ (p : FlashPlan). p.step) is in
          let r = others.0 ended.0 in
          let reads_next : operation_of (plan_in old) c.args.cells.now ≡ Some (Read r.reads.bank 0) = next ∙ ap Some r.reads.is in
          let reads = read_reads (plan_in old).banks (plan_in old).put c.args.cells.now r.reads.bank 0 (plan_in old).step reads_next in
          let comes : Comes (Read r.reads.bank 0) c.args.outcome c.outcome_of.result = subst (λ (o : Operation). Comes o c.args.outcome c.outcome_of.result) r.reads.is c.outcome_of.ensures.comes in
          let zero : c.args.outcome ≡ 0 = r.reads.done in
          record {
            was = c.in-Some.ensures.1;
            alike = c.if-scratch-cells.false;
            count = c.did.auto.cells;
            scratch_count = c.did.auto.scratch;
            call = still_call n old new (other_plan now) c.in-Some.ensures.1 is c.numbers_after.ensures.unit c.numbers_after.ensures.cells (other_is_plan n now whole)
                (record { banks = sizes.banks; places = sizes.places });
            unit_is = c.numbers_after.ensures.unit;
            banks_is = ap (λ (p : FlashPlan). p.banks) is ∙ sizes.banks;
            places_is = ap (λ (p : FlashPlan). p.places) is ∙ sizes.places;
            sizes_are = same_sizes (sizes_in new) (sizes_in old) c.numbers_after.ensures.unit (ap (λ (p : FlashPlan). p.banks) is ∙ sizes.banks)
                c.numbers_after.ensures.bank_size c.numbers_after.ensures.cells;
            head = some_if (λ it. TakesHead c.args.outcome (take (line_length old.unit) c.args.bytes.now) old it new)
                (operation_of (plan_in old) c.args.cells.now) c.in-Some-next.operation next
                (subst (λ k. TakesHead c.args.outcome (take k c.args.bytes.now) old c.in-Some-next.operation new) c.in-Some.ensures.0.is (record {
                  other = ((λ e. r), (λ e. at_other));
                  noted = noted.0;
                  kept = noted.1;
                  nothing = λ h each. subst FindsNothing (sym is) tt;
                }));
            cleared = λ bank at made. absurd (let e = sym at_other ∙ made in cc);
            moves = λ at f g stands.
                moves_other (plan_layout (plan_in old) n) (put_in (plan_in old)) (operation_of (plan_in old) c.args.cells.now)
                (λ it. PerformsBytes old.places (line_length old.unit) it c.args.outcome c.args.bytes.now f g) c.args.outcome now (plan_in new)
                c.did.new.cells c.did.new.scratch at g reads.1 is
                (moves_so
                (λ came. PlanMovesOn (plan_layout (plan_in old) n) (put_in (plan_in old)) came now c.did.new.cells c.did.new.scratch at g)
                (operation_of (plan_in old) c.args.cells.now) c.in-Some-next.operation old.places (line_length old.unit) c.in-Some.size
                c.args.outcome c.args.bytes.now c.outcome_of.result f g next
                c.in-Some.ensures.0.is
                c.outcome_of.ensures.does
                c.outcome_of.ensures.comes
                (subst
                (λ (p : FlashPlan). StandsAt (plan_layout p n) p c.args.cells.now c.args.scratch.now at f
                → IfSome (operation_of p c.args.cells.now) (λ it. Performs p.places it c.outcome_of.result f g
                → PlanMovesOn (plan_layout p n) (put_in p) c.outcome_of.result now c.did.new.cells c.did.new.scratch at g))
                was (c.did.ensures.steps at f g) stands));
            formats = λ f g formats.
                absurd ((format_keeps (plan_layout (plan_in old) n) c.args.cells.now f (plan_in old).put (plan_in old).step formats).0 reads.0);
            put = λ some. record {
              waits = λ none. inl (ap (λ (p : FlashPlan). p.put) is ∙ subst
                  (λ (p : FlashPlan). put_in p ≡ None → (IsFailure (operation_of p c.args.cells.now) c.outcome_of.result → ⊥) → now.put ≡ p.put) was
                  c.did.ensures.waits none
                  (λ f. comes.1.1 (omega (arith, zero)) (subst (λ (o : Option Operation). IsFailure o c.outcome_of.result) reads_next f)));
              programmed = λ other. absurd (other reads.1);
              failed = λ other. absurd (other reads.1);
            };
            fails = some_if (λ it. ((plan_in new).step ≡ Ended end_failed) ↔ FailsBy it c.args.outcome)
                (operation_of (plan_in old) c.args.cells.now) (Read r.reads.bank 0) reads_next
                ((λ e. absurd (let f = sym at_other ∙ e in cc)), (λ over. absurd (omega (arith, over, zero))));
            less = λ some.
                let left : operations_left n now < operations_left n (plan_in old) =
                subst (λ (p : FlashPlan). (operation_of p c.args.cells.now ≡ None → ⊥) → operations_left n now < operations_left n p) was c.did.ensures.less some in
                let none : operations_left n (other_plan now) ≡ 0 = refl in
                subst (λ (p : FlashPlan). operations_left n p < operations_left n (plan_in old)) (sym is) (omega (arith, left, none));
            none = λ nothing. absurd (none-some c.in-Some-next.operation (sym nothing ∙ next));
            skips = λ h. subst (λ (p : FlashPlan). SkipsOlder p.best p.step) (sym is) tt;
            wear = λ quiet. absurd (quiet reads.0);
          }
    ]
