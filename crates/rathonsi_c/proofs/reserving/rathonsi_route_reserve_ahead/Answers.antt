use Rattle.std.proofs.Common.{◌≡◌, ◌+◌, ◌<◌, ◌^◌, inl, inr, sym, subst, FitsSigned, w32, rules, arith}
use Rattle.std.proofs.lemmas.Int.{to_z-of_z}
use Rattle.rathonsi_c.specs.declared.TheConstants.{OK}
use Rattle.rathonsi_c.specs.Routes.{IsOpened}
use Rattle.rathonsi_c.specs.Reserving.{ReserveAheadAnswers}
use Rattle.rathonsi_c.proofs.ImageLaws.{bound_alone}
use Rattle.rathonsi_c.proofs.AnswerLaws.{damaged_keeps_none}
use Rattle.rathonsi_c.proofs.ReservingLaws.{reserved-high, left-least}
use Rattle.rathonsi_c.proofs.reserving.rathonsi_route_reserve_ahead.Goals.{else-bound-route-via-then-bound-route+else-bound-route-2, else-bound-route-via-else-bound-route}
use Rattle.rathonsi_c.proofs.reserving.rathonsi_route_reserve_ahead.Goals as goal

pub returns-clause-answer : goal.returns-clause-answer
returns-clause-answer c =
    let r = c.args.route.now in
    let image = c.args.image.now in
    let d = c.in-Some.direction in
    let ranges = c.in-Some.ensures.some in
    let bound = c.in-Ok.bound in
    let kept = c.in-Ok.ensures.kept in
    let next = c.in-Some-checked_add.next in
    let one : next ≡ bound + 1 = search rules in
    let few : bound + 1 < 2 ^ 64 = search rules in
    let opened : IsOpened r = c.is_open.ensures.0 c.if-not-is_open.false in
    let done : c.plan_ahead.result ≡ OK = elim c.plan_ahead.ensures.answer [
      | inl (h, _) ↦ absurd (let high = reserved-high r image d bound kept next h in let least = ranges.reserve_least in omega arith)
      | inr (_, ok) ↦ ok
    ] in
    let fits : FitsSigned w32 c.plan_ahead.result = search rules in
    subst (λ s. ReserveAheadAnswers r c.args.least image c.args.plan.now s) (sym (to_z-of_z w32 c.plan_ahead.result fits)) (inr (
      (λ busy. busy (c.is_empty.ensures.0 c.if-not-is_empty.false)),
      inr (
        (λ bad. elim bad [ inl out ↦ out d ranges | inr closed ↦ closed opened ]),
        inr (
          (λ others. (others d ranges).no_bound bound kept),
          inr (
            (λ damaged. damaged_keeps_none image r.cell r.data_id d bound damaged kept),
            inr (
              (λ either. elim either [
                | inl left ↦
                    let upto = left-least r image d bound kept c.args.least left in
                    elim c.else-bound-route.branch [
                      | else-bound-route-via-then-bound-route+else-bound-route-2 w ↦ absurd (let a = w.if-bound-route.true in let b = w.if-bound-route-2.false in let f = w.from.ensures in omega arith)
                      | else-bound-route-via-else-bound-route w ↦ absurd (let a = w.if-bound-route.false in omega arith)
                    ]
                | inr last ↦ absurd (let same = bound_alone image r.cell r.data_id last.0 d last.1.0 bound last.1.1.0 kept in let end = last.1.1.1 in omega arith)
              ]),
              done,
            ),
          ),
        ),
      ),
    ))
