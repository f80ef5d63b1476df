use Rattle.std.proofs.Common.{inr, sym, subst, FitsSigned, w32, rules, ℕ}
use Rattle.std.proofs.lemmas.Int.{to_z-of_z}
use Rattle.rathonsi_c.specs.Growing.{GrowAnswers, TellAnswers, SaysSize, NumberAnswers}
use Rattle.rathonsi_c.proofs.GrowthAnswers.{tell-says, tell-none}
use Rattle.rathonsi_c.proofs.growing.rathonsi_store_grow.Goals as goal

pub returns-in-Ok-clause-answer : goal.returns-in-Ok-clause-answer
returns-in-Ok-clause-answer c =
    let image = c.args.image.now in
    let r = c.args.route.now in
    let cells = c.in-Ok.cells in
    let fits : FitsSigned w32 c.grow.result = search rules in
    subst (λ s. GrowAnswers r image c.args.plan.now s) (sym (to_z-of_z w32 c.grow.result fits)) (inr (
      (λ full. full (c.is_empty.ensures.0 c.if-not-is_empty.false)),
      inr (
        (λ out. out c.in-Some.direction c.in-Some.ensures.some),
        inr (
          (λ none. none (c.has_place.ensures.0 c.if-not-has_place.false)),
          tell-says image cells (λ answer. (n : ℕ) × (SaysSize image n × NumberAnswers r image n answer)) c.grow.result c.in-Ok.ensures.told (cells, (c.in-Ok.ensures.told, c.grow.ensures.answer)),
        ),
      ),
    ))

pub returns-in-Err-clause-answer : goal.returns-in-Err-clause-answer
returns-in-Err-clause-answer c =
    let image = c.args.image.now in
    let r = c.args.route.now in
    let fits : FitsSigned w32 c.untold_status.result = search rules in
    subst (λ s. GrowAnswers r image c.args.plan.now s) (sym (to_z-of_z w32 c.untold_status.result fits)) (inr (
      (λ full. full (c.is_empty.ensures.0 c.if-not-is_empty.false)),
      inr (
        (λ out. out c.in-Some.direction c.in-Some.ensures.some),
        inr (
          (λ none. none (c.has_place.ensures.0 c.if-not-has_place.false)),
          subst (λ s. TellAnswers image (λ answer. (n : ℕ) × (SaysSize image n × NumberAnswers r image n answer)) s) (sym c.untold_status.ensures)
              (tell-none image (λ answer. (n : ℕ) × (SaysSize image n × NumberAnswers r image n answer)) _ c.in-Err.ensures.untold),
        ),
      ),
    ))
