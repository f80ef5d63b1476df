use Rattle.std.proofs.lemmas.Result.{on_ok_weaker}
use Rattle.std.proofs.Common.{◌∷◌, ◌++◌}
use Rattle.secured_pdu.specs.Judged.{outcome_of}
use Rattle.bus_commands.proofs.Judged.{judged}
use Rattle.bus_commands.proofs.lines.push_judgement.Goals as goal

pub returns : goal.returns
returns c =
    let parts = c.in-Some.parts in
    on_ok_weaker c.push_outcome.result
    (λ d. judged c.args.line.now c.schedule-schedule.result.now c.bytes.result.now (parts.payload.now ++ parts.low ∷ parts.tag)
    (outcome_of parts.payload.now c.judge-judgement.result) c.args.text.now.items c.push_outcome.new.text.items
    c.schedule-schedule.ensures c.bytes.ensures.value c.in-Some.ensures.found c.in-Some.ensures.parts c.judge-judgement.ensures d)
    c.push_outcome.ensures.outcome
