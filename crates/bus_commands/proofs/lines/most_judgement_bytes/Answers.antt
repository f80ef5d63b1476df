use Rattle.std.proofs.Common.{ap, length, arith}
use Rattle.bus_commands.proofs.AnswerSizes.{judgement_text_fits}
use Rattle.bus_commands.proofs.lines.most_judgement_bytes.Goals as goal

pub returns : goal.returns
returns c = λ text told.
    judgement_text_fits c.args.line.now text c.saturating_sub.result
    (λ frame. omega (arith, frame.0, frame.1, ap length c.bytes.ensures.value, c.min.ensures, c.saturating_sub.ensures)) told
