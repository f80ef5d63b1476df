use Rattle.std.proofs.Common.{ap, length, arith}
use Rattle.bus_commands.proofs.AnswerSizes.{frame_text_size}
use Rattle.bus_commands.proofs.lines.most_frame_bytes.Goals as goal

pub returns : goal.returns
returns c = λ text told. omega (arith, frame_text_size c.args.line.now text told, ap length c.bytes.ensures.value)
