use Rattle.std.proofs.Common.{ℕ, List, [], rules, sym, subst}
use Rattle.program_edge.specs.Inputs.{Reading}
use Rattle.watch_expect.specs.CompareSteps.{ComparesLog}
use Rattle.std.specs.Prelude.{Ok, Err}
use Rattle.watch_expect.proofs.Comparing.{Compares-taken, Compares-failed, Compares-too_long}
use Rattle.watch_expect.proofs.run.compare_log.Goals as goal

pub returns-in-Ok : goal.returns-in-Ok
returns-in-Ok g c =
    let log : Reading = record { before = g.T.Source.state c.args.log.now; after = g.T.Source.state c.stream_lines.new.log } in
    subst (λ (left : List ℕ). ComparesLog c.args.watch.now.mapping log c.args.text.now left (Ok c.in-Ok.end)) (search rules)
    (Compares-taken c.args.watch.now c.args.text.now c.requires log _ c.in-Ok.end c.in-Ok.ensures.streamed)

pub returns-in-Err-ReadFault : goal.returns-in-Err-ReadFault
returns-in-Err-ReadFault g c =
    let log : Reading = record { before = g.T.Source.state c.args.log.now; after = g.T.Source.state c.stream_lines.new.log } in
    subst (λ row. ComparesLog c.args.watch.now.mapping log c.args.text.now [] (Err row)) (sym c.fixed.ensures)
    (Compares-failed c.args.watch.now c.args.text.now c.requires log _ c.in-Err-ReadFault.field-0 c.in-Err-ReadFault.field-0-is c.in-Err-ReadFault.ensures.streamed)

pub returns-in-Err-TooLong : goal.returns-in-Err-TooLong
returns-in-Err-TooLong g c =
    let log : Reading = record { before = g.T.Source.state c.args.log.now; after = g.T.Source.state c.stream_lines.new.log } in
    subst (λ row. ComparesLog c.args.watch.now.mapping log c.args.text.now [] (Err row)) (sym c.fixed-in-Err-TooLong.ensures)
    (Compares-too_long c.args.watch.now c.args.text.now c.requires log _ c.in-Err-TooLong.field-0 c.in-Err-TooLong.field-0-is c.in-Err-TooLong.ensures.streamed)
