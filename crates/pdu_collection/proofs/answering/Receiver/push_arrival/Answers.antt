use Rattle.std.proofs.Common.{take, subst}
use Rattle.secoc_words.specs.Counting.{AddsVerdict}
use Rattle.std.proofs.lemmas.Result.{on_ok_weaker}
use Rattle.pdu_collection.proofs.Saying.{said_waits, said_judged}
use Rattle.pdu_collection.proofs.answering.Receiver.push_arrival.Goals as goal

pub returns-in-Some : goal.returns-in-Some
returns-in-Some c =
    on_ok_weaker c.push_verdict.result (λ d before kind pdu place arrived.
    let a = rw (c.in-Ok.is, c.in-Some.is) at arrived in
    said_judged c.args.head.now before c.args.self.now.counter kind pdu c.args.text.now.items place c.args.self.now.joiner c.push_verdict.new.counter _ a.1.0 c.args.joined.now c.in-Some.size a.0 a.1.1
    (subst (λ k. AddsVerdict k c.args.head.now.id 256 c.args.self.now.counter c.push_verdict.new.counter (take c.in-Some.size c.args.joined.now) c.args.text.now.items c.push_verdict.new.text.items) c.requires.key d))
    c.push_verdict.ensures.verdict

pub returns-in-None : goal.returns-in-None
returns-in-None c =
    on_ok_weaker c.push_line.result (λ d before kind pdu place arrived.
    let a = rw (c.in-Ok.is, c.in-None.is) at arrived in
    said_waits c.args.head.now before c.args.self.now.counter kind pdu c.args.text.now.items place c.args.self.now.joiner _ a.1.0 c.args.joined.now a.0 a.1.1 d)
    c.push_line.ensures
