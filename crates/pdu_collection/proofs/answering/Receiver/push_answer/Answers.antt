use Rattle.std.proofs.Common.{subst}
use Rattle.std.proofs.lemmas.Result.{on_ok_weaker}
use Rattle.pdu_collection.specs.Joining.{authentic, cryptographic}
use Rattle.pdu_collection.specs.Receiving.{AnswersArrival}
use Rattle.pdu_collection.proofs.Saying.{Arrived_of}
use Rattle.pdu_collection.proofs.answering.Receiver.push_answer.Goals as goal

pub returns-in-Authentic : goal.returns-in-Authentic
returns-in-Authentic c =
    let told = c.authentic-arrived.ensures in
    let arrived = Arrived_of c.args.self.now.joiner c.authentic-arrived.new.self authentic c.bytes.result.now _ c.authentic-arrived.new.out c.authentic-arrived.result told.bad_length told.good_length told.arrives in
    on_ok_weaker c.push_arrival.result (λ d. rw c.in-Authentic.is
    (subst (λ pdu. AnswersArrival c.args.head.now c.args.self.now c.push_arrival.new.self authentic pdu c.args.text.now.items c.push_arrival.new.text.items) c.bytes.ensures.value
    (d c.args.self.now.joiner authentic c.bytes.result.now c.requires.place arrived))) c.push_arrival.ensures

pub returns-in-Cryptographic : goal.returns-in-Cryptographic
returns-in-Cryptographic c =
    let told = c.cryptographic-arrived.ensures in
    let arrived = Arrived_of c.args.self.now.joiner c.cryptographic-arrived.new.self cryptographic c.bytes-in-Cryptographic.result.now _ c.cryptographic-arrived.new.out c.cryptographic-arrived.result told.bad_length told.good_length told.arrives in
    on_ok_weaker c.push_arrival-in-Cryptographic.result (λ d. rw c.in-Cryptographic.is
    (subst (λ pdu. AnswersArrival c.args.head.now c.args.self.now c.push_arrival-in-Cryptographic.new.self cryptographic pdu c.args.text.now.items c.push_arrival-in-Cryptographic.new.text.items) c.bytes-in-Cryptographic.ensures.value
    (d c.args.self.now.joiner cryptographic c.bytes-in-Cryptographic.result.now c.requires.place arrived))) c.push_arrival-in-Cryptographic.ensures
