-- The honest clause at each answer.
use Rattle.std.proofs.Common.{refl}
use Rattle.key_slots.specs.Slots.{slot_at}
use Rattle.memory_update.specs.Loading.{key_in}
use Rattle.secured_pdu.proofs.CallerLemmas.{IsFrame-Secured}
use Rattle.secoc_receiver.proofs.Heard.{in_time, not_stale, not_forged, taken}
use Rattle.secoc_receiver.proofs.receiver.receive.Goals as goal

pub returns-in_default-clause-honest : goal.returns-in_default-clause-honest
returns-in_default-clause-honest g c = λ payload v may secured ahead.
    let key = key_in (slot_at c.args.engine.now.slots c.args.route.now.slot) in
    c.in_default.ensures.refused (IsFrame-Secured key c.args.route.now.id payload v c.args.pdu.now secured)

pub returns-in-Accepted-clause-honest : goal.returns-in-Accepted-clause-honest
returns-in-Accepted-clause-honest g c = λ payload v may secured ahead.
    let key = key_in (slot_at c.args.engine.now.slots c.args.route.now.slot) in
    let rx = c.args.rx.now in
    let window = rw c.window.ensures.value at c.window.ensures.window in
    let said = rw (c.in-Ok.ensures.key, c.counter.ensures.value, c.window.ensures.value) at c.in-Accepted.ensures.verdict in
    let one = in_time key c.args.route.now.id rx.counter rx.window c.args.route.now.window c.args.pdu.now _ payload v _ window c.requires.route.window c.in-Some.ensures.parts secured ahead said in
    taken c.in-Some.parts.payload.now payload c.in-Accepted.freshness v _ rx c.accept.result _ _ c.accept.ensures.said c.accept.ensures.failed refl one

pub returns-in-FreshnessFailure-clause-honest : goal.returns-in-FreshnessFailure-clause-honest
returns-in-FreshnessFailure-clause-honest g c = λ payload v may secured ahead.
    let key = key_in (slot_at c.args.engine.now.slots c.args.route.now.slot) in
    let rx = c.args.rx.now in
    let window = rw c.window.ensures.value at c.window.ensures.window in
    let said = rw (c.counter.ensures.value, c.window.ensures.value) at c.in-FreshnessFailure.ensures.verdict in
    not_stale payload v (in_time key c.args.route.now.id rx.counter rx.window c.args.route.now.window c.args.pdu.now _ payload v _ window c.requires.route.window c.in-Some.ensures.parts secured ahead said)

pub returns-in-VerificationFailure-clause-honest : goal.returns-in-VerificationFailure-clause-honest
returns-in-VerificationFailure-clause-honest g c = λ payload v may secured ahead.
    let key = key_in (slot_at c.args.engine.now.slots c.args.route.now.slot) in
    let rx = c.args.rx.now in
    let window = rw c.window.ensures.value at c.window.ensures.window in
    let said = rw (c.in-Ok.ensures.key, c.counter.ensures.value, c.window.ensures.value) at c.in-VerificationFailure.ensures.verdict in
    not_forged payload v (in_time key c.args.route.now.id rx.counter rx.window c.args.route.now.window c.args.pdu.now _ payload v _ window c.requires.route.window c.in-Some.ensures.parts secured ahead said)
