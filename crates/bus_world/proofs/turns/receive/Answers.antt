use Rattle.std.specs.Prelude.{None, Err}
use Rattle.std.proofs.Common.{ap}
use Rattle.bus_machine.specs.Steps.{receives}
use Rattle.bus_world.proofs.Turning.{calm_turn, receives_no_cut, faults_told, alone_told, unmoved_by, accepted_short}
use Rattle.bus_world.proofs.turns.receive.Goals as goal

pub front-payload-requires : goal.front-payload-requires
front-payload-requires g c =
    accepted_short c.args.node.now.node c.args.id c.args.pdu.now _ c.in-Ok-Accepted.freshness None c.receive.new.self.node
    (rw c.in-Ok-Accepted.field-0-is at (c.in-Ok-Accepted.ensures.step None))

pub returns-in-Ok-Accepted-clause-turn : goal.returns-in-Ok-Accepted-clause-turn
returns-in-Ok-Accepted-clause-turn g c =
    calm_turn c.args.node.now c.receive.new.self (receives c.args.id c.args.pdu.now) _
    (rw c.front-payload.ensures (rw c.in-Ok-Accepted.field-0-is at (c.in-Ok-Accepted.ensures.step c.source_of.result)))
    (receives_no_cut c.args.id c.args.pdu.now) c.receive.ensures.serves.layout c.receive.ensures.serves.runs c.receive.ensures.serves.fits c.in-Ok-Accepted.ensures.serves.faults tt c.receive.ensures.serves.sound

pub returns-in-Ok-FreshnessFailure-clause-turn : goal.returns-in-Ok-FreshnessFailure-clause-turn
returns-in-Ok-FreshnessFailure-clause-turn g c =
    calm_turn c.args.node.now c.receive.new.self (receives c.args.id c.args.pdu.now) _
    (rw c.in-Ok-FreshnessFailure.field-0-is at (c.in-Ok-FreshnessFailure.ensures.step None))
    (receives_no_cut c.args.id c.args.pdu.now) c.receive.ensures.serves.layout c.receive.ensures.serves.runs c.receive.ensures.serves.fits c.in-Ok-FreshnessFailure.ensures.serves.faults
    (rw c.in-Ok-FreshnessFailure.field-0-is at c.in-Ok-FreshnessFailure.ensures.untouched) c.receive.ensures.serves.sound

pub returns-in-Ok-VerificationFailure-clause-turn : goal.returns-in-Ok-VerificationFailure-clause-turn
returns-in-Ok-VerificationFailure-clause-turn g c =
    calm_turn c.args.node.now c.receive.new.self (receives c.args.id c.args.pdu.now) _
    (rw c.in-Ok-VerificationFailure.field-0-is at (c.in-Ok-VerificationFailure.ensures.step None))
    (receives_no_cut c.args.id c.args.pdu.now) c.receive.ensures.serves.layout c.receive.ensures.serves.runs c.receive.ensures.serves.fits c.in-Ok-VerificationFailure.ensures.serves.faults
    (rw c.in-Ok-VerificationFailure.field-0-is at c.in-Ok-VerificationFailure.ensures.untouched) c.receive.ensures.serves.sound

pub returns-in-Err-clause-turn : goal.returns-in-Err-clause-turn
returns-in-Err-clause-turn g c =
    rw c.refusal_of.ensures
    (calm_turn c.args.node.now c.receive.new.self (receives c.args.id c.args.pdu.now) _
    (c.in-Err.ensures.step None)
    (receives_no_cut c.args.id c.args.pdu.now) c.receive.ensures.serves.layout c.receive.ensures.serves.runs c.receive.ensures.serves.fits
    (faults_told c.in-Err.fault c.args.node.now c.receive.new.self (λ e. c.in-Err.ensures.serves.faulted (ap Err e)) (unmoved_by c.in-Err.fault _ c.in-Err.ensures.untouched))
    (alone_told c.in-Err.fault c.args.node.now c.receive.new.self (unmoved_by c.in-Err.fault _ c.in-Err.ensures.untouched))
    c.receive.ensures.serves.sound)

pub returns-in-Ok-Accepted-clause-honest : goal.returns-in-Ok-Accepted-clause-honest
returns-in-Ok-Accepted-clause-honest g c s id_is pdu_is in_time fits =
    rw c.front-payload.ensures (rw c.in-Ok-Accepted.field-0-is at (c.in-Ok-Accepted.ensures.honest s c.source_of.result id_is pdu_is in_time fits))

pub returns-in-Ok-FreshnessFailure-clause-honest : goal.returns-in-Ok-FreshnessFailure-clause-honest
returns-in-Ok-FreshnessFailure-clause-honest g c s id_is pdu_is in_time fits =
    rw c.in-Ok-FreshnessFailure.field-0-is at (c.in-Ok-FreshnessFailure.ensures.honest s None id_is pdu_is in_time fits)

pub returns-in-Ok-VerificationFailure-clause-honest : goal.returns-in-Ok-VerificationFailure-clause-honest
returns-in-Ok-VerificationFailure-clause-honest g c s id_is pdu_is in_time fits =
    rw c.in-Ok-VerificationFailure.field-0-is at (c.in-Ok-VerificationFailure.ensures.honest s None id_is pdu_is in_time fits)

pub returns-in-Err-clause-honest : goal.returns-in-Err-clause-honest
returns-in-Err-clause-honest g c s id_is pdu_is in_time fits =
    rw c.refusal_of.ensures (c.in-Err.ensures.honest s None id_is pdu_is in_time fits)
