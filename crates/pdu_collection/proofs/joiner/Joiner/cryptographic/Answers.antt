use Rattle.std.proofs.Common.{refl, ap, ◌∙◌, arith}
use Rattle.pdu_collection.specs.Collection.{joined_pdu}
use Rattle.pdu_collection.specs.Joining.{cryptographic}
use Rattle.pdu_collection.specs.Joined.{JoinerState}
use Rattle.pdu_collection.proofs.Arriving.{ended, Arrives-joins, Arrives-waits, kept}
use Rattle.pdu_collection.proofs.joiner.Joiner.cryptographic.Goals as goal

pub returns-in-Some-clause-arrives : goal.returns-in-Some-clause-arrives
returns-in-Some-clause-arrives c =
    Arrives-joins c.args.self.now cryptographic c.args.pdu.now _ c.in-Some.waiting _ _ c.join.result (ap ended c.self.view_is)
    c.in-Some.ensures.partner.0 c.in-Some.ensures.partner.1
    (c.join.ensures.joined ∙ ap (λ p. joined_pdu p c.args.pdu.now) c.bytes.ensures.value, c.join.ensures.rest)

pub returns-in-None-clause-arrives : goal.returns-in-None-clause-arrives
returns-in-None-clause-arrives c =
    let good = c.if-not-is_cryptographic.ensures.0 refl in
    Arrives-waits c.args.self.now cryptographic c.args.pdu.now _ _ (ap (λ (s : JoinerState). s.place) c.self.view_is)
    (kept c.of-self-inside.result c.args.pdu.now (λ n. omega (arith, c.of-self-inside.ensures.refused.0 n, good)) c.of-self-inside.ensures.value)
    (ap (λ (s : JoinerState). s.payload) c.self.view_is) c.in-None.ensures.partner
