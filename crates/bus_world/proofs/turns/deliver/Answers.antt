use Rattle.std.specs.Prelude.{option_map}
use Rattle.std.proofs.Common.{sym, ap, subst, ◌∙◌}
use Rattle.std.proofs.lemmas.Option.{none-some, same_Some}
use Rattle.freshness_routes.specs.declared.routes.Direction.TheVariants.{Receives}
use Rattle.bus_machine.specs.Bus.{SentLine}
use Rattle.bus_machine.specs.Node.{place_of}
use Rattle.bus_machine.specs.Honest.{IsInTime}
use Rattle.bus_world.specs.declared.history.Frame.{Frame}
use Rattle.bus_world.proofs.turns.deliver.Goals as goal

pub returns-in-Some-clause-honest : goal.returns-in-Some-clause-honest
returns-in-Some-clause-honest g c = λ s found in_time.
    let is = same_Some c.in-Some.frame (record { id = s.id; pdu = s.pdu }) (c.in-Some.ensures.value ∙ ap (option_map (λ (s : SentLine). record { id = s.id; pdu = s.pdu })) found) in
    let id_is = sym (ap (λ (f : Frame). f.id) is) in
    c.receive.ensures.honest s id_is (sym (ap (λ (f : Frame). f.pdu) is) ∙ sym c.bytes.ensures.value) (subst (λ i. IsInTime c.args.node.now.node s (place_of c.args.node.now.node i Receives)) id_is in_time)
    (c.frame_of.ensures.bounded s found)

pub returns-in-None-clause-honest : goal.returns-in-None-clause-honest
returns-in-None-clause-honest g c = λ s found in_time. absurd (none-some _ (c.in-None.ensures.value ∙ ap (option_map (λ (s : SentLine). record { id = s.id; pdu = s.pdu })) found))
