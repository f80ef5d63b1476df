use Rattle.std.specs.Prelude.{◌≡◌, None, Some, find, ◌==◌}
use Rattle.std.proofs.Common.{subst, sym, ◌∙◌}
use Rattle.freshness_routes.specs.declared.routes.Direction.TheVariants.{Receives}
use Rattle.bus_machine.specs.Bus.{hearing}
use Rattle.bus_machine.specs.Node.{place_of}
use Rattle.bus_machine.specs.Honest.{IsInTime}
use Rattle.bus_world.specs.Turns.{NodeTurn, duty}
use Rattle.bus_world.proofs.turns.take_turn.Goals as goal

pub returns-in-Deliver-clause-turn : goal.returns-in-Deliver-clause-turn
returns-in-Deliver-clause-turn g c = λ world is.
    rw c.in-Deliver.is
    (subst (λ lines. NodeTurn c.args.node.now (duty (hearing (find (λ s. s.number == c.in-Deliver.event) lines)) None) c.deliver.result c.deliver.new.node) (sym is) c.deliver.ensures.turn)

pub returns-in-Deliver-clause-honest : goal.returns-in-Deliver-clause-honest
returns-in-Deliver-clause-honest g c = λ world is.
    rw c.in-Deliver.is
    (λ s found in_time. c.deliver.ensures.honest s (subst (λ lines. find (λ s. s.number == c.in-Deliver.event) lines ≡ Some s) is found) in_time)

pub returns-in-Inject-clause-honest : goal.returns-in-Inject-clause-honest
returns-in-Inject-clause-honest g c = λ world is.
    rw c.in-Inject.is
    (λ s brought in_time. c.receive.ensures.honest s brought.0 (brought.1 ∙ sym c.bytes-in-Inject.ensures.value) (subst (λ i. IsInTime c.args.node.now.node s (place_of c.args.node.now.node i Receives)) brought.0 in_time) brought.2)
