-- A gateway's turn, from the node's own or from an arrival
use Rattle.std.specs.Prelude.{◌≡◌, ℕ, Option, None}
use Rattle.std.proofs.Common.{refl, sym, subst}
use Rattle.bus_machine.specs.declared.events.Event.{Event}
use Rattle.bus_machine.specs.declared.lines.Line.{Line}
use Rattle.bus_machine.specs.declared.lines.Line.TheVariants as line
use Rattle.bus_machine.specs.Bus.{NamesSource, silent_world}
use Rattle.secoc_gateway.specs.declared.gateway_lines.GatewayLine.TheVariants.{OfNode}
use Rattle.secoc_gateway.specs.Gateway.{departs_under, FromNone, StepUnder}
use Rattle.secoc_gateway.specs.State.{GatewayState, over}
use Rattle.secoc_gateway.specs.Turns.{EventTurn, GatewayTurn}

-- on a bus on which nothing was sent an accepted line names no event
from_none : (l : Line) → NamesSource silent_world l → FromNone l
from_none (line.Sent id v pdu) names = tt
from_none (line.Accepted id v payload source) names = names
from_none line.FreshnessFailure names = tt
from_none line.VerificationFailure names = tt
from_none (line.Keyed slot) names = tt
from_none (line.Loaded reply) names = tt
from_none (line.Boot good) names = tt
from_none line.Up names = tt
from_none line.Armed names = tt
from_none line.NoFrame names = tt
from_none (line.Refused r) names = tt

-- the node's own turn
pub own_gateway_turn : (before after : GatewayState) (event : Event) (told : Line) → departs_under before.pairs event ≡ None
    → EventTurn (over before) event told (over after) → NamesSource silent_world told → after.pairs ≡ before.pairs → GatewayTurn before event (OfNode told) after
own_gateway_turn before after event told none turn source same = record {
  step = subst (λ (o : Option ℕ). StepUnder EventTurn o (over before) event (OfNode told) (over after)) (sym none)
      (record { told = told; step = turn; line_is = refl; from = from_none told source });
  pairs = same;
}
