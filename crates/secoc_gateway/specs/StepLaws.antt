-- Laws of a gateway's steps, whatever a step of its node is
use Rattle.std.specs.Prelude.{ℕ, Option, None, Some, List}
use Rattle.std.proofs.Common.{subst, sym}
use Rattle.bus_machine.specs.declared.events.Event.{Event}
use Rattle.bus_machine.specs.declared.events.Event.TheVariants.{Send}
use Rattle.bus_machine.specs.declared.lines.Line.{Line}
use Rattle.bus_machine.specs.declared.lines.Line.TheVariants.{Accepted}
use Rattle.bus_machine.specs.Bus.{node_of}
use Rattle.secoc_gateway.specs.declared.gateway_lines.GatewayLine.{GatewayLine}
use Rattle.secoc_gateway.specs.Gateway.{NodeSteps, Departs, PassesOn, StepUnder, GatewayStep, departs_under}

-- what each step of a node keeps, between the states before and after it, each step of a gateway keeps
module _ {S : Type 0} (steps : NodeSteps S) (Keeps : S → S → Type 0) (same : (s : S) → Keeps s s)
    (on : (s t u : S) → Keeps s t → Keeps t u → Keeps s u)
    (each : (s : S) (event : Event) (line : Line) (t : S) → steps s event line t → Keeps s t) where
  Departs-keeps : (place out : ℕ) (first : Line) (between : S) (line : GatewayLine) (after : S)
      → Departs steps place out first between line after → Keeps between after
  Departs-keeps place out (Accepted id v payload source) between line after d =
      each between (Send place out payload) d.0 after d.1
  Departs-keeps place out first between line after d = subst (Keeps between) (sym d.1) (same between)

  pub PassesOn-keeps : (out : ℕ) (before : S) (event : Event) (line : GatewayLine) (after : S)
      → PassesOn steps out before event line after → Keeps before after
  PassesOn-keeps out before event line after step =
      on before step.between after (each before event step.first step.between step.arrives)
      (Departs-keeps (node_of event) out step.first step.between line after step.departs)

  StepUnder-keeps : (o : Option ℕ) (before : S) (event : Event) (line : GatewayLine) (after : S)
      → StepUnder steps o before event line after → Keeps before after
  StepUnder-keeps (Some out) before event line after step = PassesOn-keeps out before event line after step
  StepUnder-keeps None before event line after step = each before event step.told after step.step

  pub GatewayStep-keeps : (pairs : List (ℕ × ℕ)) (before : S) (event : Event) (line : GatewayLine) (after : S)
      → GatewayStep steps pairs before event line after → Keeps before after
  GatewayStep-keeps pairs before event line after step =
      StepUnder-keeps (departs_under pairs event) before event line after step
