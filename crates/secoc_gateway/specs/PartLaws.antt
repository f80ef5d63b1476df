-- The parts of a gateway's run, whatever a step of its node is
use Rattle.std.specs.Prelude.{◌≡◌, ℕ, Option, None, Some, List, [], ◌∷◌, ◌++◌}
use Rattle.std.proofs.Common.{refl, sym, subst}
use Rattle.machine_runs.specs.Run.{Moment, Run}
use Rattle.machine_runs.proofs.CallerLemmas.{Run-append}
use Rattle.bus_machine.specs.declared.events.Event.{Event}
use Rattle.bus_machine.specs.declared.events.Event.TheVariants.{Send}
use Rattle.bus_machine.specs.declared.lines.Line.{Line}
use Rattle.bus_machine.specs.declared.lines.Line.TheVariants.{Accepted}
use Rattle.bus_machine.specs.Bus.{node_of}
use Rattle.secoc_gateway.specs.declared.gateway_lines.GatewayLine.{GatewayLine}
use Rattle.secoc_gateway.specs.Gateway.{NodeSteps, Departs, StepUnder, GatewayStep, departs_under}
use Rattle.secoc_gateway.specs.Parts.{StandsAlone, AreParts, AreAllParts}

-- the node's moments of one moment of the gateway
pub record OwnParts {S : Type 0} (steps : NodeSteps S) (pairs : List (ℕ × ℕ)) (before : S)
    (m : Moment Event GatewayLine S) : Type 0 where
  pub parts : List (Moment Event Line S)
  pub run : Run steps before parts m.after
  pub are : AreParts pairs m parts

-- the moments of the node that a run of the gateway is made of
pub record AllParts {S : Type 0} (steps : NodeSteps S) (pairs : List (ℕ × ℕ)) (start : S)
    (ms : List (Moment Event GatewayLine S)) (now : S) : Type 0 where
  pub parts : List (Moment Event Line S)
  pub run : Run steps start parts now
  pub are : AreAllParts pairs ms parts

module _ {S : Type 0} (steps : NodeSteps S) (pairs : List (ℕ × ℕ)) where
  departed_parts : (out : ℕ) (before between : S) (first : Line) (m : Moment Event GatewayLine S)
      → departs_under pairs m.command ≡ Some out → steps before m.command first between
      → Departs steps (node_of m.command) out first between m.line m.after → OwnParts steps pairs before m
  departed_parts out before between (Accepted id v payload source) m is arrives departs = record {
    parts =
        record { command = m.command; line = Accepted id v payload source; after = between }
        ∷ record { command = Send (node_of m.command) out payload; line = departs.0; after = m.after }
        ∷ [];
    run = (arrives, (departs.1, refl));
    are = (refl, (out, is, (refl, departs.2)), refl);
  }
  departed_parts out before between first m is arrives departs = record {
    parts = record { command = m.command; line = first; after = between } ∷ [];
    run = (arrives, departs.1);
    are = (refl, departs.0, departs.1, subst (λ (o : Option ℕ). StandsAlone o first) (sym is) tt);
  }

  parts_under : (o : Option ℕ) (before : S) (m : Moment Event GatewayLine S) → departs_under pairs m.command ≡ o
      → StepUnder steps o before m.command m.line m.after → OwnParts steps pairs before m
  parts_under (Some out) before m is step =
      departed_parts out before step.between step.first m is step.arrives step.departs
  parts_under None before m is step = record {
    parts = record { command = m.command; line = step.told; after = m.after } ∷ [];
    run = (step.step, refl);
    are = (refl, step.line_is, refl, subst (λ (o : Option ℕ). StandsAlone o step.told) (sym is) step.from);
  }

  pub GatewayRun-parts : (start : S) (ms : List (Moment Event GatewayLine S)) (now : S)
      → Run (GatewayStep steps pairs) start ms now → AllParts steps pairs start ms now
  GatewayRun-parts start [] now run = record { parts = []; run = run; are = refl }
  GatewayRun-parts start (m ∷ ms) now run =
      let own = parts_under (departs_under pairs m.command) start m refl run.0 in
      let rest = GatewayRun-parts m.after ms now run.1 in
      record {
        parts = own.parts ++ rest.parts;
        run = Run-append steps start own.parts rest.parts m.after now own.run rest.run;
        are = (own.parts, rest.parts, refl, own.are, rest.are);
      }
