-- Pairs that are good stay so, and an arrival under the first of one is a step of the gateway
use Rattle.std.specs.Prelude.{◌≡◌, ℕ, suc, ◌<◌, ◌==◌, Bool, true, false, cond, Option, Some, Result, List, [], ◌∷◌, length, find, option_map}
use Rattle.std.proofs.Common.{refl, sym, ◌∙◌, subst, arith}
use Rattle.freshness_routes.specs.declared.routes.Direction.TheVariants.{Sends, Receives}
use Rattle.bus_machine.specs.declared.events.Event.{Event}
use Rattle.bus_machine.specs.declared.events.Event.TheVariants.{Inject}
use Rattle.freshness_routes.specs.Config.{Config}
use Rattle.bus_machine.specs.Node.{Node, HasRoute}
use Rattle.bus_machine.specs.Bus.{act_of, silent_world}
use Rattle.bus_laws.proofs.CallerLemmas.{same_some, eq_of_test}
use Rattle.secoc_node.specs.declared.faults.NodeFault.{NodeFault}
use Rattle.secoc_gateway.specs.declared.gateway_lines.GatewayLine.{GatewayLine}
use Rattle.secoc_gateway.specs.Gateway.{NodeSteps, second_of, PassesOn, StepUnder, GatewayStep, EventStep}
use Rattle.secoc_gateway.specs.StepLaws.{PassesOn-keeps}
use Rattle.secoc_gateway.specs.declared.arrival.Arrival.{Arrival}
use Rattle.secoc_gateway.specs.Arrivals.{arrival_line}
use Rattle.secoc_gateway.specs.Pairs.{pair_in, AreGood}
use Rattle.bus_world.proofs.CallerLemmas.{step_config}

-- ---- good pairs

pub AreGood-same : (node after : Node) (pairs : List (ℕ × ℕ)) → after.config ≡ node.config → AreGood node.config.routes pairs → AreGood after.config.routes pairs
AreGood-same node after pairs same good = subst (λ (c : Config). AreGood c.routes pairs) (sym same) good

-- the pair that was found
pub record IsPairOf (pairs : List (ℕ × ℕ)) (id out : ℕ) : Type 0 where
  pub place : ℕ
  pub inside : place < length pairs
  pub first_is : (pair_in pairs place).0 ≡ id
  pub second_is : (pair_in pairs place).1 ≡ out

pair_of : (pairs : List (ℕ × ℕ)) (id out : ℕ) → second_of pairs id ≡ Some out → IsPairOf pairs id out
pair_of [] id out e = cc
pair_of (p ∷ ps) id out e = by_test (p.0 == id) refl (λ e. pair_of ps id out e) e
  where
    by_test : (b : Bool) → (p.0 == id) ≡ b → (second_of ps id ≡ Some out → IsPairOf ps id out)
        → option_map (λ (p : ℕ × ℕ). p.1) (cond b (Some p) (find (λ (p : ℕ × ℕ). p.0 == id) ps)) ≡ Some out → IsPairOf (p ∷ ps) id out
    by_test true t rest e = record { place = 0; inside = omega arith; first_is = eq_of_test p.0 id t; second_is = same_some p.1 out e }
    by_test false t rest e =
        let r = rest e in
        record { place = suc r.place; inside = omega (arith, r.inside); first_is = r.first_is; second_is = r.second_is }

-- the routes of a good pair
pub record HasBoth (node : Node) (id out : ℕ) : Type 0 where
  pub receives : HasRoute node id Receives
  pub sends : HasRoute node out Sends

pub good_routes : (node : Node) (pairs : List (ℕ × ℕ)) (id out : ℕ) → AreGood node.config.routes pairs → second_of pairs id ≡ Some out → HasBoth node id out
good_routes node pairs id out good e =
    let p = pair_of pairs id out e in
    let g = good p.place p.inside in
    record { receives = subst (λ i. HasRoute node i Receives) p.first_is g.receives; sends = subst (λ i. HasRoute node i Sends) p.second_is g.sends }

-- ---- the step

pub passes_config : (out : ℕ) (before : Node) (event : Event) (line : GatewayLine) (after : Node) → PassesOn EventStep out before event line after → after.config ≡ before.config
passes_config out before event line after step =
    PassesOn-keeps EventStep (λ (n : Node) (m : Node). m.config ≡ n.config) (λ n. refl) (λ n m l one two. two ∙ one)
    (λ n e told m one. step_config n (act_of silent_world e) told m one) out before event line after step

pub step_of_pair : {S : Type 0} (steps : NodeSteps S) (pairs : List (ℕ × ℕ)) (id out told : ℕ) (before after : S) (place : ℕ) (pdu bytes : List ℕ) (result : Result Arrival NodeFault)
    → second_of pairs id ≡ Some out → second_of pairs id ≡ Some told → PassesOn steps out before (Inject place id pdu) (arrival_line id out bytes result) after
    → GatewayStep steps pairs before (Inject place id pdu) (arrival_line id told bytes result) after
step_of_pair steps pairs id out told before after place pdu bytes result is also step =
    subst (λ (o : Option ℕ). StepUnder steps o before (Inject place id pdu) (arrival_line id told bytes result) after) (sym is)
    (subst (λ (i : ℕ). PassesOn steps out before (Inject place id pdu) (arrival_line id i bytes result) after) (same_some out told (sym is ∙ also)) step)
