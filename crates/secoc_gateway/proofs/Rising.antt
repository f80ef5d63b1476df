-- Each freshness that a gateway tells is greater than each that it told before of the same Data ID and direction
use Rattle.std.specs.Prelude.{◌≡◌, ℕ, ◌<◌, List, [], ◌∷◌}
use Rattle.std.proofs.Common.{sym, ap, subst, arith}
use Rattle.machine_runs.specs.Run.{Moment}
use Rattle.freshness_routes.specs.declared.routes.Direction.{Direction}
use Rattle.bus_machine.specs.declared.events.Event.{Event}
use Rattle.bus_machine.specs.Node.{Node, place_of, place_in, counter_at}
use Rattle.bus_machine.specs.Sound.{Sound}
use Rattle.bus_laws.proofs.CallerLemmas.{Grows, Above, Each, Pairwise, AllPairs-Pairwise}
use Rattle.secoc_gateway.specs.declared.gateway_lines.GatewayLine.{GatewayLine}
use Rattle.secoc_gateway.specs.Gateway.{GatewayMoments, GatewayRun}
use Rattle.secoc_gateway.specs.Claims.{TellsFreshness, FreshnessRises}
use Rattle.secoc_gateway.proofs.Stepping.{goes_on, above_before, Passes, passes}

pub Sound-gateway : (pairs : List (ℕ × ℕ)) (start : Node) (ms : GatewayMoments) (last : Node) → Sound start → GatewayRun pairs start ms last → Sound last
Sound-gateway pairs start [] last s run = subst Sound (sym run) s
Sound-gateway pairs start (m ∷ ms) last s run =
    Sound-gateway pairs m.after ms last (goes_on pairs start m.command m.line m.after s run.0).sound run.1

-- what the moment tells is above this node's counter
abbrev AboveIn : Node → Direction → Moment Event GatewayLine Node → Type 0
AboveIn node direction m = (id v : ℕ) → TellsFreshness direction m.line id v → Above node direction id v

above_back : (node after : Node) (direction : Direction) → Grows node after → (ms : GatewayMoments) → Each (AboveIn after direction) ms → Each (AboveIn node direction) ms
above_back node after direction g [] a = tt
above_back node after direction g (m ∷ ms) a =
    (λ id v tells. above_before node after direction id v g (a.0 id v tells), above_back node after direction g ms a.1)

-- in a run each freshness to come is above the counter now
all_above : (pairs : List (ℕ × ℕ)) (node : Node) (ms : GatewayMoments) (last : Node) (direction : Direction) → Sound node → GatewayRun pairs node ms last → Each (AboveIn node direction) ms
all_above pairs node [] last direction s run = tt
all_above pairs node (m ∷ ms) last direction s run =
    let next = goes_on pairs node m.command m.line m.after s run.0 in (
      λ id v tells. (passes pairs node m.command m.line m.after direction id v s run.0 tells).above,
      above_back node m.after direction next.grows ms (all_above pairs m.after ms last direction next.sound run.1),
    )

-- the later of two moments tells the greater freshness
abbrev Later : Direction → Moment Event GatewayLine Node → Moment Event GatewayLine Node → Type 0
Later direction m n = (id v w : ℕ) → TellsFreshness direction m.line id v → TellsFreshness direction n.line id w → v < w

each_later : (node : Node) (direction : Direction) (m : Moment Event GatewayLine Node) → Grows node m.after
    → ((id v : ℕ) → TellsFreshness direction m.line id v → Passes node m.after direction id v)
    → (ms : GatewayMoments) → Each (AboveIn m.after direction) ms → Each (Later direction m) ms
each_later node direction m g p [] a = tt
each_later node direction m g p (n ∷ ns) a = (
  λ id v w first later.
      let same : place_of m.after id direction ≡ place_of node id direction = ap (λ c. place_in c.routes id direction) g.config_is in
      omega (arith, (p id v first).reached, subst (λ k. counter_at m.after k < w) same (a.0 id w later).below),
  each_later node direction m g p ns a.1,
)

all_later : (pairs : List (ℕ × ℕ)) (node : Node) (ms : GatewayMoments) (last : Node) (direction : Direction) → Sound node → GatewayRun pairs node ms last → Pairwise (Later direction) ms
all_later pairs node [] last direction s run = tt
all_later pairs node (m ∷ ms) last direction s run =
    let next = goes_on pairs node m.command m.line m.after s run.0 in (
      each_later node direction m next.grows (λ id v tells. passes pairs node m.command m.line m.after direction id v s run.0 tells) ms
          (all_above pairs m.after ms last direction next.sound run.1),
      all_later pairs m.after ms last direction next.sound run.1,
    )

pub Rises-run : (pairs : List (ℕ × ℕ)) (start : Node) (ms : GatewayMoments) (last : Node) (direction : Direction) → Sound start → GatewayRun pairs start ms last → FreshnessRises direction ms
Rises-run pairs start ms last direction s run = AllPairs-Pairwise (Later direction) ms (all_later pairs start ms last direction s run)
