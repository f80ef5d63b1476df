-- The counters after a power-up
use Rattle.std.specs.Prelude.{◌≡◌, ℕ, ◌+◌, ◌-◌, ◌<◌, ◌≤◌, ◌⊎◌, None, Some, length, get_or, ◌∷◌, Bool, true, false}
use Rattle.std.proofs.Common.{sym, ◌∙◌, ap, subst, arith, inl, inr}
use Rattle.key_slots.specs.declared.memory.Slot.{Slot}
use Rattle.freshness_routes.specs.declared.routes.Direction.TheVariants.{Sends, Receives}
use Rattle.freshness_routes.specs.Changes.{last_freshness}
use Rattle.machine_runs.specs.Run.{Run}
use Rattle.machine_runs.proofs.CallerLemmas.{Run-split}
use Rattle.bus_machine.specs.declared.lines.Line.TheVariants.{Up}
use Rattle.bus_machine.specs.Node.{Node, Change, slot_to, bound_to, place_of, no_route, route_at, bound_at, counter_at}
use Rattle.bus_machine.specs.Sound.{MovesForward, InStep, Sound}
use Rattle.bus_machine.specs.Steps.{Act, sends, receives, loads, keys, boots, cuts, arms, hears_nothing, Makes, PowersUp, NodeStep}
use Rattle.bus_machine.specs.Bus.{World, node_of, Instant, Moments, act_of, Step, node_at, SoundBus, state_after}
use Rattle.bus_machine.specs.Skips.{ToAccept, SenderSkips, ReceiverSkips, SkipsLittle}
use Rattle.bus_laws.proofs.Effects.{send_routed, min_is}
use Rattle.bus_laws.proofs.SoundSteps.{due, get_set, place_is, Receives≢Sends, same_some, pending_forward}
use Rattle.bus_laws.proofs.BusSteps.{step_at, Sound-run, Grows-run, as_many_run, state_is}
use Rattle.bus_laws.proofs.Pending.{failed_call}

power_of : (node : Node) (act : Act) (after : Node) → NodeStep node act Up after → PowersUp node after
power_of node cuts after step = step
power_of node (sends id payload) after step = absurd step
power_of node (receives id pdu) after step = absurd step
power_of node (loads request) after step = absurd step
power_of node (keys update authkey) after step = absurd step
power_of node (boots image) after step = absurd step
power_of node arms after step = absurd step
power_of node hears_nothing after step = absurd step

-- the counter is the bound as it was kept, or that which was pending
powered_counter : (node after : Node) (k : ℕ) → Sound node → k < length node.config.routes → PowersUp node after
    → (counter_at after k ≡ bound_at node k) ⊎ ((x : ℕ) × (node.pending ≡ Some (bound_to k x)) × (counter_at after k ≡ x))
powered_counter node after k s inside (inl e) = inl (ap (λ n. counter_at n k) e)
powered_counter node after k s inside (inr (slot_to t slot, pending, e)) = inl (ap (λ n. counter_at n k) e)
powered_counter node after k s inside (inr (bound_to j x, pending, e)) =
    let f : MovesForward node (bound_to j x) = pending_forward node (bound_to j x) s pending in
    elim (get_set node.kept.bounds j k x (subst (λ n. j < n) (sym s.bounds) f.0)) [
      | inl same ↦ inr (x, pending ∙ ap (λ i. Some (bound_to i x)) (sym same.0), ap (λ n. counter_at n k) e ∙ same.1)
      | inr other ↦ inl (ap (λ n. counter_at n k) e ∙ other.1)
    ]

sender_skips : (node : Node) (act : Act) (after : Node) (k : ℕ) → Sound node → k < length node.config.routes → NodeStep node act Up after → SenderSkips node after k
sender_skips node act after k s inside step sending =
    let old : InStep node k = s.in_step k inside in
    elim (powered_counter node after k s inside (power_of node act after step)) [
      | inl e ↦ omega (arith, e, old.near)
      | inr p ↦ let f : MovesForward node (bound_to k p.0) = pending_forward node (bound_to k p.0) s p.1 in omega (arith, p.2, f.3 sending)
    ]

bound_route : Change → ℕ
bound_route (slot_to t slot) = 0
bound_route (bound_to k x) = k

bound_value : Change → ℕ
bound_value (slot_to t slot) = 0
bound_value (bound_to k x) = x

same_bound : (j k x y : ℕ) → bound_to j x ≡ bound_to k y → (j ≡ k) × (x ≡ y)
unfolding bound_route bound_value
same_bound j k x y e = (ap bound_route e, ap bound_value e)

slot≢bound : (t k x : ℕ) (slot : Slot) → bound_to k x ≡ slot_to t slot → ⊥
slot≢bound t k x slot e = cc

due_some : (b : Bool) (j k x y : ℕ) → due b j x ≡ Some (bound_to k y) → (j ≡ k) × (x ≡ y)
due_some true j k x y e = same_bound j k x y (same_some _ _ e)
due_some false j k x y e = cc

-- a failed call that makes a receiving route's bound pending was to accept freshness at most a reserve below it
made_by_receiving : (node : Node) (act : Act) (k x : ℕ) → (route_at node k).direction ≡ Receives → Makes node act (bound_to k x)
    → (v : ℕ) × ToAccept node act v × (x ≤ v + (route_at node k).reserve - 1)
made_by_receiving node (sends id payload) k x receiving makes =
    let r = send_routed node id payload makes.0 in
    let e = due_some _ (place_of node id Sends) k _ x makes.1 in
    absurd (Receives≢Sends (route_at node k).direction receiving (subst (λ j. (route_at node j).direction ≡ Sends) e.0 (place_is node.config.routes id Sends r.0.inside).direction_is))
made_by_receiving node (receives id pdu) k x receiving makes =
    let e = due_some _ (place_of node id Receives) k _ x makes.3 in
    let m = min_is (makes.1 + (route_at node (place_of node id Receives)).reserve - 1) last_freshness in
    let same : (route_at node (place_of node id Receives)).reserve ≡ (route_at node k).reserve = ap (λ j. (route_at node j).reserve) e.0 in
    (makes.1, (makes.0, makes.2), omega (arith, m.0, e.1, same))
made_by_receiving node (loads request) k x receiving makes = absurd (slot≢bound _ k x _ makes.2)
made_by_receiving node (keys update authkey) k x receiving makes = absurd (slot≢bound _ k x _ makes.2.2)
made_by_receiving node (boots image) k x receiving makes = absurd makes
made_by_receiving node cuts k x receiving makes = absurd makes
made_by_receiving node arms k x receiving makes = absurd makes
made_by_receiving node hears_nothing k x receiving makes = absurd makes

receiver_skips : (start : World) (ms : Moments) (now : World) (after : Node) (i k : ℕ) (act : Act) → SoundBus start → (node_at start i).pending ≡ None → i < length start.nodes → Run Step start ms now
    → k < length (node_at now i).config.routes → NodeStep (node_at now i) act Up after → ReceiverSkips start ms i (node_at now i) after k
receiver_skips start ms now after i k act s calm fits run inside step receiving =
    let fits' : i < length now.nodes = subst (λ n. i < n) (sym (as_many_run start ms now run)) fits in
    let sound = Sound-run start ms now s run i fits' in
    elim (powered_counter (node_at now i) after k sound inside (power_of _ act _ step)) [
      | inl e ↦ inl (omega (arith, e, (sound.in_step k inside).near))
      | inr p ↦
          let f = failed_call start ms now i (bound_to k p.0) calm run p.1 in
          let parts = Run-split Step start f.done (f.call ∷ f.rest) now (subst (λ xs. Run Step start xs now) f.all run) in
          let before : World = state_after start f.done in
          let same : (node_at now i).config ≡ (node_at before i).config =
          (Grows-run start ms now i s fits run).config_is ∙ sym (ap (λ w. (node_at w i).config) (sym (state_is start f.done parts.0 parts.1)) ∙ (Grows-run start f.done parts.0 i s fits parts.1).config_is) in
          let route : route_at (node_at now i) k ≡ route_at (node_at before i) k = ap (λ c. get_or c.routes k no_route) same in
          let made = made_by_receiving (node_at before i) _ k p.0 (subst (λ r. r.direction ≡ Receives) route receiving) f.makes in
          inr (made.0, record { bound = p.0; call = f; accepts = made.1 }, omega (arith, p.2, made.2, ap (λ r. r.reserve) route))
    ]

pub SkipsLittle-run : (start : World) (ms : Moments) (now : World) (m : Instant) → SoundBus start → ((i : ℕ) → (node_at start i).pending ≡ None)
    → Run Step start ms now → Step now m.command m.line m.after → SkipsLittle start ms now m
SkipsLittle-run start ms now m s calm run step up k inside =
    let i : ℕ = node_of m.command in
    let at = step_at now m.command m.line m.after step in
    let here = subst (λ l. NodeStep (node_at now i) (act_of now m.command) l (node_at m.after i)) up at.step in
    let fits : i < length start.nodes = subst (λ n. i < n) (as_many_run start ms now run) at.inside in (
      sender_skips (node_at now i) _ (node_at m.after i) k (Sound-run start ms now s run i at.inside) inside here,
      receiver_skips start ms now (node_at m.after i) i k _ s (calm i) fits run inside here,
    )
