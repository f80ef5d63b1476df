-- What candidates make a device write, over all lives.
use Rattle.std.proofs.Common.{◌≡◌, ◌⊎◌, ℕ, zero, suc, ◌+◌, ◌*◌, ◌<◌, ◌≤◌, ◌-◌, inl, inr, false, List, [], ◌∷◌, refl, sym, subst, ◌∙◌, arith}
use Rattle.std.proofs.lemmas.Bool.{cases_lt}
use Rattle.freshness_routes.specs.Changes.{bound_ahead}
use Rattle.freshness_routes.specs.declared.routes.Direction.{Direction}
use Rattle.freshness_routes.specs.declared.routes.Direction.TheVariants.{Receives}
use Rattle.freshness_store.specs.Bound.{direction_number}
use Rattle.store_plan.specs.declared.planning.Plan.{Plan}
use Rattle.rathonsi_c.specs.declared.route.RathonsiRoute.{RathonsiRoute}
use Rattle.rathonsi_c.specs.Images.{ImageBound}
use Rattle.rathonsi_c.specs.Routes.{InRanges}
use Rattle.rathonsi_c.specs.Lives.{Memory, Deed, sends, accepts, takes, rejoins, opens, sets, reserves, loads, drops, finishes, powers_up, SameRoute, PlanDone, DoesDeed, Lives, PoweredUp, rejoins_it, NeverRejoins}
use Rattle.rathonsi_c.specs.Freshness.{WritesWhenAsked, AskedWrites}
use Rattle.rathonsi_c.proofs.ImageLaws.{bound_once, same_direction}
use Rattle.rathonsi_c.proofs.LivesLaws.{AtLeast, Holds, Sound, after-finish, after-cut, bound_moves, moves, sound-then, first_sound}
use Rattle.rathonsi_c.proofs.RouteKept.{same-refl, same-both, same-deed}
use Rattle.rathonsi_c.proofs.CandidateLaws.{reserved_bound}

-- ---- a deed lowers no bound

image_same : (image y : List ℕ) (plan : Plan) (r : RathonsiRoute) → y ≡ image → (h : Holds image plan r) → AtLeast h.bound y r h.direction
image_same image y plan r e h = record {
  bound = h.bound;
  kept = subst (λ (z : List ℕ). ImageBound z r.cell r.data_id h.direction h.bound) (sym e) h.kept;
  least = omega arith;
}

image_rises : (n k : ℕ) (deed : Deed) (a b : Memory) → DoesDeed n deed a b → (h : Holds a.image a.plan (a.routes k)) → AtLeast h.bound b.image (a.routes k) h.direction
image_rises n k (sends j freshness) a b d h = image_same a.image b.image a.plan (a.routes k) d.changes.image h
image_rises n k (accepts j freshness) a b d h = image_same a.image b.image a.plan (a.routes k) d.changes.image h
image_rises n k (takes j counter) a b d h = image_same a.image b.image a.plan (a.routes k) d.1.changes.image h
image_rises n k (rejoins j counter) a b d h = image_same a.image b.image a.plan (a.routes k) d.changes.image h
image_rises n k (opens j) a b d h = image_same a.image b.image a.plan (a.routes k) d.changes.image h
image_rises n k (sets j) a b d h = image_same a.image b.image a.plan (a.routes k) d.changes.image h
image_rises n k (reserves j) a b d h = image_same a.image b.image a.plan (a.routes k) d.image h
image_rises n k (loads slot) a b d h = image_same a.image b.image a.plan (a.routes k) d.image h
image_rises n k drops a b d h = image_same a.image b.image a.plan (a.routes k) d.image h
image_rises n k finishes a b d h = subst (λ (y : List ℕ). AtLeast h.bound y (a.routes k) h.direction) (sym d.done.image_is) (after-finish a.image a.plan (a.routes k) h)
image_rises n k powers_up a b d h = after-cut a.image a.plan (a.routes k) b.image d.left h

-- later a route has a counter and a bound that are at least these
record Onward (n k : ℕ) (d : Direction) (bound : ℕ) (a c : Memory) : Type 0 where
  sound : Sound n c
  same : SameRoute (a.routes k) (c.routes k)
  later : (a.routes k).counter ≤ (c.routes k).counter
  reached : AtLeast bound c.image (c.routes k) d

one_onward : (n k : ℕ) (d : Direction) (bound : ℕ) (deed : Deed) (a b : Memory) → k < n → rejoins_it k deed ≡ false → Sound n a → (a.routes k).direction ≡ direction_number d → ImageBound a.image (a.routes k).cell (a.routes k).data_id d bound → DoesDeed n deed a b → Onward n k d bound a b
one_onward n k d bound deed a b x not s is kept does =
    let h = s.holds k x in
    let m = moves n deed a b s does in
    let same = same-deed n deed a b k x does in
    let e : h.direction ≡ d = same_direction h.direction d (sym h.ranges.direction_is ∙ is) in
    let here : h.bound ≡ bound = bound_once a.image (a.routes k).cell (a.routes k).data_id d h.bound bound (subst (λ (q : Direction). ImageBound a.image (a.routes k).cell (a.routes k).data_id q h.bound) e h.kept) kept in
    let up = image_rises n k deed a b does h in
    let least = up.least in
    record {
      sound = sound-then n deed a b s m;
      same = same;
      later = m.later k x not;
      reached = record {
        bound = up.bound;
        kept = bound_moves b.image (a.routes k) (b.routes k) d up.bound same (subst (λ (q : Direction). ImageBound b.image (a.routes k).cell (a.routes k).data_id q up.bound) e up.kept);
        least = omega (arith, here, least);
      };
    }

onward_then : (n k : ℕ) (d : Direction) (bound : ℕ) (a b c : Memory) → (o : Onward n k d bound a b) → Onward n k d o.reached.bound b c → Onward n k d bound a c
onward_then n k d bound a b c o p =
    let first = o.later in
    let second = p.later in
    let low = o.reached.least in
    let high = p.reached.least in
    record {
      sound = p.sound;
      same = same-both (a.routes k) (b.routes k) (c.routes k) o.same p.same;
      later = omega (arith, first, second);
      reached = record { bound = p.reached.bound; kept = p.reached.kept; least = omega (arith, low, high) };
    }

lives_onward : (n k : ℕ) (d : Direction) (bound : ℕ) (deeds : List Deed) (a c : Memory) → k < n → NeverRejoins k deeds → Sound n a → (a.routes k).direction ≡ direction_number d → ImageBound a.image (a.routes k).cell (a.routes k).data_id d bound → Lives n deeds a c → Onward n k d bound a c
lives_onward n k d bound [] a c x never s is kept lives = subst (λ (m : Memory). Onward n k d bound a m) (sym lives) (record {
  sound = s;
  same = same-refl (a.routes k);
  later = omega arith;
  reached = record { bound = bound; kept = kept; least = omega arith };
})
lives_onward n k d bound (deed ∷ deeds) a c x never s is kept (b, (does, rest)) =
    let o = one_onward n k d bound deed a b x never.0 s is kept does in
    onward_then n k d bound a b c o (lives_onward n k d o.reached.bound deeds b c x never.1 o.sound (o.same.direction ∙ is) o.reached.kept rest)

-- ---- writes

-- what a write for a candidate makes of the bound
record Written (n k reserve window bound : ℕ) (a c : Memory) : Type 0 where
  onward : Onward n k Receives bound a c
  higher : (bound + reserve ≤ onward.reached.bound) ⊎ (18446744073709551615 ≤ onward.reached.bound)
  room : bound < (a.routes k).counter + window
  unfilled : bound < 18446744073709551615

written : (n k reserve window bound : ℕ) (a c : Memory) → k < n → Sound n a → (a.routes k).direction ≡ direction_number Receives → ImageBound a.image (a.routes k).cell (a.routes k).data_id Receives bound → WritesWhenAsked n k reserve window a c → Written n k reserve window bound a c
written n k reserve window bound a c x s is kept w =
    let r = w.planning.routes k in
    let o = lives_onward n k Receives bound w.waits.0 a w.planning x w.waits.1.1 s is kept w.waits.1.0 in
    let p = one_onward n k Receives o.reached.bound (reserves k) w.planning w.planned x refl o.sound (o.same.direction ∙ is) o.reached.kept w.plans in
    let q = lives_onward n k Receives p.reached.bound w.writes.0 w.planned w.finishing x w.writes.1.1 p.sound (p.same.direction ∙ (o.same.direction ∙ is)) p.reached.kept w.writes.1.0 in
    let f = one_onward n k Receives q.reached.bound finishes w.finishing c x refl q.sound (q.same.direction ∙ (p.same.direction ∙ (o.same.direction ∙ is))) q.reached.kept w.done in
    let to_end = onward_then n k Receives o.reached.bound w.planning w.planned c p (onward_then n k Receives p.reached.bound w.planned w.finishing c q f) in
    let here : w.uncovered.bound ≡ o.reached.bound = bound_once w.planning.image r.cell r.data_id Receives w.uncovered.bound o.reached.bound w.uncovered.kept o.reached.kept in
    let below = w.uncovered.below in
    let above : o.reached.bound < w.plans.freshness = omega (arith, here, below) in
    let e : w.plans.reserved.direction ≡ Receives = same_direction w.plans.reserved.direction Receives (sym w.plans.reserved.ranges.direction_is ∙ (o.same.direction ∙ is)) in
    let ranges : InRanges r Receives = subst (λ (d : Direction). InRanges r d) e w.plans.reserved.ranges in
    let done : PlanDone w.planning.image w.planned.plan c.image c.plan = subst (λ (y : List ℕ). PlanDone y w.planned.plan c.image c.plan) (w.image_stays ∙ w.plans.image) (subst (λ (y : Plan). PlanDone w.finishing.image y c.image c.plan) w.plan_stays w.done.done) in
    let fits = w.candidate.fits in
    let near = w.candidate.near in
    let wide = w.window_most in
    let large = w.reserve_least in
    let low = o.reached.least in
    let ahead : ImageBound c.image r.cell r.data_id Receives (bound_ahead r.reserve w.plans.freshness) = reserved_bound r w.planning.image c.image o.reached.bound w.plans.freshness w.planning.plan w.planned.plan c.plan ranges o.reached.kept above fits w.plans.reserved done in
    let all = onward_then n k Receives bound a w.planning c o to_end in
    let end : bound_ahead r.reserve w.plans.freshness ≡ all.reached.bound = bound_once c.image (c.routes k).cell (c.routes k).data_id Receives (bound_ahead r.reserve w.plans.freshness) all.reached.bound (bound_moves c.image r (c.routes k) Receives (bound_ahead r.reserve w.plans.freshness) to_end.same ahead) all.reached.kept in
    let least = ranges.reserve_least in
    record {
      onward = all;
      higher = elim (cases_lt (w.plans.freshness + r.reserve - 1) 18446744073709551616) [
        | inl whole ↦ inl (omega (arith, end, low, above, large, whole, least))
        | inr over ↦ inr (omega (arith, end, over))
      ];
      room = omega (arith, low, above, near, wide);
      unfilled = omega (arith, low, above, fits);
    }

-- each write takes the bound up by a reserve, or to the last freshness
few_asked : (m x base n k reserve window bound : ℕ) (a c : Memory) → k < n → Sound n a → (a.routes k).direction ≡ direction_number Receives → ImageBound a.image (a.routes k).cell (a.routes k).data_id Receives bound
    → (x + base ≤ bound) ⊎ (18446744073709551615 ≤ bound) → x + base < (a.routes k).counter + window + reserve → AskedWrites m n k reserve window a c → x + base + m * reserve < (c.routes k).counter + window + reserve
few_asked zero x base n k reserve window bound a c lt s is kept room small goes =
    let o = lives_onward n k Receives bound goes.0 a c lt goes.1.1 s is kept goes.1.0 in
    let later = o.later in
    omega (arith, small, later)
few_asked (suc m) x base n k reserve window bound a c lt s is kept room small (asked, (goes, (next, (w, rest)))) =
    let o = lives_onward n k Receives bound goes.0 a asked lt goes.1.1 s is kept goes.1.0 in
    let first = o.reached.least in
    let up = written n k reserve window o.reached.bound asked next lt o.sound (o.same.direction ∙ is) o.reached.kept w in
    let near = up.room in
    let unfilled = up.unfilled in
    let later = up.onward.later in
    let under : x + base ≤ o.reached.bound = elim room [ inl low ↦ omega (arith, low, first) | inr full ↦ absurd (omega (arith, full, first, unfilled)) ] in
    let more : (x + reserve + base ≤ up.onward.reached.bound) ⊎ (18446744073709551615 ≤ up.onward.reached.bound) = elim up.higher [ inl high ↦ inl (omega (arith, under, high)) | inr full ↦ inr full ] in
    let rest_small : x + reserve + base + m * reserve < (c.routes k).counter + window + reserve =
    few_asked m (x + reserve) base n k reserve window up.onward.reached.bound next c lt up.onward.sound (up.onward.same.direction ∙ (o.same.direction ∙ is)) up.onward.reached.kept more (omega (arith, under, near, later)) rest in
    omega (arith, rest_small)

pub few_over_lives : (m n k reserve window : ℕ) (first last : Memory) → PoweredUp n first → k < n → (first.routes k).direction ≡ direction_number Receives → 1 ≤ reserve → AskedWrites m n k reserve window first last → m * reserve + (first.routes k).counter < (last.routes k).counter + window + reserve
few_over_lives m n k reserve window first last p lt is least writes =
    let s = first_sound n first p in
    let h = s.holds k lt in
    let e : h.direction ≡ Receives = same_direction h.direction Receives (sym h.ranges.direction_is ∙ is) in
    let below = h.below in
    let f : 0 + (first.routes k).counter + m * reserve < (last.routes k).counter + window + reserve =
    few_asked m 0 (first.routes k).counter n k reserve window h.bound first last lt s is (subst (λ (d : Direction). ImageBound first.image (first.routes k).cell (first.routes k).data_id d h.bound) e h.kept) (inl (omega (arith, below))) (omega (arith, least)) writes in
    omega (arith, f)
