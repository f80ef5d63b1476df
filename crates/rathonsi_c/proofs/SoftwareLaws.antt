-- Freshness rises over all software, and a roll-back at any moment opens.
use Rattle.std.proofs.Common.{◌≡◌, ◌≢◌, ℕ, ◌+◌, ◌<◌, ◌≤◌, ◌⊎◌, inl, inr, if◌then◌else◌, IsSome, Option, List, [], ◌∷◌, ◌++◌, length, refl, sym, ap, subst, ◌∙◌, arith, length-append}
use Rattle.std.proofs.lemmas.Bool.{cases_lt, ne_eqb, false≢true}
use Rattle.cell_store.specs.Twin.{twin_size, cell_at}
use Rattle.freshness_routes.specs.declared.routes.Direction.{Direction}
use Rattle.key_slots.specs.declared.memory.Slot.{Slot}
use Rattle.memory_update.specs.declared.messages.Reply.{Reply}
use Rattle.store_plan.specs.Plans.{IsEmptyPlan}
use Rattle.store_plan.specs.Leaving.{LeavesPut}
use Rattle.store_plan.specs.Growing.{SaysCells}
use Rattle.rathonsi_c.specs.declared.route.RathonsiRoute.{RathonsiRoute}
use Rattle.rathonsi_c.specs.Images.{ImageBound, ImageSlot}
use Rattle.rathonsi_c.specs.Lives.{Memory, Deed, sends, accepts, takes, rejoins, opens, sets, reserves, loads, drops, finishes, powers_up, SameRoute, OpensFilled, DoesDeed, Lives, given_out, NeverRejoins, RisesTo, SlotFilled}
use Rattle.rathonsi_c.specs.Slots.{ConfirmsSlot}
use Rattle.rathonsi_c.specs.Softwares.{Table, CellsApart, SoftwareComesUp, Software, AllSoftware, given_by_all, NoneRejoins}
use Rattle.rathonsi_c.specs.Stores.{IsWhole}
use Rattle.rathonsi_c.proofs.GrowthLaws.{Follows, follows, cell_within, head_within, rises_join, no_bound_is_zeros}
use Rattle.rathonsi_c.proofs.LivesLaws.{Holds, Sound, after-cut, cut_back, finished, holds-same, holds_opened, lives-sound, moves, opened_anew, opened_cell, planned_elsewhere, planned_nothing, reserved_there, rises, rises_from, sound-then}
use Rattle.rathonsi_c.proofs.RouteKept.{same-both, same-opened, same-lives}
use Rattle.rathonsi_c.proofs.WholeLaws.{whole_over}

-- ---- a route that the software doesn't have

-- no deed of the software touches its cell
stays : (n : ℕ) (deed : Deed) (a b : Memory) (r : RathonsiRoute) → ((j : ℕ) → j < n → (a.routes j).cell ≢ r.cell) → Holds a.image a.plan r → DoesDeed n deed a b → Holds b.image b.plan r
stays n (sends k freshness) a b r apart h d = holds-same a.image b.image a.plan b.plan r r d.changes.image d.changes.plan refl h
stays n (accepts k freshness) a b r apart h d = holds-same a.image b.image a.plan b.plan r r d.changes.image d.changes.plan refl h
stays n (takes k counter) a b r apart h d = holds-same a.image b.image a.plan b.plan r r d.1.changes.image d.1.changes.plan refl h
stays n (rejoins k counter) a b r apart h d = holds-same a.image b.image a.plan b.plan r r d.changes.image d.changes.plan refl h
stays n (opens k) a b r apart h d = holds-same a.image b.image a.plan b.plan r r d.changes.image d.changes.plan refl h
stays n (sets k) a b r apart h d = holds-same a.image b.image a.plan b.plan r r d.changes.image d.changes.plan refl h
stays n (reserves k) a b r apart h d =
    holds-same a.image b.image b.plan b.plan r r d.image refl refl (reserved_there a.image a.plan b.plan (a.routes k) r d.freshness (apart k d.which) d.reserved h)
stays n (loads slot) a b r apart h d =
    holds-same a.image b.image b.plan b.plan r r d.image refl refl
    (planned_elsewhere a.image a.plan b.plan r d.loaded.update.id _ (λ e. let few = d.loaded.allowed.1.padded.is_update.id_fits in let least = h.ranges.cell_least in omega arith) d.loaded.plans h)
stays n drops a b r apart h d = holds-same a.image b.image b.plan b.plan r r d.image refl refl (planned_nothing a.image a.plan b.plan r d.empty h)
stays n finishes a b r apart h d = finished a.image b.image a.plan b.plan r d.done.image_is d.done.empty h
stays n powers_up a b r apart h d = cut_back a.image b.image a.plan b.plan r d.left d.empty h

-- over all deeds, and its bound doesn't fall
ghost-lives : (n : ℕ) (deeds : List Deed) (a c : Memory) (r : RathonsiRoute) → Sound n a → ((j : ℕ) → j < n → (a.routes j).cell ≢ r.cell) → Holds a.image a.plan r → Lives n deeds a c → Holds c.image c.plan r
ghost-lives n [] a c r s apart h lives = subst (λ (m : Memory). Holds m.image m.plan r) (sym lives) h
ghost-lives n (deed ∷ deeds) a c r s apart h (b, (d, rest)) =
    let m = moves n deed a b s d in
    ghost-lives n deeds b c r (sound-then n deed a b s m) (λ j x e. apart j x (sym (m.cells j x) ∙ e)) (stays n deed a b r apart h d) rest

-- it gives out nothing
none-given : (n k : ℕ) (deeds : List Deed) (a c : Memory) → n ≤ k → Lives n deeds a c → given_out k deeds ≡ []
none-given n k [] a c beyond lives = refl
none-given n k (sends j freshness ∷ deeds) a c beyond (b, (d, rest)) =
    ap (λ t. if t then freshness ∷ given_out k deeds else given_out k deeds) (ne_eqb j k (λ e. let w = d.changes.which in omega arith)) ∙ none-given n k deeds b c beyond rest
none-given n k (accepts j freshness ∷ deeds) a c beyond (b, (d, rest)) =
    ap (λ t. if t then freshness ∷ given_out k deeds else given_out k deeds) (ne_eqb j k (λ e. let w = d.changes.which in omega arith)) ∙ none-given n k deeds b c beyond rest
none-given n k (takes j counter ∷ deeds) a c beyond (b, (d, rest)) = none-given n k deeds b c beyond rest
none-given n k (rejoins j counter ∷ deeds) a c beyond (b, (d, rest)) = none-given n k deeds b c beyond rest
none-given n k (opens j ∷ deeds) a c beyond (b, (d, rest)) = none-given n k deeds b c beyond rest
none-given n k (sets j ∷ deeds) a c beyond (b, (d, rest)) = none-given n k deeds b c beyond rest
none-given n k (reserves j ∷ deeds) a c beyond (b, (d, rest)) = none-given n k deeds b c beyond rest
none-given n k (loads slot ∷ deeds) a c beyond (b, (d, rest)) = none-given n k deeds b c beyond rest
none-given n k (drops ∷ deeds) a c beyond (b, (d, rest)) = none-given n k deeds b c beyond rest
none-given n k (finishes ∷ deeds) a c beyond (b, (d, rest)) = none-given n k deeds b c beyond rest
none-given n k (powers_up ∷ deeds) a c beyond (b, (d, rest)) = none-given n k deeds b c beyond rest

-- ---- software comes up

-- a cell before which all count is one that the cells tell
pub told-cell : (x : List ℕ) (n i : ℕ) → SaysCells x n → ((j : ℕ) → j ≤ i → IsSome (cell_at x j)) → i < 1024 → twin_size (i + 1) ≤ length x → i < n
told-cell x n i says all few long = elim (cases_lt i n) [
  | inl below ↦ below
  | inr from ↦ absurd (false≢true (subst (λ (o : Option (List ℕ)). IsSome o) (says.counts.end (omega arith) (omega arith)) (all n from)))
]

-- whatever the power leaves is a whole store
abbrev pub StaysWhole : Memory → Type 0
StaysWhole a = (left : List ℕ) → LeavesPut a.plan a.image left → IsWhole left

module _ (table : Table) (n : ℕ) (a b : Memory) (room behind : List ℕ) (u : SoftwareComesUp table n a room b behind) where
  after : Follows (u.left ++ room) (b.image ++ behind)
  after = follows table u.steps (u.left ++ room) (b.image ++ behind) u.grew

  within : (j : ℕ) → j < u.count → cell_at (b.image ++ behind) j ≡ cell_at b.image j
  within j below = cell_within b.image behind j (let s = u.size in omega arith)

  pub up-whole : IsWhole b.image
  up-whole = record {
    count = u.count;
    size = record { least = u.told.least; most = u.told.most; is = u.size };
    head = head_within b.image behind (let s = u.size in omega arith) ∙ u.mended;
    cells = λ j below. subst (λ (o : Option (List ℕ)). IsSome o) (within j below) (u.told.says.counts.cells j below);
  }

  -- a cell of what the power left is one that is told
  pub up-cell : IsWhole u.left → (i : ℕ) → twin_size (i + 1) ≤ length u.left → i < u.count
  up-cell whole i long =
      let e = whole.size.is in
      let few = whole.size.most in
      told-cell (b.image ++ behind) u.count i u.told.says (λ j to. after.some j (subst (λ (o : Option (List ℕ)). IsSome o) (sym (cell_within u.left room j (omega arith))) (whole.cells j (omega arith))))
      (omega arith) (let l = after.long in omega (arith, length-append u.left room))

  -- so a bound that the power left is there
  pub up-bound : IsWhole u.left → (i id : ℕ) (d : Direction) (bound : ℕ) → ImageBound u.left i id d bound → ImageBound b.image i id d bound
  up-bound whole i id d bound h =
      let below = up-cell whole i h.room in
      record {
        room = (let s = u.size in omega arith);
        bytes = h.bytes;
        is = sym (within i below) ∙ after.same i h.bytes (cell_within u.left room i h.room ∙ h.is) (λ e. no_bound_is_zeros id d bound (sym h.holds.cell_is ∙ e));
        holds = h.holds;
      }

  -- and so is a slot
  pub up-slot : (place : ℕ) (slot : Slot) → place < 14 → ImageSlot u.left place slot → ImageSlot b.image place slot
  up-slot place slot few h =
      let l = u.told.least in
      let s = u.size in
      record {
        room = omega arith;
        bytes = h.bytes;
        is = sym (within place (omega arith)) ∙ (after.slots place few ∙ (cell_within u.left room place h.room ∙ h.is));
        holds = h.holds;
      }

  pub up-sound : CellsApart table → Sound n b
  up-sound apart = record {
    apart = λ j k x y ne e. apart j k ne (sym (opened_cell (table.route j) (b.routes j) b.image (u.opened j x)) ∙ (e ∙ opened_cell (table.route k) (b.routes k) b.image (u.opened k y)));
    holds = λ k x. let o = u.opened k x in holds_opened b.image b.plan o.filled (b.routes k) u.empty o.is_opened;
  }

-- ---- one route over all software

-- the image keeps a bound of the route that is at least this
pub record Keeps (low : ℕ) (route : RathonsiRoute) (a : Memory) : Type 0 where
  pub r : RathonsiRoute
  pub same : SameRoute route r
  pub holds : Holds a.image a.plan r
  pub least : low ≤ r.counter

-- or the route gave out nothing
abbrev pub Kept : ℕ → RathonsiRoute → Memory → Type 0
Kept low route a = (low ≡ 0) ⊎ Keeps low route a

same-back : (r s : RathonsiRoute) → SameRoute r s → SameRoute s r
same-back r s h = record { cell = sym h.cell; data_id = sym h.data_id; direction = sym h.direction }

module _ (table : Table) (apart : CellsApart table) (n : ℕ) (a b d : Memory) (room behind : List ℕ) (u : SoftwareComesUp table n a room b behind) (deeds : List Deed) (lives : Lives n deeds b d) where
  abbrev Route : ℕ → RathonsiRoute
  Route k = table.route k

  sound : Sound n b
  sound = up-sound table n a b room behind u apart

  -- as software comes up
  keeps-up : IsWhole u.left → (low k : ℕ) → Keeps low (Route k) a → Keeps low (Route k) b
  keeps-up whole low k h =
      let l = after-cut a.image a.plan h.r u.left u.cut h.holds in
      record {
        r = h.r;
        same = h.same;
        holds = record {
          direction = h.holds.direction;
          ranges = h.holds.ranges;
          bound = l.bound;
          kept = up-bound table n a b room behind u whole h.r.cell h.r.data_id h.holds.direction l.bound l.kept;
          below = (let c = h.holds.below in let m = l.least in omega arith);
          planned = inl u.empty;
        };
        least = h.least;
      }

  -- one of its routes
  counted : (k : ℕ) → k < n → Keeps (d.routes k).counter (Route k) d
  counted k x = record {
    r = d.routes k;
    same = same-both (Route k) (b.routes k) (d.routes k) (same-opened (Route k) b.image (b.routes k) (u.opened k x)) (same-lives n deeds b d k x lives);
    holds = (lives-sound n deeds b d sound lives).holds k x;
    least = omega arith;
  }

  -- it opened at its bound
  opened-above : (low k : ℕ) → k < n → Kept low (Route k) b → low ≤ (b.routes k).counter
  opened-above low k x kept = elim kept [
    | inl none ↦ omega arith
    | inr h ↦
        let o = u.opened k x in
        let filled : OpensFilled h.r b.image (b.routes k) = record { filled = o.filled; same = same-both h.r (Route k) o.filled (same-back (Route k) h.r h.same) o.same; is_opened = o.is_opened } in
        let later = (opened_anew b.image b.plan h.r (b.routes k) filled h.holds).later in
        let least = h.least in
        omega arith
  ]

  -- one that it doesn't have
  ghost : (low k : ℕ) → n ≤ k → Keeps low (Route k) b → Keeps low (Route k) d
  ghost low k beyond h = record {
    r = h.r;
    same = h.same;
    holds = ghost-lives n deeds b d h.r sound
        (λ j x e. apart j k (λ f. omega arith) (sym (opened_cell (Route j) (b.routes j) b.image (u.opened j x)) ∙ (e ∙ h.same.cell))) h.holds lives;
    least = h.least;
  }

  kept-up : IsWhole u.left → (low k : ℕ) → Kept low (Route k) a → Kept low (Route k) b
  kept-up whole low k kept = elim kept [ inl none ↦ inl none | inr h ↦ inr (keeps-up whole low k h) ]

  abbrev Goes : ℕ → ℕ → ℕ → Type 0
  Goes low k high = RisesTo low (given_out k deeds) high × Kept high (Route k) d

  -- what the software gives out rises
  goes : IsWhole u.left → (low k : ℕ) → NeverRejoins k deeds → Kept low (Route k) a → (high : ℕ) × Goes low k high
  goes whole low k never kept = elim (cases_lt k n) [
    | inl x ↦ (
      (d.routes k).counter,
      (
        rises_from low (b.routes k).counter (d.routes k).counter (given_out k deeds) (opened-above low k x (kept-up whole low k kept)) (rises n k deeds b d x never sound lives),
        inr (counted k x),
      ),
    )
    | inr beyond ↦ (
      low,
      (
        subst (λ (xs : List ℕ). RisesTo low xs low) (sym (none-given n k deeds b d beyond lives)) (omega arith),
        elim (kept-up whole low k kept) [ inl none ↦ inl none | inr h ↦ inr (ghost low k beyond h) ],
      ),
    )
  ]

  -- a route of which the image keeps a bound has one after it
  pub keeps-on : IsWhole u.left → (k : ℕ) → Keeps 0 (Route k) a → Keeps 0 (Route k) d
  keeps-on whole k h = elim (cases_lt k n) [
    | inl x ↦ (let c = counted k x in record { r = c.r; same = c.same; holds = c.holds; least = omega arith })
    | inr beyond ↦ ghost 0 k beyond (keeps-up whole 0 k h)
  ]

  pub counted-on : (k : ℕ) → k < n → Keeps 0 (Route k) d
  counted-on k x = let c = counted k x in record { r = c.r; same = c.same; holds = c.holds; least = omega arith }

  pub stays-whole : StaysWhole d
  stays-whole left cut = (whole_over n deeds b d u.empty (up-whole table n a b room behind u) lives left cut).1

-- what is given out by all software
pub record AllRise (low k : ℕ) (route : RathonsiRoute) (softwares : List Software) (c : Memory) : Type 0 where
  pub high : ℕ
  pub rises : RisesTo low (given_by_all k softwares) high
  pub kept : Kept high route c
  pub whole : StaysWhole c

pub all-rise : (table : Table) (apart : CellsApart table) (softwares : List Software) (k low : ℕ) (a c : Memory) (room end : List ℕ) → NoneRejoins k softwares → StaysWhole a → Kept low (table.route k) a → AllSoftware table softwares a room c end → AllRise low k (table.route k) softwares c
all-rise table apart [] k low a c room end never whole kept all = record {
  high = low;
  rises = omega arith;
  kept = subst (λ (m : Memory). Kept low (table.route k) m) (sym all.0) kept;
  whole = subst (λ (m : Memory). StaysWhole m) (sym all.0) whole;
}
all-rise table apart (s ∷ rest) k low a c room end never whole kept (b, (behind, (u, (d, (lives, more))))) =
    let g = goes table apart s.routes a b d room behind u s.deeds lives (whole u.left u.cut) low k never.0 kept in
    let r = all-rise table apart rest k g.0 d c behind end never.1 (stays-whole table apart s.routes a b d room behind u s.deeds lives) g.1.1 more in
    record {
      high = r.high;
      rises = rises_join low g.0 g.0 r.high (given_out k s.deeds) (given_by_all k rest) g.1.0 (omega arith) r.rises;
      kept = r.kept;
      whole = r.whole;
    }

pub rises_over_all : (table : Table) (softwares : List Software) (a c : Memory) (room end : List ℕ) → CellsApart table → IsEmptyPlan a.plan → IsWhole a.image → AllSoftware table softwares a room c end → (k : ℕ) → NoneRejoins k softwares
    → (high : ℕ) × RisesTo 0 (given_by_all k softwares) high
rises_over_all table softwares a c room end apart empty whole all k never =
    let r = all-rise table apart softwares k 0 a c room end never (λ left cut. (whole_over 0 [] a a empty whole refl left cut).1) (inl refl) all in
    (r.high, r.rises)

-- ---- keys

pub filled_on : (table : Table) (n slot : ℕ) (a b : Memory) (room behind : List ℕ) (u : SoftwareComesUp table n a room b behind) → slot < 14 → SlotFilled u.left slot → SlotFilled b.image slot
filled_on table n slot a b room behind u few f =
    record { key = f.key; counter = f.counter; flags = f.flags; held = up-slot table n a b room behind u slot _ few f.held }

pub confirmed_on : (table : Table) (n : ℕ) (a b : Memory) (room behind uid m1 : List ℕ) (reply : Reply) (u : SoftwareComesUp table n a room b behind) → ConfirmsSlot uid m1 u.left reply → ConfirmsSlot uid m1 b.image reply
confirmed_on table n a b room behind uid m1 reply u f =
    record { update = f.update; named = f.named; held = up-slot table n a b room behind u f.update.id _ f.named.is_head.id_fits f.held; confirms = f.confirms }
