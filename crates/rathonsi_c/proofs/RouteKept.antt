-- Which route it is stays over all deeds, and a route that sends never rejoins.
use Rattle.std.proofs.Common.{◌≡◌, ℕ, ◌<◌, ◌==◌, inl, inr, false, List, [], ◌∷◌, refl, sym, ap, subst, ◌∙◌, arith}
use Rattle.std.proofs.lemmas.Bool.{cases_eq, ne_eqb}
use Rattle.freshness_routes.specs.declared.routes.Direction.{Direction}
use Rattle.freshness_routes.specs.declared.routes.Direction.TheVariants.{Sends, Receives}
use Rattle.freshness_store.specs.Bound.{direction_number}
use Rattle.rathonsi_c.specs.declared.route.RathonsiRoute.{RathonsiRoute}
use Rattle.rathonsi_c.specs.Routes.{at_counter}
use Rattle.rathonsi_c.specs.Lives.{Memory, Deed, sends, accepts, takes, rejoins, opens, sets, reserves, loads, drops, finishes, powers_up, SameRoute, OpensFilled, ChangesRoute, GivesOut, DoesDeed, Lives, rejoins_it, NeverRejoins}

pub same-refl : (r : RathonsiRoute) → SameRoute r r
same-refl r = record { cell = refl; data_id = refl; direction = refl }

pub same-is : (r s : RathonsiRoute) → s ≡ r → SameRoute r s
same-is r s e = subst (λ (t : RathonsiRoute). SameRoute r t) (sym e) (same-refl r)

pub same-both : (r s t : RathonsiRoute) → SameRoute r s → SameRoute s t → SameRoute r t
same-both r s t a b = record { cell = b.cell ∙ a.cell; data_id = b.data_id ∙ a.data_id; direction = b.direction ∙ a.direction }

pub same-opened : (r : RathonsiRoute) (image : List ℕ) (s : RathonsiRoute) → OpensFilled r image s → SameRoute r s
same-opened r image s o =
    subst (λ (t : RathonsiRoute). SameRoute r t) (sym o.is_opened.now)
    (record { cell = o.same.cell; data_id = o.same.data_id; direction = o.same.direction })

pub same-changed : (n j : ℕ) (a b : Memory) → ChangesRoute n j a b → SameRoute (a.routes j) (b.routes j) → (k : ℕ) → SameRoute (a.routes k) (b.routes k)
same-changed n j a b g same k = elim (cases_eq k j) [
  | inl here ↦ subst (λ i. SameRoute (a.routes i) (b.routes i)) (sym here) same
  | inr there ↦ same-is (a.routes k) (b.routes k) (g.others k there)
]

same-counted : (r s : RathonsiRoute) (counter : ℕ) → s ≡ at_counter r counter → SameRoute r s
same-counted r s counter now = subst (λ (t : RathonsiRoute). SameRoute r t) (sym now) (record { cell = refl; data_id = refl; direction = refl })

pub same-given : (d : Direction) (n j freshness : ℕ) (a b : Memory) → GivesOut d n j freshness a b → (k : ℕ) → SameRoute (a.routes k) (b.routes k)
same-given d n j freshness a b g = same-changed n j a b g.changes (same-counted (a.routes j) (b.routes j) freshness g.advances.now)

pub same-deed : (n : ℕ) (deed : Deed) (a b : Memory) (k : ℕ) → k < n → DoesDeed n deed a b → SameRoute (a.routes k) (b.routes k)
same-deed n (sends j freshness) a b k x d = same-given _ n j freshness a b d k
same-deed n (accepts j freshness) a b k x d = same-given _ n j freshness a b d k
same-deed n (takes j counter) a b k x d = same-given d.0 n j counter a b d.1 k
same-deed n (rejoins j counter) a b k x d = same-changed n j a b d.changes (same-counted (a.routes j) (b.routes j) counter d.rejoined.now) k
same-deed n (opens j) a b k x d = same-changed n j a b d.changes (same-opened (a.routes j) a.image (b.routes j) d.opened) k
same-deed n (sets j) a b k x d = same-changed n j a b d.changes d.same k
same-deed n (reserves j) a b k x d = same-is (a.routes k) (b.routes k) (d.routes k)
same-deed n (loads slot) a b k x d = same-is (a.routes k) (b.routes k) (d.routes k)
same-deed n drops a b k x d = same-is (a.routes k) (b.routes k) (d.routes k)
same-deed n finishes a b k x d = same-is (a.routes k) (b.routes k) (d.routes k)
same-deed n powers_up a b k x d = same-opened (a.routes k) b.image (b.routes k) (d.opened k x)

pub same-lives : (n : ℕ) (deeds : List Deed) (a c : Memory) (k : ℕ) → k < n → Lives n deeds a c → SameRoute (a.routes k) (c.routes k)
same-lives n [] a c k x lives = same-is (a.routes k) (c.routes k) (ap (λ (m : Memory). m.routes k) lives)
same-lives n (deed ∷ deeds) a c k x (b, (d, rest)) = same-both (a.routes k) (b.routes k) (c.routes k) (same-deed n deed a b k x d) (same-lives n deeds b c k x rest)

-- ---- a route that sends

not_receives : (n j k counter : ℕ) (a b : Memory) → (a.routes k).direction ≡ direction_number Sends → DoesDeed n (rejoins j counter) a b → (j == k) ≡ false
not_receives n j k counter a b is d = elim (cases_eq j k) [
  | inl here ↦
      let way : direction_number Receives ≡ direction_number Sends = sym d.rejoined.ranges.direction_is ∙ (ap (λ i. (a.routes i).direction) here ∙ is) in
      absurd (omega arith)
  | inr there ↦ ne_eqb j k there
]

never_does : (n : ℕ) (deed : Deed) (a b : Memory) (k : ℕ) → (a.routes k).direction ≡ direction_number Sends → DoesDeed n deed a b → rejoins_it k deed ≡ false
never_does n (sends j freshness) a b k is d = refl
never_does n (accepts j freshness) a b k is d = refl
never_does n (takes j counter) a b k is d = refl
never_does n (rejoins j counter) a b k is d = not_receives n j k counter a b is d
never_does n (opens j) a b k is d = refl
never_does n (sets j) a b k is d = refl
never_does n (reserves j) a b k is d = refl
never_does n (loads slot) a b k is d = refl
never_does n drops a b k is d = refl
never_does n finishes a b k is d = refl
never_does n powers_up a b k is d = refl

pub senders_never : (n k : ℕ) (deeds : List Deed) (a c : Memory) → k < n → (a.routes k).direction ≡ direction_number Sends → Lives n deeds a c → NeverRejoins k deeds
senders_never n k [] a c x is lives = tt
senders_never n k (deed ∷ deeds) a c x is (b, (d, rest)) =
    (never_does n deed a b k is d, senders_never n k deeds b c x ((same-deed n deed a b k x d).direction ∙ is) rest)
