-- One more arrival: what it joins, and what then waits.
use Rattle.std.proofs.Common.{◌≡◌, ◌↔◌, ◌⊎◌, ℕ, ◌+◌, ◌<◌, ◌≤◌, List, [], ◌∷◌, ◌++◌, length, refl, sym, ap, ◌∙◌, subst, inl, inr, arith, ⊎_elim}
use Rattle.std.specs.Prelude.{Option, None, Some}
use Rattle.std.proofs.lemmas.Bool.{cases_lt}
use Rattle.std.proofs.lemmas.Option.{same_Some}
use Rattle.std.proofs.lemmas.List.{get_or_append_left, get_or_push, length_push}
use Rattle.pdu_collection.specs.Collection.{Place}
use Rattle.pdu_collection.specs.Joining.{Kind, authentic, cryptographic, other_kind, Arrival, link, arrival_at, partner_at, IsLatestOfKind, IsSingle, Joins, Joining}
use Rattle.pdu_collection.specs.Joined.{Waits}

-- ---- kinds

is_authentic : Kind → Type 0
is_authentic authentic = Unit {0}
is_authentic cryptographic = ⊥

other-differs : (kind : Kind) → other_kind kind ≡ kind → ⊥
unfolding is_authentic
other-differs authentic e = subst is_authentic (sym e) tt
other-differs cryptographic e = subst is_authentic e tt

is_none : Option ℕ → Type 0
is_none None = Unit {0}
is_none (Some j) = ⊥

None≢Some : (j : ℕ) → None ≡ Some j → ⊥
unfolding is_none
None≢Some j e = subst is_none e tt

pub kinds : (kind next : Kind) → (kind ≡ next) ⊎ (kind ≡ other_kind next)
kinds authentic authentic = inl refl
kinds authentic cryptographic = inr refl
kinds cryptographic authentic = inr refl
kinds cryptographic cryptographic = inl refl

-- ---- looking up in lists that are one longer

at_old : (xs : List Arrival) (x : Arrival) (i : ℕ) → i < length xs → arrival_at (xs ++ x ∷ []) i ≡ arrival_at xs i
at_old xs x i lt = get_or_append_left xs (x ∷ []) (record { kind = authentic; pdu = [] }) i lt

pub at_new : (xs : List Arrival) (x : Arrival) → arrival_at (xs ++ x ∷ []) (length xs) ≡ x
at_new xs x = get_or_push xs x (record { kind = authentic; pdu = [] }) (length xs) refl

partner_old : (ps : List (Option ℕ)) (p : Option ℕ) (i : ℕ) → i < length ps → partner_at (ps ++ p ∷ []) i ≡ partner_at ps i
partner_old ps p i lt = get_or_append_left ps (p ∷ []) None i lt

pub partner_new : (ps : List (Option ℕ)) (p : Option ℕ) (n : ℕ) → length ps ≡ n → partner_at (ps ++ p ∷ []) n ≡ p
partner_new ps p n e = get_or_push ps p None n e

-- ---- what an arrival joins is told by the arrivals up to it, and by the partners before it

pub Joins-same : (place : Place) (xs ys : List Arrival) (ps qs : List (Option ℕ)) (i j : ℕ)
    → ((k : ℕ) → k ≤ i → arrival_at xs k ≡ arrival_at ys k) → ((k : ℕ) → k < i → partner_at ps k ≡ partner_at qs k)
    → Joins place xs ps i j → Joins place ys qs i j
Joins-same place xs ys ps qs i j same same_p h =
    let here : arrival_at xs i ≡ arrival_at ys i = same i (omega arith) in
    let there : arrival_at xs j ≡ arrival_at ys j = same j (omega (arith, h.latest.earlier)) in
    record {
      latest = record {
        earlier = h.latest.earlier;
        kind_is = ap (λ (a : Arrival). a.kind) (sym there) ∙ h.latest.kind_is ∙ ap (λ (a : Arrival). other_kind a.kind) here;
        latest = λ k a b e. h.latest.latest k a b (ap (λ (x : Arrival). x.kind) (same k (omega (arith, b))) ∙ e ∙ ap (λ (x : Arrival). other_kind x.kind) (sym here));
      };
      same_link = ap (link place) (sym there) ∙ h.same_link ∙ ap (link place) here;
      single = record {
        joins_none = sym (same_p j h.latest.earlier) ∙ h.single.joins_none;
        joined_by_none = λ k a b e. h.single.joined_by_none k a b (same_p k b ∙ e);
      };
    }

-- at most one arrival is the latest of its kind
pub one_latest : (xs : List Arrival) (kind : Kind) (n i j : ℕ) → IsLatestOfKind xs kind n i → IsLatestOfKind xs kind n j → i ≡ j
one_latest xs kind n i j a b =
    ⊎_elim (λ (lt : i < j). absurd (a.latest j lt b.earlier b.kind_is))
    (λ (le : j ≤ i). ⊎_elim (λ (lt : j < i). absurd (b.latest i lt a.earlier a.kind_is)) (λ (ge : i ≤ j). omega (arith, le, ge)) (cases_lt j i))
    (cases_lt i j)

module _ (xs : List Arrival) (x : Arrival) (ps : List (Option ℕ)) (p : Option ℕ) (as_many : length ps ≡ length xs) where
  abbrev longer : List Arrival
  longer = xs ++ x ∷ []

  abbrev more : List (Option ℕ)
  more = ps ++ p ∷ []

  -- what was the latest, or single, before the new arrival, seen in the longer lists, and back
  latest_in : (kind : Kind) (j : ℕ) → IsLatestOfKind xs kind (length xs) j → IsLatestOfKind longer kind (length xs) j
  latest_in kind j h = record {
    earlier = h.earlier;
    kind_is = ap (λ (a : Arrival). a.kind) (at_old xs x j h.earlier) ∙ h.kind_is;
    latest = λ k a b e. h.latest k a b (ap (λ (a : Arrival). a.kind) (sym (at_old xs x k b)) ∙ e);
  }

  latest_out : (kind : Kind) (j : ℕ) → IsLatestOfKind longer kind (length xs) j → IsLatestOfKind xs kind (length xs) j
  latest_out kind j h = record {
    earlier = h.earlier;
    kind_is = ap (λ (a : Arrival). a.kind) (sym (at_old xs x j h.earlier)) ∙ h.kind_is;
    latest = λ k a b e. h.latest k a b (ap (λ (a : Arrival). a.kind) (at_old xs x k b) ∙ e);
  }

  single_in : (j : ℕ) → j < length xs → IsSingle ps (length xs) j → IsSingle more (length xs) j
  single_in j lt h = record {
    joins_none = partner_old ps p j (omega (arith, as_many, lt)) ∙ h.joins_none;
    joined_by_none = λ k a b e. h.joined_by_none k a b (sym (partner_old ps p k (omega (arith, as_many, b))) ∙ e);
  }

  single_out : (n j : ℕ) → length xs ≤ n → j < length xs → IsSingle more n j → IsSingle ps (length xs) j
  single_out n j le lt h = record {
    joins_none = sym (partner_old ps p j (omega (arith, as_many, lt))) ∙ h.joins_none;
    joined_by_none = λ k a b e. h.joined_by_none k a (omega (arith, b, le)) (partner_old ps p k (omega (arith, as_many, b)) ∙ e);
  }

  -- a joining goes on if the new arrival's partner is the one that it joins
  Joining-more : (place : Place) → Joining place xs ps
      → ((j : ℕ) → (p ≡ Some j) ↔ Joins place longer more (length xs) j) → Joining place longer more
  Joining-more place old new =
      let at_same : (i k : ℕ) → i < length xs → k ≤ i → arrival_at xs k ≡ arrival_at longer k = λ i k lt le. sym (at_old xs x k (omega (arith, lt, le))) in
      let partner_same : (i k : ℕ) → i < length xs → k < i → partner_at ps k ≡ partner_at more k = λ i k lt le. sym (partner_old ps p k (omega (arith, as_many, lt, le))) in
      let before : (i j : ℕ) → i < length xs → (partner_at more i ≡ Some j) ↔ Joins place longer more i j =
      λ i j lt. (
        λ e. Joins-same place xs longer ps more i j (λ k. at_same i k lt) (λ k. partner_same i k lt) ((old.each i j lt).0 (sym (partner_old ps p i (omega (arith, as_many, lt))) ∙ e)),
        λ h. partner_old ps p i (omega (arith, as_many, lt)) ∙ (old.each i j lt).1
            (Joins-same place longer xs more ps i j (λ k le. sym (at_same i k lt le)) (λ k b. sym (partner_same i k lt b)) h),
      ) in
      let last : (i j : ℕ) → i ≡ length xs → (partner_at more i ≡ Some j) ↔ Joins place longer more i j =
      λ i j e. subst (λ n. (partner_at more n ≡ Some j) ↔ Joins place longer more n j) (sym e)
      (λ f. (new j).0 (sym (partner_new ps p (length xs) as_many) ∙ f), λ h. partner_new ps p (length xs) as_many ∙ (new j).1 h) in
      record {
        as_many = length_push ps p ∙ ap (λ n. n + 1) as_many ∙ sym (length_push xs x);
        each = λ i j within. ⊎_elim (λ (lt : i < length xs). before i j lt)
            (λ (le : length xs ≤ i). last i j (omega (arith, le, within, length_push xs x))) (cases_lt i (length xs));
      }

  -- what the new arrival joins, in the longer lists
  joins_in : (place : Place) (j : ℕ) → IsLatestOfKind xs (other_kind x.kind) (length xs) j → IsSingle ps (length xs) j
      → link place (arrival_at xs j) ≡ link place x → Joins place longer more (length xs) j
  joins_in place j latest single same = record {
    latest = subst (λ (a : Arrival). IsLatestOfKind longer (other_kind a.kind) (length xs) j) (sym (at_new xs x)) (latest_in (other_kind x.kind) j latest);
    same_link = ap (link place) (at_old xs x j latest.earlier) ∙ same ∙ ap (link place) (sym (at_new xs x));
    single = single_in j latest.earlier single;
  }

  latest_of_joined : (place : Place) (j : ℕ) → Joins place longer more (length xs) j → IsLatestOfKind xs (other_kind x.kind) (length xs) j
  latest_of_joined place j h = latest_out (other_kind x.kind) j (subst (λ (a : Arrival). IsLatestOfKind longer (other_kind a.kind) (length xs) j) (at_new xs x) h.latest)

  link_of_joined : (place : Place) (j : ℕ) → Joins place longer more (length xs) j → link place (arrival_at xs j) ≡ link place x
  link_of_joined place j h =
      ap (link place) (sym (at_old xs x j h.latest.earlier)) ∙ h.same_link ∙ ap (link place) (at_new xs x)

  -- of the new arrival's kind the latest is the new one, and of the other kind it is the latest of before
  latest_is_new : (n j : ℕ) → n ≡ length xs + 1 → IsLatestOfKind longer x.kind n j → j ≡ length xs
  latest_is_new n j e h =
      ⊎_elim (λ (lt : j < length xs). absurd (h.latest (length xs) lt (omega (arith, e)) (ap (λ (a : Arrival). a.kind) (at_new xs x))))
      (λ (le : length xs ≤ j). omega (arith, le, h.earlier, e)) (cases_lt j (length xs))

  latest_is_old : (n j : ℕ) → n ≡ length xs + 1 → IsLatestOfKind longer (other_kind x.kind) n j → IsLatestOfKind xs (other_kind x.kind) (length xs) j
  latest_is_old n j e h =
      ⊎_elim (λ (lt : j < length xs). latest_out (other_kind x.kind) j
      (record { earlier = lt; kind_is = h.kind_is; latest = λ k a b. h.latest k a (omega (arith, b, e)) }))
      (λ (le : length xs ≤ j).
      let is : j ≡ length xs = omega (arith, le, h.earlier, e) in
      absurd (other-differs x.kind (sym h.kind_is ∙ ap (λ k. (arrival_at longer k).kind) is ∙ ap (λ (a : Arrival). a.kind) (at_new xs x))))
      (cases_lt j (length xs))

-- ---- the new arrival joins one

pub joins : (place : Place) (xs : List Arrival) (x : Arrival) (ps : List (Option ℕ)) (j : ℕ) → Joining place xs ps
    → IsLatestOfKind xs (other_kind x.kind) (length xs) j → IsSingle ps (length xs) j → link place (arrival_at xs j) ≡ link place x
    → Joining place (xs ++ x ∷ []) (ps ++ Some j ∷ []) × ((kind : Kind) → Waits (xs ++ x ∷ []) (ps ++ Some j ∷ []) kind None)
joins place xs x ps j old latest single same =
    let p : Option ℕ = Some j in
    let n : length (xs ++ x ∷ []) ≡ length xs + 1 = length_push xs x in
    let of_mine : (k : ℕ) → IsLatestOfKind (xs ++ x ∷ []) x.kind (length (xs ++ x ∷ [])) k → IsSingle (ps ++ p ∷ []) (length (xs ++ x ∷ [])) k → ⊥ =
    λ k h s.
    let here : k ≡ length xs = latest_is_new xs x ps p old.as_many _ k n h in
    None≢Some j (sym s.joins_none ∙ ap (partner_at (ps ++ p ∷ [])) here ∙ partner_new ps p (length xs) old.as_many) in
    let of_other : (k : ℕ) → IsLatestOfKind (xs ++ x ∷ []) (other_kind x.kind) (length (xs ++ x ∷ [])) k → IsSingle (ps ++ p ∷ []) (length (xs ++ x ∷ [])) k → ⊥ =
    λ k h s.
    let was : IsLatestOfKind xs (other_kind x.kind) (length xs) k = latest_is_old xs x ps p old.as_many _ k n h in
    let is : j ≡ k = one_latest xs (other_kind x.kind) (length xs) j k latest was in
    s.joined_by_none (length xs) was.earlier (omega (arith, n)) (partner_new ps p (length xs) old.as_many ∙ ap (λ i. Some i) is) in (
      Joining-more xs x ps p old.as_many place old (λ k. (
        λ e. subst (λ i. Joins place (xs ++ x ∷ []) (ps ++ p ∷ []) (length xs) i) (same_Some j k e) (joins_in xs x ps p old.as_many place j latest single same),
        λ h. ap (λ i. Some i) (one_latest xs (other_kind x.kind) (length xs) j k latest (latest_of_joined xs x ps p old.as_many place k h)),
      )),
      λ kind k. ⊎_elim
          (λ (e : kind ≡ x.kind). subst (λ a. IsLatestOfKind (xs ++ x ∷ []) a (length (xs ++ x ∷ [])) k → IsSingle (ps ++ p ∷ []) (length (xs ++ x ∷ [])) k → ⊥) (sym e) (of_mine k))
          (λ (e : kind ≡ other_kind x.kind). subst (λ a. IsLatestOfKind (xs ++ x ∷ []) a (length (xs ++ x ∷ [])) k → IsSingle (ps ++ p ∷ []) (length (xs ++ x ∷ [])) k → ⊥) (sym e) (of_other k))
          (kinds kind x.kind),
    )

-- ---- the new arrival joins none

module _ (place : Place) (xs : List Arrival) (x : Arrival) (ps : List (Option ℕ)) (old : Joining place xs ps) where
  pub joins_none : ((j : ℕ) → IsLatestOfKind xs (other_kind x.kind) (length xs) j → IsSingle ps (length xs) j → link place (arrival_at xs j) ≡ link place x → ⊥)
      → Joining place (xs ++ x ∷ []) (ps ++ None ∷ [])
  joins_none none = Joining-more xs x ps None old.as_many place old
      (λ j. (
        λ e. absurd (None≢Some j e),
        λ h. absurd (none j (latest_of_joined xs x ps None old.as_many place j h)
            (single_out xs x ps None old.as_many (length xs) j (omega arith) h.latest.earlier h.single) (link_of_joined xs x ps None old.as_many place j h)),
      ))

  pub waits_new : Waits (xs ++ x ∷ []) (ps ++ None ∷ []) x.kind (Some x.pdu)
  waits_new = (
    length xs,
    record {
      earlier = omega (arith, length_push xs x);
      kind_is = ap (λ (a : Arrival). a.kind) (at_new xs x);
      latest = λ k a b. absurd (omega (arith, a, b, length_push xs x));
    },
    record {
      joins_none = partner_new ps None (length xs) old.as_many;
      joined_by_none = λ k a b. absurd (omega (arith, a, b, length_push xs x));
    },
    ap (λ (a : Arrival). a.pdu) (sym (at_new xs x)),
  )

  pub waits_old : (waiting : Option (List ℕ)) → Waits xs ps (other_kind x.kind) waiting → Waits (xs ++ x ∷ []) (ps ++ None ∷ []) (other_kind x.kind) waiting
  waits_old None was = λ j h s.
      let before : IsLatestOfKind xs (other_kind x.kind) (length xs) j = latest_is_old xs x ps None old.as_many _ j (length_push xs x) h in
      was j before (single_out xs x ps None old.as_many _ j (omega (arith, length_push xs x)) before.earlier s)
  waits_old (Some pdu) (j, latest, single, is) =
      let n : length (xs ++ x ∷ []) ≡ length xs + 1 = length_push xs x in
      let inside = latest_in xs x ps None old.as_many (other_kind x.kind) j latest in
      let still = single_in xs x ps None old.as_many j latest.earlier single in (
        j,
        record {
          earlier = omega (arith, n, latest.earlier);
          kind_is = inside.kind_is;
          latest = λ k a b e. ⊎_elim (λ (lt : k < length xs). inside.latest k a lt e)
              (λ (le : length xs ≤ k).
              let here : k ≡ length xs = omega (arith, le, b, n) in
              other-differs x.kind (sym e ∙ ap (λ i. (arrival_at (xs ++ x ∷ []) i).kind) here ∙ ap (λ (a : Arrival). a.kind) (at_new xs x)))
              (cases_lt k (length xs));
        },
        record {
          joins_none = still.joins_none;
          joined_by_none = λ k a b e. ⊎_elim (λ (lt : k < length xs). still.joined_by_none k a lt e)
              (λ (le : length xs ≤ k).
              let here : k ≡ length xs = omega (arith, le, b, n) in
              None≢Some j (sym (partner_new ps None (length xs) old.as_many) ∙ ap (partner_at (ps ++ None ∷ [])) (sym here) ∙ e))
              (cases_lt k (length xs));
        },
        is ∙ ap (λ (a : Arrival). a.pdu) (sym (at_old xs x j latest.earlier)),
      )
