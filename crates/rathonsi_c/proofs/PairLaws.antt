-- A sender and its receiver over all their lives: what is accepted rises, though the receiver rejoins.
use Rattle.std.proofs.Common.{◌≡◌, ℕ, ◌<◌, ◌≤◌, inl, inr, true, false, ◌==◌, if◌then◌else◌, List, [], ◌∷◌, ◌++◌, Contains, refl, sym, ap, subst, ◌∙◌, arith}
use Rattle.std.proofs.lemmas.Bool.{cases_Bool, cases_eq, eq-eqb, ne_eqb, eqb-true, false≢true}
use Rattle.std.proofs.lemmas.List.Elements.{Contains-append_right, Contains-append_cases, Contains-push_cases}
use Rattle.rathonsi_c.specs.declared.opened.TheConstants.{FRESH, MOVED}
use Rattle.rathonsi_c.specs.declared.route.RathonsiRoute.{RathonsiRoute}
use Rattle.rathonsi_c.specs.declared.sync.RathonsiQuestion.{RathonsiQuestion}
use Rattle.rathonsi_c.specs.Routes.{IsOpened, at_counter}
use Rattle.rathonsi_c.specs.Lives.{Memory, Deed, sends, accepts, takes, rejoins, opens, sets, reserves, loads, drops, finishes, powers_up}
use Rattle.rathonsi_c.specs.Lives.{DoesDeed, ChangesRoute, PoweredUp, RisesTo, given_out, rejoins_it}
use Rattle.rathonsi_c.specs.Pairs.{Pair, PairDeed, of_sender, of_receiver, answers, DoesPair, PairLives, StaysOpen}
use Rattle.rathonsi_c.specs.Pairs.{Seen, IsHonest, AllGenuine, nothing_seen, seen_next, accepted_of_route, opens_it}
use Rattle.rathonsi_c.proofs.LivesLaws.{Sound, first_sound, sound_on, moves, rises, rises_from}

-- ---- lists that rise

-- the last of them, or what was before
abbrev last_or : ℕ → List ℕ → ℕ
last_or low [] = low
last_or low (x ∷ xs) = last_or x xs

last_below : (low high : ℕ) (xs : List ℕ) → RisesTo low xs high → last_or low xs ≤ high
last_below low high [] rise = rise
last_below low high (x ∷ xs) rise = last_below x high xs rise.1

rises_join : (low mid high : ℕ) (xs ys : List ℕ) → RisesTo low xs mid → RisesTo (last_or low xs) ys high → RisesTo low (xs ++ ys) high
rises_join low mid high [] ys first second = second
rises_join low mid high (x ∷ xs) ys first second = (first.0, rises_join x mid high xs ys first.1 second)

-- a number that is at most each of them
rises_least : (low high : ℕ) (xs : List ℕ) → RisesTo low xs high → low ≤ high
rises_least low high [] rise = rise
rises_least low high (x ∷ xs) rise = (let l = rise.0 in let r = rises_least x high xs rise.1 in omega arith)

first_of : (x y : ℕ) → Contains (x ∷ []) y → x ≡ y
first_of x y h = elim (Contains-push_cases [] x y h) [
  | inl none ↦ absurd (let lt = none.1 in omega arith)
  | inr is ↦ is
]

-- none of them is above the end
members_below : (low high : ℕ) (xs : List ℕ) → RisesTo low xs high → (y : ℕ) → Contains xs y → y ≤ high
members_below low high [] rise y h = absurd (let lt = h.1 in omega arith)
members_below low high (x ∷ xs) rise y h = elim (Contains-append_cases (x ∷ []) xs y h) [
  | inl here ↦ (let e = first_of x y here in let l = rises_least x high xs rise.1 in omega arith)
  | inr there ↦ members_below x high xs rise.1 y there
]

-- if none of them is above this number, nor what was before, the last isn't
last_most : (low top : ℕ) (xs : List ℕ) → low ≤ top → ((y : ℕ) → Contains xs y → y ≤ top) → last_or low xs ≤ top
last_most low top [] le each = le
last_most low top (x ∷ xs) le each = last_most x top xs (each x (0, omega arith, refl)) (λ y h. each y (Contains-append_right (x ∷ []) xs y h))

-- ---- one route

-- it is open, and no call moved its counter since
record IsFresh (r : RathonsiRoute) : Type 0 where
  opened : IsOpened r
  mark : r.opened ≡ FRESH

fresh_same : (r s : RathonsiRoute) → s ≡ r → IsFresh s → IsFresh r
fresh_same r s e h = subst (λ (t : RathonsiRoute). IsFresh t) e h

-- a route that a call moved isn't fresh
moved_not_fresh : (r s : RathonsiRoute) (counter : ℕ) → s ≡ at_counter r counter → IsFresh s → ⊥
moved_not_fresh r s counter e h = (let m : s.opened ≡ MOVED = ap (λ (t : RathonsiRoute). t.opened) e in let f = h.mark in omega arith)

-- a route that is fresh after a deed that doesn't open it was so before, and gave out nothing
record StillFresh (r : ℕ) (deed : Deed) (a : Memory) : Type 0 where
  fresh : IsFresh (a.routes r)
  none : given_out r (deed ∷ []) ≡ []

-- a deed gave out a freshness by route k
gave_elsewhere : (n k r freshness : ℕ) (a b : Memory) → ChangesRoute n k a b → b.routes k ≡ at_counter (a.routes k) freshness → IsFresh (b.routes r) → (IsFresh (a.routes r)) × ((k == r) ≡ false)
gave_elsewhere n k r freshness a b changes now fresh = elim (cases_eq k r) [
  | inl here ↦ absurd (moved_not_fresh (a.routes k) (b.routes k) freshness now (subst (λ i. IsFresh (b.routes i)) (sym here) fresh))
  | inr there ↦ (fresh_same (a.routes r) (b.routes r) (changes.others r (λ e. there (sym e))) fresh, ne_eqb k r there)
]

none_given : (k r freshness : ℕ) → (k == r) ≡ false → (if k == r then freshness ∷ [] else []) ≡ []
none_given k r freshness e = ap (λ t. if t then freshness ∷ [] else []) e

still_fresh : (n r : ℕ) (deed : Deed) (a b : Memory) → DoesDeed n deed a b → opens_it r deed ≡ false → IsFresh (b.routes r) → StillFresh r deed a
still_fresh n r (sends k freshness) a b d e fresh =
    let g = gave_elsewhere n k r freshness a b d.changes d.advances.now fresh in record { fresh = g.0; none = none_given k r freshness g.1 }
still_fresh n r (accepts k freshness) a b d e fresh =
    let g = gave_elsewhere n k r freshness a b d.changes d.advances.now fresh in record { fresh = g.0; none = none_given k r freshness g.1 }
still_fresh n r (takes k counter) a b d e fresh =
    let g = gave_elsewhere n k r counter a b d.1.changes d.1.advances.now fresh in record { fresh = g.0; none = refl }
still_fresh n r (rejoins k counter) a b d e fresh =
    let g = gave_elsewhere n k r counter a b d.changes d.rejoined.now fresh in record { fresh = g.0; none = refl }
still_fresh n r (opens k) a b d e fresh = record {
  fresh = fresh_same (a.routes r) (b.routes r) (d.changes.others r (λ same. false≢true (sym e ∙ eq-eqb k r (sym same)))) fresh;
  none = refl;
}
still_fresh n r (sets k) a b d e fresh = elim (cases_eq k r) [
  | inl here ↦
      let there : IsFresh (b.routes k) = subst (λ i. IsFresh (b.routes i)) (sym here) fresh in
      let was : IsFresh (a.routes k) = record { opened = d.opened there.opened; mark = sym (d.mark there.opened) ∙ there.mark } in
      record { fresh = subst (λ i. IsFresh (a.routes i)) here was; none = refl }
  | inr there ↦ record { fresh = fresh_same (a.routes r) (b.routes r) (d.changes.others r (λ same. there (sym same))) fresh; none = refl }
]
still_fresh n r (reserves k) a b d e fresh = record { fresh = fresh_same (a.routes r) (b.routes r) (d.routes r) fresh; none = refl }
still_fresh n r (loads slot) a b d e fresh = record { fresh = fresh_same (a.routes r) (b.routes r) (d.routes r) fresh; none = refl }
still_fresh n r drops a b d e fresh = record { fresh = fresh_same (a.routes r) (b.routes r) (d.routes r) fresh; none = refl }
still_fresh n r finishes a b d e fresh = record { fresh = fresh_same (a.routes r) (b.routes r) (d.routes r) fresh; none = refl }
still_fresh n r powers_up a b d e fresh = absurd (false≢true (sym e))

-- ---- one deed

-- what a deed does to the counter of a route that doesn't rejoin by it, and gives out by it
after_deed : (n r : ℕ) (deed : Deed) (a b : Memory) → r < n → rejoins_it r deed ≡ false → Sound n a → DoesDeed n deed a b → RisesTo (a.routes r).counter (given_out r (deed ∷ [])) (b.routes r).counter
after_deed n r deed a b x not s d = rises n r (deed ∷ []) a b x (not, tt) s (b, (d, refl))

not_lower : (n r : ℕ) (deed : Deed) (a b : Memory) → r < n → rejoins_it r deed ≡ false → Sound n a → DoesDeed n deed a b → (a.routes r).counter ≤ (b.routes r).counter
not_lower n r deed a b x not s d = (moves n deed a b s d).later r x not

-- the deed is a rejoin of this route, which tells this counter
of_route : (k r told : ℕ) → (k == r) ≡ true → rejoins k told ≡ rejoins r told
of_route k r told e = ap (λ i. rejoins i told) (eqb-true k r e)

rejoin_told : (r : ℕ) (deed : Deed) → rejoins_it r deed ≡ true → (told : ℕ) × (deed ≡ rejoins r told)
rejoin_told r (sends k freshness) is = absurd (false≢true is)
rejoin_told r (accepts k freshness) is = absurd (false≢true is)
rejoin_told r (takes k counter) is = absurd (false≢true is)
rejoin_told r (rejoins k counter) is = (counter, of_route k r counter is)
rejoin_told r (opens k) is = absurd (false≢true is)
rejoin_told r (sets k) is = absurd (false≢true is)
rejoin_told r (reserves k) is = absurd (false≢true is)
rejoin_told r (loads slot) is = absurd (false≢true is)
rejoin_told r drops is = absurd (false≢true is)
rejoin_told r finishes is = absurd (false≢true is)
rejoin_told r powers_up is = absurd (false≢true is)

-- ---- all lives

-- what holds of both: all that was sent is at most the sender's counter, and so is the last that was accepted; that one is
-- at most the receiver's counter, and at most what each answer told that was made since the route was opened, if it is fresh
record Holding (m n s r : ℕ) (seen : Seen) (low : ℕ) (a : Pair) : Type 0 where
  sender : Sound m a.sender
  receiver : Sound n a.receiver
  sent : (y : ℕ) → Contains seen.sent y → y ≤ (a.sender.routes s).counter
  low_sent : low ≤ (a.sender.routes s).counter
  floor : low ≤ (a.receiver.routes r).counter
  answered : IsFresh (a.receiver.routes r) → (q : RathonsiQuestion) (told : ℕ) → Contains seen.answered (q, told) → low ≤ told

sender_goes_on : (m n s r : ℕ) (seen : Seen) (low : ℕ) (deed : Deed) (a b : Pair) → s < m → rejoins_it s deed ≡ false → Holding m n s r seen low a → DoesPair m n s (of_sender deed) a b
    → Holding m n s r (seen_next s r (of_sender deed) seen) low b
sender_goes_on m n s r seen low deed a b x not h d =
    let up = not_lower m s deed a.sender b.sender x not h.sender d.0 in
    record {
      sender = sound_on m deed a.sender b.sender h.sender d.0;
      receiver = subst (λ (y : Memory). Sound n y) (sym d.1) h.receiver;
      sent = λ y at. elim (Contains-append_cases (given_out s (deed ∷ [])) seen.sent y at) [
        | inl now ↦ members_below (a.sender.routes s).counter (b.sender.routes s).counter (given_out s (deed ∷ [])) (after_deed m s deed a.sender b.sender x not h.sender d.0) y now
        | inr before ↦ (let l = h.sent y before in omega arith)
      ];
      low_sent = (let l = h.low_sent in omega arith);
      floor = subst (λ (y : Memory). low ≤ (y.routes r).counter) (sym d.1) h.floor;
      answered = λ fresh q told at. h.answered (subst (λ (y : Memory). IsFresh (y.routes r)) d.1 fresh) q told at;
    }

-- what the receiver accepted by a deed rises, and what holds goes on from there
record Accepting (m n s r : ℕ) (seen : Seen) (low : ℕ) (deed : Deed) (b : Pair) : Type 0 where
  top : ℕ
  rise : RisesTo low (given_out r (deed ∷ [])) top
  holding : Holding m n s r (seen_next s r (of_receiver deed) seen) (last_or low (given_out r (deed ∷ []))) b

receiver_goes_on : (m n s r : ℕ) (seen : Seen) (low : ℕ) (deed : Deed) (a b : Pair) → r < n → rejoins_it r deed ≡ false → Holding m n s r seen low a → DoesPair m n s (of_receiver deed) a b → IsHonest r deed seen → Accepting m n s r seen low deed b
receiver_goes_on m n s r seen low deed a b x not h d genuine =
    let rise = rises_from low (a.receiver.routes r).counter (b.receiver.routes r).counter (given_out r (deed ∷ [])) h.floor (after_deed n r deed a.receiver b.receiver x not h.receiver d.0) in
    record {
      top = (b.receiver.routes r).counter;
      rise = rise;
      holding = record {
        sender = subst (λ (y : Memory). Sound m y) (sym d.1) h.sender;
        receiver = sound_on n deed a.receiver b.receiver h.receiver d.0;
        sent = λ y at. subst (λ (z : Memory). y ≤ (z.routes s).counter) (sym d.1) (h.sent y at);
        low_sent = subst (λ (z : Memory). last_or low (given_out r (deed ∷ [])) ≤ (z.routes s).counter) (sym d.1)
            (last_most low (a.sender.routes s).counter (given_out r (deed ∷ [])) h.low_sent (λ y at. h.sent y (genuine.sent y at)));
        floor = last_below low (b.receiver.routes r).counter (given_out r (deed ∷ [])) rise;
        answered = λ fresh q told at. elim (cases_Bool (opens_it r deed)) [
          | inl opened ↦ absurd (let none = subst (λ t. Contains (if t then [] else seen.answered) (q, told)) opened at in let lt = none.1 in omega arith)
          | inr stays ↦
              let was = still_fresh n r deed a.receiver b.receiver d.0 stays fresh in
              let same : last_or low (given_out r (deed ∷ [])) ≡ low = ap (last_or low) was.none in
              let l = h.answered was.fresh q told (subst (λ t. Contains (if t then [] else seen.answered) (q, told)) stays at) in
              omega arith
        ];
      };
    }

answer_goes_on : (m n s r : ℕ) (seen : Seen) (low : ℕ) (q : RathonsiQuestion) (told : ℕ) (a b : Pair) → Holding m n s r seen low a → DoesPair m n s (answers q told) a b → Holding m n s r (seen_next s r (answers q told) seen) low b
answer_goes_on m n s r seen low q told a b h d = subst (λ (y : Pair). Holding m n s r (seen_next s r (answers q told) seen) low y) (sym d.same) (record {
  sender = h.sender;
  receiver = h.receiver;
  sent = h.sent;
  low_sent = h.low_sent;
  floor = h.floor;
  answered = λ fresh p other at. elim (Contains-append_cases ((q, told) ∷ []) seen.answered (p, other) at) [
    | inl now ↦ elim (Contains-push_cases [] (q, told) (p, other) now) [
      | inl none ↦ absurd (let lt = none.1 in omega arith)
      | inr is ↦ (let e : told ≡ other = ap (λ (y : RathonsiQuestion × ℕ). y.1) is in let t = d.told_is in let l = h.low_sent in omega arith)
    ]
    | inr before ↦ h.answered fresh p other before
  ];
})

-- the receiver rejoins by an answer that was made since the route was opened
rejoin_goes_on : (m n s r : ℕ) (seen : Seen) (low told : ℕ) (a b : Pair) → r < n → Holding m n s r seen low a → DoesPair m n s (of_receiver (rejoins r told)) a b → IsHonest r (rejoins r told) seen → Accepting m n s r seen low (rejoins r told) b
rejoin_goes_on m n s r seen low told a b x h d genuine =
    let counter : (b.receiver.routes r).counter ≡ told = ap (λ (t : RathonsiRoute). t.counter) d.0.rejoined.now in
    record {
      top = low;
      rise = omega arith;
      holding = record {
        sender = subst (λ (y : Memory). Sound m y) (sym d.1) h.sender;
        receiver = sound_on n (rejoins r told) a.receiver b.receiver h.receiver d.0;
        sent = λ y at. subst (λ (z : Memory). y ≤ (z.routes s).counter) (sym d.1) (h.sent y at);
        low_sent = subst (λ (z : Memory). low ≤ (z.routes s).counter) (sym d.1) h.low_sent;
        floor = elim d.0.rejoined.may [
          | inl above ↦ (let l = h.floor in omega arith)
          | inr fresh ↦
              let by = genuine.answered told refl in
              let l = h.answered (record { opened = d.0.rejoined.opened; mark = fresh }) by.0 told by.1 in
              omega arith
        ];
        answered = λ fresh. absurd (moved_not_fresh (a.receiver.routes r) (b.receiver.routes r) told d.0.rejoined.now fresh);
      };
    }

accepting : (m n s r : ℕ) (seen : Seen) (low : ℕ) (deed : Deed) (a b : Pair) → r < n → Holding m n s r seen low a → DoesPair m n s (of_receiver deed) a b → IsHonest r deed seen → Accepting m n s r seen low deed b
accepting m n s r seen low deed a b x h d genuine = elim (cases_Bool (rejoins_it r deed)) [
  | inl is ↦
      let by = rejoin_told r deed is in
      subst (λ (q : Deed). DoesPair m n s (of_receiver q) a b → IsHonest r q seen → Accepting m n s r seen low q b) (sym by.1) (rejoin_goes_on m n s r seen low by.0 a b x h) d genuine
  | inr not ↦ receiver_goes_on m n s r seen low deed a b x not h d genuine
]

rises_on : (m n s r : ℕ) (deeds : List PairDeed) (seen : Seen) (low : ℕ) (a c : Pair) → s < m → r < n → Holding m n s r seen low a → PairLives m n s deeds a c → AllGenuine s r seen deeds
    → RisesTo low (accepted_of_route r deeds) (c.sender.routes s).counter
rises_on m n s r [] seen low a c x y h lives genuine = subst (λ (z : Pair). low ≤ (z.sender.routes s).counter) (sym lives) h.low_sent
rises_on m n s r (of_sender deed ∷ deeds) seen low a c x y h (b, (d, rest)) genuine =
    rises_on m n s r deeds (seen_next s r (of_sender deed) seen) low b c x y (sender_goes_on m n s r seen low deed a b x genuine.0 h d) rest genuine.1
rises_on m n s r (of_receiver deed ∷ deeds) seen low a c x y h (b, (d, rest)) genuine =
    let more = accepting m n s r seen low deed a b y h d genuine.0 in
    rises_join low more.top (c.sender.routes s).counter (given_out r (deed ∷ [])) (accepted_of_route r deeds) more.rise
    (rises_on m n s r deeds (seen_next s r (of_receiver deed) seen) (last_or low (given_out r (deed ∷ []))) b c x y more.holding rest genuine.1)
rises_on m n s r (answers q told ∷ deeds) seen low a c x y h (b, (d, rest)) genuine =
    rises_on m n s r deeds (seen_next s r (answers q told) seen) low b c x y (answer_goes_on m n s r seen low q told a b h d) rest genuine.1

pub rises_over_pairs : (m n s r : ℕ) (deeds : List PairDeed) (first last : Pair) → PoweredUp m first.sender → PoweredUp n first.receiver → s < m → r < n → PairLives m n s deeds first last
    → AllGenuine s r nothing_seen deeds → RisesTo 0 (accepted_of_route r deeds) (last.sender.routes s).counter
rises_over_pairs m n s r deeds first last powered up x y lives genuine = rises_on m n s r deeds nothing_seen 0 first last x y (record {
  sender = first_sound m first.sender powered;
  receiver = first_sound n first.receiver up;
  sent = λ y at. absurd (let lt = at.1 in omega arith);
  low_sent = omega arith;
  floor = omega arith;
  answered = λ fresh q told at. omega arith;
}) lives genuine

-- ---- one life

-- without all that: a route that is fresh accepted nothing since it was opened
record Staying (n r low : ℕ) (a : Memory) : Type 0 where
  sound : Sound n a
  floor : low ≤ (a.routes r).counter
  none : IsFresh (a.routes r) → low ≡ 0

-- what the receiver accepts by a deed rises, and a route that is fresh accepted nothing
record StaysOn (n r low : ℕ) (deed : Deed) (b : Memory) : Type 0 where
  top : ℕ
  rise : RisesTo low (given_out r (deed ∷ [])) top
  staying : Staying n r (last_or low (given_out r (deed ∷ []))) b

stays_rejoined : (n r low told : ℕ) (a b : Memory) → Staying n r low a → DoesDeed n (rejoins r told) a b → StaysOn n r low (rejoins r told) b
stays_rejoined n r low told a b h d =
    let counter : (b.routes r).counter ≡ told = ap (λ (t : RathonsiRoute). t.counter) d.rejoined.now in
    record {
      top = low;
      rise = omega arith;
      staying = record {
        sound = sound_on n (rejoins r told) a b h.sound d;
        floor = elim d.rejoined.may [
          | inl above ↦ (let l = h.floor in omega arith)
          | inr fresh ↦ (let l = h.none (record { opened = d.rejoined.opened; mark = fresh }) in omega arith)
        ];
        none = λ fresh. absurd (moved_not_fresh (a.routes r) (b.routes r) told d.rejoined.now fresh);
      };
    }

stays_deed : (n r low : ℕ) (deed : Deed) (a b : Memory) → r < n → Staying n r low a → DoesDeed n deed a b → opens_it r deed ≡ false → StaysOn n r low deed b
stays_deed n r low deed a b x h d stays = elim (cases_Bool (rejoins_it r deed)) [
  | inl is ↦
      let by = rejoin_told r deed is in
      subst (λ (q : Deed). DoesDeed n q a b → StaysOn n r low q b) (sym by.1) (stays_rejoined n r low by.0 a b h) d
  | inr not ↦
      let rise = rises_from low (a.routes r).counter (b.routes r).counter (given_out r (deed ∷ [])) h.floor (after_deed n r deed a b x not h.sound d) in
      record {
        top = (b.routes r).counter;
        rise = rise;
        staying = record {
          sound = sound_on n deed a b h.sound d;
          floor = last_below low (b.routes r).counter (given_out r (deed ∷ [])) rise;
          none = λ fresh. let was = still_fresh n r deed a b d stays fresh in ap (last_or low) was.none ∙ h.none was.fresh;
        };
      }
]

stays_on : (m n s r low : ℕ) (deeds : List PairDeed) (a c : Pair) → r < n → Staying n r low a.receiver → PairLives m n s deeds a c → StaysOpen r deeds → RisesTo low (accepted_of_route r deeds) (c.receiver.routes r).counter
stays_on m n s r low [] a c y h lives stays = subst (λ (z : Pair). low ≤ (z.receiver.routes r).counter) (sym lives) h.floor
stays_on m n s r low (of_sender deed ∷ deeds) a c y h (b, (d, rest)) stays =
    stays_on m n s r low deeds b c y (subst (λ (z : Memory). Staying n r low z) (sym d.1) h) rest stays
stays_on m n s r low (of_receiver deed ∷ deeds) a c y h (b, (d, rest)) stays =
    let more = stays_deed n r low deed a.receiver b.receiver y h d.0 stays.0 in
    rises_join low more.top (c.receiver.routes r).counter (given_out r (deed ∷ [])) (accepted_of_route r deeds) more.rise
    (stays_on m n s r (last_or low (given_out r (deed ∷ []))) deeds b c y more.staying rest stays.1)
stays_on m n s r low (answers q told ∷ deeds) a c y h (b, (d, rest)) stays =
    stays_on m n s r low deeds b c y (subst (λ (z : Pair). Staying n r low z.receiver) (sym d.same) h) rest stays

-- the receiver's routes stay sound
receiver_sound : (m n s : ℕ) (deeds : List PairDeed) (a c : Pair) → Sound n a.receiver → PairLives m n s deeds a c → Sound n c.receiver
receiver_sound m n s [] a c h lives = subst (λ (z : Pair). Sound n z.receiver) (sym lives) h
receiver_sound m n s (of_sender deed ∷ deeds) a c h (b, (d, rest)) = receiver_sound m n s deeds b c (subst (λ (z : Memory). Sound n z) (sym d.1) h) rest
receiver_sound m n s (of_receiver deed ∷ deeds) a c h (b, (d, rest)) = receiver_sound m n s deeds b c (sound_on n deed a.receiver b.receiver h d.0) rest
receiver_sound m n s (answers q told ∷ deeds) a c h (b, (d, rest)) = receiver_sound m n s deeds b c (subst (λ (z : Pair). Sound n z.receiver) (sym d.same) h) rest

pub rises_in_one_life : (m n s r : ℕ) (before deeds : List PairDeed) (first mid last : Pair) → PoweredUp n first.receiver → r < n → PairLives m n s before first mid → PairLives m n s deeds mid last → StaysOpen r deeds
    → RisesTo 0 (accepted_of_route r deeds) (last.receiver.routes r).counter
rises_in_one_life m n s r before deeds first mid last up y lived lives stays = stays_on m n s r 0 deeds mid last y (record {
  sound = receiver_sound m n s before first mid (first_sound n first.receiver up) lived;
  floor = omega arith;
  none = λ fresh. refl;
}) lives stays
