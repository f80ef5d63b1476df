-- The latest deed of some places, and of one place more.
use Rattle.std.proofs.Common.{◌≡◌, ◌⊎◌, inl, inr, ℕ, zero, suc, ◌+◌, ◌*◌, ◌<◌, ◌≤◌, Bool, true, false, nat_lt, nat_eq, if◌then◌else◌, List, [], ◌∷◌, length, get_or, refl, sym, ap, subst, ◌∙◌, arith}
use Rattle.std.proofs.lemmas.Bool.{cases_lt, ltb-true, ltb-false, eqb-true, eqb-false}
use Rattle.std.proofs.lemmas.Option.{same_Some}
use Rattle.std.proofs.Math.Nat.{mul-le-mul_right}
use Rattle.seal_parts.specs.declared.SealLine.{SealLine}
use Rattle.seal_parts.specs.declared.LogDeed.{LogDeed}
use Rattle.seal_logs.specs.declared.PlaceRead.{PlaceRead}
use Rattle.seal_logs.specs.declared.LogSizes.{LogSizes}
use Rattle.seal_logs.specs.declared.finding.FoundDeed.{FoundDeed}
use Rattle.seal_logs.specs.declared.finding.Latest.{Latest}
use Rattle.seal_logs.specs.declared.finding.Latest.TheVariants.{NoDeed, One, Tie}
use Rattle.seal_logs.specs.Reads.{LogReads, reads_in, no_read, IsDeedPlace, ReadsDeed}
use Rattle.seal_logs.specs.Found.{LatestIn, LatestIs, IsSeen, LatestSeen, later_deed}

-- a place is read as one deed of one generation
pub one_generation : (p : PlaceRead) (g h : ℕ) (d e : LogDeed) → ReadsDeed p g d → ReadsDeed p h e → g ≡ h
one_generation p g h d e a b = ap (λ (z : SealLine). z.generation) (same_Some _ _ (sym a ∙ b))

-- ---- the index of a place

pub in_list : (banks places bank k count : ℕ) → bank < banks → k < places → count ≡ banks * places → bank * places + k < count
in_list banks places bank k count inside below is = (let h : suc bank * places ≤ banks * places = mul-le-mul_right places inside in omega (arith, h, below, is))

any_default : (ps : List PlaceRead) (i : ℕ) (d e : PlaceRead) → i < length ps → get_or ps i d ≡ get_or ps i e
any_default [] i d e below = absurd (omega arith)
any_default (p ∷ ps) zero d e below = refl
any_default (p ∷ ps) (suc i) d e below = any_default ps i d e (omega arith)

-- what was read at an index is what was read of the place
pub read_of : (s : LogSizes) (ps : List PlaceRead) (bank k : ℕ) (d : PlaceRead) → bank * s.places + k < length ps → get_or ps (bank * s.places + k) d ≡ reads_in s ps bank k
read_of s ps bank k d below = any_default ps (bank * s.places + k) d no_read below

-- ---- the same places under another name

pub same_places : (In Now : ℕ → ℕ → Type 0) (r : LogReads) → ((b k : ℕ) → In b k → Now b k) → ((b k : ℕ) → Now b k → In b k) → (best : Latest) → LatestIn In r best → LatestIn Now r best
same_places In Now r to of NoDeed h = λ b k g deed there reads. h b k g deed (of b k there) reads
same_places In Now r to of (One f) h = record {
  inside = to f.bank f.place h.inside;
  is = h.is;
  latest = λ b k g other there reads. h.latest b k g other (of b k there) reads;
}
same_places In Now r to of (Tie t) h = record {
  bank = h.bank;
  other = h.other;
  differ = h.differ;
  one = record { place = h.one.place; deed = h.one.deed; inside = to h.bank h.one.place h.one.inside; is = h.one.is };
  another = record { place = h.another.place; deed = h.another.deed; inside = to h.other h.another.place h.another.inside; is = h.another.is };
  most = λ b k g deed there reads. h.most b k g deed (of b k there) reads;
}

-- ---- one place more

module _ (In Now : ℕ → ℕ → Type 0) (r : LogReads) (bank place : ℕ) (grows : (b k : ℕ) → In b k → Now b k)
    (only : (b k : ℕ) → Now b k → In b k ⊎ ((b ≡ bank) × (k ≡ place))) where
  -- it is read as no deed
  module _ (none : (g : ℕ) (deed : LogDeed) → ReadsDeed (r bank place) g deed → ⊥) where
    not_here : (b k g : ℕ) (deed : LogDeed) → (b ≡ bank) × (k ≡ place) → ReadsDeed (r b k) g deed → ⊥
    not_here b k g deed here reads = none g deed (subst (λ z. ReadsDeed (r z place) g deed) here.0 (subst (λ z. ReadsDeed (r b z) g deed) here.1 reads))

    was_seen : (b k g : ℕ) (deed : LogDeed) → Now b k → ReadsDeed (r b k) g deed → In b k
    was_seen b k g deed there reads = elim (only b k there) [
      | inl old ↦ old
      | inr here ↦ absurd (not_here b k g deed here reads)
    ]

    pub latest_same : (best : Latest) → LatestIn In r best → LatestIn Now r best
    latest_same NoDeed h = λ b k g deed there reads. h b k g deed (was_seen b k g deed there reads) reads
    latest_same (One f) h = record {
      inside = grows f.bank f.place h.inside;
      is = h.is;
      latest = λ b k g other there reads. h.latest b k g other (was_seen b k g other there reads) reads;
    }
    latest_same (Tie t) h = record {
      bank = h.bank;
      other = h.other;
      differ = h.differ;
      one = record { place = h.one.place; deed = h.one.deed; inside = grows h.bank h.one.place h.one.inside; is = h.one.is };
      another = record { place = h.another.place; deed = h.another.deed; inside = grows h.other h.another.place h.another.inside; is = h.another.is };
      most = λ b k g deed there reads. h.most b k g deed (was_seen b k g deed there reads) reads;
    }

  -- it is read as this deed
  module _ (generation : ℕ) (deed : LogDeed) (is : ReadsDeed (r bank place) generation deed) (new : Now bank place) (behind : (k : ℕ) → In bank k → k ≤ place) where
    abbrev pub found : FoundDeed
    found = record { bank = bank; place = place; generation = generation; deed = deed }

    here_is : (b k g : ℕ) (other : LogDeed) → (b ≡ bank) × (k ≡ place) → ReadsDeed (r b k) g other → g ≡ generation
    here_is b k g other here reads = one_generation (r bank place) g generation other deed
        (subst (λ z. ReadsDeed (r z place) g other) here.0 (subst (λ z. ReadsDeed (r b z) g other) here.1 reads)) is

    -- it is the latest
    one_new : ((b k g : ℕ) (other : LogDeed) → In b k → ReadsDeed (r b k) g other → (g < generation) ⊎ ((g ≡ generation) × (b ≡ bank))) → LatestIn Now r (One found)
    one_new old_are = record {
      inside = new;
      is = is;
      latest = λ b k g other there reads. elim (only b k there) [
        | inl old ↦ elim (old_are b k g other old reads) [
          | inl less ↦ inl less
          | inr same ↦ inr (same.0, (same.1, behind k (subst (λ z. In z k) same.1 old)))
        ]
        | inr here ↦ inr (here_is b k g other here reads, (here.0, (let e = here.1 in omega (arith, e))))
      ];
    }

    of_one : (o : FoundDeed) → LatestIn In r (One o) → (less same home : Bool) → nat_lt o.generation generation ≡ less → nat_eq o.generation generation ≡ same → nat_eq o.bank bank ≡ home
        → LatestIn Now r (if less then One found else (if same then (if home then One found else Tie o.generation) else One o))
    of_one o h true same home less_is same_is home_is = one_new (λ b k g other old reads.
        let l = ltb-true o.generation generation less_is in
        elim (h.latest b k g other old reads) [
          | inl less ↦ inl (omega (arith, less, l))
          | inr e ↦ inl (let x = e.0 in omega (arith, x, l))
        ])
    of_one o h false true true less_is same_is home_is = one_new (λ b k g other old reads.
        let e = eqb-true o.generation generation same_is in
        let at_home = eqb-true o.bank bank home_is in
        elim (h.latest b k g other old reads) [
          | inl less ↦ inl (omega (arith, less, e))
          | inr x ↦ inr (x.0 ∙ e, x.1.0 ∙ at_home)
        ])
    of_one o h false true false less_is same_is home_is =
        let e = eqb-true o.generation generation same_is in
        record {
          bank = o.bank;
          other = bank;
          differ = eqb-false o.bank bank home_is;
          one = record { place = o.place; deed = o.deed; inside = grows o.bank o.place h.inside; is = h.is };
          another = record { place = place; deed = deed; inside = new; is = subst (λ z. ReadsDeed (r bank place) z deed) (sym e) is };
          most = λ b k g d there reads. elim (only b k there) [
            | inl old ↦ elim (h.latest b k g d old reads) [
              | inl less ↦ (omega (arith, less))
              | inr x ↦ (let y = x.0 in omega (arith, y))
            ]
            | inr here ↦ (let y = here_is b k g d here reads in omega (arith, y, e))
          ];
        }
    of_one o h false false home less_is same_is home_is =
        let l = ltb-false o.generation generation less_is in
        let ne = eqb-false o.generation generation same_is in
        record {
          inside = grows o.bank o.place h.inside;
          is = h.is;
          latest = λ b k g other there reads. elim (only b k there) [
            | inl old ↦ h.latest b k g other old reads
            | inr here ↦ inl (let y = here_is b k g other here reads in omega (arith, y, l, ne))
          ];
        }

    of_tie : (t : ℕ) → LatestIn In r (Tie t) → (less : Bool) → nat_lt t generation ≡ less → LatestIn Now r (if less then One found else Tie t)
    of_tie t h true less_is = one_new (λ b k g other old reads.
        let l = ltb-true t generation less_is in
        let m = h.most b k g other old reads in
        inl (omega (arith, m, l)))
    of_tie t h false less_is =
        let l = ltb-false t generation less_is in
        record {
          bank = h.bank;
          other = h.other;
          differ = h.differ;
          one = record { place = h.one.place; deed = h.one.deed; inside = grows h.bank h.one.place h.one.inside; is = h.one.is };
          another = record { place = h.another.place; deed = h.another.deed; inside = grows h.other h.another.place h.another.inside; is = h.another.is };
          most = λ b k g d there reads. elim (only b k there) [
            | inl old ↦ h.most b k g d old reads
            | inr here ↦ (let y = here_is b k g d here reads in omega (arith, y, l))
          ];
        }

    pub latest_more : (best : Latest) → LatestIn In r best → LatestIn Now r (later_deed best found)
    latest_more NoDeed h = one_new (λ b k g other old reads. absurd (h b k g other old reads))
    latest_more (One o) h = of_one o h (nat_lt o.generation generation) (nat_eq o.generation generation) (nat_eq o.bank bank) refl refl refl
    latest_more (Tie t) h = of_tie t h (nat_lt t generation) refl

-- ---- the places in their order

module _ (s : LogSizes) (r : LogReads) (bank place later : ℕ) (is : later ≡ suc place) (inside : bank < s.banks) (from : s.cells ≤ place) (below : place < s.places) where
  seen_grows : (b k : ℕ) → IsSeen s bank place b k → IsSeen s bank later b k
  seen_grows b k seen = (
    seen.0,
    elim seen.1 [
      | inl before ↦ inl before
      | inr here ↦ inr (here.0, (let h = here.1 in omega (arith, h, is)))
    ],
  )

  seen_only : (b k : ℕ) → IsSeen s bank later b k → IsSeen s bank place b k ⊎ ((b ≡ bank) × (k ≡ place))
  seen_only b k seen = elim seen.1 [
    | inl before ↦ inl (seen.0, inl before)
    | inr here ↦ elim (cases_lt k place) [
      | inl less ↦ inl (seen.0, inr (here.0, less))
      | inr more ↦ inr (here.0, (let h = here.1 in omega (arith, h, is, more)))
    ]
  ]

  pub seen_same : (best : Latest) → ((g : ℕ) (deed : LogDeed) → ReadsDeed (r bank place) g deed → ⊥) → LatestSeen s r bank place best → LatestSeen s r bank later best
  seen_same best none h = latest_same (IsSeen s bank place) (IsSeen s bank later) r bank place seen_grows seen_only none best h

  pub seen_more : (best : Latest) (generation : ℕ) (deed : LogDeed) → ReadsDeed (r bank place) generation deed → LatestSeen s r bank place best
      → LatestSeen s r bank later (later_deed best (record { bank = bank; place = place; generation = generation; deed = deed }))
  seen_more best generation deed reads h = latest_more (IsSeen s bank place) (IsSeen s bank later) r bank place seen_grows seen_only generation deed reads
      ((inside, (from, below)), inr (refl, omega (arith, is))) (λ k seen. elim seen.1 [
        | inl before ↦ absurd (omega (arith, before))
        | inr here ↦ (let x = here.1 in omega (arith, x))
      ]) best h

-- a bank begins and ends
pub seen_begins : (s : LogSizes) (r : LogReads) (bank first : ℕ) (best : Latest) → first ≡ s.cells → LatestSeen s r bank 0 best → LatestSeen s r bank first best
seen_begins s r bank first best is h = same_places (IsSeen s bank 0) (IsSeen s bank first) r
    (λ b k seen. (seen.0, elim seen.1 [ inl before ↦ inl before | inr here ↦ absurd (let x = here.1 in omega (arith, x)) ]))
    (λ b k seen. (seen.0, elim seen.1 [ inl before ↦ inl before | inr here ↦ absurd (let x = here.1 in let y = seen.0.1.0 in omega (arith, x, y, is)) ])) best h

pub seen_ends : (s : LogSizes) (r : LogReads) (bank last later : ℕ) (best : Latest) → s.places ≤ last → later ≡ suc bank → LatestSeen s r bank last best → LatestSeen s r later 0 best
seen_ends s r bank last later best far is h = same_places (IsSeen s bank last) (IsSeen s later 0) r
    (λ b k seen. (seen.0, elim seen.1 [ inl before ↦ inl (omega (arith, before, is)) | inr here ↦ inl (let x = here.0 in omega (arith, x, is)) ]))
    (λ b k seen. (
      seen.0,
      elim seen.1 [
        | inl before ↦ elim (cases_lt b bank) [
          | inl less ↦ inl less
          | inr more ↦ inr ((omega (arith, before, is, more)), (let y = seen.0.1.1 in omega (arith, y, far)))
        ]
        | inr here ↦ absurd (let x = here.1 in omega (arith, x))
      ],
    )) best h

pub seen_all : (s : LogSizes) (r : LogReads) (bank : ℕ) (best : Latest) → s.banks ≤ bank → LatestSeen s r bank 0 best → LatestIs s r best
seen_all s r bank best far h = same_places (IsSeen s bank 0) (IsDeedPlace s) r (λ b k seen. seen.0) (λ b k inside. (inside, inl (let x = inside.0 in omega (arith, x, far)))) best h

pub seen_none : (s : LogSizes) (r : LogReads) → LatestSeen s r 0 0 NoDeed
seen_none s r b k g deed seen reads = elim seen.1 [
  | inl before ↦ absurd (omega (arith, before))
  | inr here ↦ absurd (let x = here.1 in omega (arith, x))
]
