-- One bank more was read.
use Rattle.std.proofs.Common.{◌≡◌, ◌≢◌, inl, inr, ◌<◌, ◌≤◌, ℕ, suc, Bool, true, false, nat_lt, nat_eq, if◌then◌else◌, Option, Some, None, List, get_or, refl, sym, ap, subst, ◌∙◌, arith}
use Rattle.std.proofs.lemmas.Bool.{cases_eq, ltb-true, ltb-false, eqb-true, eqb-false}
use Rattle.std.proofs.lemmas.Bool.Decides.{eqb_tells}
use Rattle.std.proofs.Math.Dec.{eqb}
use Rattle.flash_places.specs.declared.FlashLine.{FlashLine}
use Rattle.flash_places.specs.declared.FlashLine.TheVariants.{Head}
use Rattle.flash_places.specs.Places.{FlashPlace, Flash, SameBank, SameOthers, Looks, LooksAll, sees, sees_nothing, whole_place}
use Rattle.std.proofs.lemmas.Option.{same_Some}
use Rattle.flash_laws.specs.Logs.{CellList, IsLog}
use Rattle.flash_laws.specs.Lives.{FlashLayout, ScanFinds, Scans, off, found, scans, cuts_scan}
use Rattle.flash_log.specs.declared.reading.LogEnd.{LogEnd}
use Rattle.flash_log.specs.declared.scanning.FoundLog.{FoundLog}
use Rattle.flash_log.specs.declared.scanning.Best.{Best}
use Rattle.flash_log.specs.declared.scanning.Best.TheVariants.{NoLog, One, Tie}
use Rattle.flash_log.specs.Going.{machine, Goes, BlankFrom}
use Rattle.flash_log.specs.Taking.{ReadsLog, ReadsBankPart}
use Rattle.flash_log.specs.Scanned.{HaveNone, HaveOne, HaveTwo, BestIs, ScannedTo, NoLogCounts, FreeBest, ToldBest, found_at, judged, is_newest, is_past}
use Rattle.flash_log.proofs.GoingLaws.{goes_one}
use Rattle.flash_log.proofs.TakingLaws.{answer_of, unlooked}

-- a log of this generation changes nothing of the best
abbrev pub IsPast : Best → ℕ → Type 0
IsPast NoLog generation = ⊥
IsPast (One log) generation = generation < log.generation
IsPast (Tie tie) generation = generation ≤ tie

past_of_one : (log : FoundLog) (generation : ℕ) (b : Bool) → nat_lt generation log.generation ≡ b → b ≡ true → IsPast (One log) generation
past_of_one log generation true is e = ltb-true generation log.generation is
past_of_one log generation false is e = absurd (cc)

past_of_tie : (tie generation : ℕ) (b : Bool) → nat_lt generation tie ≡ b → b ≡ true → IsPast (Tie tie) generation
past_of_tie tie generation true is e = (let l = ltb-true generation tie is in omega (arith, l))
past_of_tie tie generation false is e = absurd (cc)

pub past_of : (best : Best) (generation : ℕ) → is_past best generation ≡ true → IsPast best generation
past_of NoLog generation e = absurd (cc)
past_of (One log) generation e = past_of_one log generation (nat_lt generation log.generation) refl e
past_of (Tie tie) generation e = past_of_tie tie generation (nat_lt generation tie) refl e

-- the readings of all banks, with that of one bank instead
abbrev pub read_with : (ℕ → ℕ → Option FlashLine) → ℕ → (ℕ → Option FlashLine) → ℕ → ℕ → Option FlashLine
read_with old i r x = if eqb x i then r else old x

with_here : (old : ℕ → ℕ → Option FlashLine) (i : ℕ) (r : ℕ → Option FlashLine) → read_with old i r i ≡ r
with_here old i r = elim (eqb_tells i i) [
  | inl same ↦ ap (λ (b : Bool). if b then r else old i) same.0
  | inr other ↦ absurd (other.1 refl)
]

with_other : (old : ℕ → ℕ → Option FlashLine) (i : ℕ) (r : ℕ → Option FlashLine) (x : ℕ) → x ≢ i → read_with old i r x ≡ old x
with_other old i r x ne = elim (eqb_tells x i) [
  | inl same ↦ absurd (ne same.1)
  | inr other ↦ ap (λ (b : Bool). if b then r else old x) other.0
]

pub looks_with : (f m g : Flash) (old : ℕ → ℕ → Option FlashLine) (i : ℕ) (r : ℕ → Option FlashLine) → LooksAll f old m → SameBank i f m
    → ((k : ℕ) → Looks (m i k) (r k) (g i k)) → SameOthers i m g → LooksAll f (read_with old i r) g
looks_with f m g old i r before same here others x k = elim (cases_eq x i) [
  | inl is ↦ subst (λ z. Looks (f z k) (read_with old i r z k) (g z k)) (sym is)
      (subst (λ (s : ℕ → Option FlashLine). Looks (f i k) (s k) (g i k)) (sym (with_here old i r))
      (subst (λ (p : FlashPlace). Looks p (r k) (g i k)) (same k) (here k)))
  | inr ne ↦ subst (λ (s : ℕ → Option FlashLine). Looks (f x k) (s k) (g x k)) (sym (with_other old i r x ne))
      (subst (λ (q : FlashPlace). Looks (f x k) (old x k) q) (sym (others x ne k)) (before x k))
]

-- a place that was read as two heads has one
seen : (p q : FlashPlace) (line : FlashLine) → Looks p (Some line) q → q ≡ whole_place line
seen p q line looks = elim looks [
  | sees other held said now ↦ (let e : line ≡ other = same_Some _ _ said in now ∙ ap whole_place (sym e))
  | sees_nothing ends said now ↦ absurd (cc)
]

one_head : (p p' q : FlashPlace) (g h : ℕ) → Looks p (Some (Head g)) q → Looks p' (Some (Head h)) q → g ≡ h
one_head p p' q g h a b = let e : whole_place (Head g) ≡ whole_place (Head h) = sym (seen p q (Head g) a) ∙ seen p' q (Head h) b in
    let f : Some (Head g) ≡ Some (Head h) = ap (λ (z : FlashPlace). z.content) e in cc

-- a bank is read as the log of one generation
pub one_generation : (n : ℕ) (read : ℕ → Option FlashLine) (g h : ℕ) (a b : CellList) (p q : ℕ) → IsLog n read g a p → IsLog n read h b q → g ≡ h
one_generation n read g h a b p q l m = let e : Some (Head g) ≡ Some (Head h) = sym l.head ∙ m.head in cc

module _ (n i : ℕ) (old : ℕ → ℕ → Option FlashLine) (r : ℕ → Option FlashLine) where
  abbrev now : ℕ → ℕ → Option FlashLine
  now = read_with old i r

  to_old : (x g : ℕ) (cells : CellList) (next : ℕ) → x ≢ i → IsLog n (now x) g cells next → IsLog n (old x) g cells next
  to_old x g cells next ne log = subst (λ (s : ℕ → Option FlashLine). IsLog n s g cells next) (with_other old i r x ne) log

  of_old : (x g : ℕ) (cells : CellList) (next : ℕ) → x ≢ i → IsLog n (old x) g cells next → IsLog n (now x) g cells next
  of_old x g cells next ne log = subst (λ (s : ℕ → Option FlashLine). IsLog n s g cells next) (sym (with_other old i r x ne)) log

  to_new : (x g : ℕ) (cells : CellList) (next : ℕ) → x ≡ i → IsLog n (now x) g cells next → IsLog n r g cells next
  to_new x g cells next is log = subst (λ (s : ℕ → Option FlashLine). IsLog n s g cells next) (with_here old i r) (subst (λ z. IsLog n (now z) g cells next) is log)

  of_new : (g : ℕ) (cells : CellList) (next : ℕ) → IsLog n r g cells next → IsLog n (now i) g cells next
  of_new g cells next log = subst (λ (s : ℕ → Option FlashLine). IsLog n s g cells next) (sym (with_here old i r)) log

  -- the new bank has no log, or an older one
  past_best : (best : Best) (cells : CellList) → ((g : ℕ) (left : CellList) (end : ℕ) → IsLog n r g left end → IsPast best g) → BestIs n old i best cells → BestIs n now (suc i) best cells
  past_best NoLog cells past h = λ x g left end below log. elim (cases_eq x i) [
    | inl is ↦ past g left end (to_new x g left end is log)
    | inr ne ↦ h x g left end (omega (arith, below, ne)) (to_old x g left end ne log)
  ]
  past_best (One b) cells past h = record {
    inside = omega (arith, h.inside);
    is = of_old b.bank b.generation cells b.next (λ e. omega (arith, e, h.inside)) h.is;
    wins = λ x g left end below ne_bank log. elim (cases_eq x i) [
      | inl is ↦ past g left end (to_new x g left end is log)
      | inr ne ↦ h.wins x g left end (omega (arith, below, ne)) ne_bank (to_old x g left end ne log)
    ];
  }
  past_best (Tie t) cells past h = record {
    one = h.one;
    other = h.other;
    differ = h.differ;
    one_inside = omega (arith, h.one_inside);
    other_inside = omega (arith, h.other_inside);
    one_log = record { cells = h.one_log.cells; next = h.one_log.next; is = of_old h.one t h.one_log.cells h.one_log.next (λ e. omega (arith, e, h.one_inside)) h.one_log.is };
    other_log = record { cells = h.other_log.cells; next = h.other_log.next; is = of_old h.other t h.other_log.cells h.other_log.next (λ e. omega (arith, e, h.other_inside)) h.other_log.is };
    most = λ x g left end below log. elim (cases_eq x i) [
      | inl is ↦ past g left end (to_new x g left end is log)
      | inr ne ↦ h.most x g left end (omega (arith, below, ne)) (to_old x g left end ne log)
    ];
  }

  same_best : ((g : ℕ) (left : CellList) (end : ℕ) → IsLog n r g left end → ⊥) → (best : Best) (cells : CellList) → BestIs n old i best cells → BestIs n now (suc i) best cells
  same_best none best cells h = past_best best cells (λ g left end log. absurd (none g left end log)) h

  -- it has the latest
  new_best : (log : LogEnd) (cells : CellList) → IsLog n r log.generation cells log.next
      → ((x g : ℕ) (left : CellList) (end : ℕ) → x < i → IsLog n (old x) g left end → g < log.generation) → HaveOne n now (suc i) (found_at i log) cells
  new_best log cells is later = record {
    inside = omega arith;
    is = of_new log.generation cells log.next is;
    wins = λ x g left end below ne that. later x g left end (omega (arith, below, ne)) (to_old x g left end ne that);
  }

  module _ (log : LogEnd) (scratch : CellList) (is : IsLog n r log.generation scratch log.next) where
    -- every log of an older bank is at most this
    bound : (x g : ℕ) (left : CellList) (end : ℕ) (t : ℕ) → ((y h : ℕ) (l : CellList) (e : ℕ) → y < i → IsLog n (old y) h l e → h ≤ t) → log.generation ≤ t
        → x < suc i → IsLog n (now x) g left end → g ≤ t
    bound x g left end t most below_t below that = elim (cases_eq x i) [
      | inl here ↦ (let e = one_generation n r g log.generation left scratch end log.next (to_new x g left end here that) is in omega (arith, e, below_t))
      | inr ne ↦ most x g left end (omega (arith, below, ne)) (to_old x g left end ne that)
    ]

    one_most : (b : FoundLog) (cells : CellList) → HaveOne n old i b cells → (x g : ℕ) (left : CellList) (end : ℕ) → x < i → IsLog n (old x) g left end → g ≤ b.generation
    one_most b cells h x g left end below that = elim (cases_eq x b.bank) [
      | inl here ↦ (let e = one_generation n (old b.bank) g b.generation left cells end b.next (subst (λ z. IsLog n (old z) g left end) here that) h.is in omega (arith, e))
      | inr ne ↦ (let l = h.wins x g left end below ne that in omega (arith, l))
    ]

    one_stays : (b : FoundLog) (cells : CellList) → HaveOne n old i b cells → log.generation < b.generation → HaveOne n now (suc i) b cells
    one_stays b cells h less = record {
      inside = omega (arith, h.inside);
      is = of_old b.bank b.generation cells b.next (λ e. omega (arith, e, h.inside)) h.is;
      wins = λ x g left end below ne_bank that. elim (cases_eq x i) [
        | inl here ↦ (let e = one_generation n r g log.generation left scratch end log.next (to_new x g left end here that) is in omega (arith, e, less))
        | inr ne ↦ h.wins x g left end (omega (arith, below, ne)) ne_bank (to_old x g left end ne that)
      ];
    }

    one_ties : (b : FoundLog) (cells : CellList) → HaveOne n old i b cells → b.generation ≡ log.generation → HaveTwo n now (suc i) log.generation
    one_ties b cells h same = record {
      one = b.bank;
      other = i;
      differ = λ e. omega (arith, e, h.inside);
      one_inside = omega (arith, h.inside);
      other_inside = omega arith;
      one_log = record { cells = cells; next = b.next; is = subst (λ z. IsLog n (now b.bank) z cells b.next) same (of_old b.bank b.generation cells b.next (λ e. omega (arith, e, h.inside)) h.is) };
      other_log = record { cells = scratch; next = log.next; is = of_new log.generation scratch log.next is };
      most = λ x g left end below that. bound x g left end log.generation
          (λ y k l e less it. let m = one_most b cells h y k l e less it in omega (arith, m, same)) (omega arith) below that;
    }

    tie_stays : (t : ℕ) → HaveTwo n old i t → log.generation ≤ t → HaveTwo n now (suc i) t
    tie_stays t h most = record {
      one = h.one;
      other = h.other;
      differ = h.differ;
      one_inside = omega (arith, h.one_inside);
      other_inside = omega (arith, h.other_inside);
      one_log = record { cells = h.one_log.cells; next = h.one_log.next; is = of_old h.one t h.one_log.cells h.one_log.next (λ e. omega (arith, e, h.one_inside)) h.one_log.is };
      other_log = record { cells = h.other_log.cells; next = h.other_log.next; is = of_old h.other t h.other_log.cells h.other_log.next (λ e. omega (arith, e, h.other_inside)) h.other_log.is };
      most = λ x g left end below that. bound x g left end t h.most most below that;
    }

  -- the best of the banks and the new one
  module _ (log : LogEnd) (scratch : CellList) (is : IsLog n r log.generation scratch log.next) where
    of_one : (b : FoundLog) (cells : CellList) → HaveOne n old i b cells → (less same : Bool) → nat_lt b.generation log.generation ≡ less → nat_eq b.generation log.generation ≡ same
        → BestIs n now (suc i) (if less then One (found_at i log) else (if same then Tie log.generation else One b)) (if less then scratch else cells)
    of_one b cells h true same less_is same_is = new_best log scratch is (λ x g left end below that.
        let m = one_most log scratch is b cells h x g left end below that in let l = ltb-true b.generation log.generation less_is in omega (arith, m, l))
    of_one b cells h false true less_is same_is = one_ties log scratch is b cells h (eqb-true b.generation log.generation same_is)
    of_one b cells h false false less_is same_is = one_stays log scratch is b cells h
        (let l = ltb-false b.generation log.generation less_is in let ne = eqb-false b.generation log.generation same_is in omega (arith, l, ne))

    of_tie : (t : ℕ) (cells : CellList) → HaveTwo n old i t → (less : Bool) → nat_lt t log.generation ≡ less
        → BestIs n now (suc i) (if less then One (found_at i log) else Tie t) (if less then scratch else cells)
    of_tie t cells h true less_is = new_best log scratch is (λ x g left end below that.
        let m = h.most x g left end below that in let l = ltb-true t log.generation less_is in omega (arith, m, l))
    of_tie t cells h false less_is = tie_stays log scratch is t h (ltb-false t log.generation less_is)

    pub judged_best : (best : Best) (cells : CellList) → BestIs n old i best cells → BestIs n now (suc i) (judged best i log) (if is_newest best log then scratch else cells)
    judged_best NoLog cells h = new_best log scratch is (λ x g left end below that. absurd (h x g left end below that))
    judged_best (One b) cells h = of_one b cells h (nat_lt b.generation log.generation) (nat_eq b.generation log.generation) refl refl
    judged_best (Tie t) cells h = of_tie t cells h (nat_lt t log.generation) refl

-- one bank more of a scan
module _ (n i : ℕ) (f m g : Flash) (best : Best) (cells scratch : CellList) (s : ScannedTo n i f m best cells) (others : SameOthers i m g) where
  rest_more : (x : ℕ) → suc i ≤ x → SameBank x f g
  rest_more x from k = others x (λ e. omega (arith, e, from)) k ∙ s.rest x (omega (arith, from)) k

  pub scanned_none : ReadsLog n None scratch (m i) (g i) → ScannedTo n (suc i) f g best cells
  scanned_none r = record {
    read = read_with s.read i r.read;
    looks = looks_with f m g s.read i r.read s.looks (s.rest i (omega arith)) r.looks others;
    is = same_best n i s.read r.read (r.no_log refl) best cells s.is;
    rest = rest_more;
  }

  -- its head is older than the best
  pub scanned_past : (generation : ℕ) → IsPast best generation → Looks (m i 0) (Some (Head generation)) (g i 0) → ReadsBankPart (m i) (g i) → ScannedTo n (suc i) f g best cells
  scanned_past generation past head r = record {
    read = read_with s.read i r.read;
    looks = looks_with f m g s.read i r.read s.looks (s.rest i (omega arith)) r.looks others;
    is = past_best n i s.read r.read best cells (λ h left end log. subst (λ z. IsPast best z)
        (one_head (m i 0) (m i 0) (g i 0) generation h head (subst (λ (a : Option FlashLine). Looks (m i 0) a (g i 0)) log.head (r.looks 0))) past) s.is;
    rest = rest_more;
  }

  pub scanned_log : (log : LogEnd) → ReadsLog n (Some log) scratch (m i) (g i) → ScannedTo n (suc i) f g (judged best i log) (if is_newest best log then scratch else cells)
  scanned_log log r = record {
    read = read_with s.read i r.read;
    looks = looks_with f m g s.read i r.read s.looks (s.rest i (omega arith)) r.looks others;
    is = judged_best n i s.read r.read log scratch (r.is_log log refl) best cells s.is;
    rest = rest_more;
  }

  pub scanned_same : (answer : Option LogEnd) → answer ≡ None → ReadsLog n answer scratch (m i) (g i) → ScannedTo n (suc i) f g best cells
  scanned_same answer e r = scanned_none (subst (λ (a : Option LogEnd). ReadsLog n a scratch (m i) (g i)) e r)

  module _ (answer : Option LogEnd) (log : LogEnd) (better : Best) (said : answer ≡ Some log) (is : better ≡ judged best i log) (r : ReadsLog n answer scratch (m i) (g i)) where
    scanned_as : (newest : Bool) → is_newest best log ≡ newest → ScannedTo n (suc i) f g better (if newest then scratch else cells)
    scanned_as newest e =
        subst (λ (b : Bool). ScannedTo n (suc i) f g better (if b then scratch else cells)) e
        (subst (λ (b : Best). ScannedTo n (suc i) f g b (if is_newest best log then scratch else cells)) (sym is)
        (scanned_log log (subst (λ (a : Option LogEnd). ReadsLog n a scratch (m i) (g i)) said r)))

    pub scanned_stays : (newest : Bool) → newest ≡ is_newest best log → newest ≡ false → ScannedTo n (suc i) f g better cells
    scanned_stays newest e no_more = scanned_as false (sym e ∙ no_more)

    pub scanned_new : (newest : Bool) → newest ≡ is_newest best log → newest ≡ true → (now : CellList) → now ≡ scratch → ScannedTo n (suc i) f g better now
    scanned_new newest e one_more now h = subst (λ (c : CellList). ScannedTo n (suc i) f g better c) (sym h) (scanned_as true (sym e ∙ one_more))

  pub scanned_part : (l : FlashLayout) → ReadsBankPart (m i) (g i) → Goes l (machine f off) (machine g off)
  scanned_part l r = goes_one l cuts_scan _ _ (λ old new e. e, tt) (record {
    was = refl;
    read = read_with s.read i r.read;
    looks = looks_with f m g s.read i r.read s.looks (s.rest i (omega arith)) r.looks others;
    now = refl;
  })

pub scanned_first : (n : ℕ) (f : Flash) (cells : CellList) → ScannedTo n 0 f f NoLog cells
scanned_first n f cells = record {
  read = λ x k. answer_of (f x k);
  looks = λ x k. unlooked (f x k);
  is = λ x g left end below log. absurd (omega (arith, below));
  rest = λ x from k. refl;
}

pub scanned_off : (l : FlashLayout) (n count : ℕ) (f g : Flash) (best : Best) (cells : CellList) → ScannedTo n count f g best cells → Goes l (machine f off) (machine g off)
scanned_off l n count f g best cells s = goes_one l cuts_scan _ _ (λ old new e. e, tt) (record { was = refl; read = s.read; looks = s.looks; now = refl })

-- two banks of one generation, or none: no log counts
pub none_counts : (l : FlashLayout) (read : ℕ → ℕ → Option FlashLine) → HaveNone l.cells read l.banks → ScanFinds l read → ⊥
none_counts l read none s = none s.bank s.generation s.cells s.next s.counts.inside s.counts.log

pub two_count_not : (l : FlashLayout) (read : ℕ → ℕ → Option FlashLine) (t : ℕ) → HaveTwo l.cells read l.banks t → ScanFinds l read → ⊥
two_count_not l read t h s =
    let most = h.most s.bank s.generation s.cells s.next s.counts.inside s.counts.log in
    elim (cases_eq h.one s.bank) [
      | inl here ↦ (
          let wins = s.counts.wins h.other t h.other_log.cells h.other_log.next h.other_inside (λ e. h.differ (here ∙ sym e)) h.other_log.is in
          omega (arith, wins, most))
      | inr ne ↦ (let wins = s.counts.wins h.one t h.one_log.cells h.one_log.next h.one_inside ne h.one_log.is in omega (arith, wins, most))
    ]

-- ---- all banks were read

module _ (l : FlashLayout) (count : ℕ) (f g : Flash) (cells : CellList) (all : count ≡ l.banks) where
  pub scan_is : (log : FoundLog) → ScannedTo l.cells count f g (One log) cells → Scans l (machine f off) (machine g (found log.bank log.generation cells log.next))
  scan_is log s =
      let h : HaveOne l.cells s.read l.banks log cells = subst (λ k. HaveOne l.cells s.read k log cells) all s.is in
      record {
        was = refl;
        read = s.read;
        looks = s.looks;
        bank = log.bank;
        generation = log.generation;
        cells = cells;
        next = log.next;
        counts = record { inside = h.inside; log = h.is; wins = λ x g left end below ne that. h.wins x g left end below ne that };
        now = refl;
      }

  pub scan_found : (log : FoundLog) → ScannedTo l.cells count f g (One log) cells → Goes l (machine f off) (machine g (found log.bank log.generation cells log.next))
  scan_found log s = goes_one l scans _ _ (λ old new e. e, tt) (scan_is log s)

  pub scan_none : ScannedTo l.cells count f g NoLog cells → NoLogCounts l f g
  scan_none s = record { read = s.read; looks = s.looks; none = none_counts l s.read (subst (λ k. HaveNone l.cells s.read k) all s.is) }

  pub scan_tie : (t : ℕ) → ScannedTo l.cells count f g (Tie t) cells → NoLogCounts l f g
  scan_tie t s = record { read = s.read; looks = s.looks; none = two_count_not l s.read t (subst (λ k. HaveTwo l.cells s.read k t) all s.is) }

-- ---- whether the best log's bank is free behind it, and what heads there are

module _ (n i : ℕ) (read : ℕ → ℕ → Option FlashLine) (m g : Flash) (cells : CellList) (others : SameOthers i m g) where
  pub free_same : (best : Best) → BestIs n read i best cells → FreeBest m best → FreeBest g best
  free_same NoLog h free = tt
  free_same (One log) h free = λ e k from. others log.bank (λ x. absurd (omega (arith, x, h.inside))) k ∙ free e k from
  free_same (Tie t) h free = tt

  module _ (log : LogEnd) (new : log.is_free ≡ true → BlankFrom g i log.next) where
    free_one : (old : FoundLog) → BestIs n read i (One old) cells → FreeBest m (One old) → (less same : Bool)
        → FreeBest g (if less then One (found_at i log) else (if same then Tie log.generation else One old))
    free_one old h free true same = new
    free_one old h free false true = tt
    free_one old h free false false = free_same (One old) h free

    free_tie : (t : ℕ) (less : Bool) → FreeBest g (if less then One (found_at i log) else Tie t)
    free_tie t true = new
    free_tie t false = tt

    pub free_judged : (best : Best) → BestIs n read i best cells → FreeBest m best → FreeBest g (judged best i log)
    free_judged NoLog h free = new
    free_judged (One old) h free = free_one old h free (nat_lt old.generation log.generation) (nat_eq old.generation log.generation)
    free_judged (Tie t) h free = free_tie t (nat_lt t log.generation)

  pub told_same : (best : Best) → BestIs n read i best cells → ToldBest m best → ToldBest g best
  told_same NoLog h told = tt
  told_same (One log) h told = λ blank. told (λ k from. sym (others log.bank (λ x. absurd (omega (arith, x, h.inside))) k) ∙ blank k from)
  told_same (Tie t) h told = tt

  module _ (log : LogEnd) (new : BlankFrom g i log.next → log.is_free ≡ true) where
    told_one : (old : FoundLog) → BestIs n read i (One old) cells → ToldBest m (One old) → (less same : Bool)
        → ToldBest g (if less then One (found_at i log) else (if same then Tie log.generation else One old))
    told_one old h told true same = new
    told_one old h told false true = tt
    told_one old h told false false = told_same (One old) h told

    told_tie : (t : ℕ) (less : Bool) → ToldBest g (if less then One (found_at i log) else Tie t)
    told_tie t true = new
    told_tie t false = tt

    pub told_judged : (best : Best) → BestIs n read i best cells → ToldBest m best → ToldBest g (judged best i log)
    told_judged NoLog h told = new
    told_judged (One old) h told = told_one old h told (nat_lt old.generation log.generation) (nat_eq old.generation log.generation)
    told_judged (Tie t) h told = told_tie t (nat_lt t log.generation)

-- what is noted of the first place of each bank, and of one bank more
pub heads_more : (Notes : FlashPlace → ℕ → Type 0) (f g : Flash) (i : ℕ) (old new : List ℕ) (latest later : ℕ) → later ≡ suc i → SameOthers i f g
    → ((x : ℕ) → x < i → Notes (f x 0) (get_or old x 0)) → Notes (g i 0) latest
    → get_or new i 0 ≡ latest → ((x : ℕ) → x ≢ i → get_or new x 0 ≡ get_or old x 0) → (x : ℕ) → x < later → Notes (g x 0) (get_or new x 0)
heads_more Notes f g i old new latest later e others before now here rest x below = elim (cases_eq x i) [
  | inl is ↦ subst (λ z. Notes (g z 0) (get_or new z 0)) (sym is) (subst (λ b. Notes (g i 0) b) (sym here) now)
  | inr ne ↦ subst (λ b. Notes (g x 0) b) (sym (rest x ne))
      (subst (λ (p : FlashPlace). Notes p (get_or old x 0)) (sym (others x ne 0)) (before x (omega (arith, below, e, ne))))
]
