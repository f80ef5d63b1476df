-- What the operations of a part in memory make of its list, they make of its banks.
use Rattle.std.proofs.Common.{◌≡◌, ◌≢◌, ◌⊎◌, inl, inr, ℕ, zero, suc, ◌+◌, ◌*◌, ◌%◌, ◌<◌, ◌≤◌, Bool, true, false, not, Some, List, [], ◌∷◌, replicate, set, get_or, length, refl, sym, ap, subst, ◌∙◌, if◌then◌else◌, arith}
use Rattle.std.proofs.lemmas.Bool.{cases_lt, cases_eq, lt-ltb, le-ltb}
use Rattle.std.proofs.Math.Nat.{mul-le-mul_right}
use Rattle.seal_parts.specs.declared.PartClass.{PartClass}
use Rattle.seal_parts.specs.declared.UnitKind.{UnitKind}
use Rattle.seal_parts.specs.declared.UnitKind.TheVariants.{Guard, SecondGuard, Line, Confirm, SecondConfirm}
use Rattle.seal_parts.specs.declared.UnitContent.{UnitContent}
use Rattle.seal_parts.specs.declared.UnitContent.TheVariants.{Mark}
use Rattle.seal_parts.specs.declared.UnitAnswer.{UnitAnswer}
use Rattle.seal_parts.specs.declared.mem_part.MemUnit.{MemUnit}
use Rattle.seal_parts.specs.Parts.{PartUnit, FitsUnit, MayProgram, SameBanks, ErasesBank, MayBeLeft, stays, shows, CutsBankErase, SameButUnit, ProgramsUnit, CutsProgramming, MayAnswer, ReadsUnit, unit_after, blank_unit, whole_unit}
use Rattle.seal_parts.specs.Memory.{unit_number, unit_of, unit_in, part_in}
use Rattle.seal_parts.proofs.Units.{same_number, IsOther}

-- ---- units of a list

pub unit_set : (us : List MemUnit) (i : ℕ) (u : MemUnit) → i < length us → unit_in (set us i u) i ≡ unit_of u
unit_set [] i u below = absurd (omega arith)
unit_set (v ∷ us) zero u below = refl
unit_set (v ∷ us) (suc i) u below = unit_set us i u (omega arith)

pub unit_other : (us : List MemUnit) (i k : ℕ) (u : MemUnit) → k ≢ i → unit_in (set us i u) k ≡ unit_in us k
unit_other [] i k u ne = refl
unit_other (v ∷ us) zero zero u ne = absurd (ne refl)
unit_other (v ∷ us) zero (suc k) u ne = refl
unit_other (v ∷ us) (suc i) zero u ne = refl
unit_other (v ∷ us) (suc i) (suc k) u ne = unit_other us i k u (λ e. ne (ap suc e))

pub unit_get : (us : List MemUnit) (i : ℕ) (d : MemUnit) → i < length us → unit_in us i ≡ unit_of (get_or us i d)
unit_get [] i d below = absurd (omega arith)
unit_get (v ∷ us) zero d below = refl
unit_get (v ∷ us) (suc i) d below = unit_get us i d (omega arith)

unit_blank : (n k : ℕ) (u : MemUnit) → unit_of u ≡ blank_unit → unit_in (replicate n u) k ≡ blank_unit
unit_blank zero k u is = refl
unit_blank (suc n) zero u is = is
unit_blank (suc n) (suc k) u is = unit_blank n k u is

number_below : (kind : UnitKind) → unit_number kind < 5
number_below Guard = omega arith
number_below SecondGuard = omega arith
number_below Line = omega arith
number_below Confirm = omega arith
number_below SecondConfirm = omega arith

-- ---- units of a bank

abbrev pub at_unit : ℕ → ℕ → ℕ → UnitKind → ℕ
at_unit places bank k kind = bank * (places * 5) + (k * 5 + unit_number kind)

pub inside_bank : (places k : ℕ) (kind : UnitKind) → k < places → k * 5 + unit_number kind < places * 5
inside_bank places k kind below = (let n = number_below kind in omega (arith, below, n))

pub unit_inside : (places : ℕ) (erased : List Bool) (held : List MemUnit) (bank k : ℕ) (kind : UnitKind) → k < places
    → (part_in places erased held).unit bank k kind ≡ unit_in held (at_unit places bank k kind)
unit_inside places erased held bank k kind below = ap (λ (b : Bool). if b then unit_in held (at_unit places bank k kind) else blank_unit) (lt-ltb k places below)

pub unit_behind : (places : ℕ) (erased : List Bool) (held : List MemUnit) (bank k : ℕ) (kind : UnitKind) → places ≤ k
    → (part_in places erased held).unit bank k kind ≡ blank_unit
unit_behind places erased held bank k kind far = ap (λ (b : Bool). if b then unit_in held (at_unit places bank k kind) else blank_unit) (le-ltb k places far)

pub all_blank : (places n : ℕ) (erased : List Bool) (held : List MemUnit) (u : MemUnit) → unit_of u ≡ blank_unit → held ≡ replicate n u → (bank k : ℕ) (kind : UnitKind)
    → (part_in places erased held).unit bank k kind ≡ blank_unit
all_blank places n erased held u is e bank k kind = elim (cases_lt k places) [
  | inl below ↦ unit_inside places erased held bank k kind below ∙ (ap (λ (us : List MemUnit). unit_in us (at_unit places bank k kind)) e ∙ unit_blank n (at_unit places bank k kind) u is)
  | inr far ↦ unit_behind places erased held bank k kind far
]

-- another bank lies before this one or after it
apart : (size bank other k : ℕ) → other ≢ bank → k < size → (other * size + k < bank * size) ⊎ (bank * size + size ≤ other * size + k)
apart size bank other k ne below = elim (cases_lt other bank) [
  | inl less ↦ inl (let h : suc other * size ≤ bank * size = mul-le-mul_right size less in omega (arith, h))
  | inr more ↦ inr (let less : suc bank ≤ other = omega (arith, more, ne) in let h : suc bank * size ≤ other * size = mul-le-mul_right size less in omega (arith, h))
]

-- two lists that agree at a unit
module _ (places : ℕ) (old new : List MemUnit) (erased later : List Bool) where
  same_unit : (bank k : ℕ) (kind : UnitKind) → (k < places → unit_in new (at_unit places bank k kind) ≡ unit_in old (at_unit places bank k kind))
      → (part_in places later new).unit bank k kind ≡ (part_in places erased old).unit bank k kind
  same_unit bank k kind same = elim (cases_lt k places) [
    | inl below ↦ unit_inside places later new bank k kind below ∙ (same below ∙ sym (unit_inside places erased old bank k kind below))
    | inr far ↦ unit_behind places later new bank k kind far ∙ sym (unit_behind places erased old bank k kind far)
  ]

  module _ (bank : ℕ) (rest : (k : ℕ) → (k < bank * (places * 5)) ⊎ (bank * (places * 5) + places * 5 ≤ k) → unit_in new k ≡ unit_in old k)
      (others : (other : ℕ) → other ≢ bank → get_or later other false ≡ get_or erased other false) where
    same_banks : SameBanks bank (part_in places erased old) (part_in places later new)
    same_banks = record {
      units = λ other k kind ne. same_unit other k kind (λ below. rest (at_unit places other k kind) (apart (places * 5) bank other (k * 5 + unit_number kind) ne (inside_bank places k kind below)));
      erased = others;
    }

    pub erase_done : ((k : ℕ) → bank * (places * 5) ≤ k → k < bank * (places * 5) + places * 5 → unit_in new k ≡ blank_unit) → get_or later bank false ≡ true
        → ErasesBank bank (part_in places erased old) (part_in places later new)
    erase_done made is = record {
      blank = λ k kind. elim (cases_lt k places) [
        | inl below ↦ unit_inside places later new bank k kind below
            ∙ made (at_unit places bank k kind) (omega arith) (let i = inside_bank places k kind below in omega (arith, i))
        | inr far ↦ unit_behind places later new bank k kind far
      ];
      erased = is;
      others = same_banks;
    }

    pub erase_cut : ((k : ℕ) (kind : UnitKind) → k * 5 + unit_number kind < places * 5
        → MayBeLeft kind (unit_in old (at_unit places bank k kind)).content (unit_in new (at_unit places bank k kind)).content) → get_or later bank false ≡ false
        → CutsBankErase bank (part_in places erased old) (part_in places later new)
    erase_cut left is = record {
      left = λ k kind. elim (cases_lt k places) [
        | inl below ↦ subst (λ (u : PartUnit). MayBeLeft kind u.content ((part_in places later new).unit bank k kind).content) (sym (unit_inside places erased old bank k kind below))
            (subst (λ (u : PartUnit). MayBeLeft kind (unit_in old (at_unit places bank k kind)).content u.content) (sym (unit_inside places later new bank k kind below))
            (left k kind (inside_bank places k kind below)))
        | inr far ↦ stays (ap (λ (u : PartUnit). u.content) (unit_behind places later new bank k kind far ∙ sym (unit_behind places erased old bank k kind far)))
      ];
      erased = is;
      others = same_banks;
    }

-- one entry of a list of flags
flag_set : (bs : List Bool) (i : ℕ) (b : Bool) → i < length bs → get_or (set bs i b) i false ≡ b
flag_set [] i b below = absurd (omega arith)
flag_set (c ∷ bs) zero b below = refl
flag_set (c ∷ bs) (suc i) b below = flag_set bs i b (omega arith)

flag_other : (bs : List Bool) (i k : ℕ) (b : Bool) → k ≢ i → get_or (set bs i b) k false ≡ get_or bs k false
flag_other [] i k b ne = refl
flag_other (c ∷ bs) zero zero b ne = absurd (ne refl)
flag_other (c ∷ bs) zero (suc k) b ne = refl
flag_other (c ∷ bs) (suc i) zero b ne = refl
flag_other (c ∷ bs) (suc i) (suc k) b ne = flag_other bs i k b (λ e. ne (ap suc e))

module _ (places bank start : ℕ) (old new : List MemUnit) (erased : List Bool) (is : start ≡ bank * (places * 5)) (few : bank < length erased)
    (rest : (k : ℕ) → (k < start) ⊎ (start + places * 5 ≤ k) → unit_in new k ≡ unit_in old k) where
  out_of : (k : ℕ) → (k < bank * (places * 5)) ⊎ (bank * (places * 5) + places * 5 ≤ k) → unit_in new k ≡ unit_in old k
  out_of = subst (λ z. (k : ℕ) → (k < z) ⊎ (z + places * 5 ≤ k) → unit_in new k ≡ unit_in old k) is rest

  pub bank_erased : ((k : ℕ) → start ≤ k → k < start + places * 5 → unit_in new k ≡ blank_unit)
      → ErasesBank bank (part_in places erased old) (part_in places (set erased bank true) new)
  bank_erased made = erase_done places old new erased (set erased bank true) bank out_of (λ other ne. flag_other erased bank other true ne)
      (subst (λ z. (k : ℕ) → z ≤ k → k < z + places * 5 → unit_in new k ≡ blank_unit) is made) (flag_set erased bank true few)

  pub bank_cut : ((k : ℕ) (kind : UnitKind) → k * 5 + unit_number kind < places * 5
      → MayBeLeft kind (unit_in old (start + (k * 5 + unit_number kind))).content (unit_in new (start + (k * 5 + unit_number kind))).content)
      → CutsBankErase bank (part_in places erased old) (part_in places (set erased bank false) new)
  bank_cut left = erase_cut places old new erased (set erased bank false) bank out_of (λ other ne. flag_other erased bank other false ne)
      (subst (λ z. (k : ℕ) (kind : UnitKind) → k * 5 + unit_number kind < places * 5
      → MayBeLeft kind (unit_in old (z + (k * 5 + unit_number kind))).content (unit_in new (z + (k * 5 + unit_number kind))).content) is left) (flag_set erased bank false few)

-- two units that aren't one have two indices
same_in_bank : (places k j : ℕ) (kind o : UnitKind) → k * 5 + unit_number kind ≡ j * 5 + unit_number o → (k ≡ j) × (unit_number kind ≡ unit_number o)
same_in_bank places k j kind o e =
    let a = number_below kind in
    let b = number_below o in
    (omega (arith, e, a, b), omega (arith, e, a, b))

other_index : (places bank place : ℕ) (kind : UnitKind) (b k : ℕ) (o : UnitKind) → place < places → k < places → IsOther bank place kind b k o
    → at_unit places b k o ≢ at_unit places bank place kind
other_index places bank place kind b k o inside below ne e = elim (cases_eq b bank) [
  | inl is ↦ (
      let same : k * 5 + unit_number o ≡ place * 5 + unit_number kind = (let f : at_unit places bank k o ≡ at_unit places bank place kind = subst (λ z. at_unit places z k o ≡ at_unit places bank place kind) is e in omega (arith, f)) in
      let both = same_in_bank places k place o kind same in
      elim ne [
        | inl x ↦ absurd (x is)
        | inr more ↦ elim more [
          | inl y ↦ absurd (y both.0)
          | inr z ↦ absurd (z (same_number o kind both.1))
        ]
      ])
  | inr other ↦ (
      let i = inside_bank places place kind inside in
      let j = inside_bank places k o below in
      elim (apart (places * 5) bank b (k * 5 + unit_number o) other j) [
        | inl before ↦ absurd (omega (arith, before, e, i))
        | inr behind ↦ absurd (omega (arith, behind, e, i))
      ])
]

module _ (places bank place at : ℕ) (kind : UnitKind) (is : at ≡ at_unit places bank place kind) (inside : place < places) where
  pub at_place : (erased : List Bool) (held : List MemUnit) → (part_in places erased held).unit bank place kind ≡ unit_in held at
  at_place erased held = unit_inside places erased held bank place kind inside ∙ ap (λ k. unit_in held k) (sym is)

  pub same_but_unit : (erased : List Bool) (old new : List MemUnit) → ((k : ℕ) → k ≢ at → unit_in new k ≡ unit_in old k)
      → SameButUnit bank place kind (part_in places erased old) (part_in places erased new)
  same_but_unit erased old new rest = record {
    units = λ b k o ne. same_unit places old new erased erased b k o (λ below. rest (at_unit places b k o) (λ e. other_index places bank place kind b k o inside below ne (e ∙ is)));
    erased = λ other. refl;
  }

  module _ (class : PartClass) (erased : List Bool) (held : List MemUnit) (content : UnitContent) (u : MemUnit) (below : at < length held)
      (may : MayProgram class kind (part_in places erased held) bank place) (fits : FitsUnit kind content) where
    pub program_done : unit_of u ≡ whole_unit content → ProgramsUnit class bank place kind content (part_in places erased held) (part_in places erased (set held at u))
    program_done now = record {
      may = may;
      fits = fits;
      now = at_place erased (set held at u) ∙ (unit_set held at u below ∙ now);
      same = same_but_unit erased held (set held at u) (λ k ne. unit_other held at k u ne);
    }

    pub program_left : (left : PartUnit) → unit_of u ≡ left → (part_in places erased (set held at u)).unit bank place kind ≡ left
    program_left left now = at_place erased (set held at u) ∙ (unit_set held at u below ∙ now)

    pub program_cut : u.content ≡ Some content → u.missed ≡ false → CutsProgramming class bank place kind content (part_in places erased held) (part_in places erased (set held at u))
    program_cut now unread = record {
      may = may;
      fits = fits;
      left = inl (ap (λ (z : PartUnit). z.content) (at_place erased (set held at u) ∙ unit_set held at u below) ∙ now);
      unread = ap (λ (z : PartUnit). z.missed) (at_place erased (set held at u) ∙ unit_set held at u below) ∙ unread;
      same = same_but_unit erased held (set held at u) (λ k ne. unit_other held at k u ne);
    }

  pub read_at : (class : PartClass) (erased : List Bool) (old new : List MemUnit) (answer : UnitAnswer) → ((k : ℕ) → k ≢ at → unit_in new k ≡ unit_in old k)
      → MayAnswer class (get_or erased bank false) (unit_in old at) answer → unit_in new at ≡ unit_after class answer (unit_in old at)
      → ReadsUnit class bank place kind answer (part_in places erased old) (part_in places erased new)
  read_at class erased old new answer rest may now = record {
    may = subst (λ (u : PartUnit). MayAnswer class (get_or erased bank false) u answer) (sym (at_place erased old)) may;
    now = at_place erased new ∙ (now ∙ ap (λ (u : PartUnit). unit_after class answer u) (sym (at_place erased old)));
    same = same_but_unit erased old new rest;
  }

-- ---- one unit more of a range

pub firm_unit : (content : UnitContent) (is_cut : Bool) → is_cut ≡ false → unit_of (record { content = Some content; firm = not is_cut; missed = false }) ≡ whole_unit content
firm_unit content true e = absurd (cc)
firm_unit content false e = refl

pub loose_unit : (content : UnitContent) (is_cut : Bool) → is_cut ≡ true → unit_of (record { content = Some content; firm = not is_cut; missed = false }) ≡ record { content = Some content; firm = false; missed = false }
loose_unit content true e = refl
loose_unit content false e = absurd (cc)

fits_mark : (kind : UnitKind) → unit_number kind ≢ 2 → FitsUnit kind Mark
fits_mark Guard ne = tt
fits_mark SecondGuard ne = tt
fits_mark Line ne = absurd (ne refl)
fits_mark Confirm ne = tt
fits_mark SecondConfirm ne = tt

rest_of_five : (i k : ℕ) (kind : UnitKind) → k * 5 + unit_number kind ≡ i → i % 5 ≢ 2 → unit_number kind ≢ 2
rest_of_five i k kind e ne two = ne (let n = number_below kind in omega (arith, e, two, n))

pub left_more : (first us : List MemUnit) (start i next : ℕ) (u was : MemUnit) → start + i < length us → next ≡ i + 1 → was ≡ get_or us (start + i) was
    → (u.content ≡ was.content) ⊎ ((i % 5 ≢ 2) × (u.content ≡ Some Mark))
    → ((k : ℕ) → (k < start) ⊎ (start + i ≤ k) → unit_in us k ≡ unit_in first k)
    → ((k : ℕ) (kind : UnitKind) → k * 5 + unit_number kind < i → MayBeLeft kind (unit_in first (start + (k * 5 + unit_number kind))).content (unit_in us (start + (k * 5 + unit_number kind))).content)
    → (k : ℕ) (kind : UnitKind) → k * 5 + unit_number kind < next
    → MayBeLeft kind (unit_in first (start + (k * 5 + unit_number kind))).content (unit_in (set us (start + i) u) (start + (k * 5 + unit_number kind))).content
left_more first us start i next u was below e here left same before k kind less = elim (cases_eq (k * 5 + unit_number kind) i) [
  | inl is ↦ (
      let now : (unit_in (set us (start + i) u) (start + (k * 5 + unit_number kind))).content ≡ u.content =
      ap (λ j. (unit_in (set us (start + i) u) (start + j)).content) is ∙ ap (λ (z : PartUnit). z.content) (unit_set us (start + i) u below) in
      let old : was.content ≡ (unit_in first (start + (k * 5 + unit_number kind))).content =
      ap (λ (z : PartUnit). z.content) (ap unit_of here ∙ (sym (unit_get us (start + i) was below) ∙ same (start + i) (inr (omega arith)))) ∙ ap (λ j. (unit_in first (start + j)).content) (sym is) in
      elim left [
        | inl kept ↦ stays (now ∙ (kept ∙ old))
        | inr mark ↦ shows (fits_mark kind (rest_of_five i k kind is mark.0)) (now ∙ mark.1)
      ])
  | inr ne ↦ subst (λ (z : PartUnit). MayBeLeft kind (unit_in first (start + (k * 5 + unit_number kind))).content z.content)
      (sym (unit_other us (start + i) (start + (k * 5 + unit_number kind)) u (λ x. ne (omega (arith, x))))) (before k kind (omega (arith, less, e, ne)))
]

pub blank_more : (us : List MemUnit) (start i next : ℕ) (u : MemUnit) → unit_of u ≡ blank_unit → i < length us → next ≡ i + 1
    → ((k : ℕ) → start ≤ k → k < i → unit_in us k ≡ blank_unit) → (k : ℕ) → start ≤ k → k < next → unit_in (set us i u) k ≡ blank_unit
blank_more us start i next u is below e before k from h = elim (cases_eq k i) [
  | inl here ↦ subst (λ j. unit_in (set us i u) j ≡ blank_unit) (sym here) (unit_set us i u below ∙ is)
  | inr there ↦ unit_other us i k u there ∙ before k from (omega arith)
]

pub rest_more : (first us : List MemUnit) (start i next : ℕ) (u : MemUnit) → start ≤ i → next ≡ i + 1
    → ((k : ℕ) → (k < start) ⊎ (i ≤ k) → unit_in us k ≡ unit_in first k)
    → (k : ℕ) → (k < start) ⊎ (next ≤ k) → unit_in (set us i u) k ≡ unit_in first k
rest_more first us start i next u from e before k out =
    unit_other us i k u (λ h. elim out [ inl a ↦ omega arith | inr b ↦ omega arith ])
    ∙ before k (elim out [ inl a ↦ inl a | inr b ↦ inr (omega arith) ])
