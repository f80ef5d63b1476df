-- One header stands or none, and which is decided
use Rattle.std.proofs.Common.{◌≡◌, ◌⊎◌, ◌∙◌, ℕ, ◌≤◌, List, [], ◌∷◌, length, take, get_or, refl, sym, ap, subst, inl, inr, arith, Some, None}
use Rattle.std.specs.Prelude.{◌↔◌, Bool, IsTrue, Option, MatchOption, bytes_eq}
use borrow.Rule.Slice.PartMut.{put_mid}
use Rattle.std.proofs.lemmas.Bool.{cases_Bool, cases_lt, false≢true}
use Rattle.std.proofs.lemmas.List.{get_or-take, length-take}
use Rattle.std.proofs.lemmas.Slice.Eq.{bytes_eq-Decides}
use Rattle.basics.specs.Numbers.{number_of, bytes_of}
use Rattle.basics.proofs.CallerLemmas.{length-bytes_of, number_of-bytes_of-lt}
use Rattle.cut_disk.specs.Images.{splice}
use Rattle.cell_store.specs.declared.kinds.Kind.{Kind}
use Rattle.cell_store.specs.declared.kinds.Kind.TheVariants.{Twin, Log}
use Rattle.cell_store.specs.declared.kinds.Layout.{Layout}
use Rattle.cell_store.specs.declared.kinds.Version.TheVariants.{One, Two}
use Rattle.cell_store.specs.Layout.{SameOutside, part, layout, header, from_base, twin_layout}
use Rattle.cell_store.specs.Store.{FewCells, HasHeader}
use Rattle.cell_store.proofs.CallerLemmas.{SameOutside-splice, header-kind, header-number}
use Rattle.store_plan.specs.Growing.{with_number}
use Rattle.store_growing.specs.declared.headers.StoreHeader.{StoreHeader}
use Rattle.store_growing.specs.StoreHeaders.{cells_counted, HasFirstHead, HasVersionTwo, store_header, HeaderStands, in_second, in_first, none_stands}
use Rattle.store_growing.proofs.OneCell.{take-splice, written_over, head_with_number}

-- ---- each is decided

abbrev pub Decided : Type 0 → Type 0
Decided P = P ⊎ (¬ P)

pub bytes_same : (a b : List ℕ) → Decided (a ≡ b)
bytes_same a b =
    let d = bytes_eq-Decides a b in
    elim (cases_Bool (bytes_eq a b)) [ inl on ↦ inl (d.0 on) | inr off ↦ inr (λ same. false≢true (sym off ∙ d.1 same)) ]

two_not_one : Two ≡ One → ⊥
two_not_one e = cc

log_not_twin : Log ≡ Twin → ⊥
log_not_twin e = cc

-- ---- version 1, whatever its number is

number_put : (kind : Kind) (m n : ℕ) → splice 10 (bytes_of 2 n) (header (layout kind One) m) ≡ header (layout kind One) n
unfolding splice header bytes_of
number_put kind m n = refl

-- with one number it is a header, so with each
pub any_number : (kind : Kind) (m n : ℕ) (x : List ℕ) → 32 ≤ length x → HasHeader (layout kind One) m (with_number m x)
    → HasHeader (layout kind One) n (with_number n x)
any_number kind m n x room head =
    let first : List ℕ = take 32 x in
    let long : length first ≡ 32 = (let l = length-take 32 x in omega (arith, l, room)) in
    let with_m : splice 10 (bytes_of 2 m) first ≡ header (layout kind One) m =
    sym (take-splice 10 32 (bytes_of 2 m) x (omega (arith, length-bytes_of 2 m)) room) ∙ head in
    let over : splice 10 (bytes_of 2 n) (splice 10 (bytes_of 2 m) first) ≡ splice 10 (bytes_of 2 n) first =
    written_over 10 (bytes_of 2 n) first (splice 10 (bytes_of 2 m) first) (omega (arith, long, length-bytes_of 2 n))
    (subst (λ (k : ℕ). SameOutside 10 k first (splice 10 (bytes_of 2 m) first)) (length-bytes_of 2 m ∙ sym (length-bytes_of 2 n))
    (SameOutside-splice 10 (bytes_of 2 m) first (omega (arith, long, length-bytes_of 2 m)))) in
    take-splice 10 32 (bytes_of 2 n) x (omega (arith, length-bytes_of 2 n)) room
    ∙ (sym over ∙ (ap (splice 10 (bytes_of 2 n)) with_m ∙ number_put kind m n))

pub first_head : (kind : Kind) (x : List ℕ) → 32 ≤ length x → HasHeader (layout kind One) 0 (with_number 0 x) → HasFirstHead kind x
first_head kind x room head n = any_number kind 0 n x room head

two_zeros : (two : List ℕ) → two ≡ 0 ∷ 0 ∷ [] → two ≡ bytes_of 2 0
unfolding bytes_of
two_zeros two is = is

-- the test of the first 32 bytes with a number of 0
pub first_head_test : (kind : Kind) (x first two : List ℕ) (says : Bool) → 32 ≤ length x → first ≡ take 32 x → two ≡ 0 ∷ 0 ∷ []
    → (IsTrue says ↔ (put_mid 10 2 first two ≡ header (layout kind One) 0)) → IsTrue says ↔ HasFirstHead kind x
first_head_test kind x first two says room first_is two_is test =
    let put : put_mid 10 2 first two ≡ part 0 32 (with_number 0 x) = head_with_number 0 x first two room first_is (two_zeros two two_is) in
    (λ yes. first_head kind x room (sym put ∙ test.0 yes), λ head. test.1 (put ∙ head 0))

pub first_or_not : (kind : Kind) (x : List ℕ) → 32 ≤ length x → Decided (HasFirstHead kind x)
first_or_not kind x room = elim (bytes_same (part 0 32 (with_number 0 x)) (header (layout kind One) 0)) [
  | inl head ↦ inl (first_head kind x room head)
  | inr none ↦ inr (λ heads. none (heads 0))
]

pub one_kind : (kind other : Kind) (x : List ℕ) → HasFirstHead kind x → HasFirstHead other x → kind ≡ other
one_kind kind other x head also = header-kind (layout kind One) (layout other One) 0 0 (sym (head 0) ∙ also 0)

-- bytes that begin alike have one number and one head
pub counted_alike : (x y : List ℕ) → part 0 32 x ≡ part 0 32 y → cells_counted x ≡ cells_counted y
counted_alike x y same =
    let high : get_or x 10 0 ≡ get_or y 10 0 =
    sym (get_or-take 32 x 10 0 (omega arith)) ∙ (ap (λ (l : List ℕ). get_or l 10 0) same ∙ get_or-take 32 y 10 0 (omega arith)) in
    let low : get_or x 11 0 ≡ get_or y 11 0 =
    sym (get_or-take 32 x 11 0 (omega arith)) ∙ (ap (λ (l : List ℕ). get_or l 11 0) same ∙ get_or-take 32 y 11 0 (omega arith)) in
    omega (arith, high, low)

pub head_alike : (kind : Kind) (x y : List ℕ) → 32 ≤ length x → 32 ≤ length y → part 0 32 x ≡ part 0 32 y → HasFirstHead kind x → HasFirstHead kind y
head_alike kind x y room wide same head n =
    take-splice 10 32 (bytes_of 2 n) y (omega (arith, length-bytes_of 2 n)) wide
    ∙ (ap (splice 10 (bytes_of 2 n)) (sym same) ∙ (sym (take-splice 10 32 (bytes_of 2 n) x (omega (arith, length-bytes_of 2 n)) room) ∙ head n))

-- ---- version 2

number_bytes : (kind : Kind) (n : ℕ) → part 10 2 (header (layout kind Two) n) ≡ bytes_of 2 n
unfolding header bytes_of
number_bytes Twin n = refl
number_bytes Log n = refl

module _ (x : List ℕ) where
  abbrev head_two : List ℕ
  head_two = part 0 32 (from_base Two x)

  number_two : (kind : Kind) (n : ℕ) → FewCells n → HasHeader (layout kind Two) n x → number_of (part 10 2 head_two) ≡ n
  number_two kind n few head =
      ap (λ (b : List ℕ). number_of (part 10 2 b)) head
      ∙ (ap number_of (number_bytes kind n) ∙ number_of-bytes_of-lt 2 n (let most = few.most in omega (arith, most)))

  kind_or_not : (kind : Kind) → Decided ((n : ℕ) × FewCells n × HasHeader (layout kind Two) n x)
  kind_or_not kind =
      let n : ℕ = number_of (part 10 2 head_two) in
      elim (cases_lt n 1) [
        | inl none ↦ inr (λ h. let some = h.1.some in omega (arith, none, some, number_two kind h.0 h.1 h.2))
        | inr some ↦ elim (cases_lt n 1025) [
          | inl most ↦ elim (bytes_same head_two (header (layout kind Two) n)) [
            | inl head ↦ inl (n, record { some = some; most = omega (arith, most) }, head)
            | inr other ↦ inr (λ h. other (subst (λ (k : ℕ). HasHeader (layout kind Two) k x) (sym (number_two kind h.0 h.1 h.2)) h.2))
          ]
          | inr more ↦ inr (λ h. let most = h.1.most in omega (arith, more, most, number_two kind h.0 h.1 h.2))
        ]
      ]

  abbrev Counts : Kind → Type 0
  Counts kind = (n : ℕ) × FewCells n × HasHeader (layout kind Two) n x

  neither_kind : ¬ Counts Twin → ¬ Counts Log → ¬ HasVersionTwo x
  neither_kind twin log (Twin, n, few, head) = twin (n, few, head)
  neither_kind twin log (Log, n, few, head) = log (n, few, head)

  two_or_not : Decided (HasVersionTwo x)
  two_or_not = elim (kind_or_not Twin) [
    | inl (n, few, head) ↦ inl (Twin, n, few, head)
    | inr twin ↦ elim (kind_or_not Log) [ inl (n, few, head) ↦ inl (Log, n, few, head) | inr log ↦ inr (neither_kind twin log) ]
  ]

  -- ---- either

  neither_first : ¬ HasFirstHead Twin x → ¬ HasFirstHead Log x → (kind : Kind) → ¬ HasFirstHead kind x
  neither_first twin log Twin = twin
  neither_first twin log Log = log

  pub one_stands : 32 ≤ length x → (there : Option StoreHeader) × HeaderStands x there
  one_stands room = elim two_or_not [
    | inl (kind, n, few, head) ↦ (Some (store_header kind Two n), in_second kind n few head)
    | inr none ↦ elim (first_or_not Twin x room) [
      | inl head ↦ (Some (store_header Twin One (cells_counted x)), in_first Twin none head)
      | inr twin ↦ elim (first_or_not Log x room) [
        | inl head ↦ (Some (store_header Log One (cells_counted x)), in_first Log none head)
        | inr log ↦ (None, none_stands none (neither_first twin log))
      ]
    ]
  ]

  pub stands_one : (one other : Option StoreHeader) → HeaderStands x one → HeaderStands x other → one ≡ other
  stands_one _ _ (in_second kind n few head) (in_second that m less also) =
      let same : header (layout kind Two) n ≡ header (layout that Two) m = sym head ∙ also in
      let kinds : kind ≡ that = header-kind (layout kind Two) (layout that Two) n m same in
      let numbers : n ≡ m =
      header-number (layout kind Two) (layout that Two) n m (let most = few.most in omega (arith, most)) (let most = less.most in omega (arith, most)) same in
      ap (λ (k : Kind). Some (store_header k Two n)) kinds ∙ ap (λ (k : ℕ). Some (store_header that Two k)) numbers
  stands_one _ _ (in_second kind n few head) (in_first that none first) = absurd (none (kind, n, few, head))
  stands_one _ _ (in_second kind n few head) (none_stands none neither) = absurd (none (kind, n, few, head))
  stands_one _ _ (in_first kind none first) (in_second that n few head) = absurd (none (that, n, few, head))
  stands_one _ _ (in_first kind none first) (in_first that _ also) =
      ap (λ (k : Kind). Some (store_header k One (cells_counted x))) (one_kind kind that x first also)
  stands_one _ _ (in_first kind none first) (none_stands _ neither) = absurd (neither kind first)
  stands_one _ _ (none_stands none neither) (in_second that n few head) = absurd (none (that, n, few, head))
  stands_one _ _ (none_stands none neither) (in_first that _ first) = absurd (neither that first)
  stands_one _ _ (none_stands none neither) (none_stands _ _) = refl

  -- where a twin store of version 1 stands and none of version 2, that is the one
  pub first_twin_stands : ¬ HasVersionTwo x → HasFirstHead Twin x → HeaderStands x (Some (store_header Twin One (cells_counted x)))
  first_twin_stands none head = in_first Twin none head

  -- a twin store of version 1 is the one that stands
  pub is_first_twin : (there : StoreHeader) → there.layout ≡ twin_layout One → HeaderStands x (Some there) → (¬ HasVersionTwo x) × HasFirstHead Twin x
  is_first_twin _ is (in_second kind n few head) = absurd (two_not_one (ap (λ (l : Layout). l.version) is))
  is_first_twin _ is (in_first Twin none head) = (none, head)
  is_first_twin _ is (in_first Log none head) = absurd (log_not_twin (ap (λ (l : Layout). l.kind) is))

-- ---- by the first bytes, if none of version 2 stands

-- what begins as 32 bytes do has as many
wide_as : (x front : List ℕ) → 32 ≤ length front → part 0 32 x ≡ part 0 32 front → 32 ≤ length x
wide_as x front room same =
    let a = length-take 32 x in
    let b = length-take 32 front in
    let e : length (take 32 x) ≡ length (take 32 front) = ap length same in omega (arith, a, b, e, room)

pub stands_beside : (x front : List ℕ) (there : Option StoreHeader) → 32 ≤ length front → part 0 32 x ≡ part 0 32 front → ¬ HasVersionTwo x
    → MatchOption there ((kind : Kind) → ¬ HasFirstHead kind front)
    (λ header. (kind : Kind) × HasFirstHead kind front × (header ≡ store_header kind One (cells_counted front)))
    → HeaderStands x there
stands_beside x front None room same version neither =
    none_stands version (λ kind head. neither kind (head_alike kind x front (wide_as x front room same) room same head))
stands_beside x front (Some header) room same version (kind, head, is) =
    let e : store_header kind One (cells_counted x) ≡ header =
    ap (λ (n : ℕ). store_header kind One n) (counted_alike x front same) ∙ sym is in
    subst (λ (h : StoreHeader). HeaderStands x (Some h)) e
    (in_first kind version (head_alike kind front x room (wide_as x front room same) (sym same) head))
