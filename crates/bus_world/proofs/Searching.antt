-- Searches among linked records
use Rattle.std.specs.Prelude.{◌≡◌, ◌≢◌, ℕ, ◌<◌, ◌≤◌, ◌⊎◌, ◌&&◌, ◌==◌, bytes_eq, Bool, true, false, Option, None, Some, List, [], length, get_or, map, find, option_map}
use Rattle.std.specs.List.Sorted.{IsPartitionedBy}
use Rattle.std.proofs.Common.{refl, sym, ap, ◌∙◌, arith, subst, inl, inr}
use Rattle.std.proofs.Math.Dec.{ltb}
use Rattle.std.proofs.Math.Nat.{eq-or-lt_of_le}
use Rattle.std.proofs.lemmas.Bool.{cases_lt, ltb-true, lt-ltb}
use Rattle.std.proofs.lemmas.Bool.Decides.{eqb_tells}
use Rattle.std.proofs.lemmas.List.{get_or_default}
use Rattle.bus_machine.specs.Bus.{SentLine}
use Rattle.secured_pdu.specs.Verdict.{payload_of}
use Rattle.bus_world.specs.declared.records.Record.{Record}
use Rattle.bus_world.specs.declared.records.Links.{Links}
use Rattle.bus_world.specs.History.{line_of, has_values, frame_in}
use Rattle.bus_world.specs.Records.{SameID, IsLatest, Linked, RisesByID, RisesByNumber, IsNumbered, NoneNumbered, HasAt, NotFound, BelowNext, UpTo}
use Rattle.bus_world.proofs.Finding.{find_line, find_no_line}

-- a record, for the default of a read
abbrev pub no_record : Record
no_record = record { number = 0; id = 0; freshness = 0; pdu = []; links = None }

-- what was read at a place stands there, whatever the default
pub at_place : (records : List Record) (place : ℕ) (r d : Record) → place < length records → r ≡ get_or records place r → get_or records place d ≡ r
at_place records place r d inside is = get_or_default records place d r inside ∙ sym is

lt_or_gt : (k i : ℕ) → k ≢ i → (k < i) ⊎ (i < k)
lt_or_gt k i h = elim (cases_lt k i) [ inl lt ↦ inl lt | inr le ↦ inr (omega (arith, h)) ]

-- ---- by Data ID and freshness

-- a further record that isn't before the freshness: between it and the place each of the Data ID has a greater one
pub far_below : (records : List Record) (place v far : ℕ) → RisesByID records → place < length records → far < place → SameID records far place
    → ((d : Record) → v ≤ (get_or records far d).freshness) → BelowNext records place v (Some far)
far_below records place v far rises inside before same above = (
  before,
  same,
  λ k d after less own is.
      omega (arith, rises far k d after (omega arith) (same d ∙ sym own), above d, is),
)

pub far_link : (records : List Record) (place v : ℕ) (r x : Record) (links : Links) → Linked records → RisesByID records → place < length records
    → r ≡ get_or records place r → (get_or records place r).links ≡ Some links
    → x ≡ get_or records links.far x → v ≤ (get_or records links.far x).freshness → BelowNext records place v (Some links.far)
far_link records place v r x links linked rises inside at is far_at above =
    let far = (linked place r inside).far links is in
    far_below records place v links.far rises inside far.0
    (λ d. far.1 d ∙ ap (λ y. y.id) (get_or_default records place r d inside))
    (λ d. omega (arith, above, ap (λ y. y.freshness) (get_or_default records links.far d x (omega (arith, far.0, inside)))))

pub up_to_latest : (records : List Record) (id v : ℕ) (latest : Option ℕ) → IsLatest records id (length records) latest → UpTo records id v latest
up_to_latest records id v None none = λ k fits has. none k no_record (omega arith) fits (has no_record).0
up_to_latest records id v (Some j) last = (
  last.0,
  last.1,
  λ k fits has. elim (cases_lt j k) [
    | inl after ↦ absurd (last.2 k no_record after fits (has no_record).0)
    | inr within ↦ within
  ],
)

-- a record whose freshness is below is the last that could be it
pub none_up_to : (records : List Record) (id v place : ℕ) (r : Record) → RisesByID records → UpTo records id v (Some place)
    → r ≡ get_or records place r → r.freshness < v → NotFound records id v
none_up_to records id v place r rises up at below = λ k fits has.
    elim (eq-or-lt_of_le (up.2 k fits has)) [
      | inl same ↦ omega (arith, below, ap (λ y. y.freshness) at, (subst (λ i. HasAt records id v i) same has r).1)
      | inr less ↦ omega (arith, below, ap (λ y. y.freshness) at, rises k place r less up.0 ((has r).0 ∙ sym (up.1 r)), (has r).1)
    ]

pub up_to_next : (records : List Record) (id v place : ℕ) (r : Record) (next : Option ℕ) → UpTo records id v (Some place)
    → r ≡ get_or records place r → r.freshness ≢ v → BelowNext records place v next → UpTo records id v next
up_to_next records id v place r None up at other below = λ k fits has.
    elim (eq-or-lt_of_le (up.2 k fits has)) [
      | inl same ↦ other (ap (λ y. y.freshness) at ∙ (subst (λ i. HasAt records id v i) same has r).1)
      | inr less ↦ below k r less ((has r).0 ∙ sym (up.1 r)) (has r).1
    ]
up_to_next records id v place r (Some next) up at other below = (
  omega (arith, below.0, up.0),
  (λ d. below.1 d ∙ up.1 d),
  λ k fits has.
      elim (cases_lt next k) [
        | inl after ↦ elim (eq-or-lt_of_le (up.2 k fits has)) [
          | inl same ↦ absurd (other (ap (λ y. y.freshness) at ∙ (subst (λ i. HasAt records id v i) same has r).1))
          | inr less ↦ absurd (below.2 k r after less ((has r).0 ∙ sym (up.1 r)) (has r).1)
        ]
        | inr within ↦ within
      ],
)

-- ---- the test of a line

and_false : (a b : Bool) → b ≡ false → (a && b) ≡ false
and_false true b e = e
and_false false b e = refl

and_true : (a : Bool) → (a && true) ≡ a
and_true true = refl
and_true false = refl

eqb_same : {m n : ℕ} → m ≡ n → (m == n) ≡ true
eqb_same {m} {n} is = elim (eqb_tells m n) [ inl same ↦ same.0 | inr other ↦ absurd (other.1 is) ]

eqb_other : {m n : ℕ} → m ≢ n → (m == n) ≡ false
eqb_other {m} {n} other = elim (eqb_tells m n) [ inl same ↦ absurd (other same.1) | inr not_same ↦ not_same.0 ]

pub no_values : (s : SentLine) (id v : ℕ) (payload : List ℕ) → (s.id ≡ id → s.freshness ≡ v → ⊥) → has_values id payload v s ≡ false
no_values s id v payload none =
    elim (eqb_tells s.freshness v) [
      | inr other ↦ and_false ((s.id == id) && bytes_eq s.payload payload) (s.freshness == v) other.0
      | inl is ↦ elim (eqb_tells s.id id) [
        | inl same ↦ absurd (none same.1 is.1)
        | inr other ↦ ap (λ b. (b && bytes_eq s.payload payload) && (s.freshness == v)) other.0
      ]
    ]

-- the test of a line with the Data ID and the freshness is that of its payload
pub values_are : (s : SentLine) (id v : ℕ) (payload : List ℕ) (b : Bool) → s.id ≡ id → s.freshness ≡ v → bytes_eq s.payload payload ≡ b → has_values id payload v s ≡ b
values_are s id v payload b own is same =
    elim (eqb_tells s.freshness v) [
      | inr other ↦ absurd (other.1 is)
      | inl fresh ↦ elim (eqb_tells s.id id) [
        | inr other ↦ absurd (other.1 own)
        | inl named ↦ ap (λ c. (c && bytes_eq s.payload payload) && (s.freshness == v)) named.0
            ∙ ap (λ c. bytes_eq s.payload payload && c) fresh.0 ∙ and_true (bytes_eq s.payload payload) ∙ same
      ]
    ]

-- if freshness rises, the records at other places than the found one have other values
pub others_differ : (records : List Record) (place id v : ℕ) (payload : List ℕ) (r : Record) → RisesByID records → place < length records
    → r ≡ get_or records place r → r.id ≡ id → r.freshness ≡ v
    → (k : ℕ) (d : Record) → k < length records → k ≢ place → has_values id payload v (line_of (get_or records k d)) ≡ false
others_differ records place id v payload r rises inside at own is k d fits other =
    let here : get_or records place d ≡ r = at_place records place r d inside at in
    no_values (line_of (get_or records k d)) id v payload (λ same fresh.
    elim (lt_or_gt k place other) [
      | inl less ↦ omega (arith, rises k place d less inside (same ∙ sym (ap (λ y. y.id) here ∙ own)), ap (λ y. y.freshness) here, is, fresh)
      | inr more ↦ omega (arith, rises place k d more fits (ap (λ y. y.id) here ∙ own ∙ sym same), ap (λ y. y.freshness) here, is, fresh)
    ])

pub source_found : (records : List Record) (place id v : ℕ) (payload : List ℕ) (r : Record) → RisesByID records → place < length records
    → r ≡ get_or records place r → r.id ≡ id → r.freshness ≡ v → bytes_eq (payload_of r.pdu) payload ≡ true
    → find (has_values id payload v) (map line_of records) ≡ Some (line_of r)
source_found records place id v payload r rises inside at own is same =
    find_line (has_values id payload v) records place r inside at (values_are (line_of r) id v payload true own is same)
    (λ k d less. others_differ records place id v payload r rises inside at own is k d (omega arith) (λ e. omega (arith, e)))

pub source_lost : (records : List Record) (place id v : ℕ) (payload : List ℕ) (r : Record) → RisesByID records → place < length records
    → r ≡ get_or records place r → r.id ≡ id → r.freshness ≡ v → bytes_eq (payload_of r.pdu) payload ≡ false
    → find (has_values id payload v) (map line_of records) ≡ None
source_lost records place id v payload r rises inside at own is same =
    find_no_line (has_values id payload v) records
    (λ k d fits. elim (eqb_tells k place) [
      | inl here ↦ subst (λ y. has_values id payload v (line_of y) ≡ false) (sym (subst (λ i. get_or records i d ≡ r) (sym here.1) (at_place records place r d inside at)))
          (values_are (line_of r) id v payload false own is same)
      | inr other ↦ others_differ records place id v payload r rises inside at own is k d fits other.1
    ])

pub source_nowhere : (records : List Record) (id v : ℕ) (payload : List ℕ) → NotFound records id v
    → find (has_values id payload v) (map line_of records) ≡ None
source_nowhere records id v payload none =
    find_no_line (has_values id payload v) records
    (λ k d fits. no_values (line_of (get_or records k d)) id v payload (λ same fresh.
    none k fits (λ e. (ap (λ y. y.id) (get_or_default records k e d fits) ∙ same, ap (λ y. y.freshness) (get_or_default records k e d fits) ∙ fresh))))

-- ---- by number

-- the test of the search by number passes on a prefix of the list
pub parted_from : (records : List Record) (number : ℕ) → RisesByNumber records → IsPartitionedBy (λ (r : Record). ltb r.number number) records
parted_from records number rises i j d le fits passes =
    elim (eq-or-lt_of_le le) [
      | inl same ↦ subst (λ k. ltb (get_or records k d).number number ≡ true) (sym same) passes
      | inr less ↦ lt-ltb _ _ (omega (arith, rises i j d less fits, ltb-true _ _ passes))
    ]

-- the record at the place where numbers are no more below is another one
pub none_numbered : (records : List Record) (number place : ℕ) (r : Record) → RisesByNumber records
    → ((k : ℕ) (d : Record) → k < place → (get_or records k d).number < number) → (place < length records → (get_or records place r).number ≢ number)
    → ((d : Record) → place < length records → number ≤ (get_or records place d).number) → NoneNumbered records number
none_numbered records number place r rises below other above = λ k d fits is.
    elim (cases_lt k place) [
      | inl less ↦ omega (arith, below k d less, is)
      | inr from ↦ elim (eq-or-lt_of_le from) [
        | inl same ↦ other (omega (arith, same)) (ap (λ y. y.number) (get_or_default records place r d (omega (arith, same))) ∙ subst (λ i. (get_or records i d).number ≡ number) (sym same) is)
        | inr more ↦ omega (arith, rises place k d more fits, above d (omega arith), is)
      ]
    ]

pub frame_found : (records : List Record) (number place : ℕ) (r : Record) → RisesByNumber records → IsNumbered records number place → r ≡ get_or records place r
    → frame_in number (map line_of records) ≡ Some (record { id = r.id; pdu = r.pdu })
frame_found records number place r rises numbered at =
    ap (option_map (λ s. record { id = s.id; pdu = s.pdu }))
    (find_line (λ s. s.number == number) records place r numbered.0 at
    (eqb_same (ap (λ y. y.number) at ∙ numbered.1 r))
    (λ k d less. eqb_other (λ is. omega (arith, rises k place d less numbered.0, numbered.1 d, is))))

pub frame_nowhere : (records : List Record) (number : ℕ) → NoneNumbered records number → frame_in number (map line_of records) ≡ None
frame_nowhere records number none =
    ap (option_map (λ s. record { id = s.id; pdu = s.pdu }))
    (find_no_line (λ s. s.number == number) records (λ k d fits. eqb_other (none k d fits)))
