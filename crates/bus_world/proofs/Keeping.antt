-- How a new record is kept among the others
use Rattle.std.specs.Prelude.{◌≡◌, ◌≢◌, ℕ, ◌+◌, ◌^◌, ◌<◌, ◌≤◌, Bool, true, Option, None, Some, List, [], ◌∷◌, ◌++◌, length, get_or, set, replicate, option_map}
use Rattle.std.proofs.Common.{refl, sym, ap, ◌∙◌, arith, subst, inl, inr, length-append}
use Rattle.std.proofs.Math.Nat.{eq-or-lt_of_le}
use Rattle.std.proofs.Math.ListN.{length-set, length-replicate}
use Rattle.std.proofs.lemmas.Bool.{cases_lt}
use Rattle.std.proofs.lemmas.Bool.Decides.{eqb_tells}
use Rattle.std.proofs.lemmas.List.{get_or_append_left, get_or_push, get_or-set_same, get_or-set_other, get_or-replicate}
use Rattle.bus_world.specs.declared.records.Record.{Record}
use Rattle.bus_world.specs.declared.records.Links.{Links}
use Rattle.bus_world.specs.History.{WellKept}
use Rattle.bus_world.specs.Records.{IsLatest, LinkedAt, Linked, RisesByID, RisesByNumber, IsAbove}

-- what stands below a place of the list stands there with a further record
latest_behind : (records more : List Record) (id bound : ℕ) (o : Option ℕ) → bound ≤ length records → IsLatest records id bound o → IsLatest (records ++ more) id bound o
latest_behind records more id bound None le none = λ k d least fits same.
    none k d least fits (ap (λ y. y.id) (sym (get_or_append_left records more d k (omega arith))) ∙ same)
latest_behind records more id bound (Some j) le last = (
  last.0,
  (λ d. ap (λ y. y.id) (get_or_append_left records more d j (omega (arith, last.0))) ∙ last.1 d),
  λ k d after fits same.
      last.2 k d after fits (ap (λ y. y.id) (sym (get_or_append_left records more d k (omega arith))) ∙ same),
)

linked_behind : (records more : List Record) (place id : ℕ) (links : Option Links) → place ≤ length records → LinkedAt records place id links → LinkedAt (records ++ more) place id links
linked_behind records more place id links le linked = record {
  last = latest_behind records more id place (option_map (λ (l : Links). l.last) links) le linked.last;
  far = λ l is. let far = linked.far l is in (far.0, λ d. ap (λ y. y.id) (get_or_append_left records more d l.far (omega (arith, far.0))) ∙ far.1 d);
}

pub linked_more : (records : List Record) (r : Record) → Linked records → LinkedAt records (length records) r.id r.links → Linked (records ++ r ∷ [])
linked_more records r linked new i d fits =
    elim (cases_lt i (length records)) [
      | inl inside ↦ subst (λ x. LinkedAt (records ++ r ∷ []) i x.id x.links) (sym (get_or_append_left records (r ∷ []) d i inside))
          (linked_behind records (r ∷ []) i (get_or records i d).id (get_or records i d).links (omega arith) (linked i d inside))
      | inr past ↦ let last : i ≡ length records = omega (arith, length-append records (r ∷ [])) in
          subst (λ x. LinkedAt (records ++ r ∷ []) i x.id x.links) (sym (get_or_push records r d i (sym last)))
          (subst (λ k. LinkedAt (records ++ r ∷ []) k r.id r.links) (sym last) (linked_behind records (r ∷ []) (length records) r.id r.links (omega arith) new))
    ]

-- the latest record of each Data ID, with a further record
latest_own : (records : List Record) (r : Record) → IsLatest (records ++ r ∷ []) r.id (length records + 1) (Some (length records))
latest_own records r =
    (omega arith, (λ d. ap (λ y. y.id) (get_or_push records r d (length records) refl)), λ k d after fits same. omega (arith, after, fits))

latest_other : (records : List Record) (r : Record) (id : ℕ) (o : Option ℕ) → r.id ≢ id → IsLatest records id (length records) o → IsLatest (records ++ r ∷ []) id (length records + 1) o
latest_other records r id None other none = λ k d least fits same.
    elim (cases_lt k (length records)) [
      | inl inside ↦ latest_behind records (r ∷ []) id (length records) None (omega arith) none k d least inside same
      | inr past ↦ other (sym (ap (λ y. y.id) (get_or_push records r d k (omega arith))) ∙ same)
    ]
latest_other records r id (Some j) other last =
    let kept = latest_behind records (r ∷ []) id (length records) (Some j) (omega arith) last in (
      omega (arith, last.0),
      kept.1,
      λ k d after fits same.
          elim (cases_lt k (length records)) [
            | inl inside ↦ kept.2 k d after inside same
            | inr past ↦ other (sym (ap (λ y. y.id) (get_or_push records r d k (omega arith))) ∙ same)
          ],
    )

pub heads_more : (records : List Record) (r : Record) (latest : List (Option ℕ)) → length latest ≡ 65536
    → ((id : ℕ) (d : Option ℕ) → id < 65536 → IsLatest records id (length records) (get_or latest id d))
    → (id : ℕ) (d : Option ℕ) → id < 65536 → IsLatest (records ++ r ∷ []) id (length (records ++ r ∷ [])) (get_or (set latest r.id (Some (length records))) id d)
heads_more records r latest ids heads id d fits =
    subst (λ n. IsLatest (records ++ r ∷ []) id n (get_or (set latest r.id (Some (length records))) id d)) (sym (length-append records (r ∷ [])))
    (elim (eqb_tells r.id id) [
      | inl same ↦ subst (λ k. IsLatest (records ++ r ∷ []) k (length records + 1) (get_or (set latest r.id (Some (length records))) k d)) same.1
          (subst (λ o. IsLatest (records ++ r ∷ []) r.id (length records + 1) o) (sym (get_or-set_same latest r.id (Some (length records)) d (omega (arith, same.1, ids)))) (latest_own records r))
      | inr other ↦ subst (λ o. IsLatest (records ++ r ∷ []) id (length records + 1) o) (sym (get_or-set_other latest r.id id (Some (length records)) d (λ e. other.1 (sym e))))
          (latest_other records r id (get_or latest id d) other.1 (heads id d fits))
    ])

-- ---- what rises

-- a relation that holds of each two records, the earlier first, holds so with a further one
pairs_more : (P : Record → Record → Type 0) (records : List Record) (r : Record)
    → ((i j : ℕ) (d : Record) → i < j → j < length records → P (get_or records i d) (get_or records j d))
    → ((i : ℕ) (d : Record) → i < length records → P (get_or records i d) r)
    → (i j : ℕ) (d : Record) → i < j → j < length (records ++ r ∷ []) → P (get_or (records ++ r ∷ []) i d) (get_or (records ++ r ∷ []) j d)
pairs_more P records r before new i j d less fits =
    let within : j ≤ length records = omega (arith, length-append records (r ∷ [])) in
    subst (λ x. P x (get_or (records ++ r ∷ []) j d)) (sym (get_or_append_left records (r ∷ []) d i (omega arith)))
    (elim (cases_lt j (length records)) [
      | inl inside ↦ subst (λ y. P (get_or records i d) y) (sym (get_or_append_left records (r ∷ []) d j inside)) (before i j d less inside)
      | inr past ↦ subst (λ y. P (get_or records i d) y) (sym (get_or_push records r d j (omega arith))) (new i d (omega arith))
    ])

abbrev NumberRises : Record → Record → Type 0
NumberRises a b = a.number < b.number

abbrev FreshnessRises : Record → Record → Type 0
FreshnessRises a b = a.id ≡ b.id → a.freshness < b.freshness

pub numbered_more : (records : List Record) (r : Record) → RisesByNumber records → ((i : ℕ) (d : Record) → i < length records → (get_or records i d).number < r.number) → RisesByNumber (records ++ r ∷ [])
numbered_more records r rises below = pairs_more NumberRises records r rises below

-- the new freshness is above that of the latest record of its Data ID, so it is above all of them
above_all : (records : List Record) (id v : ℕ) (o : Option ℕ) → RisesByID records → IsLatest records id (length records) o → IsAbove records v o
    → (i : ℕ) (d : Record) → i < length records → (get_or records i d).id ≡ id → (get_or records i d).freshness < v
above_all records id v None rises none above i d fits same = absurd (none i d (omega arith) fits same)
above_all records id v (Some j) rises last above i d fits same =
    elim (cases_lt j i) [
      | inl after ↦ absurd (last.2 i d after fits same)
      | inr within ↦ elim (eq-or-lt_of_le within) [
        | inl here ↦ subst (λ k. (get_or records k d).freshness < v) (sym here) (above d)
        | inr less ↦ omega (arith, rises i j d less last.0 (same ∙ sym (last.1 d)), above d)
      ]
    ]

pub rises_more : (records : List Record) (r : Record) (o : Option ℕ) → RisesByID records → IsLatest records r.id (length records) o → IsAbove records r.freshness o → RisesByID (records ++ r ∷ [])
rises_more records r o rises last above = pairs_more FreshnessRises records r rises (λ i d fits same. above_all records r.id r.freshness o rises last above i d fits same)

-- ---- all of it

length_blank : (n : ℕ) (o : Option ℕ) → length (replicate n o) ≡ n
length_blank n o = length-replicate n o

pub well_kept_new : (most room : ℕ) (records : List Record) (latest : List (Option ℕ)) → most < 2 ^ 32 → most ≤ room → records ≡ [] → latest ≡ replicate 65536 None
    → WellKept 0 most room records latest true
well_kept_new most room records latest fits reserved none blank =
    let empty : length records ≡ 0 = ap length none in
    record {
      within = omega arith;
      reserved = reserved;
      few = omega (arith, empty);
      fits = fits;
      numbered = λ i j d less inside. omega (arith, empty, inside);
      numbers = λ i d inside. omega (arith, empty, inside);
      ids = ap length blank ∙ length_blank 65536 None;
      heads = λ id d small. subst (λ o. IsLatest records id (length records) o) (sym (ap (λ xs. get_or xs id d) blank ∙ get_or-replicate 65536 id None d small)) (λ k e least inside same. omega (arith, empty, inside));
      linked = λ i d inside. absurd (omega (arith, empty, inside));
      bounded = λ i d inside. absurd (omega (arith, empty, inside));
      rises = λ _ i j d less inside same. omega (arith, empty, inside);
    }

pub well_kept_more : (events most room room' : ℕ) (records : List Record) (latest : List (Option ℕ)) (rising rising' : Bool) (o : Option ℕ) (r : Record)
    → WellKept events most room records latest rising → events < most → most ≤ room' → r.number ≡ events + 1 → r.id < 65536 → r.freshness < 2 ^ 64
    → IsLatest records r.id (length records) o → LinkedAt records (length records) r.id r.links
    → (rising' ≡ true → (rising ≡ true) × IsAbove records r.freshness o)
    → WellKept (events + 1) most room' (records ++ r ∷ []) (set latest r.id (Some (length records))) rising'
well_kept_more events most room room' records latest rising rising' o r kept less reserved number small fits last links rises =
    let longer = length-append records (r ∷ []) in
    record {
      within = omega arith;
      reserved = reserved;
      few = omega (arith, longer, kept.few);
      fits = kept.fits;
      numbered = numbered_more records r kept.numbered (λ i d inside. omega (arith, kept.numbers i d inside, number));
      numbers = λ i d inside. elim (cases_lt i (length records)) [
        | inl earlier ↦ omega (arith, kept.numbers i d earlier, ap (λ y. y.number) (get_or_append_left records (r ∷ []) d i earlier))
        | inr past ↦ omega (arith, number, ap (λ y. y.number) (get_or_push records r d i (omega (arith, longer))))
      ];
      ids = length-set latest r.id (Some (length records)) ∙ kept.ids;
      heads = heads_more records r latest kept.ids kept.heads;
      linked = linked_more records r kept.linked links;
      bounded = λ i d inside. elim (cases_lt i (length records)) [
        | inl earlier ↦ subst (λ y. y.freshness < 2 ^ 64) (sym (get_or_append_left records (r ∷ []) d i earlier)) (kept.bounded i d earlier)
        | inr past ↦ subst (λ y. y.freshness < 2 ^ 64) (sym (get_or_push records r d i (omega (arith, longer, inside)))) fits
      ];
      rises = λ h. rises_more records r o (kept.rises (rises h).0) last (rises h).1;
    }
