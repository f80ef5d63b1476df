-- What a probe of 32 bytes says of a header, and what a look finds
use Rattle.std.proofs.Common.{◌≡◌, ℕ, ◌+◌, ◌<◌, List, length, drop, replicate, refl, sym, ap, subst, ◌∙◌, inl, inr, arith, true≢false}
use Rattle.std.specs.Prelude.{◌⊎◌}
use Rattle.std.proofs.lemmas.Bool.{cases_Bool}
use Rattle.std.proofs.lemmas.Slice.Eq.{bytes_eq-Decides}
use Rattle.std.specs.Str.{bytes_eq}
use Rattle.std.proofs.lemmas.List.{length-take, length-drop, length-replicate}
use Rattle.cell_store.specs.declared.kinds.Kind.{Kind}
use Rattle.cell_store.specs.declared.kinds.Version.{Version}
use Rattle.cell_store.specs.declared.kinds.Version.TheVariants.{One, Two}
use Rattle.cell_store.specs.declared.kinds.Probe.{Probe}
use Rattle.cell_store.specs.declared.kinds.Probe.TheVariants as probe
use Rattle.cell_store.specs.Layout.{layout, header, part, base, from_base}
use Rattle.cell_store.proofs.CallerLemmas.{length-header, header-number, header-kind, header-not_blank}
use Rattle.cell_store.specs.Store.{FewCells, Probes, HasHeader}
use Rattle.any_cells.specs.declared.looking.Found.{Found}
use Rattle.any_cells.specs.declared.looking.Found.TheVariants as found
use Rattle.any_cells.specs.Looking.{IsBlank, FoundWhere, IsFound}

-- a probe finds a store exactly if its header stands
pub stands-probe : (version : Version) (kind : Kind) (n : ℕ) (head : List ℕ) (p : Probe) → FewCells n → Probes version head p
    → head ≡ header (layout kind version) n → p ≡ probe.Store kind n
stands-probe version kind n head probe.Blank few found is = absurd (header-not_blank (layout kind version) n (sym is ∙ found))
stands-probe version kind n head probe.Foreign few found is = absurd (found.1 kind n few is)
stands-probe version kind n head (probe.Store other m) few found is =
    let same : header (layout other version) m ≡ header (layout kind version) n = sym found.1 ∙ is in
    let number : m ≡ n = header-number (layout other version) (layout kind version) m n (omega (arith, found.0.most)) (omega (arith, few.most)) same in
    let sort : other ≡ kind = header-kind (layout other version) (layout kind version) m n same in
    ap (λ (k : Kind). probe.Store k m) sort ∙ ap (λ (k : ℕ). probe.Store kind k) number

pub probe-stands : (version : Version) (kind : Kind) (n : ℕ) (head : List ℕ) (p : Probe) → Probes version head p → p ≡ probe.Store kind n
    → head ≡ header (layout kind version) n
probe-stands version kind n head p found is = (subst (Probes version head) is found).1

-- and none exactly if all bytes are zero
pub blank-probe : (version : Version) (head : List ℕ) (p : Probe) → Probes version head p → head ≡ replicate 32 0 → p ≡ probe.Blank
blank-probe version head probe.Blank found is = refl
blank-probe version head probe.Foreign found is = absurd (found.0 is)
blank-probe version head (probe.Store kind n) found is = absurd (header-not_blank (layout kind version) n (sym found.1 ∙ is))

pub probe-blank : (version : Version) (head : List ℕ) (p : Probe) → Probes version head p → p ≡ probe.Blank → head ≡ replicate 32 0
probe-blank version head p found is = subst (Probes version head) is found

-- no header, if no store was found; and bytes that aren't all zero
pub no-header : (version : Version) (kind : Kind) (n : ℕ) (head : List ℕ) (p : Probe) → FewCells n → Probes version head p
    → (p ≡ probe.Store kind n → ⊥) → head ≡ header (layout kind version) n → ⊥
no-header version kind n head p few found other is = other (stands-probe version kind n head p few found is)

pub not-blank : (version : Version) (head : List ℕ) (p : Probe) → Probes version head p → (p ≡ probe.Blank → ⊥) → head ≡ replicate 32 0 → ⊥
not-blank version head p found other is = other (blank-probe version head p found is)

-- if a list ends within the 32 bytes after the base, no header stands there, and no 32 zeros
pub ends-within : (version : Version) (x : List ℕ) → length x < base version + 32 → length (part 0 32 (from_base version x)) < 32
ends-within version x short =
    omega (arith, length-take 32 (drop (base version) x), length-drop (base version) x, short)

pub short-probe : (version : Version) (x : List ℕ) → length x < base version + 32 → Probes version (part 0 32 (from_base version x)) probe.Foreign
short-probe version x short =
    let less = ends-within version x short in (
      λ blank. absurd (let no : ⊥ = omega (arith, less, ap (λ (l : List ℕ). length l) blank, length-replicate {A = ℕ} 32 0) in no),
      λ kind n few head. absurd (let no : ⊥ = omega (arith, less, ap (λ (l : List ℕ). length l) head, length-header (layout kind version) n) in no),
    )

-- ---- one thing is found

abbrev pub Once : (Found → Type 0) → Type 0
Once P = (found : Found) × P found × ((other : Found) → P other → other ≡ found)

-- a test of two lists decides whether the row applies
once-where : (applies : Type 0) (decided : applies ⊎ (applies → ⊥)) (this : Found) (rest : Found → Type 0) → Once rest → Once (FoundWhere applies this rest)
once-where applies (inl here) this rest more = (
  this,
  inl (here, refl),
  λ other found. elim found [
    | inl same ↦ same.1
    | inr none ↦ absurd (none.0 here)
  ],
)
once-where applies (inr elsewhere) this rest more = (
  more.0,
  inr (elsewhere, more.1),
  λ other found. elim found [
    | inl same ↦ absurd (elsewhere same.0)
    | inr none ↦ more.2 other none.1
  ],
)

once-else : (this : Found) → Once (λ found. found ≡ this)
once-else this = (this, refl, λ other same. same)

same-list : (xs ys : List ℕ) → (xs ≡ ys) ⊎ (xs ≡ ys → ⊥)
same-list xs ys =
    let decides = bytes_eq-Decides xs ys in
    elim (cases_Bool (bytes_eq xs ys)) [
      | inl equal ↦ inl (decides.0 equal)
      | inr other ↦ inr (λ e. true≢false (sym (decides.1 e) ∙ other))
    ]

both-lists : (xs ys us vs : List ℕ) → ((xs ≡ ys) × (us ≡ vs)) ⊎ ((xs ≡ ys) × (us ≡ vs) → ⊥)
both-lists xs ys us vs = elim (same-list xs ys) [
  | inl one ↦ elim (same-list us vs) [
    | inl two ↦ inl (one, two)
    | inr other ↦ inr (λ both. other both.1)
  ]
  | inr other ↦ inr (λ both. other both.0)
]

pub found-once : (kind : Kind) (version : Version) (n : ℕ) (x : List ℕ) → Once (IsFound kind version n x)
found-once kind One n x =
    once-where (HasHeader (layout kind Two) n x) (same-list _ _) found.Foreign _
    (once-where (IsBlank One x) (same-list _ _) found.Blank _
    (once-where (HasHeader (layout kind One) n x) (same-list _ _) found.Standing _
    (once-else found.Foreign)))
found-once kind Two n x =
    once-where (HasHeader (layout kind Two) n x) (same-list _ _) found.Standing _
    (once-where (HasHeader (layout kind One) n x) (same-list _ _) found.Older _
    (once-where (IsBlank One x × IsBlank Two x) (both-lists _ _ _ _) found.Blank _
    (once-else found.Foreign)))
