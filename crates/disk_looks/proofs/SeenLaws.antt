-- What a look at a whole disk sees
use Rattle.std.specs.Prelude.{◌≡◌, ◌↔◌, ℕ, ◌+◌, ◌-◌, ◌≤◌, min, Bool, true, false, IsTrue, Option, Some, None, List, [], length, replicate, get_or, take}
use Rattle.std.proofs.Common.{refl, sym, ap, ◌∙◌, subst, arith, inl, inr}
use Rattle.std.proofs.lemmas.Bool.{cases_lt, false≢true}
use Rattle.std.proofs.lemmas.List.{take_all, get_or-take, get_or-drop, get_or-replicate, length-replicate, length-append, length-take, length-drop}
use Rattle.std.proofs.Math.ListN.{get_or-eq_default}
use Rattle.basics.specs.Numbers.{bytes_of}
use Rattle.basics.proofs.CallerLemmas.{length-bytes_of}
use Rattle.cut_disk.specs.State.{DiskState, Told}
use Rattle.cut_disk.specs.Calls.{Rose, Runs, IsDisk, AsBefore}
use Rattle.cut_disk.specs.Images.{splice, ReadsAs}
use Rattle.cut_disk.proofs.CallerLemmas.{runs_more, runs_join, get_or-splice_before}
use Rattle.cell_store.specs.declared.kinds.Kind.{Kind}
use Rattle.cell_store.specs.declared.kinds.Kind.TheVariants.{Twin, Log}
use Rattle.cell_store.specs.declared.kinds.Version.{Version}
use Rattle.cell_store.specs.declared.kinds.Version.TheVariants.{One, Two}
use Rattle.cell_store.specs.declared.kinds.Layout.{Layout}
use Rattle.cell_store.specs.Layout.{layout, header, base, from_base}
use Rattle.cell_store.specs.Store.{HasHeader}
use Rattle.cell_store.proofs.CallerLemmas.{length-header}
use Rattle.store_plan.specs.Growing.{with_number}
use Rattle.store_growing.specs.declared.headers.StoreHeader.{StoreHeader}
use Rattle.store_growing.specs.StoreHeaders.{HasFirstHead, HeaderStands, store_header, in_second, in_first}
use Rattle.store_growing.proofs.CallerLemmas.{Decided, bytes_same, one_stands, stands_one}
use Rattle.disk_looks.specs.declared.looks.Seen.{Seen}
use Rattle.disk_looks.specs.declared.looks.Seen.TheVariants.{Unused, Standing, Older, Other, Neither}
use Rattle.disk_looks.specs.declared.looks.LookFault.{LookFault}
use Rattle.disk_looks.specs.declared.looks.LookFault.TheVariants.{DiskFailed, Memory}
use Rattle.disk_looks.specs.Looks.{AllZeros, IsWanted, LooksAs, seen_unused, seen_standing, seen_older, seen_other, seen_neither, FailsLook, LookCause}

-- ---- calls

-- a look at the headers alone
pub headers_only : (before after : DiskState) → Runs [] 2 before after → after.told ≡ before.told → after.faults ≡ before.faults → AsBefore 3 before after
headers_only before after runs told faults = record { runs = runs_more 3 (omega arith) runs; told = told; faults = faults }

pub headers_failed : (before after : DiskState) → Runs [] 2 before after → after.told ≡ before.told → Rose before.faults after.faults → FailsLook 3 before after DiskFailed
headers_failed before after runs told rose = record { runs = runs_more 3 (omega arith) runs; told = told; cause = rose }

-- and then at all bytes
pub then_bytes : (before mid after : DiskState) → Runs [] 2 before mid → mid.told ≡ before.told → mid.faults ≡ before.faults → AsBefore 1 mid after → AsBefore 3 before after
then_bytes before mid after runs told faults one =
    record { runs = runs_join runs one.runs; told = one.told ∙ told; faults = one.faults ∙ faults }

cause_after : (before mid after : DiskState) (fault : LookFault) → mid.faults ≡ before.faults → LookCause mid after fault → LookCause before after fault
cause_after before mid after DiskFailed same rose = subst (λ (n : ℕ). Rose n after.faults) same rose
cause_after before mid after Memory same calm = calm ∙ same

pub then_failed : (before mid after : DiskState) (fault : LookFault) → Runs [] 2 before mid → mid.told ≡ before.told → mid.faults ≡ before.faults → FailsLook 1 mid after fault
    → FailsLook 3 before after fault
then_failed before mid after fault runs told faults one =
    record { runs = runs_join runs one.runs; told = one.told ∙ told; cause = cause_after before mid after fault faults one.cause }

-- ---- all bytes

-- one read of as many bytes as the disk has
whole_read : (disk : DiskState) (out : List ℕ) → IsDisk disk → length out ≡ disk.size → ReadsAs disk.told 0 out → (t : Told) → disk.told ≡ Some t → out ≡ t.bytes
whole_read disk out is sized reads t tells =
    let long : length t.bytes ≡ length out = is.bytes_sized t tells ∙ sym sized in
    let e : (0 + length out) - 0 ≡ length out = omega arith in
    reads t tells ∙ ap (λ (m : ℕ). take m t.bytes) e ∙ take_all (length out) t.bytes (omega (arith, long))

-- it is zeros exactly if they are
pub zeros_read : (disk : DiskState) (out : List ℕ) (size : ℕ) (says : Bool) → IsDisk disk → length out ≡ size → size ≡ disk.size → ReadsAs disk.told 0 out
    → IsTrue says ↔ (out ≡ replicate size 0) → (t : Told) → disk.told ≡ Some t → IsTrue says ↔ AllZeros t.bytes
zeros_read disk out size says is sized all reads equal t tells =
    let same = whole_read disk out is (sized ∙ all) reads t tells in
    let long : length t.bytes ≡ size = ap length (sym same) ∙ sized in (
      λ yes. sym same ∙ (equal.0 yes ∙ ap (λ (n : ℕ). replicate n 0) (sym long)),
      λ zeros. equal.1 (same ∙ (zeros ∙ ap (λ (n : ℕ). replicate n 0) long)),
    )

-- ---- the store that stands, and the one that is wanted

pub one_not_two : One ≡ Two → ⊥
one_not_two e = cc

wanted_kind : (kind : Kind) (version : Version) (n : ℕ) (there : StoreHeader) → IsWanted kind version n there → there.layout.kind ≡ kind
wanted_kind kind version n there (inl is) = ap (λ (h : StoreHeader). h.layout.kind) is
wanted_kind kind version n there (inr (two, is)) = ap (λ (h : StoreHeader). h.layout.kind) is

wanted_cells : (kind : Kind) (version : Version) (n : ℕ) (there : StoreHeader) → IsWanted kind version n there → there.cells ≡ n
wanted_cells kind version n there (inl is) = ap (λ (h : StoreHeader). h.cells) is
wanted_cells kind version n there (inr (two, is)) = ap (λ (h : StoreHeader). h.cells) is

-- a store of version 2 isn't wanted where one of version 1 is
newer_unwanted : (kind : Kind) (n : ℕ) (there : StoreHeader) → there.layout.version ≡ Two → ¬ IsWanted kind One n there
newer_unwanted kind n there two (inl is) = one_not_two (sym (ap (λ (h : StoreHeader). h.layout.version) is) ∙ two)
newer_unwanted kind n there two (inr (also, is)) = one_not_two also

header_is : (there : StoreHeader) (kind : Kind) (version : Version) (n : ℕ) → there.layout.kind ≡ kind → there.layout.version ≡ version → there.cells ≡ n
    → there ≡ store_header kind version n
header_is there kind version n kind_is version_is cells_is =
    ap (λ (k : Kind). store_header k there.layout.version there.cells) kind_is
    ∙ (ap (λ (v : Version). store_header kind v there.cells) version_is ∙ ap (λ (c : ℕ). store_header kind version c) cells_is)

-- ---- as the code has them

module _ (there : StoreHeader) (kind : Kind) (version : Version) (n : ℕ) where
  pub other_kind : (there.layout.kind ≡ kind → ⊥) → (x : List ℕ) → HeaderStands x (Some there) → LooksAs kind version n x (Other there)
  other_kind other x stands = seen_other there stands (λ wanted. other (wanted_kind kind version n there wanted))

  pub other_cells : (there.cells ≡ n → ⊥) → (x : List ℕ) → HeaderStands x (Some there) → LooksAs kind version n x (Other there)
  other_cells other x stands = seen_other there stands (λ wanted. other (wanted_cells kind version n there wanted))

  pub newer_other : there.layout.version ≡ Two → version ≡ One → (x : List ℕ) → HeaderStands x (Some there) → LooksAs kind version n x (Other there)
  newer_other two one x stands = seen_other there stands (subst (λ (v : Version). ¬ IsWanted kind v n there) (sym one) (newer_unwanted kind n there two))

  pub same_stands : there.layout.kind ≡ kind → there.layout.version ≡ version → there.cells ≡ n → (x : List ℕ) → HeaderStands x (Some there) → LooksAs kind version n x Standing
  same_stands kind_is version_is cells_is x stands =
      seen_standing (subst (λ (h : StoreHeader). HeaderStands x (Some h)) (header_is there kind version n kind_is version_is cells_is) stands)

  pub older_stands : there.layout.kind ≡ kind → there.layout.version ≡ One → version ≡ Two → there.cells ≡ n → (x : List ℕ) → HeaderStands x (Some there) → LooksAs kind version n x Older
  older_stands kind_is one two cells_is x stands =
      seen_older two (subst (λ (h : StoreHeader). HeaderStands x (Some h)) (header_is there kind One n kind_is one cells_is) stands)

-- ---- zeros have no header

zero_at : (size k : ℕ) → ◌≡◌ {A = ℕ} (get_or (replicate size 0) k 0) 0
zero_at size k = elim (cases_lt k size) [
  | inl inside ↦ get_or-replicate size k 0 0 inside
  | inr past ↦ get_or-eq_default {A = ℕ} (replicate size 0) 0 (let e = length-replicate {A = ℕ} size 0 in omega (arith, e, past))
]

zeros_at : (x : List ℕ) (k : ℕ) → AllZeros x → get_or x k 0 ≡ 0
zeros_at x k zeros = ap (λ (l : List ℕ). get_or l k 0) zeros ∙ zero_at (length x) k

-- a header begins with an S
header_begins : (laid : Layout) (n : ℕ) → get_or (header laid n) 0 0 ≡ 83
unfolding header
header_begins laid n = refl

head_begins : (laid : Layout) (n : ℕ) (x : List ℕ) → HasHeader laid n x → get_or x (base laid.version) 0 ≡ 83
head_begins laid n x head =
    let at : base laid.version + 0 ≡ base laid.version = omega arith in
    ap (λ (k : ℕ). get_or x k 0) (sym at)
    ∙ (sym (get_or-drop (base laid.version) x 0 0) ∙ (sym (get_or-take 32 (from_base laid.version x) 0 0 (omega arith))
    ∙ (ap (λ (l : List ℕ). get_or l 0 0) head ∙ header_begins laid n)))

pub zeros_headless : (laid : Layout) (n : ℕ) (x : List ℕ) → AllZeros x → HasHeader laid n x → ⊥
zeros_headless laid n x zeros head =
    omega (arith, zeros_at x (base laid.version) zeros, head_begins laid n x head)

number_kept : (x : List ℕ) → 32 ≤ length x → get_or (with_number 0 x) 0 0 ≡ get_or x 0 0
number_kept x room = get_or-splice_before 10 (bytes_of 2 0) x 0 0 (omega (arith, room, length-bytes_of 2 0)) (omega arith)

-- a header has 32 bytes, and so have bytes that have it with another number
number_size : (x : List ℕ) → length (with_number 0 x) ≡ min 10 (length x) + (2 + (length x - 12))
unfolding splice bytes_of
number_size x = simp (length-append, length-take, length-drop) (omega arith)

number_long : (x : List ℕ) → 32 ≤ length (with_number 0 x) → 32 ≤ length x
number_long x long = omega (arith, long, number_size x)

pub first_room : (kind : Kind) (x : List ℕ) → HasFirstHead kind x → 32 ≤ length x
first_room kind x heads =
    number_long x (omega (
      arith,
      length-take 32 (with_number 0 x),
      ap (λ (l : List ℕ). length l) (heads 0),
      length-header (layout kind One) 0,
    ))

-- such bytes begin as a header does
pub first_begins : (kind : Kind) (x : List ℕ) → HasFirstHead kind x → get_or x 0 0 ≡ 83
first_begins kind x heads =
    sym (number_kept x (first_room kind x heads)) ∙ head_begins (layout kind One) 0 (with_number 0 x) (heads 0)

pub zeros_first : (kind : Kind) (x : List ℕ) → AllZeros x → HasFirstHead kind x → ⊥
zeros_first kind x zeros heads = omega (arith, first_begins kind x heads, zeros_at x 0 zeros)

pub zeros_none : (x : List ℕ) (there : StoreHeader) → AllZeros x → HeaderStands x (Some there) → ⊥
zeros_none x _ zeros (in_second kind n few head) = zeros_headless (layout kind Two) n x zeros head
zeros_none x _ zeros (in_first kind none heads) = zeros_first kind x zeros heads

-- ---- one thing is seen

kind_same : (a b : Kind) → Decided (a ≡ b)
kind_same Twin Twin = inl refl
kind_same Log Log = inl refl
kind_same Twin Log = inr (λ e. let no : ⊥ = cc in no)
kind_same Log Twin = inr (λ e. let no : ⊥ = cc in no)

version_same : (a b : Version) → Decided (a ≡ b)
version_same One One = inl refl
version_same Two Two = inl refl
version_same One Two = inr (λ e. let no : ⊥ = cc in no)
version_same Two One = inr (λ e. let no : ⊥ = cc in no)

number_same : (a b : ℕ) → Decided (a ≡ b)
number_same a b = elim (cases_lt a b) [
  | inl less ↦ inr (λ e. omega (arith, e, less))
  | inr least ↦ elim (cases_lt b a) [
    | inl more ↦ inr (λ e. omega (arith, e, more))
    | inr most ↦ inl (omega (arith, least, most))
  ]
]

header_same : (there : StoreHeader) (kind : Kind) (version : Version) (n : ℕ) → Decided (there ≡ store_header kind version n)
header_same there kind version n = elim (kind_same there.layout.kind kind) [
  | inr other ↦ inr (λ e. other (ap (λ (h : StoreHeader). h.layout.kind) e))
  | inl kind_is ↦ elim (version_same there.layout.version version) [
    | inr other ↦ inr (λ e. other (ap (λ (h : StoreHeader). h.layout.version) e))
    | inl version_is ↦ elim (number_same there.cells n) [
      | inr other ↦ inr (λ e. other (ap (λ (h : StoreHeader). h.cells) e))
      | inl cells_is ↦ inl (header_is there kind version n kind_is version_is cells_is)
    ]
  ]
]

module _ (kind : Kind) (version : Version) (n : ℕ) (x : List ℕ) (room : 32 ≤ length x) where
  abbrev Sees : Type 0
  Sees = (seen : Seen) × LooksAs kind version n x seen

  sees_older : (there : StoreHeader) → HeaderStands x (Some there) → ¬ (there ≡ store_header kind version n) → Sees
  sees_older there stands other = elim (version_same version Two) [
    | inl two ↦ elim (header_same there kind One n) [
      | inl is ↦ (Older, seen_older two (subst (λ (h : StoreHeader). HeaderStands x (Some h)) is stands))
      | inr not ↦ (Other there, seen_other there stands (λ wanted. elim wanted [ inl this ↦ other this | inr older ↦ not older.1 ]))
    ]
    | inr one ↦ (Other there, seen_other there stands (λ wanted. elim wanted [ inl this ↦ other this | inr older ↦ one older.0 ]))
  ]

  sees_header : (there : StoreHeader) → HeaderStands x (Some there) → Sees
  sees_header there stands = elim (header_same there kind version n) [
    | inl is ↦ (Standing, seen_standing (subst (λ (h : StoreHeader). HeaderStands x (Some h)) is stands))
    | inr other ↦ sees_older there stands other
  ]

  sees : (there : Option StoreHeader) → HeaderStands x there → Sees
  sees (Some there) stands = sees_header there stands
  sees None stands = elim (bytes_same x (replicate (length x) 0)) [
    | inl zeros ↦ (Unused, seen_unused zeros)
    | inr other ↦ (Neither, seen_neither stands other)
  ]

  -- what stands, by what is seen
  one_header : (one other : StoreHeader) → HeaderStands x (Some one) → HeaderStands x (Some other) → one ≡ other
  one_header one other a b =
      let same : Some one ≡ Some other = stands_one x (Some one) (Some other) a b in cc

  none_or_one : (there : StoreHeader) → HeaderStands x None → HeaderStands x (Some there) → ⊥
  none_or_one there a b =
      let same : None ≡ Some there = stands_one x None (Some there) a b in
      let no : ⊥ = cc in no

  zeros_or : (there : StoreHeader) → AllZeros x → HeaderStands x (Some there) → ⊥
  zeros_or there zeros stands = zeros_none x there zeros stands

  versions_apart : version ≡ Two → store_header kind version n ≡ store_header kind One n → ⊥
  versions_apart two same = one_not_two (sym (ap (λ (h : StoreHeader). h.layout.version) same) ∙ two)

  seen_once : (one other : Seen) → LooksAs kind version n x one → LooksAs kind version n x other → other ≡ one
  seen_once _ _ (seen_unused a) (seen_unused b) = refl
  seen_once _ _ (seen_unused a) (seen_standing b) = absurd (zeros_or _ a b)
  seen_once _ _ (seen_unused a) (seen_older two b) = absurd (zeros_or _ a b)
  seen_once _ _ (seen_unused a) (seen_other there b not) = absurd (zeros_or there a b)
  seen_once _ _ (seen_unused a) (seen_neither b not) = absurd (not a)
  seen_once _ _ (seen_standing a) (seen_unused b) = absurd (zeros_or _ b a)
  seen_once _ _ (seen_standing a) (seen_standing b) = refl
  seen_once _ _ (seen_standing a) (seen_older two b) = absurd (versions_apart two (one_header _ _ a b))
  seen_once _ _ (seen_standing a) (seen_other there b not) = absurd (not (inl (one_header _ _ b a)))
  seen_once _ _ (seen_standing a) (seen_neither b not) = absurd (none_or_one _ b a)
  seen_once _ _ (seen_older two a) (seen_unused b) = absurd (zeros_or _ b a)
  seen_once _ _ (seen_older two a) (seen_standing b) = absurd (versions_apart two (one_header _ _ b a))
  seen_once _ _ (seen_older two a) (seen_older also b) = refl
  seen_once _ _ (seen_older two a) (seen_other there b not) = absurd (not (inr (two, one_header _ _ b a)))
  seen_once _ _ (seen_older two a) (seen_neither b not) = absurd (none_or_one _ b a)
  seen_once _ _ (seen_other there a not) (seen_unused b) = absurd (zeros_or there b a)
  seen_once _ _ (seen_other there a not) (seen_standing b) = absurd (not (inl (one_header _ _ a b)))
  seen_once _ _ (seen_other there a not) (seen_older two b) = absurd (not (inr (two, one_header _ _ a b)))
  seen_once _ _ (seen_other there a not) (seen_other that b also) = ap (λ (h : StoreHeader). Other h) (one_header that there b a)
  seen_once _ _ (seen_other there a not) (seen_neither b also) = absurd (none_or_one there b a)
  seen_once _ _ (seen_neither a not) (seen_unused b) = absurd (not b)
  seen_once _ _ (seen_neither a not) (seen_standing b) = absurd (none_or_one _ a b)
  seen_once _ _ (seen_neither a not) (seen_older two b) = absurd (none_or_one _ a b)
  seen_once _ _ (seen_neither a not) (seen_other there b also) = absurd (none_or_one there a b)
  seen_once _ _ (seen_neither a not) (seen_neither b also) = refl

  pub seen_as_one : (seen : Seen) × LooksAs kind version n x seen × ((other : Seen) → LooksAs kind version n x other → other ≡ seen)
  seen_as_one =
      let there = one_stands x room in
      let s = sees there.0 there.1 in
      (s.0, s.1, λ other is. seen_once s.0 other s.1 is)

-- ---- as the look has them

module _ (kind : Kind) (version : Version) (n : ℕ) (before mid : DiskState) (says : Bool) where
  pub seen_zeros : mid.told ≡ before.told → ((t : Told) → mid.told ≡ Some t → IsTrue says ↔ AllZeros t.bytes) → says ≡ true
      → (t : Told) → before.told ≡ Some t → LooksAs kind version n t.bytes Unused
  seen_zeros same tells is t told = seen_unused ((tells t (same ∙ told)).0 is)

  pub seen_no_store : (there : Option StoreHeader) → mid.told ≡ before.told → ((t : Told) → before.told ≡ Some t → HeaderStands t.bytes there) → there ≡ None
      → ((t : Told) → mid.told ≡ Some t → IsTrue says ↔ AllZeros t.bytes) → says ≡ false
      → (t : Told) → before.told ≡ Some t → LooksAs kind version n t.bytes Neither
  seen_no_store there same stands none tells is t told =
      seen_neither (subst (λ (h : Option StoreHeader). HeaderStands t.bytes h) none (stands t told))
      (λ zeros. false≢true (sym is ∙ (tells t (same ∙ told)).1 zeros))
