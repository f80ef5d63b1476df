-- Of the bytes that a cut within a first format leaves: no store stands there
use Rattle.std.specs.Prelude.{◌≡◌, ◌⊎◌, ◌↔◌, ℕ, ◌+◌, ◌-◌, ◌<◌, ◌≤◌, ◌^◌, Bool, Some, None, List, ◌++◌, length, get_or, replicate, take, drop, min, IsTrue}
use Rattle.std.proofs.Common.{refl, sym, ap, ◌∙◌, subst, arith, inl, inr}
use Rattle.std.proofs.lemmas.Bool.{cases_lt}
use Rattle.std.proofs.lemmas.List.{get_or-take, get_or-drop, get_or_past, get_or-append-add, get_or-replicate, length-append, length-replicate, length-take, length-drop, take_all}
use Rattle.cut_disk.specs.State.{DiskState, Told}
use Rattle.cut_disk.specs.Calls.{IsDisk}
use Rattle.cut_disk.specs.Images.{splice, firm, ReadsAs}
use Rattle.cut_disk.proofs.CallerLemmas.{get_or-splice_in, get_or-splice_behind}
use Rattle.cell_store.specs.declared.kinds.Kind.{Kind}
use Rattle.cell_store.specs.declared.kinds.Version.{Version}
use Rattle.cell_store.specs.declared.kinds.Version.TheVariants.{One, Two}
use Rattle.cell_store.specs.declared.kinds.Layout.{Layout}
use Rattle.cell_store.specs.Layout.{layout, header, part, base, from_base}
use Rattle.cell_store.specs.Store.{FewCells, HasHeader, Fresh, fresh_store, fresh_cells, size_from_base, store_size}
use Rattle.cell_store.specs.Attaching.{Formatted}
use Rattle.cell_store.specs.Moving.{StandsAsCounted}
use Rattle.cell_store.proofs.CallerLemmas.{length-header}
use Rattle.store_growing.specs.declared.headers.StoreHeader.{StoreHeader}
use Rattle.store_growing.specs.StoreHeaders.{HasVersionTwo, HeaderStands, store_header, in_second}
use Rattle.store_growing.proofs.CallerLemmas.{stands_one}
use Rattle.any_cells.specs.declared.looking.Found.TheVariants.{Older}
use Rattle.any_cells.specs.Looking.{IsFound}
use Rattle.bus_world.proofs.CallerLemmas.{older_one}
use Rattle.kept_starts.specs.Unfinished.{IsUnfinishedFormat, BegunAt, IsBegunFrom}

-- ---- no store stands

-- where the first byte is zero no header stands
pub no_header : (laid : Layout) (n : ℕ) (x : List ℕ) → get_or x (base laid.version) 0 ≡ 0 → HasHeader laid n x → ⊥
unfolding header
no_header laid n x zero head =
    let at : base laid.version + 0 ≡ base laid.version = omega arith in
    let first : get_or (part 0 32 (from_base laid.version x)) 0 0 ≡ 0 =
    get_or-take 32 (from_base laid.version x) 0 0 (omega arith) ∙ (get_or-drop (base laid.version) x 0 0 ∙ (ap (λ (k : ℕ). get_or x k 0) at ∙ zero)) in
    let s : get_or (part 0 32 (from_base laid.version x)) 0 0 ≡ 83 = ap (λ (l : List ℕ). get_or l 0 0) head in
    omega (arith, first, s)

pub headless_none : (x : List ℕ) (there : StoreHeader) → HeaderStands x None → HeaderStands x (Some there) → ⊥
headless_none x there none stands =
    let same : None ≡ Some there = stands_one x None (Some there) none stands in
    let no : ⊥ = cc in no

pub headless_two : (x : List ℕ) → HeaderStands x None → ¬ HasVersionTwo x
headless_two x none (kind, n, few, head) = headless_none x (store_header kind Two n) none (in_second kind n few head)

module _ (kind : Kind) (version : Version) (cells : List (List ℕ)) (x : List ℕ) (u : IsUnfinishedFormat kind version cells x) where
  -- the first byte of all is zero
  begins_zero : get_or x 0 0 ≡ 0
  begins_zero = u.zeros 0 (omega arith)

  pub unfinished_stands_none : (that : Kind) (list : List (List ℕ)) → StandsAsCounted that list x → ⊥
  unfinished_stands_none that list s = stands_in s.version s.stands.few s.stands.head where
    stands_in : (v : Version) → FewCells (length list) → HasHeader (layout that v) (length list) x → ⊥
    stands_in One few head = no_header (layout that One) (length list) x begins_zero head
    stands_in Two few head = headless_two x u.headless (that, length list, few, head)

  pub unfinished_not_older : (that : Kind) (wanted : Version) (n : ℕ) → IsFound that wanted n x Older → ⊥
  unfinished_not_older that wanted n older = no_header (layout that One) n x begins_zero (older_one that wanted n x older).1

-- ---- as the code has them

-- a byte of zeros
pub zero_at : (all i : ℕ) → get_or (replicate {A = ℕ} all 0) i 0 ≡ 0
zero_at all i = elim (cases_lt i all) [
  | inl below ↦ get_or-replicate all i 0 0 below
  | inr beyond ↦ get_or_past (replicate all 0) i 0 (let e = length-replicate {A = ℕ} all 0 in omega (arith, e, beyond))
]

-- the bytes of a new store, after its header
pub new_byte : (kind : Kind) (version : Version) (cells : List (List ℕ)) (size : ℕ) (y : List ℕ) → base version + length (fresh_store (layout kind version) cells) ≤ size
    → Fresh (layout kind version) cells (replicate size 0) y
    → (k : ℕ) → get_or y (base version + 32 + k) 0 ≡ get_or (fresh_cells kind cells) k 0
unfolding Fresh
new_byte kind version cells size y room fresh k =
    let h : List ℕ = header (layout kind version) (length cells) in
    let f : List ℕ = fresh_cells kind cells in
    let wide : length (h ++ f) ≡ length h + length f = length-append h f in
    let head : length h ≡ 32 = length-header (layout kind version) (length cells) in
    let long : length (replicate {A = ℕ} size 0) ≡ size = length-replicate size 0 in
    ap (λ (z : List ℕ). get_or z (base version + 32 + k) 0) fresh
    ∙ elim (cases_lt k (length f)) [
      | inl inside ↦
          get_or-splice_in (base version) (h ++ f) (replicate size 0) (base version + 32 + k) 0 (omega (arith, room, long)) (omega arith) (omega (arith, inside, wide, head))
          ∙ (ap (λ (m : ℕ). get_or (h ++ f) m 0) (let e : (base version + 32 + k) - base version ≡ length h + k = omega (arith, head) in e)
          ∙ get_or-append-add h f k 0)
      | inr past ↦
          get_or-splice_behind (base version) (h ++ f) (replicate size 0) (base version + 32 + k) 0 (omega (arith, room, long)) (omega (arith, past, wide, head))
          ∙ (zero_at size (base version + 32 + k) ∙ sym (get_or_past f k 0 (omega (arith, past))))
    ]

-- bytes without a header, beside a new store
module _ (kind : Kind) (version : Version) (cells : List (List ℕ)) (y x : List ℕ)
    (new : (k : ℕ) → get_or y (base version + 32 + k) 0 ≡ get_or (fresh_cells kind cells) k 0) (headless : HeaderStands x None) where
  begun_finished : IsBegunFrom (base version + 32) y x → IsUnfinishedFormat kind version cells x
  begun_finished begun = record {
    headless = headless;
    zeros = λ k below. elim (begun k) [
      | inl zero ↦ zero
      | inr late ↦ absurd (let no : ⊥ = omega (arith, below, late.0) in no)
    ];
    begun = λ k. elim (begun (base version + 32 + k)) [
      | inl zero ↦ inl zero
      | inr late ↦ inr (late.1 ∙ new k)
    ];
  }

  finished_begun : IsUnfinishedFormat kind version cells x → IsBegunFrom (base version + 32) y x
  finished_begun u k = elim (cases_lt k (base version + 32)) [
    | inl below ↦ inl (u.zeros k below)
    | inr from ↦
        let at : base version + 32 + (k - (base version + 32)) ≡ k = omega (arith, from) in
        elim (u.begun (k - (base version + 32))) [
          | inl zero ↦ inl (ap (λ (m : ℕ). get_or x m 0) (sym at) ∙ zero)
          | inr same ↦ inr (omega (arith, from), ap (λ (m : ℕ). get_or x m 0) (sym at) ∙ (same ∙ (sym (new (k - (base version + 32))) ∙ ap (λ (m : ℕ). get_or y m 0) at)))
        ]
  ]

  pub told_unfinished : (says : Bool) → IsTrue says ↔ IsBegunFrom (base version + 32) y x → IsTrue says ↔ IsUnfinishedFormat kind version cells x
  told_unfinished says test = (λ yes. begun_finished (test.0 yes), λ u. test.1 (finished_begun u))

-- ---- a new store on a disk of zeros

room_within : (at : ℕ) (ys xs : List ℕ) → at ≤ length xs → length (splice at ys xs) ≡ length xs → at + length ys ≤ length xs
unfolding splice
room_within at ys xs inside same =
    let long : length (splice at ys xs) ≡ min at (length xs) + (length ys + (length xs - (at + length ys))) = simp (length-append, length-take, length-drop) (omega arith) in
    omega (arith, long, same, inside)

whole_read : (disk : DiskState) (out : List ℕ) → IsDisk disk → length out ≡ disk.size → ReadsAs disk.told 0 out → (t : Told) → disk.told ≡ Some t → out ≡ t.bytes
whole_read disk out is sized reads t tells =
    let long : length t.bytes ≡ disk.size = is.bytes_sized t tells in
    let e : (0 + length out) - 0 ≡ length out = omega arith in
    reads t tells ∙ ap (λ (m : ℕ). take m t.bytes) e ∙ take_all (length out) t.bytes (omega (arith, long, sized))

fresh_bytes : (kind : Kind) (version : Version) (cells : List (List ℕ)) (size : ℕ) (y : List ℕ) → base version ≤ size → length y ≡ size
    → Fresh (layout kind version) cells (replicate size 0) y → (k : ℕ) → get_or y (base version + 32 + k) 0 ≡ get_or (fresh_cells kind cells) k 0
unfolding Fresh
fresh_bytes kind version cells size y inside long fresh =
    let zeros : length (replicate {A = ℕ} size 0) ≡ size = length-replicate size 0 in
    let fits = room_within (base version) (fresh_store (layout kind version) cells) (replicate size 0) (omega (arith, zeros, inside))
    (ap (λ (z : List ℕ). length z) (sym fresh) ∙ (long ∙ sym zeros)) in
    new_byte kind version cells size y (omega (arith, fits, zeros)) fresh

pub new_bytes : (kind : Kind) (version : Version) (cells : List (List ℕ)) (calls : ℕ) (before mid : DiskState) (out : List ℕ) → IsDisk mid
    → Formatted (layout kind version) calls cells before mid → before.told ≡ Some (firm (replicate before.size 0)) → length out ≡ mid.size
    → ReadsAs mid.told 0 out → (k : ℕ) → get_or out (base version + 32 + k) 0 ≡ get_or (fresh_cells kind cells) k 0
new_bytes kind version cells calls before mid out is formatted zeros sized reads =
    let made = formatted.fresh (firm (replicate before.size 0)) zeros in
    let all : out ≡ made.bytes = whole_read mid out is sized reads (firm made.bytes) made.told in
    let long : length made.bytes ≡ before.size = is.bytes_sized (firm made.bytes) made.told ∙ formatted.runs.size in
    subst (λ (z : List ℕ). (k : ℕ) → get_or z (base version + 32 + k) 0 ≡ get_or (fresh_cells kind cells) k 0) (sym all)
    (fresh_bytes kind version cells before.size made.bytes (omega (arith, formatted.room)) long made.fresh)

-- ---- told bytes, as they are read

pub read_begun_told : (disk : DiskState) (out : List ℕ) (says : Bool) (from : ℕ) (y : List ℕ) → IsDisk disk → length out ≡ disk.size → ReadsAs disk.told 0 out
    → IsTrue says ↔ IsBegunFrom from y out → (t : Told) → disk.told ≡ Some t → IsTrue says ↔ IsBegunFrom from y t.bytes
read_begun_told disk out says from y is sized reads test t tells =
    subst (λ (z : List ℕ). IsTrue says ↔ IsBegunFrom from y z) (whole_read disk out is sized reads t tells) test

-- ---- one byte more

pub begun_more : (from place : ℕ) (y x : List ℕ) → ((k : ℕ) → k < place → BegunAt from y x k) → BegunAt from y x place
    → (k : ℕ) → k < place + 1 → BegunAt from y x k
begun_more from place y x far here k below = elim (cases_lt k place) [
  | inl earlier ↦ far k earlier
  | inr last ↦ subst (BegunAt from y x) (let e : place ≡ k = omega (arith, below, last) in e) here
]

pub begun_all : (from : ℕ) (y x : List ℕ) → ((k : ℕ) → k < length x → BegunAt from y x k) → IsBegunFrom from y x
begun_all from y x far k = elim (cases_lt k (length x)) [
  | inl inside ↦ far k inside
  | inr past ↦ inl (get_or_past x k 0 (omega (arith, past)))
]
