-- Several plans at once: what they leave of each cell.
use Rattle.std.proofs.Common.{◌≡◌, ◌≢◌, ℕ, zero, suc, ◌+◌, ◌-◌, ◌<◌, ◌≤◌, ◌⊎◌, inl, inr, IsSome, Option, Some, List, [], ◌∷◌, length, drop, get_or, refl, sym, ap, subst, ◌∙◌, arith, length-take, length-drop}
use Rattle.std.proofs.lemmas.List.{ext_get_or, get_or-take, get_or-drop}
use Rattle.std.proofs.lemmas.Bool.{cases_Bool, cases_lt, cases_eq}
use Rattle.cut_disk.specs.Images.{splice}
use Rattle.cut_disk.proofs.CallerLemmas.{length-splice, get_or-splice_before, get_or-splice_in, get_or-splice_behind}
use Rattle.cell_store.specs.declared.copies.Side.{Side}
use Rattle.cell_store.specs.Layout.{part, SameOutside}
use Rattle.cell_store.specs.Twin.{first_at, second_at, is_live, mark, next, counts, cell_of, cell_at}
use Rattle.cell_store.specs.Copies.{other, side_at, copy}
use Rattle.cell_store.proofs.CallerLemmas.{side_bounds}
use Rattle.store_plan.specs.declared.planning.Write.{Write}
use Rattle.store_plan.specs.declared.planning.Plan.{Plan}
use Rattle.store_plan.specs.Plans.{WritesAt, Gated, PlansPut, CutWithin, in_first, in_second, in_third, bytes_written, applied, applied_write, no_write}
use Rattle.store_plan.proofs.CallerLemmas.{cut-leaves}
use Rattle.rathonsi_c.specs.Stores.{IsWhole}
use Rattle.rathonsi_c.specs.Together.{PlansEach, IsBeside, KeepsBeside, WritesEach, each_first, each_second, each_third, CutTogether, within_first, within_second, within_third, DoneTogether, applied_each}
use Rattle.rathonsi_c.proofs.WholeLaws.{moved_whole}

-- ---- parts of a list, byte for byte

long_part : (at n : ℕ) (x : List ℕ) → at + n ≤ length x → length (part at n x) ≡ n
long_part at n x h = simp (length-take, length-drop) (omega arith)

part_byte : (at n : ℕ) (x : List ℕ) (k : ℕ) → k < n → get_or (part at n x) k 0 ≡ get_or x (at + k) 0
part_byte at n x k h = rw (get_or-take n (drop at x) k 0 h) (get_or-drop at x k 0)

pub part_alike : (at n : ℕ) (x y : List ℕ) → length y ≡ length x → ((b : ℕ) → at ≤ b → b < at + n → get_or y b 0 ≡ get_or x b 0) → part at n y ≡ part at n x
part_alike at n x y long same = ext_get_or 0 (part at n y) (part at n x) lengths each where
  lengths : length (part at n y) ≡ length (part at n x)
  lengths = simp (length-take, length-drop) (omega (arith, long))

  each : (j : ℕ) → j < length (part at n y) → get_or (part at n y) j 0 ≡ get_or (part at n x) j 0
  each j h =
      let small : j < n = let e = length-take n (drop at y) in omega arith in
      rw (part_byte at n y j small, part_byte at n x j small) (same (at + j) (omega arith) (omega arith))

-- the byte at this place, of a part that begins before it
byte_of : (at n b : ℕ) (x bytes : List ℕ) → part at n x ≡ bytes → at ≤ b → b < at + n → get_or x b 0 ≡ get_or bytes (b - at) 0
byte_of at n b x bytes is from to =
    let e : at + (b - at) ≡ b = omega arith in
    ap (λ m. get_or x m 0) (sym e) ∙ (sym (part_byte at n x (b - at) (omega arith)) ∙ ap (λ (l : List ℕ). get_or l (b - at) 0) is)

-- ---- which cell a byte is of

pub record Owns (i at : ℕ) : Type 0 where
  pub from : first_at i ≤ at
  pub to : at < first_at i + 68

abbrev pub Misses : ℕ → ℕ → Type 0
Misses i at = (at < first_at i) ⊎ (first_at i + 68 ≤ at)

owned : (i at : ℕ) → Owns i at ⊎ Misses i at
owned i at = elim (cases_lt at (first_at i)) [
  | inl below ↦ inr (inl below)
  | inr from ↦ elim (cases_lt at (first_at i + 68)) [ inl to ↦ inl (record { from = from; to = to }) | inr above ↦ inr (inr above) ]
]

pub owned_once : (i j at : ℕ) → Owns i at → i ≢ j → Misses j at
owned_once i j at o ne = elim (cases_lt i j) [
  | inl below ↦ inl (let t = o.to in omega arith)
  | inr from ↦ elim (cases_lt j i) [
    | inl above ↦ inr (let f = o.from in omega arith)
    | inr to ↦ absurd (ne (omega arith))
  ]
]

pub cell_alike : (x y : List ℕ) (j : ℕ) → length y ≡ length x → ((at : ℕ) → Owns j at → get_or y at 0 ≡ get_or x at 0) → cell_at y j ≡ cell_at x j
unfolding cell_at
cell_alike x y j long same =
    let first : part (first_at j) 34 y ≡ part (first_at j) 34 x = part_alike (first_at j) 34 x y long (λ b from to. same b (record { from = from; to = omega arith })) in
    let second : part (second_at j) 34 y ≡ part (second_at j) 34 x = part_alike (second_at j) 34 x y long (λ b from to. same b (record { from = omega arith; to = omega arith })) in
    ap (λ (c : List ℕ). cell_of c (part (second_at j) 34 y)) first ∙ ap (λ (c : List ℕ). cell_of (part (first_at j) 34 x) c) second

-- a plan of a put over one image is one over another in which the cell is the same
pub put_moves : (plan : Plan) (x z : List ℕ) (i : ℕ) (c : List ℕ) → PlansPut plan x i c → length z ≡ length x → ((at : ℕ) → Owns i at → get_or z at 0 ≡ get_or x at 0) → PlansPut plan z i c
put_moves plan x z i c p long same =
    let alike : (s : Side) → copy z i s ≡ copy x i s = λ s.
    (let b = side_bounds i s in
    let low = b.0 in
    let high = b.1 in
    part_alike (side_at i s) 34 x z long (λ k from to. same k (record { from = omega arith; to = omega arith }))) in
    let this : copy z i p.side ≡ copy x i p.side = alike p.side in
    let that : copy z i (other p.side) ≡ copy x i (other p.side) = alike (other p.side) in
    record {
      sized = p.sized;
      room = (let r = p.room in omega arith);
      side = p.side;
      counting = ap (λ (u : List ℕ). counts u (copy z i (other p.side))) this ∙ (ap (λ (u : List ℕ). counts (copy x i p.side) u) that ∙ p.counting);
      gated =
          subst (λ (u : List ℕ). Gated plan (side_at i (other p.side)) (is_live u) (next (mark (copy z i p.side)) ∷ c)) (sym that)
          (subst (λ (u : List ℕ). Gated plan (side_at i (other p.side)) (is_live (copy x i (other p.side))) (next (mark u) ∷ c)) (sym this) p.gated);
      rests = p.rests;
    }

-- ---- a write within cell i

pub record Inside (i : ℕ) (w : Write) : Type 0 where
  pub from : 0 < w.size → first_at i ≤ w.offset
  pub to : w.offset + w.size ≤ first_at i + 68
  pub full : length (bytes_written w) ≡ w.size

inside_at : (i at : ℕ) (w : Write) (new : List ℕ) → WritesAt w at new → first_at i ≤ at → at + length new ≤ first_at i + 68 → Inside i w
inside_at i at w new p low high =
    let place = p.place in
    let count = p.count in
    record { from = λ some. omega arith; to = omega arith; full = ap length p.is ∙ sym p.count }

inside_none : (i : ℕ) (w : Write) → w ≡ no_write → Inside i w
inside_none i w e = subst (λ (v : Write). Inside i v) (sym e) (record { from = λ some. absurd (omega arith); to = omega arith; full = refl })

pub record WritesInside (i : ℕ) (plan : Plan) : Type 0 where
  pub first : Inside i plan.first
  pub second : Inside i plan.second
  pub third : Inside i plan.third

pub writes_inside : (plan : Plan) (x : List ℕ) (i : ℕ) (c : List ℕ) → PlansPut plan x i c → WritesInside i plan
writes_inside plan x i c p =
    let b = side_bounds i (other p.side) in
    let low = b.0 in
    let high = b.1 in
    let many : length (next (mark (copy x i p.side)) ∷ c) ≡ 33 = ap suc p.sized in
    record {
      first = elim (cases_Bool (is_live (copy x i (other p.side)))) [
        | inl on ↦ inside_at i (side_at i (other p.side)) plan.first (0 ∷ []) (p.gated.closes on) low (omega arith)
        | inr off ↦ inside_none i plan.first (p.gated.closed off)
      ];
      second = inside_at i (side_at i (other p.side) + 1) plan.second (next (mark (copy x i p.side)) ∷ c) p.gated.fills (omega arith) (omega arith);
      third = inside_at i (side_at i (other p.side)) plan.third (167 ∷ []) p.gated.opens low (omega arith);
    }

-- a byte that isn't the cell's is none of the write's
missed : (i at : ℕ) (w : Write) → Inside i w → Misses i at → IsBeside w at
missed i at w h out = elim (cases_lt 0 w.size) [
  | inl some ↦ elim out [
    | inl below ↦ inl (let f = h.from some in omega arith)
    | inr above ↦ inr (let t = h.to in omega arith)
  ]
  | inr none ↦ elim (cases_lt at w.offset) [ inl below ↦ inl below | inr from ↦ inr (omega arith) ]
]

beside_or_in : (w : Write) (at : ℕ) → IsBeside w at ⊎ ((w.offset ≤ at) × (at < w.offset + w.size))
beside_or_in w at = elim (cases_lt at w.offset) [
  | inl below ↦ inl (inl below)
  | inr from ↦ elim (cases_lt at (w.offset + w.size)) [ inl to ↦ inr (from, to) | inr above ↦ inl (inr above) ]
]

-- what a write within a cell makes of a list that has the cell, byte for byte
module _ (i : ℕ) (w : Write) (inside : Inside i w) (x : List ℕ) (room : first_at i + 68 ≤ length x) where
  fits : w.offset + length (bytes_written w) ≤ length x
  fits = let t = inside.to in let f = inside.full in omega arith

  long_write : length (applied_write w x) ≡ length x
  long_write = length-splice w.offset (bytes_written w) x fits

  write_beside : (at : ℕ) → IsBeside w at → get_or (applied_write w x) at 0 ≡ get_or x at 0
  write_beside at out = elim out [
    | inl below ↦ get_or-splice_before w.offset (bytes_written w) x at 0 fits below
    | inr above ↦ get_or-splice_behind w.offset (bytes_written w) x at 0 fits (let f = inside.full in omega arith)
  ]

  write_in : (at : ℕ) → w.offset ≤ at → at < w.offset + w.size → get_or (applied_write w x) at 0 ≡ get_or (bytes_written w) (at - w.offset) 0
  write_in at from to = get_or-splice_in w.offset (bytes_written w) x at 0 fits from (let f = inside.full in omega arith)

-- it hangs on that byte alone
write_alike : (i : ℕ) (w : Write) (inside : Inside i w) (x z : List ℕ) → first_at i + 68 ≤ length x → length z ≡ length x → (at : ℕ) → get_or z at 0 ≡ get_or x at 0 → get_or (applied_write w z) at 0 ≡ get_or (applied_write w x) at 0
write_alike i w inside x z room long at same =
    let other_room : first_at i + 68 ≤ length z = omega arith in
    elim (beside_or_in w at) [
      | inl out ↦ write_beside i w inside z other_room at out ∙ (same ∙ sym (write_beside i w inside x room at out))
      | inr (from, to) ↦ write_in i w inside z other_room at from to ∙ sym (write_in i w inside x room at from to)
    ]

-- the three writes of a plan
module _ (i : ℕ) (plan : Plan) (within : WritesInside i plan) (x : List ℕ) (room : first_at i + 68 ≤ length x) where
  long_one : length (applied_write plan.first x) ≡ length x
  long_one = long_write i plan.first within.first x room

  room_one : first_at i + 68 ≤ length (applied_write plan.first x)
  room_one = let l = long_one in omega arith

  long_two : length (applied_write plan.second (applied_write plan.first x)) ≡ length x
  long_two = long_write i plan.second within.second (applied_write plan.first x) room_one ∙ long_one

  room_two : first_at i + 68 ≤ length (applied_write plan.second (applied_write plan.first x))
  room_two = let l = long_two in omega arith

  pub long_applied : length (applied plan x) ≡ length x
  long_applied = long_write i plan.third within.third (applied_write plan.second (applied_write plan.first x)) room_two ∙ long_two

  one_beside : (at : ℕ) → Misses i at → get_or (applied_write plan.first x) at 0 ≡ get_or x at 0
  one_beside at out = write_beside i plan.first within.first x room at (missed i at plan.first within.first out)

  two_beside : (at : ℕ) → Misses i at → get_or (applied_write plan.second (applied_write plan.first x)) at 0 ≡ get_or x at 0
  two_beside at out = write_beside i plan.second within.second (applied_write plan.first x) room_one at (missed i at plan.second within.second out) ∙ one_beside at out

  pub applied_beside : (at : ℕ) → Misses i at → get_or (applied plan x) at 0 ≡ get_or x at 0
  applied_beside at out = write_beside i plan.third within.third (applied_write plan.second (applied_write plan.first x)) room_two at (missed i at plan.third within.third out) ∙ two_beside at out

applied_alike : (i : ℕ) (plan : Plan) (within : WritesInside i plan) (x z : List ℕ) → first_at i + 68 ≤ length x → length z ≡ length x → (at : ℕ) → get_or z at 0 ≡ get_or x at 0 → get_or (applied plan z) at 0 ≡ get_or (applied plan x) at 0
applied_alike i plan within x z room long at same =
    let other_room : first_at i + 68 ≤ length z = omega arith in
    write_alike i plan.third within.third (applied_write plan.second (applied_write plan.first x)) (applied_write plan.second (applied_write plan.first z)) (room_two i plan within x room)
    (long_two i plan within z other_room ∙ (long ∙ sym (long_two i plan within x room))) at
    (write_alike i plan.second within.second (applied_write plan.first x) (applied_write plan.first z) (room_one i plan within x room)
    (long_one i plan within z other_room ∙ (long ∙ sym (long_one i plan within x room))) at
    (write_alike i plan.first within.first x z room long at same))

-- ---- a step of n writes, each within a cell of its own

module _ (n : ℕ) (writes : ℕ → Write) (cells : ℕ → ℕ) (apart : (j k : ℕ) → j < n → k < n → j ≢ k → cells j ≢ cells k) (inside : (k : ℕ) → k < n → Inside (cells k) (writes k)) where
  beside_all : (k at : ℕ) → k < n → Owns (cells k) at → IsBeside (writes k) at → (j : ℕ) → j < n → IsBeside (writes j) at
  beside_all k at lt own out j y = elim (cases_eq j k) [
    | inl here ↦ subst (λ i. IsBeside (writes i) at) (sym here) out
    | inr there ↦ missed (cells j) at (writes j) (inside j y) (owned_once (cells k) (cells j) at own (λ e. apart j k y lt there (sym e)))
  ]

  kept_byte : (k at : ℕ) → k < n → Owns (cells k) at → (x y : List ℕ) → KeepsBeside n writes x y → IsBeside (writes k) at → get_or y at 0 ≡ get_or x at 0
  kept_byte k at lt own x y keeps out = keeps.same at (beside_all k at lt own out)

  written_byte : (k at : ℕ) → k < n → Owns (cells k) at → (x y : List ℕ) → first_at (cells k) + 68 ≤ length x → WritesEach n writes x y → get_or y at 0 ≡ get_or (applied_write (writes k) x) at 0
  written_byte k at lt own x y room w = elim (beside_or_in (writes k) at) [
    | inl out ↦ kept_byte k at lt own x y w.beside out ∙ sym (write_beside (cells k) (writes k) (inside k lt) x room at out)
    | inr (from, to) ↦ byte_of (writes k).offset (writes k).size at y (bytes_written (writes k)) (w.written k lt) from to ∙ sym (write_in (cells k) (writes k) (inside k lt) x room at from to)
  ]

  other_byte : (at : ℕ) → ((k : ℕ) → k < n → Misses (cells k) at) → (x y : List ℕ) → KeepsBeside n writes x y → get_or y at 0 ≡ get_or x at 0
  other_byte at out x y keeps = keeps.same at (λ k lt. missed (cells k) at (writes k) (inside k lt) (out k lt))

-- y differs from x in the bytes of this write alone
outside : (w : Write) (x y : List ℕ) → length y ≡ length x → ((at : ℕ) → IsBeside w at → get_or y at 0 ≡ get_or x at 0) → SameOutside w.offset w.size x y
outside w x y long same = record { lengths = long; below = λ k l. same k (inl l); above = λ k l. same k (inr l) }

-- ---- n plans

module _ (n : ℕ) (plans : ℕ → Plan) (x : List ℕ) (cells : ℕ → ℕ) (new : ℕ → List ℕ) (p : PlansEach n plans x cells new) where
  pub within : (k : ℕ) → k < n → WritesInside (cells k) (plans k)
  within k lt = writes_inside (plans k) x (cells k) (new k) (p.puts k lt)

  pub room : (k : ℕ) → k < n → first_at (cells k) + 68 ≤ length x
  room k lt = let r = (p.puts k lt).room in omega arith

  in_first_step : (k : ℕ) → k < n → Inside (cells k) (each_first plans k)
  in_first_step k lt = (within k lt).first

  in_second_step : (k : ℕ) → k < n → Inside (cells k) (each_second plans k)
  in_second_step k lt = (within k lt).second

  in_third_step : (k : ℕ) → k < n → Inside (cells k) (each_third plans k)
  in_third_step k lt = (within k lt).third

  byte_once : (k at : ℕ) → (lt : k < n) → Owns (cells k) at → (z : List ℕ) → WritesEach n (each_first plans) x z → get_or z at 0 ≡ get_or (applied_write (plans k).first x) at 0
  byte_once k at lt own z w = written_byte n (each_first plans) cells p.apart in_first_step k at lt own x z (room k lt) w

  byte_twice : (k at : ℕ) → (lt : k < n) → Owns (cells k) at → (z u : List ℕ) → WritesEach n (each_first plans) x z → WritesEach n (each_second plans) z u
      → get_or u at 0 ≡ get_or (applied_write (plans k).second (applied_write (plans k).first x)) at 0
  byte_twice k at lt own z u w v =
      let r = room k lt in
      let l = w.beside.lengths in
      written_byte n (each_second plans) cells p.apart in_second_step k at lt own z u (omega arith) v
      ∙ write_alike (cells k) (plans k).second (within k lt).second (applied_write (plans k).first x) z (room_one (cells k) (plans k) (within k lt) x (room k lt))
      (w.beside.lengths ∙ sym (long_one (cells k) (plans k) (within k lt) x (room k lt))) at (byte_once k at lt own z w)

  byte_done : (k at : ℕ) → (lt : k < n) → Owns (cells k) at → (y : List ℕ) → DoneTogether n plans x y → get_or y at 0 ≡ get_or (applied (plans k) x) at 0
  byte_done k at lt own y d =
      let r = room k lt in
      let l : length d.twice ≡ length x = d.second.beside.lengths ∙ d.first.beside.lengths in
      written_byte n (each_third plans) cells p.apart in_third_step k at lt own d.twice y (omega arith) d.third
      ∙ write_alike (cells k) (plans k).third (within k lt).third (applied_write (plans k).second (applied_write (plans k).first x)) d.twice (room_two (cells k) (plans k) (within k lt) x (room k lt))
      (l ∙ sym (long_two (cells k) (plans k) (within k lt) x (room k lt))) at (byte_twice k at lt own d.once d.twice d.first d.second)

  -- a byte of no cell
  other_done : (at : ℕ) → ((k : ℕ) → k < n → Misses (cells k) at) → (y : List ℕ) → DoneTogether n plans x y → get_or y at 0 ≡ get_or x at 0
  other_done at out y d =
      other_byte n (each_third plans) cells p.apart in_third_step at out d.twice y d.third.beside
      ∙ (other_byte n (each_second plans) cells p.apart in_second_step at out d.once d.twice d.second.beside
      ∙ other_byte n (each_first plans) cells p.apart in_first_step at out x d.once d.first.beside)

  -- ---- the power goes

  pub cut_long : (y : List ℕ) → CutTogether n plans x y → length y ≡ length x
  cut_long y cut = elim cut [
    | within_first keeps ↦ keeps.lengths
    | within_second z w keeps ↦ keeps.lengths ∙ w.beside.lengths
    | within_third z u w v keeps ↦ keeps.lengths ∙ (v.beside.lengths ∙ w.beside.lengths)
  ]

  other_cut : (at : ℕ) → ((k : ℕ) → k < n → Misses (cells k) at) → (y : List ℕ) → CutTogether n plans x y → get_or y at 0 ≡ get_or x at 0
  other_cut at out y cut = elim cut [
    | within_first keeps ↦ other_byte n (each_first plans) cells p.apart in_first_step at out x y keeps
    | within_second z w keeps ↦ other_byte n (each_second plans) cells p.apart in_second_step at out z y keeps ∙ other_byte n (each_first plans) cells p.apart in_first_step at out x z w.beside
    | within_third z u w v keeps ↦ other_byte n (each_third plans) cells p.apart in_third_step at out u y keeps
        ∙ (other_byte n (each_second plans) cells p.apart in_second_step at out z u v.beside ∙ other_byte n (each_first plans) cells p.apart in_first_step at out x z w.beside)
  ]

  pub cut_other : (y : List ℕ) → CutTogether n plans x y → (i : ℕ) → ((k : ℕ) → k < n → cells k ≢ i) → cell_at y i ≡ cell_at x i
  cut_other y cut i ne = cell_alike x y i (cut_long y cut) (λ at own. other_cut at (λ k lt. owned_once i (cells k) at own (λ e. ne k lt (sym e))) y cut)

  pub cut_head : (y : List ℕ) → CutTogether n plans x y → part 0 32 y ≡ part 0 32 x
  cut_head y cut = part_alike 0 32 x y (cut_long y cut) (λ b from to. other_cut b (λ k lt. inl (omega arith)) y cut)

  -- cell k as y has it, and all else as x has it
  module _ (k : ℕ) (lt : k < n) (y : List ℕ) (long : length y ≡ length x) where
    abbrev alone : List ℕ
    alone = splice (first_at (cells k)) (part (first_at (cells k)) 68 y) x

    sized : length (part (first_at (cells k)) 68 y) ≡ 68
    sized = let r = room k lt in long_part (first_at (cells k)) 68 y (omega arith)

    has_room : first_at (cells k) + length (part (first_at (cells k)) 68 y) ≤ length x
    has_room = let s = sized in let r = room k lt in omega arith

    alone_long : length alone ≡ length x
    alone_long = length-splice (first_at (cells k)) (part (first_at (cells k)) 68 y) x has_room

    alone_in : (at : ℕ) → Owns (cells k) at → get_or alone at 0 ≡ get_or y at 0
    alone_in at own =
        let from = own.from in
        let to = own.to in
        let s = sized in
        get_or-splice_in (first_at (cells k)) (part (first_at (cells k)) 68 y) x at 0 has_room own.from (omega arith)
        ∙ sym (byte_of (first_at (cells k)) 68 at y (part (first_at (cells k)) 68 y) refl own.from own.to)

    alone_out : (at : ℕ) → Misses (cells k) at → get_or alone at 0 ≡ get_or x at 0
    alone_out at out =
        let s = sized in
        elim out [
          | inl below ↦ get_or-splice_before (first_at (cells k)) (part (first_at (cells k)) 68 y) x at 0 has_room below
          | inr above ↦ get_or-splice_behind (first_at (cells k)) (part (first_at (cells k)) 68 y) x at 0 has_room (omega arith)
        ]

    first_alone : KeepsBeside n (each_first plans) x y → CutWithin (plans k) x alone
    first_alone keeps = in_first (outside (plans k).first x alone alone_long (λ at out. elim (owned (cells k) at) [
      | inl own ↦ alone_in at own ∙ kept_byte n (each_first plans) cells p.apart in_first_step k at lt own x y keeps out
      | inr miss ↦ alone_out at miss
    ]))

    second_alone : (z : List ℕ) → WritesEach n (each_first plans) x z → KeepsBeside n (each_second plans) z y → CutWithin (plans k) x alone
    second_alone z w keeps = in_second (outside (plans k).second (applied_write (plans k).first x) alone (alone_long ∙ sym (long_one (cells k) (plans k) (within k lt) x (room k lt))) (λ at out. elim (owned (cells k) at) [
      | inl own ↦ alone_in at own ∙ (kept_byte n (each_second plans) cells p.apart in_second_step k at lt own z y keeps out ∙ byte_once k at lt own z w)
      | inr miss ↦ alone_out at miss ∙ sym (one_beside (cells k) (plans k) (within k lt) x (room k lt) at miss)
    ]))

    third_alone : (z u : List ℕ) → WritesEach n (each_first plans) x z → WritesEach n (each_second plans) z u → KeepsBeside n (each_third plans) u y → CutWithin (plans k) x alone
    third_alone z u w v keeps = in_third (outside (plans k).third (applied_write (plans k).second (applied_write (plans k).first x)) alone (alone_long ∙ sym (long_two (cells k) (plans k) (within k lt) x (room k lt))) (λ at out. elim (owned (cells k) at) [
      | inl own ↦ alone_in at own ∙ (kept_byte n (each_third plans) cells p.apart in_third_step k at lt own u y keeps out ∙ byte_twice k at lt own z u w v)
      | inr miss ↦ alone_out at miss ∙ sym (two_beside (cells k) (plans k) (within k lt) x (room k lt) at miss)
    ]))

    cut_alone : CutTogether n plans x y → CutWithin (plans k) x alone
    cut_alone cut = elim cut [
      | within_first keeps ↦ first_alone keeps
      | within_second z w keeps ↦ second_alone z w keeps
      | within_third z u w v keeps ↦ third_alone z u w v keeps
    ]

    whole_alone : CutTogether n plans x y → (cell_at y (cells k) ≡ cell_at x (cells k)) ⊎ (cell_at y (cells k) ≡ Some (new k))
    whole_alone cut =
        let same : cell_at y (cells k) ≡ cell_at alone (cells k) = cell_alike alone y (cells k) (long ∙ sym alone_long) (λ at own. sym (alone_in at own)) in
        elim ((cut-leaves (plans k) x alone (cut_alone cut)).put (cells k) (new k) (p.puts k lt)).cell [
          | inl old ↦ inl (same ∙ old)
          | inr is ↦ inr (same ∙ is)
        ]

  pub cut_cell : (y : List ℕ) → CutTogether n plans x y → (k : ℕ) → k < n → (cell_at y (cells k) ≡ cell_at x (cells k)) ⊎ (cell_at y (cells k) ≡ Some (new k))
  cut_cell y cut k lt = whole_alone k lt y (cut_long y cut) cut

-- the plan whose cell this is, if there is one
pub among : (n : ℕ) (cells : ℕ → ℕ) (i : ℕ) → ((k : ℕ) × ((k < n) × (cells k ≡ i))) ⊎ ((k : ℕ) → k < n → cells k ≢ i)
among zero cells i = inr (λ k lt. absurd (omega arith))
among (suc n) cells i = elim (cases_eq (cells n) i) [
  | inl here ↦ inl (n, (omega arith, here))
  | inr there ↦ elim (among n cells i) [
    | inl (k, (lt, is)) ↦ inl (k, (omega arith, is))
    | inr none ↦ inr (λ k lt. elim (cases_eq k n) [
      | inl last ↦ subst (λ m. cells m ≢ i) (sym last) there
      | inr before ↦ none k (omega arith)
    ])
  ]
]

owner : (n : ℕ) (cells : ℕ → ℕ) (at : ℕ) → ((k : ℕ) × ((k < n) × Owns (cells k) at)) ⊎ ((k : ℕ) → k < n → Misses (cells k) at)
owner zero cells at = inr (λ k lt. absurd (omega arith))
owner (suc n) cells at = elim (owned (cells n) at) [
  | inl own ↦ inl (n, (omega arith, own))
  | inr miss ↦ elim (owner n cells at) [
    | inl (k, (lt, own)) ↦ inl (k, (omega arith, own))
    | inr none ↦ inr (λ k lt. elim (cases_eq k n) [
      | inl last ↦ subst (λ m. Misses (cells m) at) (sym last) miss
      | inr before ↦ none k (omega arith)
    ])
  ]
]

pub cut_whole : (n : ℕ) (plans : ℕ → Plan) (x y : List ℕ) (cells : ℕ → ℕ) (new : ℕ → List ℕ) → PlansEach n plans x cells new → CutTogether n plans x y → IsWhole x → IsWhole y
cut_whole n plans x y cells new p cut whole = moved_whole x y (cut_long n plans x cells new p y cut) (cut_head n plans x cells new p y cut) (λ i some. elim (among n cells i) [
  | inl (k, (lt, is)) ↦ subst (λ j. IsSome (cell_at y j)) is (elim (cut_cell n plans x cells new p y cut k lt) [
    | inl old ↦ subst (λ (o : Option (List ℕ)). IsSome o) (sym old) (subst (λ j. IsSome (cell_at x j)) (sym is) some)
    | inr new_is ↦ subst (λ (o : Option (List ℕ)). IsSome o) (sym new_is) refl
  ])
  | inr none ↦ subst (λ (o : Option (List ℕ)). IsSome o) (sym (cut_other n plans x cells new p y cut i none)) some
]) whole

-- ---- all plans are done

module _ (n : ℕ) (plans : ℕ → Plan) (x : List ℕ) (cells : ℕ → ℕ) (new : ℕ → List ℕ) (p : PlansEach n plans x cells new) where
  abbrev Within : (k : ℕ) → k < n → WritesInside (cells k) (plans k)
  Within k lt = within n plans x cells new p k lt

  abbrev Room : (k : ℕ) → k < n → first_at (cells k) + 68 ≤ length x
  Room k lt = room n plans x cells new p k lt

  pub each_long : (m : ℕ) → m ≤ n → length (applied_each m plans x) ≡ length x
  each_long zero le = refl
  each_long (suc m) le =
      let l = each_long m (omega arith) in
      let r = Room m (omega arith) in
      long_applied (cells m) (plans m) (Within m (omega arith)) (applied_each m plans x) (omega arith) ∙ l

  each_room : (m k : ℕ) → m ≤ n → k < n → first_at (cells k) + 68 ≤ length (applied_each m plans x)
  each_room m k le lt = let l = each_long m le in let r = Room k lt in omega arith

  pub each_out : (m : ℕ) → m ≤ n → (at : ℕ) → ((k : ℕ) → k < m → Misses (cells k) at) → get_or (applied_each m plans x) at 0 ≡ get_or x at 0
  each_out zero le at out = refl
  each_out (suc m) le at out =
      applied_beside (cells m) (plans m) (Within m (omega arith)) (applied_each m plans x) (each_room m m (omega arith) (omega arith)) at (out m (omega arith))
      ∙ each_out m (omega arith) at (λ k lt. out k (omega arith))

  -- a plan that isn't done yet is one of the same put over what the others made
  pub each_put : (m k : ℕ) → m ≤ k → k < n → PlansPut (plans k) (applied_each m plans x) (cells k) (new k)
  each_put m k le lt = put_moves (plans k) x (applied_each m plans x) (cells k) (new k) (p.puts k lt) (each_long m (omega arith))
      (λ at own. each_out m (omega arith) at (λ j before. owned_once (cells k) (cells j) at own (p.apart k j lt (omega arith) (λ e. omega arith))))

  each_in : (m : ℕ) → m ≤ n → (k : ℕ) → k < m → (at : ℕ) → Owns (cells k) at → get_or (applied_each m plans x) at 0 ≡ get_or (applied (plans k) x) at 0
  each_in zero le k lt at own = absurd (omega arith)
  each_in (suc m) le k lt at own = elim (cases_eq k m) [
    | inl here ↦ subst (λ i. get_or (applied (plans m) (applied_each m plans x)) at 0 ≡ get_or (applied (plans i) x) at 0) (sym here)
        (applied_alike (cells m) (plans m) (Within m (omega arith)) x (applied_each m plans x) (Room m (omega arith)) (each_long m (omega arith)) at
        (each_out m (omega arith) at (λ j before. owned_once (cells k) (cells j) at own (p.apart k j (omega arith) (omega arith) (λ e. omega arith)))))
    | inr there ↦
        applied_beside (cells m) (plans m) (Within m (omega arith)) (applied_each m plans x) (each_room m m (omega arith) (omega arith)) at (owned_once (cells k) (cells m) at own (p.apart k m (omega arith) (omega arith) there))
        ∙ each_in m (omega arith) k (omega arith) at own
  ]

  done_long : (y : List ℕ) → DoneTogether n plans x y → length y ≡ length x
  done_long y d = d.third.beside.lengths ∙ (d.second.beside.lengths ∙ d.first.beside.lengths)

  -- the device has the bytes of the image
  pub done_each : (y : List ℕ) → DoneTogether n plans x y → y ≡ applied_each n plans x
  done_each y d = ext_get_or 0 y (applied_each n plans x) (done_long y d ∙ sym (each_long n (omega arith))) (λ at h. elim (owner n cells at) [
    | inl (k, (lt, own)) ↦ byte_done n plans x cells new p k at lt own y d ∙ sym (each_in n (omega arith) k lt at own)
    | inr none ↦ other_done n plans x cells new p at none y d ∙ sym (each_out n (omega arith) at none)
  ])
