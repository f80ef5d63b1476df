-- What the writes of a plan make of a cell.
use Rattle.std.proofs.Common.{◌≡◌, ℕ, ◌+◌, ◌-◌, ◌<◌, ◌≤◌, ◌⊎◌, inl, inr, Some, None, List, length, take, drop, get_or, Bool, true, false, refl, sym, ap, subst, ◌∙◌, arith, rules, length-take, length-drop}
use Rattle.std.proofs.lemmas.Bool.{cases_lt, false≢true}
use Rattle.std.proofs.lemmas.List.{ext_get_or, get_or-take, get_or-drop, places, same_lists}
use Rattle.std.proofs.lemmas.Option.{none-some, same_Some}
use borrow.Rule.Slice.PartMut.{put_mid}
use Rattle.cut_disk.specs.Images.{splice}
use Rattle.cut_disk.proofs.CallerLemmas.{length-splice, get_or-splice_before, get_or-splice_in, get_or-splice_behind}
use Rattle.cell_store.specs.Layout.{part}
use Rattle.cell_store.specs.Twin.{twin_size, first_at, second_at, cell_of, cell_at}
use Rattle.cell_store.proofs.CallerLemmas.{part-part, part-same, SameOutside-splice, splice-none}
use Rattle.key_slots.specs.declared.memory.Slot.{Slot}
use Rattle.key_slots.specs.declared.memory.Flags.{Flags}
use Rattle.key_slots.specs.declared.memory.Slot.TheVariants.{Empty, Filled}
use Rattle.slot_disk.proofs.CallerLemmas.{one_slot}
use Rattle.freshness_routes.specs.declared.routes.Direction.{Direction}
use Rattle.freshness_store.specs.Bound.{HoldsBound, HoldsNoBound}
use Rattle.freshness_store.proofs.CallerLemmas.{one_bound}
use Rattle.store_plan.specs.declared.planning.Plan.{Plan}
use Rattle.store_plan.specs.declared.planning.Write.{Write}
use Rattle.store_plan.specs.Plans.{WriteFits, PlanFits, bytes_written, applied, applied_write}
use Rattle.rathonsi_c.specs.Stale.{BoundFalls, HoldsKey, KeyFalls}

-- ---- one write

few-bytes : (w : Write) → length (bytes_written w) ≤ w.size
few-bytes w = omega (arith, length-take w.size w.bytes)

within : (n : ℕ) (w : Write) → WriteFits n w → (w.size ≡ 0) ⊎ (w.offset + length (bytes_written w) ≤ n)
within n w f = elim (cases_lt 0 w.size) [
  | inl some ↦ inr (let i = f.inside some in let b = few-bytes w in omega arith)
  | inr none ↦ inl (omega arith)
]

no-bytes : (w : Write) (x : List ℕ) → w.size ≡ 0 → applied_write w x ≡ x
no-bytes w x e = ap (λ n. splice w.offset (take n w.bytes) x) e ∙ splice-none w.offset x

pub write-length : (w : Write) (x : List ℕ) → WriteFits (length x) w → length (applied_write w x) ≡ length x
write-length w x f = elim (within (length x) w f) [
  | inl e ↦ ap length (no-bytes w x e)
  | inr inside ↦ length-splice w.offset (bytes_written w) x inside
]

-- a write that has no byte there leaves a part
pub write-beside : (w : Write) (x : List ℕ) (at n : ℕ) → WriteFits (length x) w → (w.size ≡ 0) ⊎ ((at + n ≤ w.offset) ⊎ (w.offset + w.size ≤ at)) → part at n (applied_write w x) ≡ part at n x
write-beside w x at n f out = elim (within (length x) w f) [
  | inl e ↦ ap (part at n) (no-bytes w x e)
  | inr inside ↦ elim out [
    | inl e ↦ ap (part at n) (no-bytes w x e)
    | inr apart ↦
        part-same at n w.offset (length (bytes_written w)) x (applied_write w x) (SameOutside-splice w.offset (bytes_written w) x inside)
        (elim apart [ inl before ↦ inl before | inr behind ↦ inr (let b = few-bytes w in omega arith) ])
  ]
]

-- what a write has of 68 bytes, over these
module _ (w : Write) (x : List ℕ) (at first last : ℕ) (f : WriteFits (length x) w) (forty : length w.bytes ≡ 40) (room : at + 68 ≤ length x) (from : at ≤ first) (begun : w.offset ≤ first)
    (begins : (first ≡ at) ⊎ (first ≡ w.offset)) (upto : last ≤ at + 68) (ended : last ≤ w.offset + w.size) (ends : (last ≡ at + 68) ⊎ (last ≡ w.offset + w.size)) (some : first < last) where
  abbrev new : List ℕ
  new = take (last - w.offset - (first - w.offset)) (drop (first - w.offset) w.bytes)

  many : length new ≡ last - first
  many = let few = f.few in omega (arith, length-take (last - w.offset - (first - w.offset)) (drop (first - w.offset) w.bytes), length-drop (first - w.offset) w.bytes)

  whole : length (part at 68 x) ≡ 68
  whole = omega (arith, length-take 68 (drop at x), length-drop at x)

  written : length (bytes_written w) ≡ w.size
  written = let few = f.few in omega (arith, length-take w.size w.bytes)

  inside : first - at + length new ≤ length (part at 68 x)
  inside = omega (arith, many, whole)

  within-x : w.offset + length (bytes_written w) ≤ length x
  within-x = let i = f.inside (omega arith) in omega (arith, written)

  at-part : (y : List ℕ) (k : ℕ) → k < 68 → get_or (part at 68 y) k 0 ≡ get_or y (at + k) 0
  at-part y k h = get_or-take 68 (drop at y) k 0 h ∙ get_or-drop at y k 0

  each : (k : ℕ) → k < 68 → get_or (splice (first - at) new (part at 68 x)) k 0 ≡ get_or (part at 68 (applied_write w x)) k 0
  each k h = elim (cases_lt k (first - at)) [
    | inl before ↦
        let earlier : at + k < w.offset = elim begins [ inl e ↦ absurd (omega arith) | inr e ↦ omega arith ] in
        get_or-splice_before (first - at) new (part at 68 x) k 0 inside before
        ∙ (at-part x k h ∙ (sym (get_or-splice_before w.offset (bytes_written w) x (at + k) 0 within-x earlier) ∙ sym (at-part (applied_write w x) k h)))
    | inr since ↦ elim (cases_lt k (last - at)) [
      | inl here ↦
          let place : first - w.offset + (k - (first - at)) ≡ at + k - w.offset = omega arith in
          get_or-splice_in (first - at) new (part at 68 x) k 0 inside since (omega (arith, many))
          ∙ (get_or-take (last - w.offset - (first - w.offset)) (drop (first - w.offset) w.bytes) (k - (first - at)) 0 (omega arith)
          ∙ (get_or-drop (first - w.offset) w.bytes (k - (first - at)) 0
          ∙ (ap (λ i. get_or w.bytes i 0) place
          ∙ (sym (get_or-take w.size w.bytes (at + k - w.offset) 0 (omega arith))
          ∙ (sym (get_or-splice_in w.offset (bytes_written w) x (at + k) 0 within-x (omega arith) (omega (arith, written))) ∙ sym (at-part (applied_write w x) k h))))))
      | inr behind ↦
          let later : w.offset + w.size ≤ at + k = elim ends [ inl e ↦ absurd (omega arith) | inr e ↦ omega arith ] in
          get_or-splice_behind (first - at) new (part at 68 x) k 0 inside (omega (arith, many))
          ∙ (at-part x k h ∙ (sym (get_or-splice_behind w.offset (bytes_written w) x (at + k) 0 within-x (omega (arith, written))) ∙ sym (at-part (applied_write w x) k h)))
    ]
  ]

  pub write-over : splice (first - at) new (part at 68 x) ≡ part at 68 (applied_write w x)
  write-over =
      let one = length-splice (first - at) new (part at 68 x) inside in
      ext_get_or 0 _ _ (omega (arith, one, whole, length-take 68 (drop at (applied_write w x)), length-drop at (applied_write w x), write-length w x f)) (λ k h. each k (omega (arith, one, whole)))

-- a copy into the middle of 68 bytes is what they are with the write
put_mid-splice : (at k : ℕ) (x new : List ℕ) → k ≡ length new → at + length new ≤ length x → put_mid at k x new ≡ splice at new x
unfolding splice
put_mid-splice at k x new same inside = same_lists _ _ (search (rules, places)) (λ i d h. grind (arith, places))

pub put_mid-is : (first last at from : ℕ) (bytes x pair copied : List ℕ) → at ≤ first → from ≤ first → first < last → length bytes ≡ 40 → last ≤ from + 40 → last ≤ at + 68 → at + 68 ≤ length x → pair ≡ part at 68 x
    → copied ≡ take (last - from - (first - from)) (drop (first - from) bytes)
    → put_mid (first - at) (last - at - (first - at)) pair copied ≡ splice (first - at) (take (last - from - (first - from)) (drop (first - from) bytes)) (part at 68 x)
put_mid-is first last at from bytes x pair copied after since some forty upto within-part room e is =
    let many : length copied ≡ last - first = ap length is ∙ omega (arith, length-take (last - from - (first - from)) (drop (first - from) bytes), length-drop (first - from) bytes) in
    let whole : length pair ≡ 68 = ap length e ∙ omega (arith, length-take 68 (drop at x), length-drop at x) in
    put_mid-splice (first - at) (last - at - (first - at)) pair copied (omega arith) (omega arith)
    ∙ (ap (λ (b : List ℕ). splice (first - at) b pair) is ∙ ap (λ (y : List ℕ). splice (first - at) (take (last - from - (first - from)) (drop (first - from) bytes)) y) e)

-- ---- a plan

-- the same 68 bytes are the same cell
pub cell-same : (x y : List ℕ) (i : ℕ) → twin_size (i + 1) ≤ length x → length y ≡ length x → part (first_at i) 68 y ≡ part (first_at i) 68 x → cell_at y i ≡ cell_at x i
unfolding cell_at
cell-same x y i room long same =
    let at : first_at i ≡ first_at i + 0 = omega arith in
    let behind : second_at i ≡ first_at i + 34 = omega arith in
    let first : part (first_at i) 34 y ≡ part (first_at i) 34 x =
    ap (λ n. part n 34 y) at ∙ (part-part (first_at i) 68 0 34 y (omega arith) (omega arith) ∙ (ap (part 0 34) same ∙ (sym (part-part (first_at i) 68 0 34 x (omega arith) (omega arith)) ∙ ap (λ n. part n 34 x) (sym at)))) in
    let second : part (second_at i) 34 y ≡ part (second_at i) 34 x =
    ap (λ n. part n 34 y) behind ∙ (part-part (first_at i) 68 34 34 y (omega arith) (omega arith) ∙ (ap (part 34 34) same ∙ (sym (part-part (first_at i) 68 34 34 x (omega arith) (omega arith)) ∙ ap (λ n. part n 34 x) (sym behind)))) in
    ap (λ (c : List ℕ). cell_of c (part (second_at i) 34 y)) first ∙ ap (λ (c : List ℕ). cell_of (part (first_at i) 34 x) c) second

-- three writes, one after the other
module _ (plan : Plan) (x : List ℕ) (f : PlanFits (length x) plan) where
  abbrev pub once : List ℕ
  once = applied_write plan.first x

  abbrev pub twice : List ℕ
  twice = applied_write plan.second once

  pub once-long : length once ≡ length x
  once-long = write-length plan.first x f.first

  pub fits-second : WriteFits (length once) plan.second
  fits-second = subst (λ n. WriteFits n plan.second) (sym once-long) f.second

  pub twice-long : length twice ≡ length x
  twice-long = write-length plan.second once fits-second ∙ once-long

  pub fits-third : WriteFits (length twice) plan.third
  fits-third = subst (λ n. WriteFits n plan.third) (sym twice-long) f.third

  pub plan-long : length (applied plan x) ≡ length x
  plan-long = write-length plan.third twice fits-third ∙ twice-long

  -- what leaves 68 bytes of each image on the way, leaves a cell
  pub plan-beside : (i : ℕ) → twin_size (i + 1) ≤ length x → part (first_at i) 68 once ≡ part (first_at i) 68 x → part (first_at i) 68 twice ≡ part (first_at i) 68 once
      → part (first_at i) 68 (applied plan x) ≡ part (first_at i) 68 twice → cell_at (applied plan x) i ≡ cell_at x i
  plan-beside i room first second third = cell-same x (applied plan x) i room plan-long (third ∙ (second ∙ first))

-- ---- what falls

module _ (before bytes : List ℕ) (id : ℕ) (d : Direction) (bound : ℕ) (held : HoldsBound before id d bound) where
  pub bound-gone : BoundFalls before None
  bound-gone = record { id = id; direction = d; bound = bound; held = held; lower = λ after next e h. absurd (none-some after e) }

  pub bound-other : HoldsNoBound bytes id d → BoundFalls before (Some bytes)
  bound-other none = record { id = id; direction = d; bound = bound; held = held; lower = λ after next e h. absurd (none next (subst (λ (c : List ℕ). HoldsBound c id d next) (sym (same_Some _ _ e)) h)) }

  pub bound-lower : (next : ℕ) → HoldsBound bytes id d next → next < bound → BoundFalls before (Some bytes)
  bound-lower next new below = record {
    id = id;
    direction = d;
    bound = bound;
    held = held;
    lower = λ after other e h.
        let same : next ≡ other = (one_bound bytes id id d d next other new (subst (λ (c : List ℕ). HoldsBound c id d other) (sym (same_Some _ _ e)) h)).2 in
        omega arith;
  }

  pub bound-stays : (next : ℕ) → HoldsBound bytes id d next → bound ≤ next → BoundFalls before (Some bytes) → ⊥
  bound-stays next new upto falls =
      let one = one_bound before id falls.id d falls.direction bound falls.bound held falls.held in
      let there = subst (λ i. HoldsBound bytes i falls.direction next) one.0 (subst (λ (e : Direction). HoldsBound bytes id e next) one.1 new) in
      let below = falls.lower bytes next refl there in
      let same = one.2 in
      omega arith

abbrev is-filled : Slot → Bool
is-filled Empty = false
is-filled (Filled key counter flags) = true

abbrev counter-of : Slot → ℕ
counter-of Empty = 0
counter-of (Filled key counter flags) = counter

pub empty-filled : (key : List ℕ) (counter : ℕ) (flags : Flags) → Empty ≡ Filled key counter flags → ⊥
empty-filled key counter flags e = absurd (false≢true (ap is-filled e))

-- a cell holds one key
pub one_key : (cell : List ℕ) (a b : ℕ) → HoldsKey cell a → HoldsKey cell b → a ≡ b
one_key cell a b h k = ap counter-of (one_slot cell (Filled h.key a h.flags) (Filled k.key b k.flags) h.held k.held)

module _ (before bytes : List ℕ) (counter : ℕ) (held : HoldsKey before counter) where
  pub key-gone : KeyFalls before None
  key-gone = record { counter = counter; held = held; changed = λ e. none-some before e; lower = λ after next e h. absurd (none-some after e) }

  pub key-same : KeyFalls before (Some before) → ⊥
  key-same falls = falls.changed refl

  pub key-none : ((next : ℕ) → ¬ HoldsKey bytes next) → (bytes ≡ before → ⊥) → KeyFalls before (Some bytes)
  key-none none other = record {
    counter = counter;
    held = held;
    changed = λ e. other (same_Some _ _ e);
    lower = λ after next e h. absurd (none next (subst (λ (c : List ℕ). HoldsKey c next) (sym (same_Some _ _ e)) h));
  }

  pub key-lower : (next : ℕ) → HoldsKey bytes next → next ≤ counter → (bytes ≡ before → ⊥) → KeyFalls before (Some bytes)
  key-lower next new upto other = record {
    counter = counter;
    held = held;
    changed = λ e. other (same_Some _ _ e);
    lower = λ after n e h.
        let same = one_key bytes next n new (subst (λ (c : List ℕ). HoldsKey c n) (sym (same_Some _ _ e)) h) in
        omega arith;
  }

  pub key-higher : (next : ℕ) → HoldsKey bytes next → counter < next → KeyFalls before (Some bytes) → ⊥
  key-higher next new above falls =
      let below = falls.lower bytes next refl new in
      let same = one_key before counter falls.counter held falls.held in
      omega arith
