-- Plans of a put, and what they make of bytes.
use Rattle.std.specs.Prelude.{◌≡◌, ℕ, ◌+◌, ◌-◌, ◌<◌, ◌≤◌, Bool, true, false, List, [], ◌∷◌, length, take, drop}
use Rattle.std.specs.Prelude.{replicate}
use Rattle.cut_disk.specs.Images.{splice}
use Rattle.cell_store.specs.declared.copies.Side.{Side}
use Rattle.cell_store.specs.Layout.{SameOutside}
use Rattle.cell_store.specs.Twin.{twin_size, is_live, mark, next, counts}
use Rattle.cell_store.specs.Copies.{other, side_at, copy}
use Rattle.store_plan.specs.declared.planning.Write.{Write}
use Rattle.store_plan.specs.declared.planning.Plan.{Plan}

-- the bytes of a write
abbrev pub bytes_written : Write → List ℕ
bytes_written w = take w.size w.bytes

-- the write is of these bytes, from a place on
pub record WritesAt (w : Write) (at : ℕ) (new : List ℕ) : Type 0 where
  pub place : w.offset ≡ at
  pub count : w.size ≡ length new
  pub is : bytes_written w ≡ new

abbrev pub no_write : Write
no_write = record { offset = 0; size = 0; bytes = replicate 40 0 }

abbrev pub no_plan : Plan
no_plan = record { first = no_write; second = no_write; third = no_write }

-- what stands after the bytes of a write is zero
abbrev pub RestIsZero : Write → Type 0
RestIsZero w = drop w.size w.bytes ≡ replicate (40 - w.size) 0

-- the write stays within n bytes, if it has some, and within what a plan keeps of it
pub record WriteFits (n : ℕ) (w : Write) : Type 0 where
  pub few : w.size ≤ 40
  pub inside : 0 < w.size → w.offset + w.size ≤ n

pub record PlanFits (n : ℕ) (plan : Plan) : Type 0 where
  pub first : WriteFits n plan.first
  pub second : WriteFits n plan.second
  pub third : WriteFits n plan.third

-- a gate is closed if it is live, these bytes are written behind it, and it is opened
pub record Gated (plan : Plan) (at : ℕ) (live : Bool) (new : List ℕ) : Type 0 where
  pub closes : live ≡ true → WritesAt plan.first at (0 ∷ [])
  pub closed : live ≡ false → plan.first ≡ no_write
  pub fills : WritesAt plan.second (at + 1) new
  pub opens : WritesAt plan.third at (167 ∷ [])

pub record RestsAreZero (plan : Plan) : Type 0 where
  pub first : RestIsZero plan.first
  pub second : RestIsZero plan.second
  pub third : RestIsZero plan.third

-- the plan is one of a put of c at cell i, for the bytes x of a twin store of version 1
pub record PlansPut (plan : Plan) (x : List ℕ) (i : ℕ) (c : List ℕ) : Type 0 where
  pub sized : length c ≡ 32
  pub room : twin_size (i + 1) ≤ length x
  pub side : Side
  pub counting : counts (copy x i side) (copy x i (other side)) ≡ true
  pub gated : Gated plan (side_at i (other side)) (is_live (copy x i (other side))) (next (mark (copy x i side)) ∷ c)
  pub rests : RestsAreZero plan

-- what the writes of a plan make of x
abbrev pub applied : Plan → List ℕ → List ℕ
applied plan x =
    splice plan.third.offset (bytes_written plan.third)
    (splice plan.second.offset (bytes_written plan.second) (splice plan.first.offset (bytes_written plan.first) x))

-- what one write makes of x
abbrev pub applied_write : Write → List ℕ → List ℕ
applied_write w x = splice w.offset (bytes_written w) x

-- The power goes within a plan: the writes before some write are done, that one leaves anything in its own bytes, and
-- none after it has begun.
pub data CutWithin (plan : Plan) (x y : List ℕ) : Type 0 where
  in_first : SameOutside plan.first.offset plan.first.size x y → CutWithin plan x y
  in_second : SameOutside plan.second.offset plan.second.size (applied_write plan.first x) y → CutWithin plan x y
  in_third : SameOutside plan.third.offset plan.third.size (applied_write plan.second (applied_write plan.first x)) y
      → CutWithin plan x y

-- no write of a plan has a byte
pub record IsEmptyPlan (plan : Plan) : Type 0 where
  pub first : plan.first.size ≡ 0
  pub second : plan.second.size ≡ 0
  pub third : plan.third.size ≡ 0
