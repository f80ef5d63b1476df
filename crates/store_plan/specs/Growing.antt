-- A twin store of version 1 that gets a cell more at its end: the first copy of the cell is written as a put writes
-- one, its gate last, and then the number of cells in the header. A cut may leave any number there. So the number of
-- cells is what the cells say: as many as count, from the first on.
use Rattle.std.specs.Prelude.{◌≡◌, ℕ, ◌+◌, ◌<◌, ◌≤◌, ◌⊎◌, false, None, IsSome, List, [], ◌∷◌, length, replicate}
use Rattle.basics.specs.Numbers.{bytes_of}
use Rattle.cut_disk.specs.Images.{splice}
use Rattle.cell_store.specs.declared.kinds.Version.TheVariants.{One}
use Rattle.cell_store.specs.Layout.{twin_layout, part}
use Rattle.cell_store.specs.Twin.{twin_size, first_at, second_at, is_live, cell_at}
use Rattle.cell_store.specs.Store.{HasHeader}
use Rattle.store_plan.specs.declared.growing.TellFault.{TellFault}
use Rattle.store_plan.specs.declared.growing.TellFault.TheVariants.{NoStore, TooShort, Damaged}
use Rattle.store_plan.specs.declared.planning.Plan.{Plan}
use Rattle.store_plan.specs.Plans.{WritesAt, RestsAreZero, no_write}

-- where the header has the number of cells
abbrev pub count_at : ℕ
count_at = 10

-- x with this number of cells in its header
abbrev pub with_number : ℕ → List ℕ → List ℕ
with_number n x = splice count_at (bytes_of 2 n) x

-- x has the header of a store of n cells, once that number stands in it
abbrev pub HasHeadButCount : List ℕ → ℕ → Type 0
HasHeadButCount x n = HasHeader (twin_layout One) n (with_number n x)

-- ---- what the cells say

-- no cell from this one on counts, of those that x has room for
abbrev pub NoneFrom : List ℕ → ℕ → Type 0
NoneFrom x from = (j : ℕ) → from ≤ j → j < 1024 → twin_size (j + 1) ≤ length x → cell_at x j ≡ None

-- the first n cells of x each have a copy that counts, and cell n has none, if x has room for it
pub record CountsFirst (x : List ℕ) (n : ℕ) : Type 0 where
  pub most : n ≤ 1024
  pub room : twin_size n ≤ length x
  pub cells : (j : ℕ) → j < n → IsSome (cell_at x j)
  pub end : n < 1024 → twin_size (n + 1) ≤ length x → cell_at x n ≡ None

-- the place of cell i in x is as an erase leaves it: all 00, or all ff
abbrev pub IsErased : List ℕ → ℕ → Type 0
IsErased x i = (part (first_at i) 68 x ≡ replicate 68 0) ⊎ (part (first_at i) 68 x ≡ replicate 68 0xff)

-- x has room for cell n, its place is erased, and no cell after it counts
pub record EndsErased (x : List ℕ) (n : ℕ) : Type 0 where
  pub room : twin_size (n + 1) ≤ length x
  pub erased : IsErased x n
  pub later : NoneFrom x (n + 1)

-- The cells of x say that there are n: so many count, from the first on. And the number in the header is the same, or
-- what is after them is erased: then the number was cut.
pub record SaysCells (x : List ℕ) (n : ℕ) : Type 0 where
  pub head : HasHeadButCount x n
  pub counts : CountsFirst x n
  pub sure : HasHeader (twin_layout One) n x ⊎ EndsErased x n

-- x ends too soon to say it: it has no room for a cell that doesn't count, and the number is another
abbrev pub EndsTooSoon : List ℕ → Type 0
EndsTooSoon x =
    (n : ℕ) × (CountsFirst x n × (length x < twin_size (n + 1)) × (¬ HasHeader (twin_layout One) n x))

-- why the cells of x say nothing
abbrev pub TellsNot : List ℕ → TellFault → Type 0
TellsNot x NoStore = ¬ HasHeadButCount x 1
TellsNot x TooShort = HasHeadButCount x 1 × EndsTooSoon x
TellsNot x Damaged = HasHeadButCount x 1 × (¬ EndsTooSoon x) × ((n : ℕ) → ¬ SaysCells x n)

-- ---- a cell more

-- no copy at the place of cell i is live
pub record HasNoLiveCopy (x : List ℕ) (i : ℕ) : Type 0 where
  pub first : is_live (part (first_at i) 34 x) ≡ false
  pub second : is_live (part (second_at i) 34 x) ≡ false

-- x may get cell n: the place of that cell is free, and what is after it is erased
pub record MayGrow (x : List ℕ) (n : ℕ) : Type 0 where
  pub free : HasNoLiveCopy x n
  pub after : EndsErased x (n + 1)

-- the plan is to write cell i, of this payload, and the number of cells
pub record PlansGrowth (plan : Plan) (i : ℕ) (c : List ℕ) : Type 0 where
  pub first : WritesAt plan.first (first_at i + 1) (0 ∷ c)
  pub second : WritesAt plan.second (first_at i) (0xa7 ∷ [])
  pub third : WritesAt plan.third count_at (bytes_of 2 (i + 1))
  pub rests : RestsAreZero plan

-- or the number alone
pub record PlansCount (plan : Plan) (n : ℕ) : Type 0 where
  pub first : plan.first ≡ no_write
  pub second : plan.second ≡ no_write
  pub third : WritesAt plan.third count_at (bytes_of 2 n)
  pub rests : RestsAreZero plan
