-- What a start has read of the log, and what it makes of it.
use Rattle.std.specs.Prelude.{◌≡◌, ◌≢◌, ◌⊎◌, ◌+◌, ◌*◌, ◌<◌, ◌≤◌, ℕ, suc, true, false, Option, Some, None, List, []}
use Rattle.std.specs.Prelude.{◌∷◌, get_or, length, set}
use Rattle.seal_parts.specs.declared.LogDeed.{LogDeed}
use Rattle.seal_parts.specs.declared.LineBody.TheVariants.{Copies, Does}
use Rattle.seal_parts.specs.declared.DeedBody.{DeedBody}
use Rattle.seal_parts.specs.declared.DeedBody.TheVariants.{Puts}
use Rattle.seal_logs.specs.declared.PlaceRead.{PlaceRead}
use Rattle.seal_logs.specs.declared.LogSizes.{LogSizes}

-- a place of which nothing is read
abbrev pub no_read : PlaceRead
no_read = record { line = None; is_begun = false; is_confirmed = false; is_closed = false }

-- what was read, by bank and place
abbrev pub LogReads : Type 0
LogReads = ℕ → ℕ → PlaceRead

-- .. from a list that has the places of bank 0, then those of bank 1, and so on
abbrev pub reads_in : LogSizes → List PlaceRead → LogReads
reads_in s reads bank k = get_or reads (bank * s.places + k) no_read

-- a place of deeds stands behind those of the copy
abbrev pub IsDeedPlace : LogSizes → ℕ → ℕ → Type 0
IsDeedPlace s bank k = (bank < s.banks) × ((s.cells ≤ k) × (k < s.places))

-- the place is read as this deed of this generation
abbrev pub ReadsDeed : PlaceRead → ℕ → LogDeed → Type 0
ReadsDeed p generation deed = p.line ≡ Some (record { generation = generation; body = Does deed })

-- The latest deed of these places is the last one of its bank under the highest generation, and no other bank has a
-- deed of that generation.
pub record IsLatestIn (In : ℕ → ℕ → Type 0) (r : LogReads) (bank place generation : ℕ) (deed : LogDeed) : Type 0 where
  pub inside : In bank place
  pub is : ReadsDeed (r bank place) generation deed
  pub latest : (b k g : ℕ) (other : LogDeed) → In b k → ReadsDeed (r b k) g other
      → (g < generation) ⊎ ((g ≡ generation) × ((b ≡ bank) × (k ≤ place)))

-- none of these places is read as a deed
abbrev pub HasNoDeedIn : (ℕ → ℕ → Type 0) → LogReads → Type 0
HasNoDeedIn In r = (b k g : ℕ) (deed : LogDeed) → In b k → ReadsDeed (r b k) g deed → ⊥

-- a place that is read as a deed of this generation
pub record HasDeedIn (In : ℕ → ℕ → Type 0) (r : LogReads) (bank generation : ℕ) : Type 0 where
  pub place : ℕ
  pub deed : LogDeed
  pub inside : In bank place
  pub is : ReadsDeed (r bank place) generation deed

-- two banks have a deed of the highest generation
pub record HasTwoLatestIn (In : ℕ → ℕ → Type 0) (r : LogReads) (generation : ℕ) : Type 0 where
  pub bank : ℕ
  pub other : ℕ
  pub differ : bank ≢ other
  pub one : HasDeedIn In r bank generation
  pub another : HasDeedIn In r other generation
  pub most : (b k g : ℕ) (deed : LogDeed) → In b k → ReadsDeed (r b k) g deed → g ≤ generation

-- the place may have been begun: a guard of it is read, or a deed of this generation
abbrev pub IsBegunPlace : PlaceRead → ℕ → Type 0
IsBegunPlace p generation = (p.is_begun ≡ true) ⊎ ((deed : LogDeed) × ReadsDeed p generation deed)

-- from this place on no place of the bank may have been begun, and the one before it may, if it is one of deeds
pub record EndsBefore (s : LogSizes) (places : ℕ → PlaceRead) (generation next : ℕ) : Type 0 where
  pub from : s.cells ≤ next
  pub below : next ≤ s.places
  pub last : (k : ℕ) → s.cells ≤ k → suc k ≡ next → IsBegunPlace (places k) generation
  pub none : (k : ℕ) → next ≤ k → k < s.places → IsBegunPlace (places k) generation → ⊥

-- a confirm is read, and no deed of this generation beside it: its line was done, and was lost
pub record LacksLine (s : LogSizes) (places : ℕ → PlaceRead) (generation : ℕ) : Type 0 where
  pub place : ℕ
  pub from : s.cells ≤ place
  pub below : place < s.places
  pub confirmed : (places place).is_confirmed ≡ true
  pub lacks : (deed : LogDeed) → ReadsDeed (places place) generation deed → ⊥

-- a copy of these cells under this generation is read
abbrev pub IsCopyRead : (ℕ → PlaceRead) → ℕ → List (List ℕ) → Type 0
IsCopyRead places generation cells = (i : ℕ) → i < length cells
    → (places i).line ≡ Some (record { generation = generation; body = Copies i (get_or cells i []) })

-- From this deed back to the copy each deed that is followed is read, and stands before the one that follows it: these
-- are their places, the last one first. The first of them stands before `limit`.
abbrev pub IsChain : LogSizes → (ℕ → PlaceRead) → ℕ → ℕ → Option ℕ → List ℕ → Type 0
IsChain s places generation limit None [] = Unit {0}
IsChain s places generation limit None (k ∷ ks) = ⊥
IsChain s places generation limit (Some at) [] = ⊥
IsChain s places generation limit (Some at) (k ∷ ks) = (k ≡ at) × ((s.cells ≤ at) × ((at < limit)
    × ((deed : LogDeed) × (ReadsDeed (places at) generation deed × IsChain s places generation at deed.prev ks))))

-- what a deed makes of the cells
abbrev pub after_body : DeedBody → List (List ℕ) → List (List ℕ)
after_body (Puts cell payload) cells = set cells cell payload
after_body body cells = cells

-- these deeds, the last one first, make these cells of those of the copy
abbrev pub MakesOf : (ℕ → PlaceRead) → ℕ → List ℕ → List (List ℕ) → List (List ℕ) → Type 0
MakesOf places generation [] cells now = now ≡ cells
MakesOf places generation (k ∷ ks) cells now = (deed : LogDeed) × (ReadsDeed (places k) generation deed
    × ((between : List (List ℕ)) × (MakesOf places generation ks cells between × (now ≡ after_body deed.body between))))
