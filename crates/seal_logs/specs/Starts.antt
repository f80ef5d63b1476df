-- What a start makes of what it read.
use Rattle.std.specs.Prelude.{◌≡◌, ◌≢◌, ◌⊎◌, ◌↔◌, ◌-◌, ◌<◌, ℕ, suc, true, false, Some, List, length}
use Rattle.seal_parts.specs.declared.DeedBody.{DeedBody}
use Rattle.seal_parts.specs.declared.DeedBody.TheVariants.{Moves, IsNew}
use Rattle.seal_logs.specs.declared.LogSizes.{LogSizes}
use Rattle.seal_logs.specs.declared.finding.FoundDeed.{FoundDeed}
use Rattle.seal_logs.specs.declared.starting.FoundStore.{FoundStore}
use Rattle.seal_logs.specs.declared.starting.StartEnd.{StartEnd}
use Rattle.seal_logs.specs.declared.starting.StartEnd.TheVariants.{NoStore, Damaged, Exhausted, Found}
use Rattle.seal_logs.specs.Reads.{LogReads, IsDeedPlace, IsLatestIn, HasNoDeedIn, HasTwoLatestIn, EndsBefore, LacksLine}
use Rattle.seal_logs.specs.Reads.{IsCopyRead, IsChain, MakesOf}

-- the bank that has the copy of the cells, and its generation, as the latest deed says
abbrev pub home_bank : FoundDeed → DeedBody → ℕ
home_bank d (Moves to next) = to
home_bank d body = d.bank

abbrev pub home_generation : FoundDeed → DeedBody → ℕ
home_generation d (Moves to next) = next
home_generation d body = d.generation

abbrev pub IsMove : DeedBody → Type 0
IsMove (Moves to next) = Unit {0}
IsMove body = ⊥

abbrev pub IsLatestDeed : LogSizes → LogReads → FoundDeed → Type 0
IsLatestDeed s r d = IsLatestIn (IsDeedPlace s) r d.bank d.place d.generation d.deed

abbrev pub HasChain : LogSizes → LogReads → FoundDeed → List ℕ → Type 0
HasChain s r d chain = IsChain s (r d.bank) d.generation s.places (Some d.place) chain

-- a copy of these cells is read in the bank that the latest deed says
pub record HasHome (s : LogSizes) (r : LogReads) (d : FoundDeed) (copy : List (List ℕ)) : Type 0 where
  pub inside : home_bank d d.deed.body < s.banks
  pub count : length copy ≡ s.cells
  pub copied : IsCopyRead (r (home_bank d d.deed.body)) (home_generation d d.deed.body) copy

abbrev pub LacksHomeLine : LogSizes → LogReads → FoundDeed → Type 0
LacksHomeLine s r d = LacksLine s (r (home_bank d d.deed.body)) (home_generation d d.deed.body)

-- The latest deed, its chain and the copy are read, and no line of their banks was lost.
pub record IsWholeLog (s : LogSizes) (r : LogReads) (d : FoundDeed) (chain : List ℕ)
    (copy : List (List ℕ)) : Type 0 where
  pub latest : IsLatestDeed s r d
  pub lines : LacksLine s (r d.bank) d.generation → ⊥
  pub followed : HasChain s r d chain
  pub old : d.deed.body ≢ IsNew
  pub home : HasHome s r d copy
  pub home_lines : LacksHomeLine s r d → ⊥

-- nothing was begun behind the latest deed, and its last confirm is read
abbrev pub IsClean : LogReads → FoundDeed → ℕ → Type 0
IsClean r d next = (suc d.place ≡ next) × ((r d.bank d.place).is_closed ≡ true)

-- the store that a start has found, and its cells
pub record IsStoreFound (s : LogSizes) (r : LogReads) (f : FoundStore) (cells : List (List ℕ)) : Type 0 where
  pub chain : List ℕ
  pub copy : List (List ℕ)
  pub whole : IsWholeLog s r f.latest chain copy
  pub home : f.home ≡ home_bank f.latest f.latest.deed.body
  pub generation : f.generation ≡ home_generation f.latest f.latest.deed.body
  pub lacking : f.lacking ≡ 2 - length chain
  pub next : EndsBefore s (r f.latest.bank) f.latest.generation f.next
  pub home_next : EndsBefore s (r f.home) f.generation f.home_next
  pub clean : (f.is_clean ≡ true) ↔ IsClean r f.latest f.next
  pub moved : IsMove f.latest.deed.body → cells ≡ copy
  pub stayed : (IsMove f.latest.deed.body → ⊥) → MakesOf (r f.latest.bank) f.latest.generation chain copy cells
  pub room : f.is_clean ≡ false → f.next < s.places
  pub home_room : IsMove f.latest.deed.body → f.home_next < s.places

-- the log is whole, but no place is left for the deed that is to be programmed again, or for the one that opens its
-- home
pub record IsLogJammed (s : LogSizes) (r : LogReads) : Type 0 where
  pub deed : FoundDeed
  pub chain : List ℕ
  pub copy : List (List ℕ)
  pub whole : IsWholeLog s r deed chain copy
  pub full : (EndsBefore s (r deed.bank) deed.generation s.places × (IsClean r deed s.places → ⊥))
      ⊎ (IsMove deed.deed.body
      × EndsBefore s (r (home_bank deed deed.deed.body)) (home_generation deed deed.deed.body) s.places)

-- no deed is read; or the latest one says that there is no store yet
pub data IsLogNew (s : LogSizes) (r : LogReads) : Type 0 where
  has_no_deed : HasNoDeedIn (IsDeedPlace s) r → IsLogNew s r
  is_begun : (d : FoundDeed) (chain : List ℕ) → IsLatestDeed s r d → (LacksLine s (r d.bank) d.generation → ⊥)
      → HasChain s r d chain → d.deed.body ≡ IsNew → IsLogNew s r

-- something that was done isn't read
pub data IsLogDamaged (s : LogSizes) (r : LogReads) : Type 0 where
  has_two_latest : (generation : ℕ) → HasTwoLatestIn (IsDeedPlace s) r generation → IsLogDamaged s r
  lacks_line : (d : FoundDeed) → IsLatestDeed s r d → LacksLine s (r d.bank) d.generation → IsLogDamaged s r
  lacks_deed : (d : FoundDeed) → IsLatestDeed s r d → ((chain : List ℕ) → HasChain s r d chain → ⊥) → IsLogDamaged s r
  lacks_copy : (d : FoundDeed) → IsLatestDeed s r d → d.deed.body ≢ IsNew
      → ((copy : List (List ℕ)) → HasHome s r d copy → ⊥) → IsLogDamaged s r
  lacks_home_line : (d : FoundDeed) → IsLatestDeed s r d → LacksHomeLine s r d → IsLogDamaged s r

abbrev pub StartFinds : LogSizes → LogReads → StartEnd → List (List ℕ) → Type 0
StartFinds s r NoStore cells = IsLogNew s r
StartFinds s r Damaged cells = IsLogDamaged s r
StartFinds s r Exhausted cells = IsLogJammed s r
StartFinds s r (Found f) cells = IsStoreFound s r f cells
