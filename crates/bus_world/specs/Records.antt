-- Sent lines, each linked with earlier ones of its Data ID
use Rattle.std.specs.Prelude.{◌≡◌, ◌≢◌, ℕ, ◌<◌, ◌≤◌, Option, None, Some, List, length, get_or, option_map}
use Rattle.bus_world.specs.declared.records.Record.{Record}
use Rattle.bus_world.specs.declared.records.Links.{Links}

-- the records at two places have one Data ID
abbrev pub SameID : List Record → ℕ → ℕ → Type 0
SameID records i j = (d : Record) → (get_or records i d).id ≡ (get_or records j d).id

-- no record at a place from `least` on, below `bound`, has this Data ID
abbrev pub NoneWithin : List Record → ℕ → ℕ → ℕ → Type 0
NoneWithin records id least bound = (k : ℕ) (d : Record) → least ≤ k → k < bound → (get_or records k d).id ≢ id

-- the place of the latest record of a Data ID below a place, if there is one
abbrev pub IsLatest : List Record → ℕ → ℕ → Option ℕ → Type 0
IsLatest records id bound None = NoneWithin records id 0 bound
IsLatest records id bound (Some j) =
    (j < bound) × ((d : Record) → (get_or records j d).id ≡ id)
    × ((k : ℕ) (d : Record) → j < k → k < bound → (get_or records k d).id ≢ id)

-- links of a record of this Data ID at this place: to the latest earlier record of the Data ID, and to any earlier one
-- of it
pub record LinkedAt (records : List Record) (place id : ℕ) (links : Option Links) : Type 0 where
  pub last : IsLatest records id place (option_map (λ (l : Links). l.last) links)
  pub far : (l : Links) → links ≡ Some l → (l.far < place) × ((d : Record) → (get_or records l.far d).id ≡ id)

abbrev pub Linked : List Record → Type 0
Linked records =
    (i : ℕ) (d : Record) → i < length records → LinkedAt records i (get_or records i d).id (get_or records i d).links

-- under each Data ID freshness rises
abbrev pub RisesByID : List Record → Type 0
RisesByID records =
    (i j : ℕ) (d : Record) → i < j → j < length records → (get_or records i d).id ≡ (get_or records j d).id
    → (get_or records i d).freshness < (get_or records j d).freshness

-- the numbers of the records rise
abbrev pub RisesByNumber : List Record → Type 0
RisesByNumber records =
    (i j : ℕ) (d : Record) → i < j → j < length records → (get_or records i d).number < (get_or records j d).number

-- ---- what is looked for

abbrev pub IsNumbered : List Record → ℕ → ℕ → Type 0
IsNumbered records number k = (k < length records) × ((d : Record) → (get_or records k d).number ≡ number)

abbrev pub NoneNumbered : List Record → ℕ → Type 0
NoneNumbered records number = (k : ℕ) (d : Record) → k < length records → (get_or records k d).number ≢ number

abbrev pub HasAt : List Record → ℕ → ℕ → ℕ → Type 0
HasAt records id v k = (d : Record) → ((get_or records k d).id ≡ id) × ((get_or records k d).freshness ≡ v)

abbrev pub FoundAt : List Record → ℕ → ℕ → ℕ → Type 0
FoundAt records id v k = (k < length records) × HasAt records id v k

abbrev pub NotFound : List Record → ℕ → ℕ → Type 0
NotFound records id v = (k : ℕ) → k < length records → HasAt records id v k → ⊥

-- a record with these values stands at or before this place, if it stands anywhere
abbrev pub UpTo : List Record → ℕ → ℕ → Option ℕ → Type 0
UpTo records id v None = NotFound records id v
UpTo records id v (Some next) =
    (next < length records)
    × ((d : Record) → (get_or records next d).id ≡ id)
    × ((k : ℕ) → k < length records → HasAt records id v k → k ≤ next)

-- of the records before this place and of its Data ID, one with the freshness stands at or before `next`, if it stands
-- anywhere
abbrev pub BelowNext : List Record → ℕ → ℕ → Option ℕ → Type 0
BelowNext records place v None =
    (k : ℕ) (d : Record) → k < place → (get_or records k d).id ≡ (get_or records place d).id
    → (get_or records k d).freshness ≢ v
BelowNext records place v (Some next) =
    (next < place)
    × SameID records next place
    × ((k : ℕ) (d : Record) → next < k → k < place → (get_or records k d).id ≡ (get_or records place d).id
    → (get_or records k d).freshness ≢ v)

-- the freshness is above that of the record at this place
abbrev pub IsAbove : List Record → ℕ → Option ℕ → Type 0
IsAbove records v None = Unit {0}
IsAbove records v (Some last) = (d : Record) → (get_or records last d).freshness < v
