-- Which arrivals of the two kinds belong together
use Rattle.std.specs.Prelude.{◌≡◌, ◌↔◌, ℕ, ◌<◌, List, [], drop, length, slice_index_or, Option, None, Some}
use Rattle.pdu_collection.specs.Collection.{Place, link_of}

pub data Kind : Type 0 where
  authentic : Kind
  cryptographic : Kind

abbrev pub other_kind : Kind → Kind
other_kind authentic = cryptographic
other_kind cryptographic = authentic

-- a PDU that arrived, of the right length for its kind
pub record Arrival : Type 0 where
  pub kind : Kind
  pub pdu : List ℕ

-- the message link of a PDU: the payload's, or what stands after the authenticator
abbrev pub link_in : Place → Kind → List ℕ → List ℕ
link_in place authentic pdu = link_of place pdu
link_in place cryptographic pdu = drop 4 pdu

abbrev pub link : Place → Arrival → List ℕ
link place arrival = link_in place arrival.kind arrival.pdu

-- arrival i, counted from 0
abbrev pub arrival_at : List Arrival → ℕ → Arrival
arrival_at arrivals i = slice_index_or arrivals i (record { kind = authentic; pdu = [] })

-- which earlier arrival i joins, if it joins one
abbrev pub partner_at : List (Option ℕ) → ℕ → Option ℕ
partner_at partners i = slice_index_or partners i None

-- arrival j is the latest of its kind before i
pub record IsLatestOfKind (arrivals : List Arrival) (kind : Kind) (i j : ℕ) : Type 0 where
  pub earlier : j < i
  pub kind_is : (arrival_at arrivals j).kind ≡ kind
  pub latest : (k : ℕ) → j < k → k < i → ¬ ((arrival_at arrivals k).kind ≡ kind)

-- arrival j joins none, and none between it and i joins it
pub record IsSingle (partners : List (Option ℕ)) (i j : ℕ) : Type 0 where
  pub joins_none : partner_at partners j ≡ None
  pub joined_by_none : (k : ℕ) → j < k → k < i → ¬ (partner_at partners k ≡ Some j)

-- arrival i joins j: the latest earlier one of the other kind, if their links are equal and j is single
pub record Joins (place : Place) (arrivals : List Arrival) (partners : List (Option ℕ)) (i j : ℕ) : Type 0 where
  pub latest : IsLatestOfKind arrivals (other_kind (arrival_at arrivals i).kind) i j
  pub same_link : link place (arrival_at arrivals j) ≡ link place (arrival_at arrivals i)
  pub single : IsSingle partners i j

-- the arrivals join one another so: `partners` has, for each, which one it joins
pub record Joining (place : Place) (arrivals : List Arrival) (partners : List (Option ℕ)) : Type 0 where
  pub as_many : length partners ≡ length arrivals
  pub each : (i j : ℕ) → i < length arrivals → (partner_at partners i ≡ Some j) ↔ Joins place arrivals partners i j
