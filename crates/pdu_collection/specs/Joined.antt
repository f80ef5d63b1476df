-- What the next arrival joins, and what a joiner knows between two arrivals
use Rattle.std.specs.Prelude.{◌≡◌, ℕ, List, [], ◌∷◌, ◌++◌, length, take, drop, Option, None, Some}
use Rattle.pdu_collection.specs.Collection.{Place, joined_pdu}
use Rattle.pdu_collection.specs.Joining.{Kind, authentic, cryptographic, Arrival, arrival_at, partner_at}
use Rattle.pdu_collection.specs.Joining.{IsLatestOfKind, IsSingle, Joining}

-- the PDU of the arrival with this number, if there is a number
abbrev pub IsPduAt : List Arrival → Option ℕ → Option (List ℕ) → Type 0
IsPduAt arrivals None None = Unit {0}
IsPduAt arrivals (Some j) (Some pdu) = pdu ≡ (arrival_at arrivals j).pdu
IsPduAt arrivals None (Some pdu) = ⊥
IsPduAt arrivals (Some j) None = ⊥

-- after these arrivals, the next one joins one that has this PDU, or none
pub record NextJoins (place : Place) (arrivals : List Arrival) (next : Arrival) (joined : Option (List ℕ))
    : Type 0 where
  pub partners : List (Option ℕ)
  pub joining : Joining place (arrivals ++ next ∷ []) partners
  pub pdu_is : IsPduAt arrivals (partner_at partners (length arrivals)) joined

-- ---- the joiner

-- the latest PDU of each kind that is single
pub record JoinerState : Type 0 where
  pub place : Place
  pub payload : Option (List ℕ)
  pub pdu : Option (List ℕ)

abbrev pub waiting : JoinerState → Kind → Option (List ℕ)
waiting state authentic = state.payload
waiting state cryptographic = state.pdu

-- the latest arrival of this kind has this PDU and is single; or it isn't single, or there is none
abbrev pub Waits : List Arrival → List (Option ℕ) → Kind → Option (List ℕ) → Type 0
Waits arrivals partners kind (Some pdu) =
    (j : ℕ) × IsLatestOfKind arrivals kind (length arrivals) j × IsSingle partners (length arrivals) j
    × (pdu ≡ (arrival_at arrivals j).pdu)
Waits arrivals partners kind None =
    (j : ℕ) → IsLatestOfKind arrivals kind (length arrivals) j → ¬ IsSingle partners (length arrivals) j

-- these are the arrivals that were given to the joiner
pub record Given (state : JoinerState) (arrivals : List Arrival) : Type 0 where
  pub partners : List (Option ℕ)
  pub joining : Joining state.place arrivals partners
  pub waits : (kind : Kind) → Waits arrivals partners kind (waiting state kind)

-- what waits is a partner if it has this link
abbrev pub IsPartner : List ℕ → (List ℕ → List ℕ) → Option (List ℕ) → Option (List ℕ) → Type 0
IsPartner link link_of waiting (Some pdu) = (waiting ≡ Some pdu) × (link_of pdu ≡ link)
IsPartner link link_of waiting None = (pdu : List ℕ) → waiting ≡ Some pdu → ¬ (link_of pdu ≡ link)

-- the Secured I-PDU of an arrival and the PDU that it joins
abbrev pub joined_with : Kind → List ℕ → List ℕ → List ℕ
joined_with authentic payload pdu = joined_pdu payload pdu
joined_with cryptographic pdu payload = joined_pdu payload pdu

-- what an arrival gives that joins this PDU, or none: the Secured I-PDU at the beginning, the rest as before
abbrev pub IsToldOf : Arrival → Option (List ℕ) → List ℕ → List ℕ → Option ℕ → Type 0
IsToldOf next (Some pdu) before after (Some size) =
    (take size after ≡ joined_with next.kind next.pdu pdu) × (drop size after ≡ drop size before)
IsToldOf next None before after None = after ≡ before
IsToldOf next (Some pdu) before after None = ⊥
IsToldOf next None before after (Some size) = ⊥

-- the arrival was given to the joiner, whatever was given before, and the answer is what it joins
pub record Arrives (old new : JoinerState) (next : Arrival) (before after : List ℕ) (size : Option ℕ) : Type 0 where
  pub place_is : new.place ≡ old.place
  pub joined : Option (List ℕ)
  pub given : (arrivals : List Arrival) → Given old arrivals
      → NextJoins old.place arrivals next joined × Given new (arrivals ++ next ∷ [])
  pub tells : IsToldOf next joined before after size
