-- A Secured PDU collection: a payload that travels alone, and a PDU with its authenticator, which repeats some of its
-- bytes as a message link
use Rattle.std.specs.Prelude.{◌≡◌, ℕ, ◌+◌, ◌≤◌, List, ◌++◌, length, take, drop}
use Rattle.secured_pdu.specs.Frame.{IsPayload, Secured}

-- which bytes of a payload the message link repeats: `size` bytes from place `at` on
pub record Place : Type 0 where
  pub at : ℕ
  pub size : ℕ

-- 1 to 4 bytes, within a payload of 60 bytes
abbrev pub IsPlace : Place → Type 0
IsPlace place = (1 ≤ place.size) × (place.size ≤ 4) × (place.at + place.size ≤ 60)

-- the message link of a payload
abbrev pub link_of : Place → List ℕ → List ℕ
link_of place payload = take place.size (drop place.at payload)

-- an authentic PDU: a payload of 1 to 60 bytes that has those of the link
abbrev pub IsAuthentic : Place → List ℕ → Type 0
IsAuthentic place pdu = IsPayload pdu × (place.at + place.size ≤ length pdu)

-- a cryptographic PDU: the low byte of the freshness, three bytes of the authenticator, and the link
abbrev pub IsCryptographic : Place → List ℕ → Type 0
IsCryptographic place pdu = length pdu ≡ 4 + place.size

-- both together are a Secured I-PDU: the payload, and the first four bytes of the cryptographic PDU
abbrev pub joined_pdu : List ℕ → List ℕ → List ℕ
joined_pdu payload pdu = payload ++ take 4 pdu

-- the cryptographic PDU of this payload and freshness: what the Secured I-PDU has after the payload, and the link
abbrev pub IsPartOf : List ℕ → ℕ → Place → List ℕ → ℕ → List ℕ → Type 0
IsPartOf key id place payload freshness pdu =
    (frame : List ℕ) × Secured key id payload freshness frame
    × (pdu ≡ drop (length payload) frame ++ link_of place payload)
