-- The Secured I-PDU of AUTOSAR SecOC, profile 1 (24Bit-CMAC-8Bit-FV), with a full freshness of 64 bits
use Rattle.std.specs.Prelude.{◌≡◌, ℕ, ◌+◌, ◌%◌, ◌^◌, ◌<◌, ◌≤◌, List, ◌∷◌, ◌++◌, length, take}
use Rattle.basics.specs.Numbers.{bytes_of}
use Rattle.she_cmac.specs.Cmac.{cmac}
use Rattle.secured_pdu.specs.declared.frame.TheConstants.{WIDEST_WINDOW}

-- the bytes that the authenticator covers: the Data ID in two bytes, the payload, the full freshness in eight bytes,
-- all big-endian
unfoldable pub authenticated_input : ℕ → List ℕ → ℕ → List ℕ
authenticated_input id payload freshness = bytes_of 2 id ++ payload ++ bytes_of 8 freshness

-- the payload, the low byte of the freshness, and the first three bytes of the authenticator
unfoldable pub assembled : List ℕ → ℕ → List ℕ → List ℕ
assembled payload freshness mac = payload ++ (freshness % 256) ∷ take 3 mac

-- the one frame of this payload and freshness
unfoldable pub secured_frame : List ℕ → ℕ → List ℕ → ℕ → List ℕ
secured_frame key id payload freshness =
    assembled payload freshness (cmac key (authenticated_input id payload freshness))

abbrev pub IsPayload : List ℕ → Type 0
IsPayload payload = (1 ≤ length payload) × (length payload ≤ 60)

abbrev pub IsFrame : List ℕ → Type 0
IsFrame frame = (5 ≤ length frame) × (length frame ≤ 64)

-- the frame is the Secured I-PDU of this payload and freshness under this key and Data ID
pub record Secured (key : List ℕ) (id : ℕ) (payload : List ℕ) (freshness : ℕ) (frame : List ℕ) : Type 0 where
  pub is_payload : IsPayload payload
  pub frame_is : frame ≡ secured_frame key id payload freshness

-- a receiver accepts freshness up to its window above its counter
abbrev pub IsWindow : ℕ → Type 0
IsWindow window = (1 ≤ window) × (window ≤ WIDEST_WINDOW)

-- these are so many bits, and no two freshness values of a window have the same
pub record TakesBits (window bits truncated : ℕ) : Type 0 where
  pub bits_least : 1 ≤ bits
  pub bits_most : bits ≤ 64
  pub truncated_fits : truncated < 2 ^ bits
  pub window_fits : window ≤ 2 ^ bits

-- the freshness has these low bits, and is one to the window above the counter
pub record AheadWithBits (counter window bits truncated freshness : ℕ) : Type 0 where
  pub above : counter < freshness
  pub near : freshness ≤ counter + window
  pub low_is : freshness % 2 ^ bits ≡ truncated
  pub fits : freshness < 2 ^ 64

-- profile 1 sends eight bits
abbrev pub Ahead : ℕ → ℕ → ℕ → ℕ → Type 0
Ahead counter window low freshness = AheadWithBits counter window 8 low freshness
