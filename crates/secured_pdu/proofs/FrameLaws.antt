-- Laws of the authenticated input and of the Secured I-PDU
use Rattle.std.specs.Prelude.{◌≡◌, ℕ, ◌+◌, ◌-◌, ◌%◌, ◌^◌, ◌<◌, ◌≤◌, List, ◌∷◌, ◌++◌, length, take, drop}
use Rattle.std.proofs.Common.{refl, sym, ap, ◌∙◌, arith}
use Rattle.std.proofs.lemmas.List.{take_at, drop_at, get_or_at, length-append, length-take-le}
use Rattle.basics.specs.Numbers.{bytes_of}
use Rattle.basics.proofs.CallerLemmas.{length-bytes_of, same_number}
use Rattle.she_cmac.specs.Cmac.{cmac}
use Rattle.she_cmac.proofs.CallerLemmas.{length-cmac}
use Rattle.secured_pdu.specs.Frame.{authenticated_input, assembled, secured_frame, IsFrame, Secured, Ahead}
use Rattle.secured_pdu.specs.Verdict.{payload_of, low_of}

-- if two joined lists are the same, and their first parts are equally long, both parts are the same
pub parts_same : (p q x y : List ℕ) → length p ≡ length q → p ++ x ≡ q ++ y → (p ≡ q) × (x ≡ y)
parts_same p q x y h e = (
  sym (take_at p x (length p) refl) ∙ ap (take (length p)) e ∙ take_at q y (length p) (sym h),
  sym (drop_at p x (length p) refl) ∙ ap (drop (length p)) e ∙ drop_at q y (length p) (sym h),
)

pub length-input : (id : ℕ) (payload : List ℕ) (freshness : ℕ) → length (authenticated_input id payload freshness) ≡ length payload + 10
unfolding authenticated_input
length-input id payload freshness =
    omega (
      arith,
      length-append (bytes_of 2 id ++ payload) (bytes_of 8 freshness),
      length-append (bytes_of 2 id) payload,
      length-bytes_of 2 id,
      length-bytes_of 8 freshness,
    )

-- the input is one-to-one
pub same_from_authenticated_input : (d d' : ℕ) (p p' : List ℕ) (v v' : ℕ) → d < 2 ^ 16 → d' < 2 ^ 16 → v < 2 ^ 64
    → v' < 2 ^ 64 → authenticated_input d p v ≡ authenticated_input d' p' v' → (d ≡ d') × (p ≡ p') × (v ≡ v')
unfolding authenticated_input
same_from_authenticated_input d d' p p' v v' hd hd' hv hv' e =
    let id : List ℕ = bytes_of 2 d in
    let id' : List ℕ = bytes_of 2 d' in
    let freshness : List ℕ = bytes_of 8 v in
    let freshness' : List ℕ = bytes_of 8 v' in
    let by_length : length p ≡ length p' =
    omega (
      arith,
      length-append (id ++ p) freshness,
      length-append id p,
      length-append (id' ++ p') freshness',
      length-append id' p',
      length-bytes_of 2 d,
      length-bytes_of 2 d',
      length-bytes_of 8 v,
      length-bytes_of 8 v',
      ap length e,
    ) in
    let ends =
    parts_same (id ++ p) (id' ++ p') freshness freshness'
    (omega (arith, length-append id p, length-append id' p', length-bytes_of 2 d, length-bytes_of 2 d', by_length))
    e in
    let fronts = parts_same id id' p p' (length-bytes_of 2 d ∙ sym (length-bytes_of 2 d')) ends.0 in
    (same_number 2 d d' hd hd' fronts.0, fronts.1, same_number 8 v v' hv hv' ends.1)

-- at most one freshness is ahead
pub same_from_Ahead : (c w f u v : ℕ) → w ≤ 256 → Ahead c w f u → Ahead c w f v → u ≡ v
same_from_Ahead c w f u v small a b = omega (arith, a.above, a.near, a.low_is, b.above, b.near, b.low_is)

-- ---- the length of a Secured I-PDU, and its parts

pub length-secured_frame : (k : List ℕ) (d : ℕ) (p : List ℕ) (v : ℕ) → length (secured_frame k d p v) ≡ length p + 4
unfolding secured_frame assembled
length-secured_frame k d p v =
    let mac = cmac k (authenticated_input d p v) in
    omega (
      arith,
      length-append p ((v % 256) ∷ take 3 mac),
      length-take-le 3 mac (omega (arith, length-cmac k (authenticated_input d p v))),
    )

-- a Secured I-PDU has 5 to 64 bytes
pub IsFrame-Secured : (k : List ℕ) (d : ℕ) (p : List ℕ) (v : ℕ) (frame : List ℕ) → Secured k d p v frame → IsFrame frame
IsFrame-Secured k d p v frame s =
    let size : length frame ≡ length p + 4 = ap length s.frame_is ∙ length-secured_frame k d p v in
    (omega (arith, size, s.is_payload.0), omega (arith, size, s.is_payload.1))

-- what is cut off a Secured I-PDU is its payload, and the byte after it the low byte of the freshness
pub payload_of_secured : (k : List ℕ) (d : ℕ) (p : List ℕ) (v : ℕ) (frame : List ℕ) → Secured k d p v frame
    → payload_of frame ≡ p
unfolding secured_frame assembled
payload_of_secured k d p v frame s =
    ap payload_of s.frame_is
    ∙ take_at p ((v % 256) ∷ take 3 (cmac k (authenticated_input d p v))) (length (secured_frame k d p v) - 4)
    (omega (arith, length-secured_frame k d p v))

pub low_of_secured : (k : List ℕ) (d : ℕ) (p : List ℕ) (v : ℕ) (frame : List ℕ) → Secured k d p v frame
    → low_of frame ≡ v % 256
unfolding secured_frame assembled
low_of_secured k d p v frame s =
    ap low_of s.frame_is
    ∙ get_or_at p (v % 256) (take 3 (cmac k (authenticated_input d p v))) 0 (length (secured_frame k d p v) - 4)
    (omega (arith, length-secured_frame k d p v))
