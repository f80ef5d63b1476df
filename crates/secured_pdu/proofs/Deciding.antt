-- A verdict holds on every frame
use Rattle.std.proofs.Common.{◌≡◌, ◌⊎◌, ℕ, ◌+◌, ◌-◌, ◌%◌, ◌^◌, ◌≤◌, List, length, refl, arith, inl, inr, sym, ◌∙◌}
use Rattle.std.specs.Str.{bytes_eq}
use Rattle.std.proofs.lemmas.Bool.{cases_lt, cases_Bool, false≢true}
use Rattle.std.proofs.lemmas.List.{length-take}
use Rattle.std.proofs.lemmas.Slice.Eq.{bytes_eq-Decides}
use Rattle.secured_pdu.specs.Frame.{secured_frame, IsPayload, IsFrame, IsWindow, Secured, Ahead}
use Rattle.secured_pdu.specs.Verdict.{Outcome, Accepted, FreshnessFailure, VerificationFailure, payload_of, low_of, Verdict}

-- the one number of the 256 above the counter that has this low byte
abbrev next : ℕ → ℕ → ℕ
next c f = c + 1 + (f + 255 - c % 256) % 256

-- whatever is ahead is that number
is_next : (c w f v : ℕ) → w ≤ 256 → Ahead c w f v → v ≡ next c f
is_next c w f v small a = omega (arith, a.above, a.near, a.low_is)

ahead_or_none : (c w f : ℕ) → w ≤ 256 → ((v : ℕ) × Ahead c w f v) ⊎ ((v : ℕ) → ¬ Ahead c w f v)
ahead_or_none c w f small = elim (cases_lt (c + w) (next c f)) [
  | inl late ↦ inr (λ v a. absurd (omega (arith, is_next c w f v small a, a.near)))
  | inr near ↦ elim (cases_lt (next c f) (2 ^ 64)) [
    | inr large ↦ inr (λ v a. absurd (omega (arith, is_next c w f v small a, a.fits)))
    | inl fits ↦ elim (cases_lt f 256) [
      | inr no_byte ↦ inr (λ v a. absurd (omega (arith, a.low_is)))
      | inl byte ↦ inl (next c f, record { above = omega arith; near = near; low_is = omega arith; fits = fits })
    ]
  ]
]

is_payload_of : (frame : List ℕ) → IsFrame frame → IsPayload (payload_of frame)
is_payload_of frame h =
    (omega (arith, length-take (length frame - 4) frame, h.0, h.1), omega (arith, length-take (length frame - 4) frame, h.0, h.1))

secured_or_not : (key : List ℕ) (id : ℕ) (frame : List ℕ) (v : ℕ) → IsFrame frame → Secured key id (payload_of frame) v frame ⊎ (¬ Secured key id (payload_of frame) v frame)
secured_or_not key id frame v size =
    let other = secured_frame key id (payload_of frame) v in
    elim (cases_Bool (bytes_eq frame other)) [
      | inl same ↦ inl (record { is_payload = is_payload_of frame size; frame_is = (bytes_eq-Decides frame other).0 same })
      | inr differ ↦ inr (λ s. false≢true (sym differ ∙ (bytes_eq-Decides frame other).1 s.frame_is))
    ]

pub verdict_at : (key : List ℕ) (id c w : ℕ) (frame : List ℕ) → IsWindow w → IsFrame frame → (o : Outcome) × Verdict key id c w frame o
verdict_at key id c w frame is_window size = elim (ahead_or_none c w (low_of frame) is_window.1) [
  | inr none ↦ (FreshnessFailure, none)
  | inl ahead ↦ elim (secured_or_not key id frame ahead.0 size) [
    | inl s ↦ (Accepted (payload_of frame) ahead.0, (ahead.1, refl, s))
    | inr not_s ↦ (VerificationFailure, (ahead.0, ahead.1, not_s))
  ]
]
