-- Laws of a receiver's verdict
use Rattle.std.specs.Prelude.{◌≡◌, ℕ, ◌-◌, ◌%◌, ◌≤◌, List, ◌∷◌, ◌++◌, length, take}
use Rattle.std.proofs.Common.{refl, sym, ap, ◌∙◌, arith, subst}
use Rattle.std.proofs.lemmas.List.{take_at, get_or_at, append_cancel_left, length-append}
use Rattle.she_cmac.specs.Cmac.{cmac}
use Rattle.secured_pdu.specs.Frame.{authenticated_input, assembled, secured_frame, IsPayload, IsWindow, Secured, Ahead}
use Rattle.secured_pdu.proofs.FrameLaws.{same_from_Ahead, payload_of_secured, low_of_secured}
use Rattle.secured_pdu.specs.Verdict.{Outcome, Accepted, FreshnessFailure, VerificationFailure, payload_of, low_of}
use Rattle.secured_pdu.specs.Verdict.{Verdict}

-- a freshness that is accepted is not one that fails
accepted_not_failed : (key : List ℕ) (id c w : ℕ) (frame p : List ℕ) (v : ℕ) → IsWindow w
    → Verdict key id c w frame (Accepted p v) → ¬ Verdict key id c w frame VerificationFailure
accepted_not_failed key id c w frame p v is_window accepted failed =
    let same_v : v ≡ failed.0 = same_from_Ahead c w (low_of frame) v failed.0 is_window.1 accepted.0 failed.1 in
    let Is : List ℕ → Type 0 = λ q. Secured key id q v frame in
    let Has : ℕ → Type 0 = λ u. Secured key id (payload_of frame) u frame in
    failed.2 (subst Has same_v (subst Is accepted.1 accepted.2))

-- at most one verdict holds
pub same_from_Verdict : (key : List ℕ) (id c w : ℕ) (frame : List ℕ) (o o' : Outcome) → IsWindow w
    → Verdict key id c w frame o → Verdict key id c w frame o' → o ≡ o'
same_from_Verdict key id c w frame (Accepted p v) (Accepted q u) is_window x y =
    ap (λ r. Accepted r v) (x.1 ∙ sym y.1)
    ∙ ap (Accepted q) (same_from_Ahead c w (low_of frame) v u is_window.1 x.0 y.0)
same_from_Verdict key id c w frame (Accepted p v) FreshnessFailure is_window x y = absurd (y v x.0)
same_from_Verdict key id c w frame (Accepted p v) VerificationFailure is_window x y =
    absurd (accepted_not_failed key id c w frame p v is_window x y)
same_from_Verdict key id c w frame FreshnessFailure (Accepted q u) is_window x y = absurd (x u y.0)
same_from_Verdict key id c w frame FreshnessFailure FreshnessFailure is_window x y = refl
same_from_Verdict key id c w frame FreshnessFailure VerificationFailure is_window x y = absurd (x y.0 y.1)
same_from_Verdict key id c w frame VerificationFailure (Accepted q u) is_window x y =
    absurd (accepted_not_failed key id c w frame q u is_window y x)
same_from_Verdict key id c w frame VerificationFailure FreshnessFailure is_window x y = absurd (y x.0 x.1)
same_from_Verdict key id c w frame VerificationFailure VerificationFailure is_window x y = refl

-- a frame that is secured with a freshness ahead is accepted with it
pub Verdict_of_secured : (key : List ℕ) (id c w : ℕ) (p : List ℕ) (v : ℕ) (frame : List ℕ) → Secured key id p v frame
    → Ahead c w (v % 256) v → Verdict key id c w frame (Accepted p v)
Verdict_of_secured key id c w p v frame s a =
    let low_is = low_of_secured key id p v frame s in (
      record { above = a.above; near = a.near; low_is = sym low_is; fits = a.fits },
      sym (payload_of_secured key id p v frame s),
      s,
    )

-- what is ahead within a window is ahead within a larger one
pub Ahead-wider : (c w w' f v : ℕ) → w ≤ w' → Ahead c w f v → Ahead c w' f v
Ahead-wider c w w' f v wider a =
    record { above = a.above; near = omega (arith, a.near); low_is = a.low_is; fits = a.fits }

-- what is accepted with a window is accepted with a larger one
pub Verdict-wider : (key : List ℕ) (id c w w' : ℕ) (frame p : List ℕ) (v : ℕ) → w ≤ w'
    → Verdict key id c w frame (Accepted p v) → Verdict key id c w' frame (Accepted p v)
Verdict-wider key id c w w' frame p v wider x = (Ahead-wider c w w' (low_of frame) v wider x.0, x.1, x.2)

-- ---- the verdict on a frame that is given by its parts: a payload, a low byte and a tag of three bytes

low_of_parts : (p : List ℕ) (low : ℕ) (tag : List ℕ) → length tag ≡ 3 → low_of (p ++ low ∷ tag) ≡ low
low_of_parts p low tag h =
    get_or_at p low tag 0 (length (p ++ low ∷ tag) - 4) (omega (arith, length-append p (low ∷ tag)))

payload_of_parts : (p : List ℕ) (low : ℕ) (tag : List ℕ) → length tag ≡ 3 → payload_of (p ++ low ∷ tag) ≡ p
payload_of_parts p low tag h =
    take_at p (low ∷ tag) (length (p ++ low ∷ tag) - 4) (omega (arith, length-append p (low ∷ tag)))

-- a freshness is ahead, and the tag is that of the authenticator
pub accepted_parts : (key : List ℕ) (id c w : ℕ) (p : List ℕ) (low : ℕ) (tag : List ℕ) (v : ℕ) → IsPayload p
    → length tag ≡ 3 → Ahead c w low v → tag ≡ take 3 (cmac key (authenticated_input id p v))
    → Verdict key id c w (p ++ low ∷ tag) (Accepted p v)
unfolding secured_frame assembled
accepted_parts key id c w p low tag v size h a e =
    let low_is = low_of_parts p low tag h in (
      subst (λ f. Ahead c w f v) (sym low_is) a,
      sym (payload_of_parts p low tag h),
      record { is_payload = size; frame_is = ap (λ l. p ++ l ∷ tag) (sym a.low_is) ∙ ap (λ t. p ++ (v % 256) ∷ t) e },
    )

-- a freshness is ahead, and the tag is another
pub failed_parts : (key : List ℕ) (id c w : ℕ) (p : List ℕ) (low : ℕ) (tag : List ℕ) (v : ℕ) → length tag ≡ 3
    → Ahead c w low v → ¬ (tag ≡ take 3 (cmac key (authenticated_input id p v)))
    → Verdict key id c w (p ++ low ∷ tag) VerificationFailure
unfolding secured_frame assembled
failed_parts key id c w p low tag v h a ne =
    let low_is = low_of_parts p low tag h in (
      v,
      subst (λ f. Ahead c w f v) (sym low_is) a,
      λ s.
          let frame_is : p ++ low ∷ tag ≡ secured_frame key id p v =
          s.frame_is ∙ ap (λ q. secured_frame key id q v) (payload_of_parts p low tag h) in
          let ends =
          append_cancel_left p (low ∷ tag) ((v % 256) ∷ take 3 (cmac key (authenticated_input id p v))) frame_is in
          ne (cc),
    )

-- no freshness is ahead
pub stale_parts : (key : List ℕ) (id c w : ℕ) (p : List ℕ) (low : ℕ) (tag : List ℕ) → length tag ≡ 3
    → ((v : ℕ) → ¬ Ahead c w low v) → Verdict key id c w (p ++ low ∷ tag) FreshnessFailure
stale_parts key id c w p low tag h none = λ v a.
    none v (subst (λ f. Ahead c w f v) (low_of_parts p low tag h) a)
