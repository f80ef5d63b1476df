-- A frame that is accepted here is one that a receiver accepts
use Rattle.std.proofs.Common.{◌≡◌, ℕ, zero, suc, ◌+◌, ◌-◌, ◌%◌, ◌^◌, ◌<◌, ◌≤◌, ◌≢◌, ◌==◌, ◌&&◌, Bool, true, false, cond, List, ◌∷◌, ◌++◌, length, take, drop, refl, sym, ◌∙◌, ap, subst, arith}
use Rattle.std.specs.Prelude.{find, slice_index, slice_range, nat_lt, nat_le, bytes_eq, if◌then◌else◌, Option, None, Some}
use Rattle.std.specs.List.{range_with_len}
use Rattle.std.proofs.lemmas.Bool.{and_parts, eqb-true, eqb-false, eq-eqb, ltb-true, lt-ltb, leb-true, le-leb}
use Rattle.std.proofs.lemmas.Slice.Eq.{bytes_eq-Decides}
use Rattle.std.proofs.lemmas.List.{length-take, length-drop, append_cancel_left, take_at}
use Rattle.std.proofs.Math.Seq.{take-add, drop-cons}
use Rattle.she_cmac.specs.Cmac.{cmac}
use Rattle.secured_pdu.specs.Frame.{authenticated_input, assembled, secured_frame, IsWindow, Secured, Ahead}
use Rattle.secured_pdu.proofs.CallerLemmas.{same_from_Ahead, accepted_parts}
use Rattle.secured_pdu.specs.Verdict.{Accepted, Verdict, payload_of}
use Rattle.explain_commands.specs.declared.trials.Making.TheVariants as making
use Rattle.explain_commands.specs.declared.trials.KnownReceiver.{KnownReceiver}
use Rattle.explain_commands.specs.Trials.{tag_by, has_room, has_low, low_carried, tag_trial, candidate, agrees, accepted_candidate, accepted_freshness}

-- ---- a search among numbers

pub find_passes : (test : ℕ → Bool) (a n j : ℕ) → find test (range_with_len a n) ≡ Some j → (test j ≡ true) × (a ≤ j) × (j < a + n)
find_passes test a zero j is = absurd (cc is)
find_passes test a (suc n) j is =
    elim (test a) as (λ b. test a ≡ b → cond b (Some a) (find test (range_with_len (a + 1) n)) ≡ Some j → (test j ≡ true) × (a ≤ j) × (j < a + suc n)) [
      | true ↦ λ passes e. let same : a ≡ j = cc in (ap test (sym same) ∙ passes, omega (arith, same), omega (arith, same))
      | false ↦ λ fails e. let later = find_passes test (a + 1) n j e in (later.0, omega (arith, later.1), omega (arith, later.2))
    ]
    refl is

pub find_fails : (test : ℕ → Bool) (a n j : ℕ) → find test (range_with_len a n) ≡ None → a ≤ j → j < a + n → test j ≡ false
find_fails test a zero j is low high = absurd (omega (arith, low, high))
find_fails test a (suc n) j is low high =
    elim (test a) as (λ b. test a ≡ b → cond b (Some a) (find test (range_with_len (a + 1) n)) ≡ None → test j ≡ false) [
      | true ↦ λ passes e. absurd (cc e)
      | false ↦ λ fails e.
          elim (a == j) as (λ b. (a == j) ≡ b → test j ≡ false) [
            | true ↦ λ same. ap test (sym (eqb-true a j same)) ∙ fails
            | false ↦ λ other.
                let apart : a ≢ j = eqb-false a j other in find_fails test (a + 1) n j e (omega (arith, low, apart)) (omega (arith, high))
          ]
          refl
    ]
    refl is

both_true : (x y : Bool) → x ≡ true → y ≡ true → (x && y) ≡ true
both_true true y a b = b
both_true false y a b = absurd (cc a)

-- ---- the parts of a PDU

frame_parts : (size : ℕ) (bytes : List ℕ) → size + 4 ≤ length bytes
    → take (size + 4) bytes ≡ take size bytes ++ slice_index bytes size ∷ slice_range bytes (size + 1) (size + 4)
frame_parts size bytes enough =
    let inside : size < length bytes = omega (arith, enough) in
    let three : size + 4 - (size + 1) ≡ 3 = omega arith in
    take-add size 4 bytes
    ∙ ap (λ (rest : List ℕ). take size bytes ++ take 4 rest) (drop-cons bytes size 0 inside)
    ∙ ap (λ (n : ℕ). take size bytes ++ slice_index bytes size ∷ take 3 (drop n bytes)) (let e : suc size ≡ size + 1 = omega arith in e)
    ∙ ap (λ (n : ℕ). take size bytes ++ slice_index bytes size ∷ take n (drop (size + 1) bytes)) (sym three)

length-tag : (size : ℕ) (bytes : List ℕ) → size + 4 ≤ length bytes → length (slice_range bytes (size + 1) (size + 4)) ≡ 3
length-tag size bytes enough =
    omega (arith, length-take (size + 4 - (size + 1)) (drop (size + 1) bytes), length-drop (size + 1) bytes, enough)

module _ (r : KnownReceiver) (bytes : List ℕ) (some : 1 ≤ r.size) (few : r.size ≤ 60) (enough : r.size + 4 ≤ length bytes) where
  abbrev payload : List ℕ
  payload = take r.size bytes

  abbrev tag : List ℕ
  tag = slice_range bytes (r.size + 1) (r.size + 4)

  abbrev first : List ℕ
  first = take (r.size + 4) bytes

  is_payload : (1 ≤ length payload) × (length payload ≤ 60)
  is_payload = (omega (arith, length-take r.size bytes, some, enough), omega (arith, length-take r.size bytes, few))

  -- a freshness within the window that has the low byte is ahead, and the tag is that of the CMAC
  ahead : (v : ℕ) → candidate r.counter r.window (low_carried r bytes) ≡ Some v → Ahead r.counter r.window (low_carried r bytes) v
  ahead v is =
      let found = find_passes (has_low (low_carried r bytes)) (r.counter + 1) r.window v is in
      let fits = and_parts (v % 256 == low_carried r bytes) (nat_lt v (2 ^ 64)) found.0 in
      record {
        above = omega (arith, found.1);
        near = omega (arith, found.2);
        low_is = eqb-true (v % 256) (low_carried r bytes) fits.0;
        fits = ltb-true v (2 ^ 64) fits.1;
      }

  tag_agrees : (v : ℕ) (b : Bool) → bytes_eq tag (tag_by making.Standard r payload v) ≡ b → agrees (tag_trial making.Standard r bytes v) ≡ b
  tag_agrees v true is = rw is refl
  tag_agrees v false is = rw is refl

  tag_is : (v : ℕ) → agrees (tag_trial making.Standard r bytes v) ≡ true → tag ≡ take 3 (cmac r.key (authenticated_input r.id payload v))
  unfolding tag_by
  tag_is v agree =
      (bytes_eq-Decides tag (tag_by making.Standard r payload v)).0
      (sym (tag_agrees v (bytes_eq tag (tag_by making.Standard r payload v)) refl) ∙ agree)

  pub verdict_accepted : (v : ℕ) → candidate r.counter r.window (low_carried r bytes) ≡ Some v → agrees (tag_trial making.Standard r bytes v) ≡ true
      → Verdict r.key r.id r.counter r.window first (Accepted payload v)
  verdict_accepted v is agree =
      subst (λ (frame : List ℕ). Verdict r.key r.id r.counter r.window frame (Accepted payload v)) (sym (frame_parts r.size bytes enough))
      (accepted_parts r.key r.id r.counter r.window payload (low_carried r bytes) tag v is_payload (length-tag r.size bytes enough) (ahead v is) (tag_is v agree))

  -- ---- and no other

  room_is : has_room r.size bytes ≡ true
  room_is =
      both_true (nat_le 1 r.size && nat_le r.size 60) (nat_le (r.size + 4) (length bytes))
      (both_true (nat_le 1 r.size) (nat_le r.size 60) (le-leb 1 r.size some) (le-leb r.size 60 few)) (le-leb (r.size + 4) (length bytes) enough)

  accepted_by : (o : Option ℕ) → candidate r.counter r.window (low_carried r bytes) ≡ o → accepted_freshness r bytes ≡ accepted_candidate r bytes o
  unfolding accepted_freshness
  accepted_by o is = ap (λ b. if b then accepted_candidate r bytes (candidate r.counter r.window (low_carried r bytes)) else None) room_is ∙ ap (accepted_candidate r bytes) is

  first_long : length first ≡ r.size + 4
  first_long = length-take (r.size + 4) bytes ∙ omega (arith, enough)

  payload_is : payload_of first ≡ payload
  payload_is =
      ap (λ (n : ℕ). take (n - 4) first) first_long
      ∙ ap (take (r.size + 4 - 4)) (frame_parts r.size bytes enough)
      ∙ take_at payload (low_carried r bytes ∷ tag) (r.size + 4 - 4) (length-take r.size bytes ∙ omega (arith, enough))

  -- the parts of a PDU that is secured
  parts_secured : (p : List ℕ) (v : ℕ) → p ≡ payload_of first → Secured r.key r.id p v first
      → (low_carried r bytes ≡ v % 256) × (tag ≡ take 3 (cmac r.key (authenticated_input r.id payload v)))
  unfolding secured_frame assembled
  parts_secured p v p_is s =
      let same : p ≡ payload = p_is ∙ payload_is in
      let both : payload ++ low_carried r bytes ∷ tag ≡ payload ++ (v % 256) ∷ take 3 (cmac r.key (authenticated_input r.id payload v)) =
      sym (frame_parts r.size bytes enough) ∙ s.frame_is
      ∙ ap (λ (q : List ℕ). q ++ (v % 256) ∷ take 3 (cmac r.key (authenticated_input r.id q v))) same in
      let rest : low_carried r bytes ∷ tag ≡ (v % 256) ∷ take 3 (cmac r.key (authenticated_input r.id payload v)) =
      append_cancel_left payload (low_carried r bytes ∷ tag) ((v % 256) ∷ take 3 (cmac r.key (authenticated_input r.id payload v))) both in
      (cc, cc)

  fits_low : (v : ℕ) → low_carried r bytes ≡ v % 256 → v < 2 ^ 64 → has_low (low_carried r bytes) v ≡ true
  fits_low v is fits =
      both_true (v % 256 == low_carried r bytes) (nat_lt v (2 ^ 64)) (eq-eqb (v % 256) (low_carried r bytes) (sym is)) (lt-ltb v (2 ^ 64) fits)

  none_if : (b : Bool) (u : ℕ) → (if b then Some u else None) ≡ None → b ≡ false
  none_if true u is = absurd (cc is)
  none_if false u is = refl

  same_tag : (v : ℕ) → tag ≡ take 3 (cmac r.key (authenticated_input r.id payload v)) → agrees (tag_trial making.Standard r bytes v) ≡ true
  unfolding tag_by
  same_tag v is =
      tag_agrees v true ((bytes_eq-Decides tag (tag_by making.Standard r payload v)).1 is)

  true_false : true ≡ false → ⊥
  true_false is = cc is

  rejects : IsWindow r.window → (o : Option ℕ) → candidate r.counter r.window (low_carried r bytes) ≡ o → accepted_candidate r bytes o ≡ None
      → (p : List ℕ) (v : ℕ) → Verdict r.key r.id r.counter r.window first (Accepted p v) → ⊥
  rejects is_window None is none p v (ahead_v, p_is, secured) =
      let parts = parts_secured p v p_is secured in
      true_false
      (sym (fits_low v parts.0 ahead_v.fits)
      ∙ find_fails (has_low (low_carried r bytes)) (r.counter + 1) r.window v is (omega (arith, ahead_v.above)) (omega (arith, ahead_v.near)))
  rejects is_window (Some u) is none p v (ahead_v, p_is, secured) =
      let parts = parts_secured p v p_is secured in
      let ahead_low : Ahead r.counter r.window (low_carried r bytes) v =
      record { above = ahead_v.above; near = ahead_v.near; low_is = sym parts.0; fits = ahead_v.fits } in
      let same : u ≡ v = same_from_Ahead r.counter r.window (low_carried r bytes) u v is_window.1 (ahead u is) ahead_low in
      true_false
      (sym (same_tag v parts.1) ∙ ap (λ (x : ℕ). agrees (tag_trial making.Standard r bytes x)) (sym same)
      ∙ none_if (agrees (tag_trial making.Standard r bytes u)) u none)

  pub verdict_rejected : IsWindow r.window → accepted_freshness r bytes ≡ None → (p : List ℕ) (v : ℕ) → Verdict r.key r.id r.counter r.window first (Accepted p v) → ⊥
  verdict_rejected is_window none p v verdict =
      rejects is_window (candidate r.counter r.window (low_carried r bytes)) refl
      (sym (accepted_by (candidate r.counter r.window (low_carried r bytes)) refl) ∙ none) p v verdict

-- ---- the law

room_parts : (size : ℕ) (bytes : List ℕ) → has_room size bytes ≡ true → (1 ≤ size) × (size ≤ 60) × (size + 4 ≤ length bytes)
room_parts size bytes is =
    let some = and_parts (nat_le 1 size && nat_le size 60) (nat_le (size + 4) (length bytes)) is in
    let ends = and_parts (nat_le 1 size) (nat_le size 60) some.0 in
    (leb-true 1 size ends.0, leb-true size 60 ends.1, leb-true (size + 4) (length bytes) some.1)

some_if : (b : Bool) (u v : ℕ) → (if b then Some u else None) ≡ Some v → (b ≡ true) × (u ≡ v)
some_if true u v is = (refl, cc is)
some_if false u v is = absurd (cc is)

accepts : (r : KnownReceiver) (bytes : List ℕ) (v : ℕ) → (1 ≤ r.size) × (r.size ≤ 60) × (r.size + 4 ≤ length bytes)
    → (o : Option ℕ) → candidate r.counter r.window (low_carried r bytes) ≡ o → accepted_candidate r bytes o ≡ Some v
    → Verdict r.key r.id r.counter r.window (take (r.size + 4) bytes) (Accepted (take r.size bytes) v)
accepts r bytes v room None is found = absurd (cc found)
accepts r bytes v room (Some u) is found =
    let parts = some_if (agrees (tag_trial making.Standard r bytes u)) u v found in
    subst (λ (x : ℕ). Verdict r.key r.id r.counter r.window (take (r.size + 4) bytes) (Accepted (take r.size bytes) x)) parts.1
    (verdict_accepted r bytes room.0 room.1 room.2 u is parts.0)

accepts_room : (r : KnownReceiver) (bytes : List ℕ) (v : ℕ) (b : Bool) → has_room r.size bytes ≡ b
    → (if b then accepted_candidate r bytes (candidate r.counter r.window (low_carried r bytes)) else None) ≡ Some v
    → Verdict r.key r.id r.counter r.window (take (r.size + 4) bytes) (Accepted (take r.size bytes) v)
accepts_room r bytes v true is found =
    accepts r bytes v (room_parts r.size bytes is) (candidate r.counter r.window (low_carried r bytes)) refl found
accepts_room r bytes v false is found = absurd (cc found)

pub accepted_verdict : (r : KnownReceiver) (bytes : List ℕ) (v : ℕ) → accepted_freshness r bytes ≡ Some v
    → Verdict r.key r.id r.counter r.window (take (r.size + 4) bytes) (Accepted (take r.size bytes) v)
unfolding accepted_freshness
accepted_verdict r bytes v is = accepts_room r bytes v (has_room r.size bytes) refl is

-- ---- what is accepted is above the counter

above_candidate : (r : KnownReceiver) (bytes : List ℕ) (v : ℕ) (o : Option ℕ) → candidate r.counter r.window (low_carried r bytes) ≡ o
    → accepted_candidate r bytes o ≡ Some v → r.counter < v
above_candidate r bytes v None is found = absurd (cc found)
above_candidate r bytes v (Some u) is found =
    omega (
      arith,
      (some_if (agrees (tag_trial making.Standard r bytes u)) u v found).1,
      (find_passes (has_low (low_carried r bytes)) (r.counter + 1) r.window u is).1,
    )

above_room : (r : KnownReceiver) (bytes : List ℕ) (v : ℕ) (b : Bool)
    → (if b then accepted_candidate r bytes (candidate r.counter r.window (low_carried r bytes)) else None) ≡ Some v → r.counter < v
above_room r bytes v true found = above_candidate r bytes v (candidate r.counter r.window (low_carried r bytes)) refl found
above_room r bytes v false found = absurd (cc found)

pub accepted_above : (r : KnownReceiver) (bytes : List ℕ) (v : ℕ) → accepted_freshness r bytes ≡ Some v → r.counter < v
unfolding accepted_freshness
accepted_above r bytes v is = above_room r bytes v (has_room r.size bytes) is
