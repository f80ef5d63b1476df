-- The shorter worked runs
use Rattle.std.specs.Prelude.{ℕ, ◌<◌, Some}
use Rattle.std.proofs.Common.{refl, sym, ◌∙◌, arith, inl, inr}
use Rattle.key_slots.specs.declared.refusals.Erc.TheVariants.{KeyEmpty}
use Rattle.key_slots.specs.Authority.{is_pair}
use Rattle.key_slots.specs.Usage.{usable}
use Rattle.memory_update.specs.Loading.{slot_of}
use Rattle.secured_pdu.specs.Frame.{Ahead}
use Rattle.bus_machine.specs.declared.lines.Line.TheVariants.{Sent, Accepted, FreshnessFailure, VerificationFailure, Keyed, Refused}
use Rattle.bus_machine.specs.declared.lines.Refusal.TheVariants as refusal
use Rattle.bus_machine.specs.declared.lines.Refusal.TheVariants.{Down, NoRoute, BadLength, MemoryFailure}
use Rattle.bus_machine.specs.Node.{Node, Change, slot_to, bound_to, changed, first_node, powered, with_slot, failed}
use Rattle.bus_machine.specs.Steps.{sends, receives, keys, NodeStep, Makes}
use Rattle.bus_rows.specs.Buses.{receiving_from, receiving_with, bus_a, bus_with, ended_bus, all_ones, bus_key, for_macs, bus_payload, first_frame, later_frame, altered_frame}
use Rattle.bus_rows.specs.Rows.{HasRun, restarted}
use Rattle.bus_rows.specs.ShortRows.{past_the_window, too_far_ahead, receiver_restarted, none_ahead, refused_early, failed_send_old, failed_send_new, failed_key_old, failed_key_new}
use Rattle.bus_rows.proofs.Frames.{repeated_frame_is}
use Rattle.bus_rows.proofs.Building.{keyed, makes_update}
use Rattle.bus_rows.proofs.Walks.{walked}
use Rattle.bus_rows.proofs.WorkedRuns.{IsBlock-all_ones, IsBlock-bus_key, IsUid-left, IsUid-right, is_update, repeat_differs, v1, v2, after_sending, after_accepting, first_secured, later_secured, left0, right0, left1, left2, left3, left4, own_update, left_keyed, left_sends, left_sends_later}

-- ---- receivers with a reserve and a window of their own

abbrev kept0 : ℕ → ℕ → Node
kept0 reserve window = first_node (receiving_with reserve window)

abbrev kept1 : ℕ → ℕ → Node
kept1 reserve window = with_slot 4 (slot_of (own_update 2)) (kept0 reserve window)

abbrev kept2 : ℕ → ℕ → Node
kept2 reserve window = after_accepting v1 (kept1 reserve window)

kept_keyed : (reserve window : ℕ) → NodeStep (kept0 reserve window) (keys (own_update 2) all_ones) (Keyed 4) (kept1 reserve window)
unfolding is_pair
kept_keyed reserve window =
    keyed (kept0 reserve window) (own_update 2) all_ones refl (record { is_key = IsBlock-all_ones; is_update = is_update _ 4 4 1 for_macs bus_key IsUid-right (omega arith) (omega arith) (omega arith) IsBlock-bus_key; held = refl }) refl

kept_accepts : (reserve window : ℕ) → 0 < window → NodeStep (kept1 reserve window) (receives 0x6bc1 first_frame) (Accepted 0x6bc1 v1 bus_payload (Some 3)) (kept2 reserve window)
unfolding usable
kept_accepts reserve window some = (
  refl,
  record {
    judged = record {
      allowed = refl;
      verdict_is = (record { above = omega arith; near = omega arith; low_is = refl; fits = omega arith }, refl, first_secured);
    };
    after_is = refl;
  },
)

-- no freshness with low byte 2a is 1 to 16 above v1
none_within : (v : ℕ) → Ahead v1 16 0x2a v → ⊥
none_within v ahead = let low = ahead.low_is in let above = ahead.above in let near = ahead.near in omega arith

kept_stale : NodeStep (kept2 1 16) (receives 0x6bc1 first_frame) FreshnessFailure (kept2 1 16)
unfolding usable
kept_stale = (record { allowed = refl; verdict_is = none_within }, refl)

kept_altered : NodeStep (kept2 1 16) (receives 0x6bc1 altered_frame) FreshnessFailure (kept2 1 16)
unfolding usable
kept_altered = (record { allowed = refl; verdict_is = none_within }, refl)

pub past_the_window_run : HasRun (bus_with 1 16) past_the_window
past_the_window_run = walked (bus_with 1 16) past_the_window (
  left0,
  left1,
  refl,
  left_keyed,
  tt,
  (
    kept0 1 16,
    kept1 1 16,
    refl,
    kept_keyed 1 16,
    tt,
    (
      left1,
      left2,
      refl,
      left_sends,
      tt,
      (
        kept1 1 16,
        kept2 1 16,
        refl,
        kept_accepts 1 16 (omega arith),
        refl,
        (
          kept2 1 16,
          kept2 1 16,
          refl,
          kept_stale,
          tt,
          (
            kept2 1 16,
            kept2 1 16,
            refl,
            kept_altered,
            tt,
            tt,
          ),
        ),
      ),
    ),
  ),
)

-- a window of 4 reaches a restarted sender, and one of 3 doesn't
abbrev kept3 : ℕ → ℕ → Node
kept3 reserve window = after_accepting v2 (kept2 reserve window)

kept_accepts_later : NodeStep (kept2 1 4) (receives 0x6bc1 later_frame) (Accepted 0x6bc1 v2 bus_payload (Some 6)) (kept3 1 4)
unfolding usable
kept_accepts_later = (
  refl,
  record {
    judged = record {
      allowed = refl;
      verdict_is = (record { above = omega arith; near = omega arith; low_is = refl; fits = omega arith }, refl, later_secured);
    };
    after_is = refl;
  },
)

none_within_3 : (v : ℕ) → Ahead v1 3 0x2e v → ⊥
none_within_3 v ahead = let low = ahead.low_is in let above = ahead.above in let near = ahead.near in omega arith

kept_too_far : NodeStep (kept2 1 3) (receives 0x6bc1 later_frame) FreshnessFailure (kept2 1 3)
unfolding usable
kept_too_far = (record { allowed = refl; verdict_is = none_within_3 }, refl)

pub restarted_in_window_run : HasRun (bus_with 1 4) restarted
restarted_in_window_run = walked (bus_with 1 4) restarted (
  left0,
  left1,
  refl,
  left_keyed,
  tt,
  (
    kept0 1 4,
    kept1 1 4,
    refl,
    kept_keyed 1 4,
    tt,
    (
      left1,
      left2,
      refl,
      left_sends,
      tt,
      (
        kept1 1 4,
        kept2 1 4,
        refl,
        kept_accepts 1 4 (omega arith),
        refl,
        (
          left2,
          left3,
          refl,
          inl refl,
          tt,
          (
            left3,
            left4,
            refl,
            left_sends_later,
            tt,
            (
              kept2 1 4,
              kept3 1 4,
              refl,
              kept_accepts_later,
              refl,
              tt,
            ),
          ),
        ),
      ),
    ),
  ),
)

pub too_far_ahead_run : HasRun (bus_with 1 3) too_far_ahead
too_far_ahead_run = walked (bus_with 1 3) too_far_ahead (
  left0,
  left1,
  refl,
  left_keyed,
  tt,
  (
    kept0 1 3,
    kept1 1 3,
    refl,
    kept_keyed 1 3,
    tt,
    (
      left1,
      left2,
      refl,
      left_sends,
      tt,
      (
        kept1 1 3,
        kept2 1 3,
        refl,
        kept_accepts 1 3 (omega arith),
        refl,
        (
          left2,
          left3,
          refl,
          inl refl,
          tt,
          (
            left3,
            left4,
            refl,
            left_sends_later,
            tt,
            (
              kept2 1 3,
              kept2 1 3,
              refl,
              kept_too_far,
              tt,
              tt,
            ),
          ),
        ),
      ),
    ),
  ),
)

-- after a cut a receiver with a reserve of 4 is at its bound, 3 above what it accepted
abbrev kept_cut : Node
kept_cut = powered (receiving_with 4 256) (kept2 4 256).kept

cut_repeats : NodeStep kept_cut (receives 0x6bc1 first_frame) VerificationFailure kept_cut
unfolding usable
cut_repeats = (
  record {
    allowed = refl;
    verdict_is = (
      0xe93d7e117393182a,
      record { above = omega arith; near = omega arith; low_is = refl; fits = omega arith },
      λ sec. repeat_differs (sec.frame_is ∙ sym repeated_frame_is),
    );
  },
  refl,
)

abbrev kept_again : Node
kept_again = after_accepting v2 kept_cut

cut_accepts_later : NodeStep kept_cut (receives 0x6bc1 later_frame) (Accepted 0x6bc1 v2 bus_payload (Some 8)) kept_again
unfolding usable
cut_accepts_later = (
  refl,
  record {
    judged = record {
      allowed = refl;
      verdict_is = (record { above = omega arith; near = omega arith; low_is = refl; fits = omega arith }, refl, later_secured);
    };
    after_is = refl;
  },
)

pub receiver_restarted_run : HasRun (bus_with 4 256) receiver_restarted
receiver_restarted_run = walked (bus_with 4 256) receiver_restarted (
  left0,
  left1,
  refl,
  left_keyed,
  tt,
  (
    kept0 4 256,
    kept1 4 256,
    refl,
    kept_keyed 4 256,
    tt,
    (
      left1,
      left2,
      refl,
      left_sends,
      tt,
      (
        kept1 4 256,
        kept2 4 256,
        refl,
        kept_accepts 4 256 (omega arith),
        refl,
        (
          kept2 4 256,
          kept_cut,
          refl,
          inl refl,
          tt,
          (
            kept_cut,
            kept_cut,
            refl,
            cut_repeats,
            tt,
            (
              left2,
              left3,
              refl,
              inl refl,
              tt,
              (
                left3,
                left4,
                refl,
                left_sends_later,
                tt,
                (
                  kept_cut,
                  kept_again,
                  refl,
                  cut_accepts_later,
                  refl,
                  tt,
                ),
              ),
            ),
          ),
        ),
      ),
    ),
  ),
)

-- ---- refusals

abbrev ended0 : Node
ended0 = first_node (receiving_from 0xffffffffffffffff)

abbrev ended1 : Node
ended1 = with_slot 4 (slot_of (own_update 2)) ended0

ended_keyed : NodeStep ended0 (keys (own_update 2) all_ones) (Keyed 4) ended1
unfolding is_pair
ended_keyed =
    keyed ended0 (own_update 2) all_ones refl (record { is_key = IsBlock-all_ones; is_update = is_update _ 4 4 1 for_macs bus_key IsUid-right (omega arith) (omega arith) (omega arith) IsBlock-bus_key; held = refl }) refl

none_left : (v : ℕ) → Ahead 0xffffffffffffffff 256 0x2a v → ⊥
none_left v ahead = let above = ahead.above in let fits = ahead.fits in omega arith

ended_judges : NodeStep ended1 (receives 0x6bc1 first_frame) FreshnessFailure ended1
unfolding usable
ended_judges = (record { allowed = refl; verdict_is = none_left }, refl)

pub none_ahead_run : HasRun ended_bus none_ahead
none_ahead_run = walked ended_bus none_ahead (ended0, ended1, refl, ended_keyed, tt, (ended1, ended1, refl, ended_judges, tt, tt))

pub refused_early_run : HasRun bus_a refused_early
refused_early_run = walked bus_a refused_early (
  right0,
  right0,
  refl,
  refl,
  tt,
  (
    right0,
    right0,
    refl,
    (refl, refl),
    tt,
    (
      left0,
      left0,
      refl,
      (refl, refl),
      tt,
      (
        left0,
        left0,
        refl,
        (refl, refl),
        tt,
        (
          right0,
          right0,
          refl,
          (refl, refl),
          tt,
          tt,
        ),
      ),
    ),
  ),
)

-- ---- a send that fails

abbrev sender_change : Change
sender_change = bound_to 0 0xe93d7e117393172d

abbrev left_failed : Node
left_failed = failed sender_change left1

left_faults : NodeStep left1 (sends 0x6bc1 bus_payload) (Refused MemoryFailure) left_failed
unfolding usable
left_faults = (sender_change, (refl, refl), refl)

abbrev left_old : Node
left_old = powered left1.config left1.kept

abbrev left_new : Node
left_new = powered left1.config (changed sender_change left1.kept)

old_sends : NodeStep left_old (sends 0x6bc1 bus_payload) (Sent 0x6bc1 v1 first_frame) (after_sending v1 left_old)
unfolding usable
old_sends = (refl, record { allowed = refl; freshness_is = refl; pdu_is = first_secured; after_is = refl })

new_sends : NodeStep left_new (sends 0x6bc1 bus_payload) (Sent 0x6bc1 v2 later_frame) (after_sending v2 left_new)
unfolding usable
new_sends = (refl, record { allowed = refl; freshness_is = refl; pdu_is = later_secured; after_is = refl })

pub failed_send_old_run : HasRun bus_a failed_send_old
failed_send_old_run = walked bus_a failed_send_old (
  left0,
  left1,
  refl,
  left_keyed,
  tt,
  (
    left1,
    left1,
    refl,
    refl,
    tt,
    (
      left1,
      left_failed,
      refl,
      left_faults,
      tt,
      (
        left_failed,
        left_failed,
        refl,
        (refl, refl),
        tt,
        (
          left_failed,
          left_old,
          refl,
          inl refl,
          tt,
          (
            left_old,
            after_sending v1 left_old,
            refl,
            old_sends,
            tt,
            tt,
          ),
        ),
      ),
    ),
  ),
)

pub failed_send_new_run : HasRun bus_a failed_send_new
failed_send_new_run = walked bus_a failed_send_new (
  left0,
  left1,
  refl,
  left_keyed,
  tt,
  (
    left1,
    left1,
    refl,
    refl,
    tt,
    (
      left1,
      left_failed,
      refl,
      left_faults,
      tt,
      (
        left_failed,
        left_failed,
        refl,
        (refl, refl),
        tt,
        (
          left_failed,
          left_new,
          refl,
          inr (sender_change, refl, refl),
          tt,
          (
            left_new,
            after_sending v2 left_new,
            refl,
            new_sends,
            tt,
            tt,
          ),
        ),
      ),
    ),
  ),
)

-- ---- an update that fails

abbrev slot_change : Change
slot_change = slot_to 4 (slot_of (own_update 1))

abbrev left_unkeyed : Node
left_unkeyed = failed slot_change left0

update_made : Makes left0 (keys (own_update 1) all_ones) slot_change
unfolding is_pair
update_made =
    makes_update left0 (own_update 1) all_ones refl (record { is_key = IsBlock-all_ones; is_update = is_update _ 4 4 1 for_macs bus_key IsUid-left (omega arith) (omega arith) (omega arith) IsBlock-bus_key; held = refl }) refl

update_faults : NodeStep left0 (keys (own_update 1) all_ones) (Refused MemoryFailure) left_unkeyed
update_faults = (slot_change, update_made, refl)

-- a node that is down refuses the same update
update_down : NodeStep left_unkeyed (keys (own_update 1) all_ones) (Refused Down) left_unkeyed
update_down = (update_made.0, update_made.1, refl, refl)

abbrev slot_new : Node
slot_new = powered left0.config (changed slot_change left0.kept)

sends_keyless : NodeStep left0 (sends 0x6bc1 bus_payload) (Refused (refusal.Key KeyEmpty)) left0
unfolding usable
sends_keyless = (refl, refl)

slot_sends : NodeStep slot_new (sends 0x6bc1 bus_payload) (Sent 0x6bc1 v1 first_frame) (after_sending v1 slot_new)
unfolding usable
slot_sends = (refl, record { allowed = refl; freshness_is = refl; pdu_is = first_secured; after_is = refl })

pub failed_key_old_run : HasRun bus_a failed_key_old
failed_key_old_run = walked bus_a failed_key_old (
  left0,
  left0,
  refl,
  refl,
  tt,
  (
    left0,
    left_unkeyed,
    refl,
    update_faults,
    tt,
    (
      left_unkeyed,
      left_unkeyed,
      refl,
      update_down,
      tt,
      (
        left_unkeyed,
        left0,
        refl,
        inl refl,
        tt,
        (
          left0,
          left0,
          refl,
          sends_keyless,
          tt,
          tt,
        ),
      ),
    ),
  ),
)

pub failed_key_new_run : HasRun bus_a failed_key_new
failed_key_new_run = walked bus_a failed_key_new (
  left0,
  left0,
  refl,
  refl,
  tt,
  (
    left0,
    left_unkeyed,
    refl,
    update_faults,
    tt,
    (
      left_unkeyed,
      left_unkeyed,
      refl,
      (refl, refl),
      tt,
      (
        left_unkeyed,
        slot_new,
        refl,
        inr (slot_change, refl, refl),
        tt,
        (
          slot_new,
          after_sending v1 slot_new,
          refl,
          slot_sends,
          tt,
          tt,
        ),
      ),
    ),
  ),
)
