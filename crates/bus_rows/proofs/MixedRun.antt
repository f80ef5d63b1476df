-- The run in which the four theorems are computed to hold
use Rattle.std.specs.Prelude.{◌≡◌, ℕ, Some, [], ◌∷◌, take}
use Rattle.std.proofs.Common.{refl, sym, subst, arith, lit<, inl, inr}
use Rattle.cut_disk.specs.declared.Torn.TheVariants.{Keep, Old}
use Rattle.key_slots.specs.declared.memory.Slot.{Slot}
use Rattle.key_slots.specs.Authority.{is_pair}
use Rattle.key_slots.specs.Slots.{slot_at}
use Rattle.key_slots.specs.Usage.{usable}
use Rattle.memory_update.specs.Loading.{slot_of}
use Rattle.bus_machine.specs.declared.events.Event.TheVariants.{Send, Deliver, Key, Cut, Stop}
use Rattle.bus_machine.specs.declared.lines.Line.TheVariants.{Sent, Accepted, Keyed, Up, Armed, Refused}
use Rattle.bus_machine.specs.declared.lines.Refusal.TheVariants.{MemoryFailure}
use Rattle.bus_machine.specs.Node.{Node, Change, slot_to, changed, powered, failed}
use Rattle.bus_machine.specs.Steps.{keys, receives, NodeStep, Makes}
use Rattle.bus_machine.specs.Bus.{World, SentLine, First, Moments, BusRun}
use Rattle.bus_machine.specs.Authentic.{RightLine}
use Rattle.bus_machine.specs.KeysKept.{Acknowledges, GoesOn}
use Rattle.bus_rows.specs.Buses.{bus_a, all_ones, bus_key, for_macs, bus_payload, first_frame, later_frame}
use Rattle.bus_rows.specs.Rows.{load_slot_4}
use Rattle.bus_rows.specs.Mixed.{newer_update, mixed, HasGoodRun}
use Rattle.bus_rows.proofs.Building.{next, goes, at, Given, makes_update, only_update}
use Rattle.bus_rows.proofs.Tested.{Rising-passed, Single-passed, EachRight, Authentic-each, KeptSince, EachKept, UpdatesHold-each, goes_on_same, put_goes_on, two_go_on, EachGoesOn, SlotsGoOn-each}
use Rattle.bus_rows.proofs.WorkedRuns.{IsBlock-all_ones, IsBlock-bus_key, IsUid-left, IsUid-right, is_update, v1, v2, after_accepting, first_secured, later_secured, left0, right0, left1, right1, left2, left3, left4, own_update, left_keyed, right_keyed, left_sends, left_sends_later, right_failed, right_old, right_again, right_faults, old_accepts}

-- ---- the receiver after its second failure

abbrev newer_change : Change
newer_change = slot_to 4 (slot_of newer_update)

abbrev right_renewing : Node
right_renewing = failed newer_change right_again

abbrev right_renewed : Node
right_renewed = powered right_again.config (changed newer_change right_again.kept)

abbrev right_last : Node
right_last = after_accepting v2 right_renewed

newer_made : Makes right_again (keys newer_update bus_key) newer_change
unfolding is_pair
newer_made =
    makes_update right_again newer_update bus_key refl (record { is_key = IsBlock-bus_key; is_update = is_update _ 4 4 2 for_macs bus_key IsUid-right (omega arith) (omega arith) (omega arith) IsBlock-bus_key; held = refl }) refl

renewed_accepts : NodeStep right_renewed (receives 0x6bc1 later_frame) (Accepted 0x6bc1 v2 bus_payload (Some 12)) right_last
unfolding usable
renewed_accepts = (
  refl,
  record {
    judged = record {
      allowed = refl;
      verdict_is = (record { above = omega arith; near = omega arith; low_is = refl; fits = omega arith }, refl, later_secured);
    };
    after_is = refl;
  },
)

-- ---- the worlds

abbrev w0 : World
w0 = First bus_a

abbrev w1 : World
w1 = next w0 (load_slot_4 0 1) (Keyed 4) left1

abbrev w2 : World
w2 = next w1 (load_slot_4 1 2) (Keyed 4) right1

abbrev w3 : World
w3 = next w2 (Send 0 0x6bc1 bus_payload) (Sent 0x6bc1 v1 first_frame) left2

abbrev w4 : World
w4 = next w3 (Stop 1 2) Armed right1

abbrev w5 : World
w5 = next w4 (Deliver 1 3) (Refused MemoryFailure) right_failed

abbrev w6 : World
w6 = next w5 (Cut 1 Old) Up right_old

abbrev w7 : World
w7 = next w6 (Deliver 1 3) (Accepted 0x6bc1 v1 bus_payload (Some 3)) right_again

abbrev w8 : World
w8 = next w7 (Stop 1 6) Armed right_again

abbrev w9 : World
w9 = next w8 (Key 1 newer_update bus_key) (Refused MemoryFailure) right_renewing

abbrev w10 : World
w10 = next w9 (Cut 1 Keep) Up right_renewed

abbrev w11 : World
w11 = next w10 (Cut 0 Keep) Up left3

abbrev w12 : World
w12 = next w11 (Send 0 0x6bc1 bus_payload) (Sent 0x6bc1 v2 later_frame) left4

abbrev w13 : World
w13 = next w12 (Deliver 1 12) (Accepted 0x6bc1 v2 bus_payload (Some 12)) right_last

abbrev after_two : Moments
after_two =
    at (Send 0 0x6bc1 bus_payload) (Sent 0x6bc1 v1 first_frame) w3
    ∷ at (Stop 1 2) Armed w4
    ∷ at (Deliver 1 3) (Refused MemoryFailure) w5
    ∷ at (Cut 1 Old) Up w6
    ∷ at (Deliver 1 3) (Accepted 0x6bc1 v1 bus_payload (Some 3)) w7
    ∷ at (Stop 1 6) Armed w8
    ∷ at (Key 1 newer_update bus_key) (Refused MemoryFailure) w9
    ∷ at (Cut 1 Keep) Up w10
    ∷ at (Cut 0 Keep) Up w11
    ∷ at (Send 0 0x6bc1 bus_payload) (Sent 0x6bc1 v2 later_frame) w12
    ∷ at (Deliver 1 12) (Accepted 0x6bc1 v2 bus_payload (Some 12)) w13 ∷ []

abbrev after_one : Moments
after_one = at (load_slot_4 1 2) (Keyed 4) w2 ∷ after_two

abbrev moments : Moments
moments = at (load_slot_4 0 1) (Keyed 4) w1 ∷ after_one

run : BusRun bus_a moments w13
run = (
  goes w0 (load_slot_4 0 1) (Keyed 4) left0 left1 refl left_keyed tt,
  (
    goes w1 (load_slot_4 1 2) (Keyed 4) right0 right1 refl right_keyed tt,
    (
      goes w2 (Send 0 0x6bc1 bus_payload) (Sent 0x6bc1 v1 first_frame) left1 left2 refl left_sends tt,
      (
        goes w3 (Stop 1 2) Armed right1 right1 refl refl tt,
        (
          goes w4 (Deliver 1 3) (Refused MemoryFailure) right1 right_failed refl right_faults tt,
          (
            goes w5 (Cut 1 Old) Up right_failed right_old refl (inl refl) tt,
            (
              goes w6 (Deliver 1 3) (Accepted 0x6bc1 v1 bus_payload (Some 3)) right_old right_again refl old_accepts refl,
              (
                goes w7 (Stop 1 6) Armed right_again right_again refl refl tt,
                (
                  goes w8 (Key 1 newer_update bus_key) (Refused MemoryFailure) right_again right_renewing refl (newer_change, newer_made, refl) tt,
                  (
                    goes w9 (Cut 1 Keep) Up right_renewing right_renewed refl (inr (newer_change, refl, refl)) tt,
                    (
                      goes w10 (Cut 0 Keep) Up left2 left3 refl (inl refl) tt,
                      (
                        goes w11 (Send 0 0x6bc1 bus_payload) (Sent 0x6bc1 v2 later_frame) left3 left4 refl left_sends_later tt,
                        (
                          goes w12 (Deliver 1 12) (Accepted 0x6bc1 v2 bus_payload (Some 12)) right_renewed right_last refl renewed_accepts refl,
                          refl,
                        ),
                      ),
                    ),
                  ),
                ),
              ),
            ),
          ),
        ),
      ),
    ),
  ),
)

-- ---- each accepted line answers a frame that is secured, and names the event that sent it

abbrev first_sent : SentLine
first_sent = record { number = 3; id = 0x6bc1; payload = bus_payload; freshness = v1; pdu = first_frame }

abbrev later_sent : SentLine
later_sent = record { number = 12; id = 0x6bc1; payload = bus_payload; freshness = v2; pdu = later_frame }

same_number : (n m : ℕ) → Some n ≡ Some m → n ≡ m
same_number n m e = cc e

abbrev front_six : Moments
front_six = take 6 moments

abbrev front_twelve : Moments
front_twelve = take 12 moments

seventh_right : RightLine w0 front_six (at (Deliver 1 3) (Accepted 0x6bc1 v1 bus_payload (Some 3)) w7) (Accepted 0x6bc1 v1 bus_payload (Some 3))
unfolding usable
seventh_right = record {
  pdu = first_frame;
  received = refl;
  usable = refl;
  secured = first_secured;
  from = refl;
  names = λ number e. record {
    sent = first_sent;
    key = bus_key;
    number_is = same_number 3 number e;
    id_is = refl;
    payload_is = refl;
    freshness_is = refl;
    was_sent = inr (inr (inl (refl, refl, refl, refl)));
    same = λ k. refl;
  };
}

last_right : RightLine w0 front_twelve (at (Deliver 1 12) (Accepted 0x6bc1 v2 bus_payload (Some 12)) w13) (Accepted 0x6bc1 v2 bus_payload (Some 12))
unfolding usable
last_right = record {
  pdu = later_frame;
  received = refl;
  usable = refl;
  secured = later_secured;
  from = refl;
  names = λ number e. record {
    sent = later_sent;
    key = bus_key;
    number_is = same_number 12 number e;
    id_is = refl;
    payload_is = refl;
    freshness_is = refl;
    was_sent = inr (inr (inr (inr (inr (inr (inr (inr (inr (inr (inr (inl (refl, refl, refl, refl))))))))))));
    same = λ k. refl;
  };
}

each_right : EachRight w0 [] moments
each_right = (tt, (tt, (tt, (tt, (tt, (tt, (seventh_right, (tt, (tt, (tt, (tt, (tt, (last_right, tt)))))))))))))

-- ---- each acknowledged update is in its slot, or the one that failed is

abbrev left_slot : Slot
left_slot = slot_of (own_update 1)

abbrev right_slot : Slot
right_slot = slot_of (own_update 2)

left_kept : KeptSince 0 4 left_slot w1 [] after_one
left_kept = (inl refl, (inl refl, (inl refl, (inl refl, (inl refl, (inl refl, (inl refl, (inl refl, (inl refl, (inl refl, (inl refl, (inl refl, inl refl))))))))))))

right_kept : KeptSince 1 4 right_slot w2 [] after_two
right_kept = (inl refl, (inl refl, (inl refl, (inl refl, (inl refl, (inl refl, (inl refl, (inl refl, (inr (inr (inr (inr (inr (inr (inr (inl (refl, (refl, newer_made))))))))), (inr (inr (inr (inr (inr (inr (inr (inl (refl, (refl, newer_made))))))))), (inr (inr (inr (inr (inr (inr (inr (inl (refl, (refl, newer_made))))))))), inr (inr (inr (inr (inr (inr (inr (inl (refl, (refl, newer_made))))))))))))))))))))

left_given : Given left0.kept.slots (own_update 1) all_ones
left_given = record { is_key = IsBlock-all_ones; is_update = is_update _ 4 4 1 for_macs bus_key IsUid-left (omega arith) (omega arith) (omega arith) IsBlock-bus_key; held = refl }

right_given : Given right0.kept.slots (own_update 2) all_ones
right_given = record { is_key = IsBlock-all_ones; is_update = is_update _ 4 4 1 for_macs bus_key IsUid-right (omega arith) (omega arith) (omega arith) IsBlock-bus_key; held = refl }

-- what holds of slot 4 of a node and its update holds of the slot and the update of an act that makes it
of_update : (P : ℕ → ℕ → Slot → Type 0) (i j t : ℕ) (slot new : Slot) → j ≡ i → t ≡ 4 → slot ≡ new → P j 4 new → P i t slot
of_update P i j t slot new a b c h = subst (λ s. P i t s) (sym c) (subst (λ u. P i u new) (sym b) (subst (λ k. P k 4 new) a h))

left_acknowledged : (i t : ℕ) (slot : Slot) → Acknowledges i t slot w0 (at (load_slot_4 0 1) (Keyed 4) w1) → KeptSince i t slot w1 [] after_one
left_acknowledged i t slot a =
    let here : Acknowledges 0 t slot w0 (at (load_slot_4 0 1) (Keyed 4) w1) = subst (λ k. Acknowledges k t slot w0 (at (load_slot_4 0 1) (Keyed 4) w1)) (sym a.1.0) a in
    let only = only_update left0 (own_update 1) all_ones t slot left_given here.1.1 in
    of_update (λ j u s. KeptSince j u s w1 [] after_one) i 0 t slot left_slot a.1.0 only.0 only.1 left_kept

right_acknowledged : (i t : ℕ) (slot : Slot) → Acknowledges i t slot w1 (at (load_slot_4 1 2) (Keyed 4) w2) → KeptSince i t slot w2 [] after_two
right_acknowledged i t slot a =
    let here : Acknowledges 1 t slot w1 (at (load_slot_4 1 2) (Keyed 4) w2) = subst (λ k. Acknowledges k t slot w1 (at (load_slot_4 1 2) (Keyed 4) w2)) (sym a.1.0) a in
    let only = only_update right0 (own_update 2) all_ones t slot right_given here.1.1 in
    of_update (λ j u s. KeptSince j u s w2 [] after_two) i 1 t slot right_slot a.1.0 only.0 only.1 right_kept

each_kept : EachKept w0 moments
each_kept = (left_acknowledged, (right_acknowledged, ((λ i t slot a. absurd a.0), ((λ i t slot a. absurd a.0), ((λ i t slot a. absurd a.0), ((λ i t slot a. absurd a.0), ((λ i t slot a. absurd a.0), ((λ i t slot a. absurd a.0), ((λ i t slot a. absurd a.0), ((λ i t slot a. absurd a.0), ((λ i t slot a. absurd a.0), ((λ i t slot a. absurd a.0), ((λ i t slot a. absurd a.0), tt)))))))))))))

-- ---- no slot's counter falls

same_slots : (node next : Node) → next.kept.slots ≡ node.kept.slots → (t : ℕ) → GoesOn (slot_at node.kept.slots t) (slot_at next.kept.slots t)
same_slots node next e t = subst (λ xs. GoesOn (slot_at node.kept.slots t) (slot_at xs t)) (sym e) (goes_on_same (slot_at node.kept.slots t))

left_put : (t : ℕ) → GoesOn (slot_at left0.kept.slots t) (slot_at left1.kept.slots t)
left_put = put_goes_on left0.kept.slots 4 left_slot (lit< tt) (lit< tt)

right_put : (t : ℕ) → GoesOn (slot_at right0.kept.slots t) (slot_at right1.kept.slots t)
right_put = put_goes_on right0.kept.slots 4 right_slot (lit< tt) (lit< tt)

right_put_again : (t : ℕ) → GoesOn (slot_at right_renewing.kept.slots t) (slot_at right_renewed.kept.slots t)
right_put_again = put_goes_on right_again.kept.slots 4 (slot_of newer_update) (lit< tt) (lit< tt)

each_goes_on : EachGoesOn w0 moments
each_goes_on = (
  two_go_on w0 w1 left0 right0 left1 right0 refl refl left_put (same_slots right0 right0 refl),
  (
    two_go_on w1 w2 left1 right0 left1 right1 refl refl (same_slots left1 left1 refl) right_put,
    (
      two_go_on w2 w3 left1 right1 left2 right1 refl refl (same_slots left1 left2 refl) (same_slots right1 right1 refl),
      (
        two_go_on w3 w4 left2 right1 left2 right1 refl refl (same_slots left2 left2 refl) (same_slots right1 right1 refl),
        (
          two_go_on w4 w5 left2 right1 left2 right_failed refl refl (same_slots left2 left2 refl) (same_slots right1 right_failed refl),
          (
            two_go_on w5 w6 left2 right_failed left2 right_old refl refl (same_slots left2 left2 refl) (same_slots right_failed right_old refl),
            (
              two_go_on w6 w7 left2 right_old left2 right_again refl refl (same_slots left2 left2 refl) (same_slots right_old right_again refl),
              (
                two_go_on w7 w8 left2 right_again left2 right_again refl refl (same_slots left2 left2 refl) (same_slots right_again right_again refl),
                (
                  two_go_on w8 w9 left2 right_again left2 right_renewing refl refl (same_slots left2 left2 refl) (same_slots right_again right_renewing refl),
                  (
                    two_go_on w9 w10 left2 right_renewing left2 right_renewed refl refl (same_slots left2 left2 refl) right_put_again,
                    (
                      two_go_on w10 w11 left2 right_renewed left3 right_renewed refl refl (same_slots left2 left3 refl) (same_slots right_renewed right_renewed refl),
                      (
                        two_go_on w11 w12 left3 right_renewed left4 right_renewed refl refl (same_slots left3 left4 refl) (same_slots right_renewed right_renewed refl),
                        (
                          two_go_on w12 w13 left4 right_renewed left4 right_last refl refl (same_slots left4 left4 refl) (same_slots right_renewed right_last refl),
                          tt,
                        ),
                      ),
                    ),
                  ),
                ),
              ),
            ),
          ),
        ),
      ),
    ),
  ),
)

pub mixed_run : HasGoodRun bus_a mixed
mixed_run = record {
  moments = moments;
  last = w13;
  run = run;
  rows_are = refl;
  rising = Rising-passed moments refl;
  single = Single-passed moments refl;
  authentic = Authentic-each w0 moments each_right;
  keys_kept = record { updates_hold = UpdatesHold-each w0 moments each_kept; slots_go_on = SlotsGoOn-each w0 moments each_goes_on };
}
