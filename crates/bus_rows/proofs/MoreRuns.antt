-- The ordinary run, the secure boot, and updates that are refused
use Rattle.std.specs.Prelude.{ℕ, Some, true, List, [], ◌∷◌}
use Rattle.std.proofs.Common.{refl, sym, ◌∙◌, arith, inl, inr}
use Rattle.key_slots.specs.declared.refusals.Erc.TheVariants.{KeyNotAvailable, KeyInvalid, KeyEmpty, NoSecureBoot, KeyWriteProtected, KeyUpdateError, SequenceError}
use Rattle.key_slots.specs.Authority.{is_pair}
use Rattle.key_slots.specs.Usage.{usable}
use Rattle.memory_update.specs.declared.messages.Update.{Update}
use Rattle.memory_update.specs.Loading.{slot_of}
use Rattle.bus_machine.specs.declared.events.Event.TheVariants.{Send, Deliver, Inject, Key, Boot}
use Rattle.bus_machine.specs.declared.lines.Line.TheVariants as line
use Rattle.bus_machine.specs.declared.lines.Line.TheVariants.{Sent, Accepted, VerificationFailure, Keyed, Refused}
use Rattle.bus_machine.specs.declared.lines.Refusal.TheVariants as refusal
use Rattle.bus_machine.specs.Node.{Node, with_slot, booted}
use Rattle.bus_machine.specs.Steps.{sends, receives, keys, boots, NodeStep}
use Rattle.bus_machine.specs.Bus.{World}
use Rattle.bus_rows.specs.Buses.{numbered_uid, zero_uid, bus_a, all_ones, master_key, bus_key, clear_flags, for_macs, for_macs_after_boot, write_protected, no_wildcard, update_of, bus_payload, first_frame, altered_frame}
use Rattle.bus_rows.specs.Rows.{HasRun, master_loaded, loaded_by_master, ordinary, boot_decided, updates, stored_mac}
use Rattle.bus_rows.proofs.Frames.{repeated_frame_is, other_repeated_frame_is}
use Rattle.bus_rows.proofs.Building.{next, goes, at, keyed, not_keyed, not_keyed_by_head}
use Rattle.bus_rows.proofs.WorkedRuns.{IsBlock-all_ones, IsBlock-master_key, IsBlock-bus_key, IsBlock-stored_mac, IsUid-left, IsUid-right, IsUid-zero, is_update, repeat_differs, altered_differs, v1, after_sending, after_accepting, first_secured, left0, right0, w0}

-- ---- an ordinary run

abbrev master_update : ℕ → Update
master_update uid = update_of (numbered_uid uid) 1 1 1 clear_flags master_key

abbrev key_update : ℕ → Update
key_update uid = update_of (numbered_uid uid) 4 1 1 for_macs bus_key

abbrev left_m : Node
left_m = with_slot 1 (slot_of (master_update 1)) left0

abbrev right_m : Node
right_m = with_slot 1 (slot_of (master_update 2)) right0

abbrev left_k : Node
left_k = with_slot 4 (slot_of (key_update 1)) left_m

abbrev right_k : Node
right_k = with_slot 4 (slot_of (key_update 2)) right_m

abbrev left_s : Node
left_s = after_sending v1 left_k

abbrev right_a : Node
right_a = after_accepting v1 right_k

abbrev o1 : World
o1 = next w0 (master_loaded 0 1) (Keyed 1) left_m

abbrev o2 : World
o2 = next o1 (master_loaded 1 2) (Keyed 1) right_m

abbrev o3 : World
o3 = next o2 (loaded_by_master 0 1) (Keyed 4) left_k

abbrev o4 : World
o4 = next o3 (loaded_by_master 1 2) (Keyed 4) right_k

abbrev o5 : World
o5 = next o4 (Send 0 0x6bc1 bus_payload) (Sent 0x6bc1 v1 first_frame) left_s

abbrev o6 : World
o6 = next o5 (Deliver 1 5) (Accepted 0x6bc1 v1 bus_payload (Some 5)) right_a

abbrev o7 : World
o7 = next o6 (Deliver 1 5) VerificationFailure right_a

abbrev o8 : World
o8 = next o7 (Inject 1 0x6bc1 altered_frame) VerificationFailure right_a

left_master : NodeStep left0 (keys (master_update 1) all_ones) (Keyed 1) left_m
unfolding is_pair
left_master =
    keyed left0 (master_update 1) all_ones refl (record { is_key = IsBlock-all_ones; is_update = is_update _ 1 1 1 clear_flags master_key IsUid-left (omega arith) (omega arith) (omega arith) IsBlock-master_key; held = refl }) refl

right_master : NodeStep right0 (keys (master_update 2) all_ones) (Keyed 1) right_m
unfolding is_pair
right_master =
    keyed right0 (master_update 2) all_ones refl (record { is_key = IsBlock-all_ones; is_update = is_update _ 1 1 1 clear_flags master_key IsUid-right (omega arith) (omega arith) (omega arith) IsBlock-master_key; held = refl }) refl

left_key : NodeStep left_m (keys (key_update 1) master_key) (Keyed 4) left_k
unfolding is_pair
left_key =
    keyed left_m (key_update 1) master_key refl (record { is_key = IsBlock-master_key; is_update = is_update _ 4 1 1 for_macs bus_key IsUid-left (omega arith) (omega arith) (omega arith) IsBlock-bus_key; held = refl }) refl

right_key : NodeStep right_m (keys (key_update 2) master_key) (Keyed 4) right_k
unfolding is_pair
right_key =
    keyed right_m (key_update 2) master_key refl (record { is_key = IsBlock-master_key; is_update = is_update _ 4 1 1 for_macs bus_key IsUid-right (omega arith) (omega arith) (omega arith) IsBlock-bus_key; held = refl }) refl

left_sends_first : NodeStep left_k (sends 0x6bc1 bus_payload) (Sent 0x6bc1 v1 first_frame) left_s
unfolding usable
left_sends_first = (refl, record { allowed = refl; freshness_is = refl; pdu_is = first_secured; after_is = refl })

right_accepts_first : NodeStep right_k (receives 0x6bc1 first_frame) (Accepted 0x6bc1 v1 bus_payload (Some 5)) right_a
unfolding usable
right_accepts_first = (
  refl,
  record {
    judged = record {
      allowed = refl;
      verdict_is = (record { above = omega arith; near = omega arith; low_is = refl; fits = omega arith }, refl, first_secured);
    };
    after_is = refl;
  },
)

right_repeats : NodeStep right_a (receives 0x6bc1 first_frame) VerificationFailure right_a
unfolding usable
right_repeats = (
  record {
    allowed = refl;
    verdict_is = (
      0xe93d7e117393182a,
      record { above = omega arith; near = omega arith; low_is = refl; fits = omega arith },
      λ sec. repeat_differs (sec.frame_is ∙ sym repeated_frame_is),
    );
  },
  refl,
)

right_altered : NodeStep right_a (receives 0x6bc1 altered_frame) VerificationFailure right_a
unfolding usable
right_altered = (
  record {
    allowed = refl;
    verdict_is = (
      0xe93d7e117393182a,
      record { above = omega arith; near = omega arith; low_is = refl; fits = omega arith },
      λ sec. altered_differs (sec.frame_is ∙ sym other_repeated_frame_is),
    );
  },
  refl,
)

pub ordinary_run : HasRun bus_a ordinary
ordinary_run = (
  at (master_loaded 0 1) (Keyed 1) o1
      ∷ at (master_loaded 1 2) (Keyed 1) o2
      ∷ at (loaded_by_master 0 1) (Keyed 4) o3
      ∷ at (loaded_by_master 1 2) (Keyed 4) o4
      ∷ at (Send 0 0x6bc1 bus_payload) (Sent 0x6bc1 v1 first_frame) o5
      ∷ at (Deliver 1 5) (Accepted 0x6bc1 v1 bus_payload (Some 5)) o6
      ∷ at (Deliver 1 5) VerificationFailure o7
      ∷ at (Inject 1 0x6bc1 altered_frame) VerificationFailure o8 ∷ [],
  o8,
  (
    goes w0 (master_loaded 0 1) (Keyed 1) left0 left_m refl left_master tt,
    (
      goes o1 (master_loaded 1 2) (Keyed 1) right0 right_m refl right_master tt,
      (
        goes o2 (loaded_by_master 0 1) (Keyed 4) left_m left_k refl left_key tt,
        (
          goes o3 (loaded_by_master 1 2) (Keyed 4) right_m right_k refl right_key tt,
          (
            goes o4 (Send 0 0x6bc1 bus_payload) (Sent 0x6bc1 v1 first_frame) left_k left_s refl left_sends_first tt,
            (
              goes o5 (Deliver 1 5) (Accepted 0x6bc1 v1 bus_payload (Some 5)) right_k right_a refl right_accepts_first refl,
              (
                goes o6 (Deliver 1 5) VerificationFailure right_a right_a refl right_repeats tt,
                (goes o7 (Inject 1 0x6bc1 altered_frame) VerificationFailure right_a right_a refl right_altered tt, refl),
              ),
            ),
          ),
        ),
      ),
    ),
  ),
  refl,
)

-- ---- a secure boot

abbrev cipher_update : Update
cipher_update = update_of (numbered_uid 1) 4 4 1 clear_flags bus_key

abbrev guarded_update : Update
guarded_update = update_of (numbered_uid 1) 4 4 2 for_macs_after_boot bus_key

abbrev boot_key_update : Update
boot_key_update = update_of (numbered_uid 1) 2 2 1 clear_flags bus_key

abbrev boot_mac_update : Update
boot_mac_update = update_of (numbered_uid 1) 3 2 1 clear_flags stored_mac

abbrev b3 : Node
b3 = with_slot 4 (slot_of cipher_update) left0

abbrev b5 : Node
b5 = with_slot 4 (slot_of guarded_update) b3

abbrev b6 : Node
b6 = with_slot 2 (slot_of boot_key_update) b5

abbrev b7 : Node
b7 = with_slot 3 (slot_of boot_mac_update) b6

abbrev b9 : Node
b9 = booted true b7

abbrev b10 : Node
b10 = after_sending v1 b9

abbrev image : List ℕ
image = 0 ∷ []

sends_empty : NodeStep left0 (sends 0x6bc1 (1 ∷ [])) (Refused (refusal.Key KeyEmpty)) left0
unfolding usable
sends_empty = (refl, refl)

boots_unfilled : NodeStep left0 (boots image) (Refused (refusal.Key NoSecureBoot)) left0
boots_unfilled = ((refl, inr (refl, refl)), refl)

keys_cipher : NodeStep left0 (keys cipher_update all_ones) (Keyed 4) b3
unfolding is_pair
keys_cipher =
    keyed left0 cipher_update all_ones refl (record { is_key = IsBlock-all_ones; is_update = is_update _ 4 4 1 clear_flags bus_key IsUid-left (omega arith) (omega arith) (omega arith) IsBlock-bus_key; held = refl }) refl

sends_by_cipher_key : NodeStep b3 (sends 0x6bc1 (1 ∷ [])) (Refused (refusal.Key KeyInvalid)) b3
unfolding usable
sends_by_cipher_key = (refl, refl)

keys_guarded : NodeStep b3 (keys guarded_update bus_key) (Keyed 4) b5
unfolding is_pair
keys_guarded =
    keyed b3 guarded_update bus_key refl (record { is_key = IsBlock-bus_key; is_update = is_update _ 4 4 2 for_macs_after_boot bus_key IsUid-left (omega arith) (omega arith) (omega arith) IsBlock-bus_key; held = refl }) refl

keys_boot_key : NodeStep b5 (keys boot_key_update all_ones) (Keyed 2) b6
unfolding is_pair
keys_boot_key =
    keyed b5 boot_key_update all_ones refl (record { is_key = IsBlock-all_ones; is_update = is_update _ 2 2 1 clear_flags bus_key IsUid-left (omega arith) (omega arith) (omega arith) IsBlock-bus_key; held = refl }) refl

keys_boot_mac : NodeStep b6 (keys boot_mac_update bus_key) (Keyed 3) b7
unfolding is_pair
keys_boot_mac =
    keyed b6 boot_mac_update bus_key refl (record { is_key = IsBlock-bus_key; is_update = is_update _ 3 2 1 clear_flags stored_mac IsUid-left (omega arith) (omega arith) (omega arith) IsBlock-stored_mac; held = refl }) refl

sends_unbooted : NodeStep b7 (sends 0x6bc1 bus_payload) (Refused (refusal.Key KeyNotAvailable)) b7
unfolding usable
sends_unbooted = (refl, refl)

boots_well : NodeStep b7 (boots image) (line.Boot true) b9
boots_well = record { is_up = refl; undecided = refl; decided = (λ yes. refl, λ same. refl); after_is = refl }

sends_booted : NodeStep b9 (sends 0x6bc1 bus_payload) (Sent 0x6bc1 v1 first_frame) b10
unfolding usable
sends_booted = (refl, record { allowed = refl; freshness_is = refl; pdu_is = first_secured; after_is = refl })

boots_twice : NodeStep b10 (boots image) (Refused (refusal.Key SequenceError)) b10
boots_twice = ((refl, inl (refl, refl)), refl)

abbrev c1 : World
c1 = next w0 (Send 0 0x6bc1 (1 ∷ [])) (Refused (refusal.Key KeyEmpty)) left0

abbrev c2 : World
c2 = next c1 (Boot 0 image) (Refused (refusal.Key NoSecureBoot)) left0

abbrev c3 : World
c3 = next c2 (Key 0 cipher_update all_ones) (Keyed 4) b3

abbrev c4 : World
c4 = next c3 (Send 0 0x6bc1 (1 ∷ [])) (Refused (refusal.Key KeyInvalid)) b3

abbrev c5 : World
c5 = next c4 (Key 0 guarded_update bus_key) (Keyed 4) b5

abbrev c6 : World
c6 = next c5 (Key 0 boot_key_update all_ones) (Keyed 2) b6

abbrev c7 : World
c7 = next c6 (Key 0 boot_mac_update bus_key) (Keyed 3) b7

abbrev c8 : World
c8 = next c7 (Send 0 0x6bc1 bus_payload) (Refused (refusal.Key KeyNotAvailable)) b7

abbrev c9 : World
c9 = next c8 (Boot 0 image) (line.Boot true) b9

abbrev c10 : World
c10 = next c9 (Send 0 0x6bc1 bus_payload) (Sent 0x6bc1 v1 first_frame) b10

abbrev c11 : World
c11 = next c10 (Boot 0 image) (Refused (refusal.Key SequenceError)) b10

pub boot_decided_run : HasRun bus_a boot_decided
boot_decided_run = (
  at (Send 0 0x6bc1 (1 ∷ [])) (Refused (refusal.Key KeyEmpty)) c1
      ∷ at (Boot 0 image) (Refused (refusal.Key NoSecureBoot)) c2
      ∷ at (Key 0 cipher_update all_ones) (Keyed 4) c3
      ∷ at (Send 0 0x6bc1 (1 ∷ [])) (Refused (refusal.Key KeyInvalid)) c4
      ∷ at (Key 0 guarded_update bus_key) (Keyed 4) c5
      ∷ at (Key 0 boot_key_update all_ones) (Keyed 2) c6
      ∷ at (Key 0 boot_mac_update bus_key) (Keyed 3) c7
      ∷ at (Send 0 0x6bc1 bus_payload) (Refused (refusal.Key KeyNotAvailable)) c8
      ∷ at (Boot 0 image) (line.Boot true) c9
      ∷ at (Send 0 0x6bc1 bus_payload) (Sent 0x6bc1 v1 first_frame) c10
      ∷ at (Boot 0 image) (Refused (refusal.Key SequenceError)) c11 ∷ [],
  c11,
  (
    goes w0 (Send 0 0x6bc1 (1 ∷ [])) (Refused (refusal.Key KeyEmpty)) left0 left0 refl sends_empty tt,
    (
      goes c1 (Boot 0 image) (Refused (refusal.Key NoSecureBoot)) left0 left0 refl boots_unfilled tt,
      (
        goes c2 (Key 0 cipher_update all_ones) (Keyed 4) left0 b3 refl keys_cipher tt,
        (
          goes c3 (Send 0 0x6bc1 (1 ∷ [])) (Refused (refusal.Key KeyInvalid)) b3 b3 refl sends_by_cipher_key tt,
          (
            goes c4 (Key 0 guarded_update bus_key) (Keyed 4) b3 b5 refl keys_guarded tt,
            (
              goes c5 (Key 0 boot_key_update all_ones) (Keyed 2) b5 b6 refl keys_boot_key tt,
              (
                goes c6 (Key 0 boot_mac_update bus_key) (Keyed 3) b6 b7 refl keys_boot_mac tt,
                (
                  goes c7 (Send 0 0x6bc1 bus_payload) (Refused (refusal.Key KeyNotAvailable)) b7 b7 refl sends_unbooted tt,
                  (
                    goes c8 (Boot 0 image) (line.Boot true) b7 b9 refl boots_well tt,
                    (
                      goes c9 (Send 0 0x6bc1 bus_payload) (Sent 0x6bc1 v1 first_frame) b9 b10 refl sends_booted tt,
                      (goes c10 (Boot 0 image) (Refused (refusal.Key SequenceError)) b10 b10 refl boots_twice tt, refl),
                    ),
                  ),
                ),
              ),
            ),
          ),
        ),
      ),
    ),
  ),
  refl,
)

-- ---- updates

abbrev u1 : Update
u1 = update_of (numbered_uid 1) 1 1 1 write_protected master_key

abbrev u2 : Update
u2 = update_of (numbered_uid 1) 1 1 2 clear_flags master_key

abbrev u3 : Update
u3 = update_of zero_uid 5 5 1 clear_flags bus_key

abbrev u4 : Update
u4 = update_of zero_uid 5 5 2 no_wildcard master_key

abbrev u5 : Update
u5 = update_of zero_uid 5 5 3 clear_flags bus_key

abbrev u6 : Update
u6 = update_of (numbered_uid 1) 5 5 3 clear_flags master_key

abbrev u7 : Update
u7 = update_of (numbered_uid 1) 6 6 268435455 clear_flags bus_key

abbrev u8 : Update
u8 = update_of (numbered_uid 1) 6 6 268435455 clear_flags master_key

abbrev u9 : Update
u9 = update_of (numbered_uid 1) 5 4 1 clear_flags bus_key

abbrev u10 : Update
u10 = update_of (numbered_uid 1) 3 2 1 clear_flags bus_key

abbrev n1 : Node
n1 = with_slot 1 (slot_of u1) left0

abbrev n3 : Node
n3 = with_slot 5 (slot_of u3) n1

abbrev n4 : Node
n4 = with_slot 5 (slot_of u4) n3

abbrev n6 : Node
n6 = with_slot 5 (slot_of u6) n4

abbrev n7 : Node
n7 = with_slot 6 (slot_of u7) n6

take1 : NodeStep left0 (keys u1 all_ones) (Keyed 1) n1
unfolding is_pair
take1 =
    keyed left0 u1 all_ones refl (record { is_key = IsBlock-all_ones; is_update = is_update _ 1 1 1 write_protected master_key IsUid-left (omega arith) (omega arith) (omega arith) IsBlock-master_key; held = refl }) refl

refuse2 : NodeStep n1 (keys u2 master_key) (Refused (refusal.Key KeyWriteProtected)) n1
unfolding is_pair
refuse2 =
    not_keyed_by_head n1 u2 master_key KeyWriteProtected refl (is_update _ 1 1 2 clear_flags master_key IsUid-left (omega arith) (omega arith) (omega arith) IsBlock-master_key) refl

take3 : NodeStep n1 (keys u3 all_ones) (Keyed 5) n3
unfolding is_pair
take3 =
    keyed n1 u3 all_ones refl (record { is_key = IsBlock-all_ones; is_update = is_update _ 5 5 1 clear_flags bus_key IsUid-zero (omega arith) (omega arith) (omega arith) IsBlock-bus_key; held = refl }) refl

take4 : NodeStep n3 (keys u4 bus_key) (Keyed 5) n4
unfolding is_pair
take4 =
    keyed n3 u4 bus_key refl (record { is_key = IsBlock-bus_key; is_update = is_update _ 5 5 2 no_wildcard master_key IsUid-zero (omega arith) (omega arith) (omega arith) IsBlock-master_key; held = refl }) refl

refuse5 : NodeStep n4 (keys u5 master_key) (Refused (refusal.Key KeyUpdateError)) n4
unfolding is_pair
refuse5 =
    not_keyed n4 u5 master_key KeyUpdateError refl (record { is_key = IsBlock-master_key; is_update = is_update _ 5 5 3 clear_flags bus_key IsUid-zero (omega arith) (omega arith) (omega arith) IsBlock-bus_key; held = refl }) refl

take6 : NodeStep n4 (keys u6 master_key) (Keyed 5) n6
unfolding is_pair
take6 =
    keyed n4 u6 master_key refl (record { is_key = IsBlock-master_key; is_update = is_update _ 5 5 3 clear_flags master_key IsUid-left (omega arith) (omega arith) (omega arith) IsBlock-master_key; held = refl }) refl

take7 : NodeStep n6 (keys u7 all_ones) (Keyed 6) n7
unfolding is_pair
take7 =
    keyed n6 u7 all_ones refl (record { is_key = IsBlock-all_ones; is_update = is_update _ 6 6 268435455 clear_flags bus_key IsUid-left (omega arith) (omega arith) (omega arith) IsBlock-bus_key; held = refl }) refl

refuse8 : NodeStep n7 (keys u8 bus_key) (Refused (refusal.Key KeyUpdateError)) n7
unfolding is_pair
refuse8 =
    not_keyed n7 u8 bus_key KeyUpdateError refl (record { is_key = IsBlock-bus_key; is_update = is_update _ 6 6 268435455 clear_flags master_key IsUid-left (omega arith) (omega arith) (omega arith) IsBlock-master_key; held = refl }) refl

refuse9 : NodeStep n7 (keys u9 bus_key) (Refused (refusal.Key KeyInvalid)) n7
unfolding is_pair
refuse9 =
    not_keyed_by_head n7 u9 bus_key KeyInvalid refl (is_update _ 5 4 1 clear_flags bus_key IsUid-left (omega arith) (omega arith) (omega arith) IsBlock-bus_key) refl

refuse10 : NodeStep n7 (keys u10 all_ones) (Refused (refusal.Key KeyEmpty)) n7
unfolding is_pair
refuse10 =
    not_keyed_by_head n7 u10 all_ones KeyEmpty refl (is_update _ 3 2 1 clear_flags bus_key IsUid-left (omega arith) (omega arith) (omega arith) IsBlock-bus_key) refl

abbrev m1 : World
m1 = next w0 (Key 0 u1 all_ones) (Keyed 1) n1

abbrev m2 : World
m2 = next m1 (Key 0 u2 master_key) (Refused (refusal.Key KeyWriteProtected)) n1

abbrev m3 : World
m3 = next m2 (Key 0 u3 all_ones) (Keyed 5) n3

abbrev m4 : World
m4 = next m3 (Key 0 u4 bus_key) (Keyed 5) n4

abbrev m5 : World
m5 = next m4 (Key 0 u5 master_key) (Refused (refusal.Key KeyUpdateError)) n4

abbrev m6 : World
m6 = next m5 (Key 0 u6 master_key) (Keyed 5) n6

abbrev m7 : World
m7 = next m6 (Key 0 u7 all_ones) (Keyed 6) n7

abbrev m8 : World
m8 = next m7 (Key 0 u8 bus_key) (Refused (refusal.Key KeyUpdateError)) n7

abbrev m9 : World
m9 = next m8 (Key 0 u9 bus_key) (Refused (refusal.Key KeyInvalid)) n7

abbrev m10 : World
m10 = next m9 (Key 0 u10 all_ones) (Refused (refusal.Key KeyEmpty)) n7

pub updates_run : HasRun bus_a updates
updates_run = (
  at (Key 0 u1 all_ones) (Keyed 1) m1
      ∷ at (Key 0 u2 master_key) (Refused (refusal.Key KeyWriteProtected)) m2
      ∷ at (Key 0 u3 all_ones) (Keyed 5) m3
      ∷ at (Key 0 u4 bus_key) (Keyed 5) m4
      ∷ at (Key 0 u5 master_key) (Refused (refusal.Key KeyUpdateError)) m5
      ∷ at (Key 0 u6 master_key) (Keyed 5) m6
      ∷ at (Key 0 u7 all_ones) (Keyed 6) m7
      ∷ at (Key 0 u8 bus_key) (Refused (refusal.Key KeyUpdateError)) m8
      ∷ at (Key 0 u9 bus_key) (Refused (refusal.Key KeyInvalid)) m9
      ∷ at (Key 0 u10 all_ones) (Refused (refusal.Key KeyEmpty)) m10 ∷ [],
  m10,
  (
    goes w0 (Key 0 u1 all_ones) (Keyed 1) left0 n1 refl take1 tt,
    (
      goes m1 (Key 0 u2 master_key) (Refused (refusal.Key KeyWriteProtected)) n1 n1 refl refuse2 tt,
      (
        goes m2 (Key 0 u3 all_ones) (Keyed 5) n1 n3 refl take3 tt,
        (
          goes m3 (Key 0 u4 bus_key) (Keyed 5) n3 n4 refl take4 tt,
          (
            goes m4 (Key 0 u5 master_key) (Refused (refusal.Key KeyUpdateError)) n4 n4 refl refuse5 tt,
            (
              goes m5 (Key 0 u6 master_key) (Keyed 5) n4 n6 refl take6 tt,
              (
                goes m6 (Key 0 u7 all_ones) (Keyed 6) n6 n7 refl take7 tt,
                (
                  goes m7 (Key 0 u8 bus_key) (Refused (refusal.Key KeyUpdateError)) n7 n7 refl refuse8 tt,
                  (
                    goes m8 (Key 0 u9 bus_key) (Refused (refusal.Key KeyInvalid)) n7 n7 refl refuse9 tt,
                    (goes m9 (Key 0 u10 all_ones) (Refused (refusal.Key KeyEmpty)) n7 n7 refl refuse10 tt, refl),
                  ),
                ),
              ),
            ),
          ),
        ),
      ),
    ),
  ),
  refl,
)
