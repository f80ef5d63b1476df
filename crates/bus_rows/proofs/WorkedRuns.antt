-- The worked runs, built line by line
use Rattle.std.specs.Prelude.{◌≡◌, ℕ, ◌<◌, ◌^◌, Option, None, Some, List, [], ◌∷◌, get_or}
use Rattle.std.proofs.Common.{refl, sym, ◌∙◌, ap, arith, inl, inr}
use Rattle.basics.specs.Numbers.{bytes_of}
use Rattle.basics.proofs.CallerLemmas.{IsBytes-bytes_of}
use Rattle.basics.specs.Blocks.{IsBlock}
use Rattle.she_cmac.proofs.CallerLemmas.{IsBlock-cmac}
use Rattle.cut_disk.specs.declared.Torn.TheVariants.{Keep, Old}
use Rattle.key_slots.specs.declared.memory.Flags.{Flags}
use Rattle.key_slots.specs.Authority.{is_pair}
use Rattle.key_slots.specs.Usage.{usable}
use Rattle.memory_update.specs.declared.messages.Update.{Update}
use Rattle.memory_update.specs.Identifier.{IsUid}
use Rattle.memory_update.specs.Messages.{IsUpdate}
use Rattle.memory_update.specs.Loading.{slot_of}
use Rattle.secure_boot.specs.Booting.{bootmac}
use Rattle.secured_pdu.specs.Verdict as verdict
use Rattle.secured_pdu.specs.Frame.{Secured}
use Rattle.bus_machine.specs.declared.events.Event.{Event}
use Rattle.bus_machine.specs.declared.events.Event.TheVariants.{Send, Deliver, Inject, Cut, Stop, Fail}
use Rattle.bus_machine.specs.declared.lines.Line.TheVariants.{Sent, Accepted, VerificationFailure, Keyed, Up, Armed, Refused}
use Rattle.bus_machine.specs.declared.lines.Refusal.TheVariants.{Down, Exhausted, MemoryFailure}
use Rattle.bus_machine.specs.Node.{Node, Change, bound_to, changed, first_node, powered, with_counter, with_slot, failed, refused_up}
use Rattle.bus_machine.specs.Steps.{sends, receives, keys, NodeStep, send_change, receive_change, JudgesFrame}
use Rattle.bus_machine.specs.Bus.{World, First, Moments, Step}
use Rattle.bus_rows.specs.Buses.{numbered_uid, zero_uid, sending_from, receiving_from, bus_a, last_bus, all_ones, master_key, bus_key, for_macs, update_of, bus_payload, first_frame, later_frame, last_frame, altered_frame}
use Rattle.bus_rows.specs.Rows.{HasRun, load_slot_4, restarted, failed_old, failed_new, refused_cut, last_freshness_used, foreign, stored_mac}
use Rattle.bus_rows.proofs.Frames.{first_frame_is, later_frame_is, last_frame_is, repeated_frame, repeated_frame_is, other_repeated_frame}
use Rattle.bus_rows.proofs.Building.{next, goes, at, keyed}

-- ---- keys and updates

pub IsBlock-all_ones : IsBlock all_ones
unfolding bytes_of
IsBlock-all_ones = IsBytes-bytes_of 16 0xffffffffffffffffffffffffffffffff

pub IsBlock-master_key : IsBlock master_key
unfolding bytes_of
IsBlock-master_key = IsBytes-bytes_of 16 0x000102030405060708090a0b0c0d0e0f

pub IsBlock-bus_key : IsBlock bus_key
unfolding bytes_of
IsBlock-bus_key = IsBytes-bytes_of 16 0x2b7e151628aed2a6abf7158809cf4f3c

pub IsBlock-stored_mac : IsBlock stored_mac
unfolding bootmac
IsBlock-stored_mac = IsBlock-cmac bus_key _ IsBlock-bus_key

pub IsUid-left : IsUid (numbered_uid 1)
unfolding bytes_of
IsUid-left = IsBytes-bytes_of 15 1

pub IsUid-right : IsUid (numbered_uid 2)
unfolding bytes_of
IsUid-right = IsBytes-bytes_of 15 2

pub IsUid-zero : IsUid zero_uid
unfolding bytes_of
IsUid-zero = IsBytes-bytes_of 15 0

pub is_update : (uid : List ℕ) (id auth counter : ℕ) (flags : Flags) (key : List ℕ) → IsUid uid → id < 14 → auth < 14 → counter < 2 ^ 28 → IsBlock key → IsUpdate (update_of uid id auth counter flags key)
is_update uid id auth counter flags key is_uid i a c is_key = record { is_uid = is_uid; id_fits = i; auth_fits = a; counter_fits = c; is_key = is_key }

-- ---- frames that differ

pub repeat_differs : first_frame ≡ repeated_frame → ⊥
repeat_differs e = let h : 7 ≡ 0xbc = ap (λ xs. get_or xs 7 0) e in absurd (omega (arith, h))

pub altered_differs : altered_frame ≡ other_repeated_frame → ⊥
altered_differs e = let h : 7 ≡ 0x43 = ap (λ xs. get_or xs 7 0) e in absurd (omega (arith, h))

-- ---- the freshness

abbrev pub v0 : ℕ
v0 = 0xe93d7e1173931729

abbrev pub v1 : ℕ
v1 = 0xe93d7e117393172a

abbrev pub v2 : ℕ
v2 = 0xe93d7e117393172e

-- ---- a PDU is sent, accepted, or found stale

abbrev pub after_sending : ℕ → Node → Node
after_sending v n = with_counter (send_change n 0) 0 v n

abbrev pub after_accepting : ℕ → Node → Node
after_accepting v n = with_counter (receive_change n 0 v) 0 v n

pub first_secured : Secured bus_key 0x6bc1 bus_payload v1 first_frame
first_secured = record { is_payload = (omega arith, omega arith); frame_is = first_frame_is }

pub later_secured : Secured bus_key 0x6bc1 bus_payload v2 later_frame
later_secured = record { is_payload = (omega arith, omega arith); frame_is = later_frame_is }

last_secured : Secured bus_key 0x6bc1 bus_payload 0xffffffffffffffff last_frame
last_secured = record { is_payload = (omega arith, omega arith); frame_is = last_frame_is }

-- ---- steps of one node

abbrev pub left0 : Node
left0 = first_node (sending_from v0)

abbrev pub right0 : Node
right0 = first_node (receiving_from v0)

-- slot 4 updated by itself
abbrev pub own_update : ℕ → Update
own_update uid = update_of (numbered_uid uid) 4 4 1 for_macs bus_key

abbrev pub left1 : Node
left1 = with_slot 4 (slot_of (own_update 1)) left0

abbrev pub right1 : Node
right1 = with_slot 4 (slot_of (own_update 2)) right0

pub left_keyed : NodeStep left0 (keys (own_update 1) all_ones) (Keyed 4) left1
unfolding is_pair
left_keyed =
    keyed left0 (own_update 1) all_ones refl (record { is_key = IsBlock-all_ones; is_update = is_update _ 4 4 1 for_macs bus_key IsUid-left (omega arith) (omega arith) (omega arith) IsBlock-bus_key; held = refl }) refl

pub right_keyed : NodeStep right0 (keys (own_update 2) all_ones) (Keyed 4) right1
unfolding is_pair
right_keyed =
    keyed right0 (own_update 2) all_ones refl (record { is_key = IsBlock-all_ones; is_update = is_update _ 4 4 1 for_macs bus_key IsUid-right (omega arith) (omega arith) (omega arith) IsBlock-bus_key; held = refl }) refl

abbrev pub left2 : Node
left2 = after_sending v1 left1

pub left_sends : NodeStep left1 (sends 0x6bc1 bus_payload) (Sent 0x6bc1 v1 first_frame) left2
unfolding usable
left_sends = (refl, record { allowed = refl; freshness_is = refl; pdu_is = first_secured; after_is = refl })

abbrev pub right2 : Node
right2 = after_accepting v1 right1

right_judges : JudgesFrame right1 0x6bc1 first_frame (verdict.Accepted bus_payload v1)
unfolding usable
right_judges = record {
  allowed = refl;
  verdict_is = (record { above = omega arith; near = omega arith; low_is = refl; fits = omega arith }, refl, first_secured);
}

right_accepts : (source : Option ℕ) → NodeStep right1 (receives 0x6bc1 first_frame) (Accepted 0x6bc1 v1 bus_payload source) right2
right_accepts source = (refl, record { judged = right_judges; after_is = refl })

-- ---- the bus with both keys

abbrev pub w0 : World
w0 = First bus_a

abbrev w1 : World
w1 = next w0 (load_slot_4 0 1) (Keyed 4) left1

abbrev w2 : World
w2 = next w1 (load_slot_4 1 2) (Keyed 4) right1

abbrev w3 : World
w3 = next w2 (Send 0 0x6bc1 bus_payload) (Sent 0x6bc1 v1 first_frame) left2

step1 : Step w0 (load_slot_4 0 1) (Keyed 4) w1
step1 = goes w0 (load_slot_4 0 1) (Keyed 4) left0 left1 refl left_keyed tt

step2 : Step w1 (load_slot_4 1 2) (Keyed 4) w2
step2 = goes w1 (load_slot_4 1 2) (Keyed 4) right0 right1 refl right_keyed tt

step3 : Step w2 (Send 0 0x6bc1 bus_payload) (Sent 0x6bc1 v1 first_frame) w3
step3 = goes w2 (Send 0 0x6bc1 bus_payload) (Sent 0x6bc1 v1 first_frame) left1 left2 refl left_sends tt

abbrev first_three : Moments → Moments
first_three rest =
    at (load_slot_4 0 1) (Keyed 4) w1 ∷ at (load_slot_4 1 2) (Keyed 4) w2 ∷ at (Send 0 0x6bc1 bus_payload) (Sent 0x6bc1 v1 first_frame) w3 ∷ rest

-- ---- a sender starts at its bound

abbrev w4 : World
w4 = next w3 (Deliver 1 3) (Accepted 0x6bc1 v1 bus_payload (Some 3)) right2

abbrev pub left3 : Node
left3 = powered left2.config left2.kept

abbrev w5 : World
w5 = next w4 (Cut 0 Old) Up left3

abbrev pub left4 : Node
left4 = after_sending v2 left3

abbrev w6 : World
w6 = next w5 (Send 0 0x6bc1 bus_payload) (Sent 0x6bc1 v2 later_frame) left4

abbrev right3 : Node
right3 = after_accepting v2 right2

abbrev w7 : World
w7 = next w6 (Deliver 1 6) (Accepted 0x6bc1 v2 bus_payload (Some 6)) right3

pub left_sends_later : NodeStep left3 (sends 0x6bc1 bus_payload) (Sent 0x6bc1 v2 later_frame) left4
unfolding usable
left_sends_later = (refl, record { allowed = refl; freshness_is = refl; pdu_is = later_secured; after_is = refl })

right_accepts_later : NodeStep right2 (receives 0x6bc1 later_frame) (Accepted 0x6bc1 v2 bus_payload (Some 6)) right3
unfolding usable
right_accepts_later = (
  refl,
  record {
    judged = record {
      allowed = refl;
      verdict_is = (record { above = omega arith; near = omega arith; low_is = refl; fits = omega arith }, refl, later_secured);
    };
    after_is = refl;
  },
)

step4 : Step w3 (Deliver 1 3) (Accepted 0x6bc1 v1 bus_payload (Some 3)) w4
step4 = goes w3 (Deliver 1 3) (Accepted 0x6bc1 v1 bus_payload (Some 3)) right1 right2 refl (right_accepts (Some 3)) refl

step5 : Step w4 (Cut 0 Old) Up w5
step5 = goes w4 (Cut 0 Old) Up left2 left3 refl (inl refl) tt

step6 : Step w5 (Send 0 0x6bc1 bus_payload) (Sent 0x6bc1 v2 later_frame) w6
step6 = goes w5 (Send 0 0x6bc1 bus_payload) (Sent 0x6bc1 v2 later_frame) left3 left4 refl left_sends_later tt

step7 : Step w6 (Deliver 1 6) (Accepted 0x6bc1 v2 bus_payload (Some 6)) w7
step7 = goes w6 (Deliver 1 6) (Accepted 0x6bc1 v2 bus_payload (Some 6)) right2 right3 refl right_accepts_later refl

pub restarted_run : HasRun bus_a restarted
restarted_run = (
  first_three (at (Deliver 1 3) (Accepted 0x6bc1 v1 bus_payload (Some 3)) w4
      ∷ at (Cut 0 Old) Up w5
      ∷ at (Send 0 0x6bc1 bus_payload) (Sent 0x6bc1 v2 later_frame) w6
      ∷ at (Deliver 1 6) (Accepted 0x6bc1 v2 bus_payload (Some 6)) w7 ∷ []),
  w7,
  (step1, (step2, (step3, (step4, (step5, (step6, (step7, refl))))))),
  refl,
)

-- ---- the disk of the receiver fails

abbrev pub new_bound : Change
new_bound = bound_to 0 v1

abbrev pub right_failed : Node
right_failed = failed new_bound right1

abbrev pub right_old : Node
right_old = powered right1.config right1.kept

abbrev right_new : Node
right_new = powered right1.config (changed new_bound right1.kept)

pub right_faults : NodeStep right1 (receives 0x6bc1 first_frame) (Refused MemoryFailure) right_failed
right_faults = (new_bound, (bus_payload, v1, right_judges, refl), refl)

abbrev pub right_again : Node
right_again = after_accepting v1 right_old

pub old_accepts : NodeStep right_old (receives 0x6bc1 first_frame) (Accepted 0x6bc1 v1 bus_payload (Some 3)) right_again
unfolding usable
old_accepts = (
  refl,
  record {
    judged = record {
      allowed = refl;
      verdict_is = (record { above = omega arith; near = omega arith; low_is = refl; fits = omega arith }, refl, first_secured);
    };
    after_is = refl;
  },
)

new_is_stale : NodeStep right_new (receives 0x6bc1 first_frame) VerificationFailure right_new
unfolding usable
new_is_stale = (
  record {
    allowed = refl;
    verdict_is = (
      0xe93d7e117393182a,
      record { above = omega arith; near = omega arith; low_is = refl; fits = omega arith },
      λ sec. repeat_differs (sec.frame_is ∙ sym repeated_frame_is),
    );
  },
  refl,
)

abbrev x4 : Event → World
x4 e = next w3 e Armed right1

abbrev x5 : Event → World
x5 e = next (x4 e) (Deliver 1 3) (Refused MemoryFailure) right_failed

abbrev x6 : Event → World
x6 e = next (x5 e) (Deliver 1 3) (Refused Down) right_failed

abbrev old7 : World
old7 = next (x6 (Stop 1 2)) (Cut 1 Old) Up right_old

abbrev old8 : World
old8 = next old7 (Deliver 1 3) (Accepted 0x6bc1 v1 bus_payload (Some 3)) right_again

abbrev new7 : World
new7 = next (x6 (Stop 1 6)) (Cut 1 Keep) Up right_new

abbrev new8 : World
new8 = next new7 (Deliver 1 3) VerificationFailure right_new

stop4 : (calls : ℕ) → Step w3 (Stop 1 calls) Armed (x4 (Stop 1 calls))
stop4 calls = goes w3 (Stop 1 calls) Armed right1 right1 refl refl tt

stop5 : (calls : ℕ) → Step (x4 (Stop 1 calls)) (Deliver 1 3) (Refused MemoryFailure) (x5 (Stop 1 calls))
stop5 calls = goes (x4 (Stop 1 calls)) (Deliver 1 3) (Refused MemoryFailure) right1 right_failed refl right_faults tt

stop6 : (calls : ℕ) → Step (x5 (Stop 1 calls)) (Deliver 1 3) (Refused Down) (x6 (Stop 1 calls))
stop6 calls = goes (x5 (Stop 1 calls)) (Deliver 1 3) (Refused Down) right_failed right_failed refl (refl, refl) tt

abbrev stopped : ℕ → Moments → Moments
stopped calls rest =
    first_three (at (Stop 1 calls) Armed (x4 (Stop 1 calls))
    ∷ at (Deliver 1 3) (Refused MemoryFailure) (x5 (Stop 1 calls))
    ∷ at (Deliver 1 3) (Refused Down) (x6 (Stop 1 calls)) ∷ rest)

old_step7 : Step (x6 (Stop 1 2)) (Cut 1 Old) Up old7
old_step7 = goes (x6 (Stop 1 2)) (Cut 1 Old) Up right_failed right_old refl (inl refl) tt

old_step8 : Step old7 (Deliver 1 3) (Accepted 0x6bc1 v1 bus_payload (Some 3)) old8
old_step8 = goes old7 (Deliver 1 3) (Accepted 0x6bc1 v1 bus_payload (Some 3)) right_old right_again refl old_accepts refl

new_step7 : Step (x6 (Stop 1 6)) (Cut 1 Keep) Up new7
new_step7 = goes (x6 (Stop 1 6)) (Cut 1 Keep) Up right_failed right_new refl (inr (new_bound, refl, refl)) tt

new_step8 : Step new7 (Deliver 1 3) VerificationFailure new8
new_step8 = goes new7 (Deliver 1 3) VerificationFailure right_new right_new refl new_is_stale tt

pub failed_old_run : HasRun bus_a failed_old
failed_old_run = (
  stopped 2 (at (Cut 1 Old) Up old7 ∷ at (Deliver 1 3) (Accepted 0x6bc1 v1 bus_payload (Some 3)) old8 ∷ []),
  old8,
  (step1, (step2, (step3, (stop4 2, (stop5 2, (stop6 2, (old_step7, (old_step8, refl)))))))),
  refl,
)

pub failed_new_run : HasRun bus_a failed_new
failed_new_run = (
  stopped 6 (at (Cut 1 Keep) Up new7 ∷ at (Deliver 1 3) VerificationFailure new8 ∷ []),
  new8,
  (step1, (step2, (step3, (stop4 6, (stop5 6, (stop6 6, (new_step7, (new_step8, refl)))))))),
  refl,
)

-- ---- a refused cut, and then one that is answered

abbrev right_down : Node
right_down = refused_up right1

abbrev cut4 : World
cut4 = next w3 (Fail 1 1) Armed right1

abbrev cut5 : World
cut5 = next cut4 (Cut 1 Keep) (Refused MemoryFailure) right_down

abbrev cut6 : World
cut6 = next cut5 (Cut 1 Keep) Up right_old

cut_step4 : Step w3 (Fail 1 1) Armed cut4
cut_step4 = goes w3 (Fail 1 1) Armed right1 right1 refl refl tt

cut_step5 : Step cut4 (Cut 1 Keep) (Refused MemoryFailure) cut5
cut_step5 = goes cut4 (Cut 1 Keep) (Refused MemoryFailure) right1 right_down refl refl tt

cut_step6 : Step cut5 (Cut 1 Keep) Up cut6
cut_step6 = goes cut5 (Cut 1 Keep) Up right_down right_old refl (inl refl) tt

pub refused_cut_run : HasRun bus_a refused_cut
refused_cut_run = (
  first_three (at (Fail 1 1) Armed cut4 ∷ at (Cut 1 Keep) (Refused MemoryFailure) cut5 ∷ at (Cut 1 Keep) Up cut6 ∷ []),
  cut6,
  (step1, (step2, (step3, (cut_step4, (cut_step5, (cut_step6, refl)))))),
  refl,
)

-- ---- the end of the freshness

abbrev end0 : Node
end0 = first_node (sending_from 0xfffffffffffffffe)

abbrev end1 : Node
end1 = with_slot 4 (slot_of (own_update 1)) end0

abbrev end2 : Node
end2 = after_sending 0xffffffffffffffff end1

abbrev end3 : Node
end3 = powered end2.config end2.kept

abbrev e0 : World
e0 = First last_bus

abbrev e1 : World
e1 = next e0 (load_slot_4 0 1) (Keyed 4) end1

abbrev e2 : World
e2 = next e1 (Send 0 0x6bc1 bus_payload) (Sent 0x6bc1 0xffffffffffffffff last_frame) end2

abbrev e3 : World
e3 = next e2 (Send 0 0x6bc1 bus_payload) (Refused Exhausted) end2

abbrev e4 : World
e4 = next e3 (Cut 0 Keep) Up end3

abbrev e5 : World
e5 = next e4 (Send 0 0x6bc1 bus_payload) (Refused Exhausted) end3

end_keyed : NodeStep end0 (keys (own_update 1) all_ones) (Keyed 4) end1
unfolding is_pair
end_keyed =
    keyed end0 (own_update 1) all_ones refl (record { is_key = IsBlock-all_ones; is_update = is_update _ 4 4 1 for_macs bus_key IsUid-left (omega arith) (omega arith) (omega arith) IsBlock-bus_key; held = refl }) refl

end_sends : NodeStep end1 (sends 0x6bc1 bus_payload) (Sent 0x6bc1 0xffffffffffffffff last_frame) end2
unfolding usable
end_sends = (refl, record { allowed = refl; freshness_is = refl; pdu_is = last_secured; after_is = refl })

end_exhausted : NodeStep end2 (sends 0x6bc1 bus_payload) (Refused Exhausted) end2
unfolding usable
end_exhausted = (refl, refl)

end_still_exhausted : NodeStep end3 (sends 0x6bc1 bus_payload) (Refused Exhausted) end3
unfolding usable
end_still_exhausted = (refl, refl)

pub last_run : HasRun last_bus last_freshness_used
last_run = (
  at (load_slot_4 0 1) (Keyed 4) e1
      ∷ at (Send 0 0x6bc1 bus_payload) (Sent 0x6bc1 0xffffffffffffffff last_frame) e2
      ∷ at (Send 0 0x6bc1 bus_payload) (Refused Exhausted) e3
      ∷ at (Cut 0 Keep) Up e4
      ∷ at (Send 0 0x6bc1 bus_payload) (Refused Exhausted) e5 ∷ [],
  e5,
  (
    goes e0 (load_slot_4 0 1) (Keyed 4) end0 end1 refl end_keyed tt,
    (
      goes e1 (Send 0 0x6bc1 bus_payload) (Sent 0x6bc1 0xffffffffffffffff last_frame) end1 end2 refl end_sends tt,
      (
        goes e2 (Send 0 0x6bc1 bus_payload) (Refused Exhausted) end2 end2 refl end_exhausted tt,
        (
          goes e3 (Cut 0 Keep) Up end2 end3 refl (inl refl) tt,
          (goes e4 (Send 0 0x6bc1 bus_payload) (Refused Exhausted) end3 end3 refl end_still_exhausted tt, refl),
        ),
      ),
    ),
  ),
  refl,
)

-- ---- a PDU that nobody sent

abbrev n1 : World
n1 = next w0 (load_slot_4 1 2) (Keyed 4) right1

abbrev n2 : World
n2 = next n1 (Inject 1 0x6bc1 first_frame) (Accepted 0x6bc1 v1 bus_payload None) right2

pub foreign_run : HasRun bus_a foreign
foreign_run = (
  at (load_slot_4 1 2) (Keyed 4) n1 ∷ at (Inject 1 0x6bc1 first_frame) (Accepted 0x6bc1 v1 bus_payload None) n2 ∷ [],
  n2,
  (
    goes w0 (load_slot_4 1 2) (Keyed 4) right0 right1 refl right_keyed tt,
    (goes n1 (Inject 1 0x6bc1 first_frame) (Accepted 0x6bc1 v1 bus_payload None) right1 right2 refl (right_accepts None) refl, refl),
  ),
  refl,
)
