-- Shorter worked runs: windows, reserves, refusals, and calls that fail with either choice at the cut
use Rattle.std.specs.Prelude.{ℕ, false, Some, List, [], ◌∷◌}
use Rattle.key_slots.specs.declared.refusals.Erc.TheVariants.{KeyNotAvailable, KeyEmpty}
use Rattle.cut_disk.specs.declared.Torn.TheVariants.{Keep, Old}
use Rattle.bus_machine.specs.declared.events.Event.{Event}
use Rattle.bus_machine.specs.declared.events.Event.TheVariants.{Send, Deliver, Inject, Key, Boot, Cut, Stop}
use Rattle.bus_machine.specs.declared.lines.Line.{Line}
use Rattle.bus_machine.specs.declared.lines.Line.TheVariants as line
use Rattle.bus_machine.specs.declared.lines.Line.TheVariants.{Sent, Accepted, FreshnessFailure, VerificationFailure}
use Rattle.bus_machine.specs.declared.lines.Line.TheVariants.{Keyed, Up, Armed, NoFrame, Refused}
use Rattle.bus_machine.specs.declared.lines.Refusal.TheVariants as refusal
use Rattle.bus_machine.specs.declared.lines.Refusal.TheVariants.{Down, NoRoute, BadLength, MemoryFailure}
use Rattle.bus_rows.specs.Buses.{numbered_uid, all_ones, bus_key, clear_flags, for_macs_after_boot, update_of}
use Rattle.bus_rows.specs.Buses.{bus_payload, first_frame, later_frame, altered_frame}
use Rattle.bus_rows.specs.Rows.{load_slot_4}

-- what a receiver says of freshness past its window
abbrev pub past_the_window : List (Event × Line)
past_the_window =
    (load_slot_4 0 1, Keyed 4)
    ∷ (load_slot_4 1 2, Keyed 4)
    ∷ (Send 0 0x6bc1 bus_payload, Sent 0x6bc1 0xe93d7e117393172a first_frame)
    ∷ (Deliver 1 3, Accepted 0x6bc1 0xe93d7e117393172a bus_payload (Some 3))
    ∷ (Deliver 1 3, FreshnessFailure)
    ∷ (Inject 1 0x6bc1 altered_frame, FreshnessFailure) ∷ []

-- a restarted sender is 4 ahead, which a window of 3 doesn't reach
abbrev pub too_far_ahead : List (Event × Line)
too_far_ahead =
    (load_slot_4 0 1, Keyed 4)
    ∷ (load_slot_4 1 2, Keyed 4)
    ∷ (Send 0 0x6bc1 bus_payload, Sent 0x6bc1 0xe93d7e117393172a first_frame)
    ∷ (Deliver 1 3, Accepted 0x6bc1 0xe93d7e117393172a bus_payload (Some 3))
    ∷ (Cut 0 Old, Up)
    ∷ (Send 0 0x6bc1 bus_payload, Sent 0x6bc1 0xe93d7e117393172e later_frame)
    ∷ (Deliver 1 6, FreshnessFailure) ∷ []

-- after a cut a receiver with a reserve of 4 goes on 3 above what it accepted
abbrev pub receiver_restarted : List (Event × Line)
receiver_restarted =
    (load_slot_4 0 1, Keyed 4)
    ∷ (load_slot_4 1 2, Keyed 4)
    ∷ (Send 0 0x6bc1 bus_payload, Sent 0x6bc1 0xe93d7e117393172a first_frame)
    ∷ (Deliver 1 3, Accepted 0x6bc1 0xe93d7e117393172a bus_payload (Some 3))
    ∷ (Cut 1 Old, Up)
    ∷ (Deliver 1 3, VerificationFailure)
    ∷ (Cut 0 Old, Up)
    ∷ (Send 0 0x6bc1 bus_payload, Sent 0x6bc1 0xe93d7e117393172e later_frame)
    ∷ (Deliver 1 8, Accepted 0x6bc1 0xe93d7e117393172e bus_payload (Some 8)) ∷ []

-- no freshness is left to a receiver
abbrev pub none_ahead : List (Event × Line)
none_ahead = (load_slot_4 1 2, Keyed 4) ∷ (Inject 1 0x6bc1 first_frame, FreshnessFailure) ∷ []

-- what is refused before a key is asked for
abbrev pub refused_early : List (Event × Line)
refused_early =
    (Deliver 1 1, NoFrame)
    ∷ (Send 1 0x6bc1 (0 ∷ []), Refused NoRoute)
    ∷ (Send 0 0x6bc1 [], Refused BadLength)
    ∷ (Inject 0 0x6bc1 first_frame, Refused NoRoute)
    ∷ (Inject 1 0x6bc1 (0x2a ∷ 0x07 ∷ 0x0a ∷ 0x16 ∷ []), Refused BadLength) ∷ []

-- the disk fails while a PDU is sent; the cut leaves the old bound
abbrev pub failed_send_old : List (Event × Line)
failed_send_old =
    (load_slot_4 0 1, Keyed 4)
    ∷ (Stop 0 2, Armed)
    ∷ (Send 0 0x6bc1 bus_payload, Refused MemoryFailure)
    ∷ (Send 0 0x6bc1 bus_payload, Refused Down)
    ∷ (Cut 0 Old, Up)
    ∷ (Send 0 0x6bc1 bus_payload, Sent 0x6bc1 0xe93d7e117393172a first_frame) ∷ []

-- and the new one, not yet used
abbrev pub failed_send_new : List (Event × Line)
failed_send_new =
    (load_slot_4 0 1, Keyed 4)
    ∷ (Stop 0 6, Armed)
    ∷ (Send 0 0x6bc1 bus_payload, Refused MemoryFailure)
    ∷ (Send 0 0x6bc1 bus_payload, Refused Down)
    ∷ (Cut 0 Keep, Up)
    ∷ (Send 0 0x6bc1 bus_payload, Sent 0x6bc1 0xe93d7e117393172e later_frame) ∷ []

-- the disk fails while a key is updated; the cut leaves the old slot
abbrev pub failed_key_old : List (Event × Line)
failed_key_old =
    (Stop 0 2, Armed)
    ∷ (load_slot_4 0 1, Refused MemoryFailure)
    ∷ (load_slot_4 0 1, Refused Down)
    ∷ (Cut 0 Old, Up)
    ∷ (Send 0 0x6bc1 bus_payload, Refused (refusal.Key KeyEmpty)) ∷ []

-- and the new one
abbrev pub failed_key_new : List (Event × Line)
failed_key_new =
    (Stop 0 6, Armed)
    ∷ (load_slot_4 0 1, Refused MemoryFailure)
    ∷ (Boot 0 (0 ∷ []), Refused Down)
    ∷ (Cut 0 Keep, Up)
    ∷ (Send 0 0x6bc1 bus_payload, Sent 0x6bc1 0xe93d7e117393172a first_frame) ∷ []

-- 9338c4e062a714ace2849c32772de6c7, the boot MAC of one zero byte except for its last bit
abbrev pub wrong_mac : List ℕ
wrong_mac =
    0x93 ∷ 0x38 ∷ 0xc4 ∷ 0xe0 ∷ 0x62 ∷ 0xa7 ∷ 0x14 ∷ 0xac ∷ 0xe2 ∷ 0x84 ∷ 0x9c ∷ 0x32 ∷ 0x77 ∷ 0x2d ∷ 0xe6 ∷ 0xc7 ∷ []

-- a boot that doesn't succeed
abbrev pub booted_wrong : List (Event × Line)
booted_wrong =
    (Key 0 (update_of (numbered_uid 1) 4 4 1 for_macs_after_boot bus_key) all_ones, Keyed 4)
    ∷ (Key 0 (update_of (numbered_uid 1) 2 2 1 clear_flags bus_key) all_ones, Keyed 2)
    ∷ (Key 0 (update_of (numbered_uid 1) 3 2 1 clear_flags wrong_mac) bus_key, Keyed 3)
    ∷ (Boot 0 (0 ∷ []), line.Boot false)
    ∷ (Send 0 0x6bc1 bus_payload, Refused (refusal.Key KeyNotAvailable)) ∷ []
