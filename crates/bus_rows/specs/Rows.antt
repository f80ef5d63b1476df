-- Worked runs: events, each with the line that answers it
use Rattle.std.specs.Prelude.{◌≡◌, ℕ, true, None, Some, List, [], ◌∷◌, map}
use Rattle.key_slots.specs.declared.refusals.Erc.TheVariants.{KeyNotAvailable, KeyInvalid, KeyEmpty, NoSecureBoot}
use Rattle.key_slots.specs.declared.refusals.Erc.TheVariants.{KeyWriteProtected, KeyUpdateError, SequenceError}
use Rattle.cut_disk.specs.declared.Torn.TheVariants.{Keep, Old}
use Rattle.secure_boot.specs.Booting.{bootmac}
use Rattle.freshness_routes.specs.Config.{Config}
use Rattle.bus_machine.specs.declared.events.Event.{Event}
use Rattle.bus_machine.specs.declared.events.Event.TheVariants.{Send, Deliver, Inject, Key, Boot, Cut, Stop, Fail}
use Rattle.bus_machine.specs.declared.lines.Line.{Line}
use Rattle.bus_machine.specs.declared.lines.Line.TheVariants as line
use Rattle.bus_machine.specs.declared.lines.Line.TheVariants.{Sent, Accepted, VerificationFailure, Keyed, Up, Armed}
use Rattle.bus_machine.specs.declared.lines.Line.TheVariants.{Refused}
use Rattle.bus_machine.specs.declared.lines.Refusal.TheVariants as refusal
use Rattle.bus_machine.specs.declared.lines.Refusal.TheVariants.{Down, Exhausted, MemoryFailure}
use Rattle.bus_machine.specs.Bus.{World, Moments, BusRun}
use Rattle.bus_rows.specs.Buses.{numbered_uid, zero_uid, all_ones, master_key, bus_key, clear_flags, for_macs}
use Rattle.bus_rows.specs.Buses.{for_macs_after_boot, write_protected, no_wildcard, update_of, bus_payload, first_frame}
use Rattle.bus_rows.specs.Buses.{later_frame, last_frame, altered_frame}

-- some run of the bus from its first world has these events and lines
abbrev pub HasRun : List Config → List (Event × Line) → Type 0
HasRun bus rows = (ms : Moments) × (last : World) × BusRun bus ms last × (map (λ m. (m.command, m.line)) ms ≡ rows)

-- the node's slot 4 is loaded by itself with the bus key
abbrev pub load_slot_4 : ℕ → ℕ → Event
load_slot_4 node uid = Key node (update_of (numbered_uid uid) 4 4 1 for_macs bus_key) all_ones

abbrev pub master_loaded : ℕ → ℕ → Event
master_loaded node uid = Key node (update_of (numbered_uid uid) 1 1 1 clear_flags master_key) all_ones

abbrev pub loaded_by_master : ℕ → ℕ → Event
loaded_by_master node uid = Key node (update_of (numbered_uid uid) 4 1 1 for_macs bus_key) master_key

abbrev pub ordinary : List (Event × Line)
ordinary =
    (master_loaded 0 1, Keyed 1)
    ∷ (master_loaded 1 2, Keyed 1)
    ∷ (loaded_by_master 0 1, Keyed 4)
    ∷ (loaded_by_master 1 2, Keyed 4)
    ∷ (Send 0 0x6bc1 bus_payload, Sent 0x6bc1 0xe93d7e117393172a first_frame)
    ∷ (Deliver 1 5, Accepted 0x6bc1 0xe93d7e117393172a bus_payload (Some 5))
    ∷ (Deliver 1 5, VerificationFailure)
    ∷ (Inject 1 0x6bc1 altered_frame, VerificationFailure) ∷ []

abbrev pub restarted : List (Event × Line)
restarted =
    (load_slot_4 0 1, Keyed 4)
    ∷ (load_slot_4 1 2, Keyed 4)
    ∷ (Send 0 0x6bc1 bus_payload, Sent 0x6bc1 0xe93d7e117393172a first_frame)
    ∷ (Deliver 1 3, Accepted 0x6bc1 0xe93d7e117393172a bus_payload (Some 3))
    ∷ (Cut 0 Old, Up)
    ∷ (Send 0 0x6bc1 bus_payload, Sent 0x6bc1 0xe93d7e117393172e later_frame)
    ∷ (Deliver 1 6, Accepted 0x6bc1 0xe93d7e117393172e bus_payload (Some 6)) ∷ []

abbrev pub failed_old : List (Event × Line)
failed_old =
    (load_slot_4 0 1, Keyed 4)
    ∷ (load_slot_4 1 2, Keyed 4)
    ∷ (Send 0 0x6bc1 bus_payload, Sent 0x6bc1 0xe93d7e117393172a first_frame)
    ∷ (Stop 1 2, Armed)
    ∷ (Deliver 1 3, Refused MemoryFailure)
    ∷ (Deliver 1 3, Refused Down)
    ∷ (Cut 1 Old, Up)
    ∷ (Deliver 1 3, Accepted 0x6bc1 0xe93d7e117393172a bus_payload (Some 3)) ∷ []

abbrev pub failed_new : List (Event × Line)
failed_new =
    (load_slot_4 0 1, Keyed 4)
    ∷ (load_slot_4 1 2, Keyed 4)
    ∷ (Send 0 0x6bc1 bus_payload, Sent 0x6bc1 0xe93d7e117393172a first_frame)
    ∷ (Stop 1 6, Armed)
    ∷ (Deliver 1 3, Refused MemoryFailure)
    ∷ (Deliver 1 3, Refused Down)
    ∷ (Cut 1 Keep, Up)
    ∷ (Deliver 1 3, VerificationFailure) ∷ []

abbrev pub refused_cut : List (Event × Line)
refused_cut =
    (load_slot_4 0 1, Keyed 4)
    ∷ (load_slot_4 1 2, Keyed 4)
    ∷ (Send 0 0x6bc1 bus_payload, Sent 0x6bc1 0xe93d7e117393172a first_frame)
    ∷ (Fail 1 1, Armed)
    ∷ (Cut 1 Keep, Refused MemoryFailure)
    ∷ (Cut 1 Keep, Up) ∷ []

abbrev pub last_freshness_used : List (Event × Line)
last_freshness_used =
    (load_slot_4 0 1, Keyed 4)
    ∷ (Send 0 0x6bc1 bus_payload, Sent 0x6bc1 0xffffffffffffffff last_frame)
    ∷ (Send 0 0x6bc1 bus_payload, Refused Exhausted)
    ∷ (Cut 0 Keep, Up)
    ∷ (Send 0 0x6bc1 bus_payload, Refused Exhausted) ∷ []

abbrev pub foreign : List (Event × Line)
foreign =
    (load_slot_4 1 2, Keyed 4)
    ∷ (Inject 1 0x6bc1 first_frame, Accepted 0x6bc1 0xe93d7e117393172a bus_payload None) ∷ []

-- the boot MAC of an image of one zero byte
abbrev pub stored_mac : List ℕ
stored_mac = bootmac bus_key (0 ∷ [])

abbrev pub boot_decided : List (Event × Line)
boot_decided =
    (Send 0 0x6bc1 (1 ∷ []), Refused (refusal.Key KeyEmpty))
    ∷ (Boot 0 (0 ∷ []), Refused (refusal.Key NoSecureBoot))
    ∷ (Key 0 (update_of (numbered_uid 1) 4 4 1 clear_flags bus_key) all_ones, Keyed 4)
    ∷ (Send 0 0x6bc1 (1 ∷ []), Refused (refusal.Key KeyInvalid))
    ∷ (Key 0 (update_of (numbered_uid 1) 4 4 2 for_macs_after_boot bus_key) bus_key, Keyed 4)
    ∷ (Key 0 (update_of (numbered_uid 1) 2 2 1 clear_flags bus_key) all_ones, Keyed 2)
    ∷ (Key 0 (update_of (numbered_uid 1) 3 2 1 clear_flags stored_mac) bus_key, Keyed 3)
    ∷ (Send 0 0x6bc1 bus_payload, Refused (refusal.Key KeyNotAvailable))
    ∷ (Boot 0 (0 ∷ []), line.Boot true)
    ∷ (Send 0 0x6bc1 bus_payload, Sent 0x6bc1 0xe93d7e117393172a first_frame)
    ∷ (Boot 0 (0 ∷ []), Refused (refusal.Key SequenceError)) ∷ []

abbrev pub updates : List (Event × Line)
updates =
    (Key 0 (update_of (numbered_uid 1) 1 1 1 write_protected master_key) all_ones, Keyed 1)
    ∷ (
      Key 0 (update_of (numbered_uid 1) 1 1 2 clear_flags master_key) master_key,
      Refused (refusal.Key KeyWriteProtected),
    )
    ∷ (Key 0 (update_of zero_uid 5 5 1 clear_flags bus_key) all_ones, Keyed 5)
    ∷ (Key 0 (update_of zero_uid 5 5 2 no_wildcard master_key) bus_key, Keyed 5)
    ∷ (Key 0 (update_of zero_uid 5 5 3 clear_flags bus_key) master_key, Refused (refusal.Key KeyUpdateError))
    ∷ (Key 0 (update_of (numbered_uid 1) 5 5 3 clear_flags master_key) master_key, Keyed 5)
    ∷ (Key 0 (update_of (numbered_uid 1) 6 6 268435455 clear_flags bus_key) all_ones, Keyed 6)
    ∷ (
      Key 0 (update_of (numbered_uid 1) 6 6 268435455 clear_flags master_key) bus_key,
      Refused (refusal.Key KeyUpdateError),
    )
    ∷ (Key 0 (update_of (numbered_uid 1) 5 4 1 clear_flags bus_key) bus_key, Refused (refusal.Key KeyInvalid))
    ∷ (Key 0 (update_of (numbered_uid 1) 3 2 1 clear_flags bus_key) all_ones, Refused (refusal.Key KeyEmpty)) ∷ []
