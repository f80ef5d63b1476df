-- A run with sends, acceptances, updates, failures, and a cut with either choice, in which all four theorems hold by
-- computation
use Rattle.std.specs.Prelude.{◌≡◌, Some, List, [], ◌∷◌, map}
use Rattle.cut_disk.specs.declared.Torn.TheVariants.{Keep, Old}
use Rattle.memory_update.specs.declared.messages.Update.{Update}
use Rattle.freshness_routes.specs.Config.{Config}
use Rattle.bus_machine.specs.declared.events.Event.{Event}
use Rattle.bus_machine.specs.declared.events.Event.TheVariants.{Send, Deliver, Key, Cut, Stop}
use Rattle.bus_machine.specs.declared.lines.Line.{Line}
use Rattle.bus_machine.specs.declared.lines.Line.TheVariants.{Sent, Accepted, Keyed, Up, Armed, Refused}
use Rattle.bus_machine.specs.declared.lines.Refusal.TheVariants.{MemoryFailure}
use Rattle.bus_machine.specs.Bus.{World, Moments, First, BusRun}
use Rattle.bus_machine.specs.Freshness.{Rising, Single}
use Rattle.bus_machine.specs.Authentic.{Authentic}
use Rattle.bus_machine.specs.KeysKept.{KeysKept}
use Rattle.bus_rows.specs.Buses.{numbered_uid, bus_key, for_macs, update_of, bus_payload, first_frame, later_frame}
use Rattle.bus_rows.specs.Rows.{load_slot_4}

-- the receiver's slot 4 updated by itself once more
abbrev pub newer_update : Update
newer_update = update_of (numbered_uid 2) 4 4 2 for_macs bus_key

abbrev pub mixed : List (Event × Line)
mixed =
    (load_slot_4 0 1, Keyed 4)
    ∷ (load_slot_4 1 2, Keyed 4)
    ∷ (Send 0 0x6bc1 bus_payload, Sent 0x6bc1 0xe93d7e117393172a first_frame)
    ∷ (Stop 1 2, Armed)
    ∷ (Deliver 1 3, Refused MemoryFailure)
    ∷ (Cut 1 Old, Up)
    ∷ (Deliver 1 3, Accepted 0x6bc1 0xe93d7e117393172a bus_payload (Some 3))
    ∷ (Stop 1 6, Armed)
    ∷ (Key 1 newer_update bus_key, Refused MemoryFailure)
    ∷ (Cut 1 Keep, Up)
    ∷ (Cut 0 Keep, Up)
    ∷ (Send 0 0x6bc1 bus_payload, Sent 0x6bc1 0xe93d7e117393172e later_frame)
    ∷ (Deliver 1 12, Accepted 0x6bc1 0xe93d7e117393172e bus_payload (Some 12)) ∷ []

-- some run of the bus has these events and lines, and each of the four holds of it
pub record HasGoodRun (bus : List Config) (rows : List (Event × Line)) : Type 0 where
  pub moments : Moments
  pub last : World
  pub run : BusRun bus moments last
  pub rows_are : map (λ m. (m.command, m.line)) moments ≡ rows
  pub rising : Rising moments
  pub single : Single moments
  pub authentic : Authentic (First bus) moments
  pub keys_kept : KeysKept (First bus) moments
