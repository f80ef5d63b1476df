-- Breaches of the four theorems, as lists of moments that are written out; the worlds in them are only those that the
-- breach needs
use Rattle.std.specs.Prelude.{ℕ, None, Some, List, [], ◌∷◌}
use Rattle.cut_disk.specs.declared.Torn.TheVariants.{Keep, Old}
use Rattle.memory_update.specs.Loading.{slot_of}
use Rattle.bus_machine.specs.declared.events.Event.{Event}
use Rattle.bus_machine.specs.declared.events.Event.TheVariants.{Send, Deliver, Inject, Key, Cut}
use Rattle.bus_machine.specs.declared.lines.Line.{Line}
use Rattle.bus_machine.specs.declared.lines.Line.TheVariants.{Sent, Accepted, Keyed, Up, Refused}
use Rattle.bus_machine.specs.declared.lines.Refusal.TheVariants.{MemoryFailure}
use Rattle.bus_machine.specs.Node.{Node, slot_to, first_node, with_slot, failed}
use Rattle.bus_machine.specs.Bus.{World, First, Instant}
use Rattle.bus_machine.specs.Freshness.{Rising, Single}
use Rattle.bus_machine.specs.Authentic.{Authentic}
use Rattle.bus_machine.specs.KeysKept.{KeysKept, SettledSlotsStay}
use Rattle.bus_rows.specs.Buses.{numbered_uid, sending_from, receiving_from, bus_a, all_ones, bus_key, for_macs}
use Rattle.bus_rows.specs.Buses.{update_of, bus_payload, altered_payload, first_frame, altered_frame}

-- an event, its line, and the nodes after it
abbrev pub instant : Event → Line → List Node → Instant
instant event line nodes =
    record { command = event; line = line; after = record { nodes = nodes; events = 1; sent = [] } }

-- a replayed frame is accepted twice
abbrev pub ReplayIsNoRising : Type 0
ReplayIsNoRising = (nodes : List Node) → ¬ Rising (
    instant (Deliver 1 3) (Accepted 0x6bc1 0xe93d7e117393172a bus_payload (Some 3)) nodes
    ∷ instant (Deliver 1 3) (Accepted 0x6bc1 0xe93d7e117393172a bus_payload (Some 3)) nodes ∷ [])

-- after a cut a sender uses its freshness again
abbrev pub RestartIsNoSingle : Type 0
RestartIsNoSingle = (nodes : List Node) → ¬ Single (
    instant (Send 0 0x6bc1 bus_payload) (Sent 0x6bc1 0xe93d7e117393172a first_frame) nodes
    ∷ instant (Cut 0 Keep) Up nodes
    ∷ instant (Send 0 0x6bc1 bus_payload) (Sent 0x6bc1 0xe93d7e117393172a first_frame) nodes ∷ [])

-- a node that has the bus key in slot 4
abbrev pub keyed_node : Node → ℕ → Node
keyed_node node uid = with_slot 4 (slot_of (update_of (numbered_uid uid) 4 4 1 for_macs bus_key)) node

abbrev pub keyed_bus : World
keyed_bus = record {
  nodes = keyed_node (first_node (sending_from 0xe93d7e1173931729)) 1
      ∷ keyed_node (first_node (receiving_from 0xe93d7e1173931729)) 2 ∷ [];
  events = 2;
  sent = [];
}

-- a frame is accepted whose CMAC is that of another payload
abbrev pub OtherCmacIsNoAuthentic : Type 0
OtherCmacIsNoAuthentic = (nodes : List Node) → ¬ Authentic keyed_bus (
    instant (Inject 1 0x6bc1 altered_frame) (Accepted 0x6bc1 0xe93d7e117393172a altered_payload None) nodes ∷ [])

-- an update is acknowledged, and after a cut the slot is empty again
abbrev pub UndoneIsNoKept : Type 0
UndoneIsNoKept = ¬ KeysKept (First bus_a) (
    instant (Key 0 (update_of (numbered_uid 1) 4 4 1 for_macs bus_key) all_ones) (Keyed 4)
    (keyed_node (first_node (sending_from 0xe93d7e1173931729)) 1 ∷ first_node (receiving_from 0xe93d7e1173931729)
    ∷ [])
    ∷ instant (Cut 0 Keep) Up
    (first_node (sending_from 0xe93d7e1173931729) ∷ first_node (receiving_from 0xe93d7e1173931729) ∷ []) ∷ [])

-- the disk fails while a slot is updated, a cut leaves it empty, and after the next cut it holds the update
abbrev pub ReturnIsNoSettled : Type 0
ReturnIsNoSettled = ¬ SettledSlotsStay (First bus_a) (
    instant (Key 0 (update_of (numbered_uid 1) 4 4 1 for_macs bus_key) all_ones) (Refused MemoryFailure)
    (failed (slot_to 4 (slot_of (update_of (numbered_uid 1) 4 4 1 for_macs bus_key)))
    (first_node (sending_from 0xe93d7e1173931729)) ∷ first_node (receiving_from 0xe93d7e1173931729) ∷ [])
    ∷ instant (Cut 0 Old) Up
    (first_node (sending_from 0xe93d7e1173931729) ∷ first_node (receiving_from 0xe93d7e1173931729) ∷ [])
    ∷ instant (Cut 0 Keep) Up
    (keyed_node (first_node (sending_from 0xe93d7e1173931729)) 1 ∷ first_node (receiving_from 0xe93d7e1173931729)
    ∷ []) ∷ [])
