-- Which events a script can have.
use Rattle.std.specs.Prelude.{ℕ, ◌<◌, ◌≤◌, ◌^◌, List, length}
use Rattle.basics.specs.Bytes.{IsBytes}
use Rattle.cut_disk.specs.declared.Torn.{Torn}
use Rattle.cut_disk.specs.declared.Torn.TheVariants.{Keep, Old, Half, Fill}
use Rattle.memory_update.specs.Messages.{IsUpdate}
use Rattle.secoc_words.specs.Written.{IsLoad}
use Rattle.bus_config.specs.declared.node_lines.NodeLine.{NodeLine}
use Rattle.bus_machine.specs.declared.events.Event.{Event}
use Rattle.bus_machine.specs.declared.events.Event.TheVariants.{Send, Deliver, Inject, Load, Key, Boot, Cut, Stop, Fail}
use Rattle.bus_machine.specs.Bus.{node_of}

-- bytes, of any number
abbrev pub AreBytes : List ℕ → Type 0
AreBytes bytes = IsBytes (length bytes) bytes

-- the byte that fills loose ones is a byte
abbrev pub IsTorn : Torn → Type 0
IsTorn Keep = Unit {0}
IsTorn Old = Unit {0}
IsTorn Half = Unit {0}
IsTorn (Fill byte) = byte < 256

-- what an event tells its node is within its bounds
abbrev pub HasFields : Event → Type 0
HasFields (Send node id payload) = (id < 2 ^ 16) × AreBytes payload
HasFields (Deliver node number) = (1 ≤ number) × (number ≤ 65536)
HasFields (Inject node id pdu) = (id < 2 ^ 16) × AreBytes pdu
HasFields (Load node request) = IsLoad request
HasFields (Key node update authkey) = IsUpdate update × IsBytes 16 authkey
HasFields (Boot node image) = (1 ≤ length image) × (length image ≤ 65536) × AreBytes image
HasFields (Cut node torn) = IsTorn torn
HasFields (Stop node calls) = (1 ≤ calls) × (calls ≤ 1000000)
HasFields (Fail node calls) = (1 ≤ calls) × (calls ≤ 1000000)

-- an event of a node's own: it sends nothing on the bus, and takes nothing that was sent on it
abbrev pub IsOwn : Event → Type 0
IsOwn (Send node id payload) = ⊥
IsOwn (Deliver node number) = ⊥
IsOwn event = Unit {0}

-- an event of a bus with these nodes, as a script can have it
pub record IsScriptEvent (nodes : List NodeLine) (event : Event) : Type 0 where
  pub node : node_of event < length nodes
  pub fields : HasFields event
