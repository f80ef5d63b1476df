-- What one event does to its node and the node's disk
use Rattle.std.specs.Prelude.{◌≡◌, ℕ, ◌+◌, ◌^◌, ◌<◌, ◌≤◌, ◌==◌, Option, None, Some, Result, OnOk, OnErr, IfErr, List}
use Rattle.std.specs.Prelude.{find, option_map}
use Rattle.std.specs.Option.{option_to_list}
use Rattle.cut_disk.specs.declared.Mark.{Mark}
use Rattle.cut_disk.specs.declared.Mark.TheVariants as mark
use Rattle.cut_disk.specs.State.{DiskState}
use Rattle.cut_disk.specs.Calls.{Rose, Runs}
use Rattle.cut_disk.specs.Images.{CutsTo}
use Rattle.cell_store.specs.Cells.{StandsNow}
use Rattle.cell_store.specs.Reading.{CutStays}
use Rattle.bus_machine.specs.declared.events.Event.{Event}
use Rattle.bus_machine.specs.declared.events.Event.TheVariants.{Deliver, Inject, Boot, Stop, Fail}
use Rattle.bus_machine.specs.declared.lines.Line.{Line}
use Rattle.bus_machine.specs.declared.lines.Line.TheVariants.{Accepted, FreshnessFailure, VerificationFailure, NoFrame}
use Rattle.bus_machine.specs.declared.lines.Line.TheVariants.{Refused}
use Rattle.bus_machine.specs.declared.lines.Refusal.TheVariants.{MemoryFailure}
use Rattle.bus_machine.specs.Steps.{Act, cuts, NodeStep}
use Rattle.bus_machine.specs.Bus.{World, SentLine, act_of}
use Rattle.bus_machine.specs.Past.{mark_of, cell_count}
use Rattle.bus_machine.specs.Node.{Node, place_of, powered, refused_up}
use Rattle.bus_machine.specs.Sound.{Sound}
use Rattle.bus_machine.specs.Honest.{IsInTime, IsHeard}
use Rattle.freshness_routes.specs.declared.routes.Direction.TheVariants.{Receives}
use Rattle.secure_boot.specs.Booting.{IsImage}
use Rattle.bus_world.specs.History.{has_values}
use Rattle.secoc_node.specs.declared.faults.CutFault.{CutFault}
use Rattle.secoc_node.specs.Causes.{CutCause}
use Rattle.secoc_node.specs.Cells.{CellsOf}
use Rattle.secoc_node.specs.Lines.{cut_line}
pub use Rattle.secoc_node.specs.Fits.{FitsNode}
pub use Rattle.secoc_node.specs.State.{NodeState, TellsFitting}
use Rattle.secoc_node.specs.State.{FitsNow}

-- what an event tells its node to do, and the mark that it leaves in the past of the node's disk
pub record Duty : Type 0 where
  pub act : Act
  pub mark : Option Mark

abbrev pub duty : Act → Option Mark → Duty
duty act mark = record { act = act; mark = mark }

abbrev pub duty_of : World → Event → Duty
duty_of world event = record { act = act_of world event; mark = mark_of event }

-- the most calls of a disk: a cut reads a store of this many cells again, and anything else puts one cell
abbrev pub most_calls : ℕ → Option Mark → ℕ
most_calls cells (Some (mark.Cut torn)) = 68 + cells
most_calls cells _ = 6

-- what a cut leads to is known of a disk that tells its bytes and fits its node; anything else always
abbrev pub IsCertain : Option Mark → NodeState → Type 0
IsCertain (Some (mark.Cut torn)) s = TellsFitting s
IsCertain _ s = Unit {0}

-- what a cut leads to over a disk of any kind. The node is up with what its store's cells keep, and told bytes stand
-- for these. Or it is down, as the disk failed or for a cause that told bytes show
pub record AnswersCut (before : NodeState) (line : Line) (after : NodeState) : Type 0 where
  pub result : Result (Unit {0}) CutFault
  pub line_is : line ≡ cut_line result
  pub up : OnOk result (after.node ≡ powered before.node.config after.node.kept)
  pub kept : OnOk result (after.store.cells ≡ CellsOf before.node.config after.node.kept)
  pub stands : OnOk result (StandsNow after.store)
  pub down : OnErr result (after.node ≡ refused_up before.node)
  pub cause : IfErr result (CutCause before.node.config.routes before.store after.store)

-- a count of faults rose if the line tells that the disk failed; else it is as it was
abbrev pub TellsFaults : Line → ℕ → ℕ → Type 0
TellsFaults (Refused MemoryFailure) before after = Rose before after
TellsFaults _ before after = after ≡ before

-- a boot image has 1 to 65,536 bytes, and the calls of a stop or a failure are counted from 1
abbrev pub CanBeDone : Event → Type 0
CanBeDone (Boot node image) = IsImage image
CanBeDone (Stop node calls) = 1 ≤ calls
CanBeDone (Fail node calls) = 1 ≤ calls
CanBeDone event = Unit {0}

-- an accepted line names the earliest of these lines that sent what it accepts
abbrev pub NamesSourceIn : List SentLine → Line → Type 0
NamesSourceIn lines (Accepted id v payload source) =
    source ≡ option_map (λ s. s.number) (find (has_values id payload v) lines)
NamesSourceIn lines _ = Unit {0}

-- a power cut leaves of told bytes one list that it was allowed to leave, and no write comes after it
abbrev pub LeavesCut : Option Mark → DiskState → DiskState → Type 0
LeavesCut (Some (mark.Cut torn)) before after = CutsTo before.told after.told
LeavesCut _ before after = Unit {0}

-- and each entry that a told past got after the cut's has what the cut left: nothing else is written first and taken
-- back
abbrev pub StaysBehind : Option Mark → DiskState → DiskState → Type 0
StaysBehind (Some (mark.Cut torn)) before after = CutStays torn before after
StaysBehind _ before after = Unit {0}

-- if a line tells that nothing was done, the disk didn't fail and no power was cut, the node, its store and its disk
-- are as they were
abbrev pub LeavesAlone : Option Mark → Line → NodeState → NodeState → Type 0
LeavesAlone (Some mark) line before after = Unit {0}
LeavesAlone None FreshnessFailure before after = after ≡ before
LeavesAlone None VerificationFailure before after = after ≡ before
LeavesAlone None NoFrame before after = after ≡ before
LeavesAlone None (Refused MemoryFailure) before after = Unit {0}
LeavesAlone None (Refused refusal) before after = after ≡ before
LeavesAlone None line before after = Unit {0}

-- what a turn does, over a disk that tells its bytes as over one that doesn't
pub record NodeTurn (before : NodeState) (duty : Duty) (line : Line) (after : NodeState) : Type 0 where
  pub step : IsCertain duty.mark before → NodeStep before.node duty.act line after.node
  pub of_cut : duty.act ≡ cuts → AnswersCut before line after
  pub config : after.node.config ≡ before.node.config
  pub layout : after.store.layout ≡ before.store.layout
  pub runs : Runs (option_to_list duty.mark)
      (most_calls (cell_count before.node) duty.mark) before.store.disk after.store.disk
  pub fits : FitsNow before → FitsNow after
  pub faults : TellsFaults line before.store.disk.faults after.store.disk.faults
  pub image : LeavesCut duty.mark before.store.disk after.store.disk
  pub untouched : LeavesAlone duty.mark line before after
  pub sound : Sound before.node → Sound after.node
  pub stays : StaysBehind duty.mark before.store.disk after.store.disk

-- ---- honest PDUs

-- a PDU of this Data ID that comes in time is accepted with its payload and freshness, or the line tells that the disk
-- failed
abbrev pub HearsPdu : Node → ℕ → List ℕ → Line → Type 0
HearsPdu node id pdu line =
    (s : SentLine) → s.id ≡ id → s.pdu ≡ pdu → IsInTime node s (place_of node id Receives) → s.freshness < 2 ^ 64
    → IsHeard s line

-- what an event brings its node: the line that was sent, or one that may have been, as its bytes are injected
abbrev pub Brings : World → Event → SentLine → Type 0
Brings world (Deliver node number) s = find (λ s. s.number == number) world.sent ≡ Some s
Brings world (Inject node id pdu) s = (s.id ≡ id) × (s.pdu ≡ pdu) × (s.freshness < 2 ^ 64)
Brings world _ s = ⊥

-- what an event brings its node in time is accepted with its payload and freshness, or the line tells that the disk
-- failed
abbrev pub HearsBrought : World → Event → Node → Line → Type 0
HearsBrought world event node line =
    (s : SentLine) → Brings world event s → IsInTime node s (place_of node s.id Receives) → IsHeard s line
