-- What the steps of a run of `endpoint` say to one another
use Rattle.std.specs.Prelude.{◌≡◌, ℕ, Bool, true, false, Option, None, Some, Result, Ok, Err, List, length, codes, Vec}
use Rattle.std.specs.declared.alloc.Global.{Global}
use Rattle.text_lines.specs.LineRows.{NoLines}
use Rattle.text_lines.specs.Texts.{line}
use Rattle.program_edge.specs.declared.input.InputFault.{InputFault}
use Rattle.program_edge.specs.Rows.{Row, row_of, input_row}
use Rattle.program_edge.specs.Inputs.{Reading, IsUnread, ReadsWhole, Lacks}
use Rattle.freshness_routes.specs.declared.routes.Route.{Route}
use Rattle.secoc_node.specs.Words.{IsImage}
use Rattle.bus_config.specs.Buses.{IsNamedBus}
use Rattle.secoc_node.specs.State.{NodeState}
use Rattle.bus_programs.specs.Scripts.{LacksLines, ReadsLinesAs}
use Rattle.can_logs.specs.LogRuns.{Writing}
use Rattle.endpoint_commands.specs.declared.rules.FrameRule.{FrameRule}
use Rattle.endpoint_commands.specs.declared.run.EndpointJob.{EndpointJob}
use Rattle.endpoint_commands.specs.Rules.{rules_of}
use Rattle.endpoint_commands.specs.Running.{LineMoment}
use Rattle.endpoint_commands.specs.States.{EndpointState, HasRoomFor}
use Rattle.endpoint_commands.specs.Logs.{EndsLines}
use Rattle.endpoint_commands.specs.Rows.{EndpointInputs, SetsEndpoint, ComesBeforeLog}

-- ---- the inputs

-- the rules of a map, or why there are none
abbrev pub HasRules : List Route → List ℕ → Result (Vec FrameRule Global) Row → Type 0
HasRules routes text (Ok rules) = rules_of routes text ≡ Ok rules.items
HasRules routes text (Err row) = NoLines (rules_of routes text) row

-- those of a source that was read whole, or why there are none
abbrev pub FindsRules : List Route → Reading → Result (Vec FrameRule Global) Row → Type 0
FindsRules routes map (Ok rules) = ReadsLinesAs (rules_of routes) map rules.items
FindsRules routes map (Err row) = LacksLines (rules_of routes) map row

-- why there is no image that a node boots with
pub data LacksImage (image : Reading) : Row → Type 0 where
  unread_image : (fault : InputFault) → Lacks image fault → LacksImage image (input_row fault)
  other_length : (bytes : List ℕ) → ReadsWhole image bytes → ¬ IsImage bytes
      → LacksImage image (row_of 3 (line (codes "image: length")))

-- the image of a source, if one is asked for, or why there is none
abbrev pub FindsImage : Bool → Reading → Result (Option (List ℕ)) Row → Type 0
FindsImage false image (Ok None) = IsUnread image
FindsImage true image (Ok (Some bytes)) = ReadsWhole image bytes × IsImage bytes
FindsImage true image (Err row) = LacksImage image row
FindsImage _ image result = ⊥

-- the job is over a bus of one node, and has room for the lines of its log and their answers
pub record IsWholeEndpoint (job : EndpointJob) : Type 0 where
  pub is_bus : IsNamedBus job.bus
  pub one : length job.bus.nodes ≡ 1
  pub room : HasRoomFor job.rules.items job.room
  pub image : (bytes : List ℕ) → job.image ≡ Some bytes → IsImage bytes

-- how the first phase ends: in a job over inputs that were read whole, or in a row that comes
abbrev pub PreparesEndpoint : EndpointInputs → Result EndpointJob Row → Type 0
PreparesEndpoint i (Ok job) =
    IsWholeEndpoint job × SetsEndpoint i job.bus job.rules.items job.image × IsUnread i.log
PreparesEndpoint i (Err row) = ComesBeforeLog i row

-- ---- the log

-- the source and the sinks of a log before any of it came, and now
pub record LogPorts : Type 0 where
  pub log : Reading
  pub output : Writing
  pub errors : Writing

-- a log ended so, and these lines were taken
abbrev pub EndsOverPorts : LogPorts → List ℕ → EndpointState → NodeState → ℕ → Type 0
EndsOverPorts ports opening endpoint start status =
    (done : List LineMoment) × EndsLines endpoint.rules start opening ports.log
    (record { output = ports.output; errors = ports.errors; status = status }) endpoint.node done
