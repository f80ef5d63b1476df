-- How a run of `endpoint` ends
use Rattle.std.specs.Prelude.{◌≡◌, ◌⊎◌, ℕ, Option, List, []}
use Rattle.std.specs.List.{flat_map}
use Rattle.bus_port.specs.Whole.{AppendedPart}
use Rattle.program_edge.specs.Inputs.{Reading, IsUnread}
use Rattle.program_edge.specs.Rows.{Row}
use Rattle.program_edge.specs.Endings.{EndsInRow, SinkFailed}
use Rattle.bus_machine.specs.declared.lines.Line.{Line}
use Rattle.bus_config.specs.Buses.{NamedBus}
use Rattle.bus_script.specs.LineTexts.{told_words}
use Rattle.secoc_node.specs.State.{NodeState}
use Rattle.can_logs.specs.LogRuns.{IsUnwritten, WatchEnding, on_output, on_errors}
use Rattle.bus_world.specs.StartAnswers.{DiskStates}
use Rattle.bus_world.specs.WorldTurns.{TellFirm}
use Rattle.kept_starts.specs.KeepRows.{ComesKept}
use Rattle.endpoint_commands.specs.declared.rules.FrameRule.{FrameRule}
use Rattle.endpoint_commands.specs.Lines.{comment_text}
use Rattle.endpoint_commands.specs.Running.{LineMoment}
use Rattle.endpoint_commands.specs.Logs.{EndsLines}
use Rattle.endpoint_commands.specs.Headline.{BootsWith, RanEndpoint, OneEndpointRun}
use Rattle.endpoint_commands.specs.Rows.{EndpointInputs, OverEndpoint, ComesBeforeLog}

-- the comments on what was told before the log
abbrev pub opening_of : List Line → List ℕ
opening_of told = flat_map (λ l. comment_text (told_words l)) told

-- how an endpoint ends behind its boot: standard output failed within the opening, and nothing was asked of the log; or
-- the log ended
pub data EndsBooted (rules : List FrameRule) (booted : NodeState) (opening : List ℕ) (log : Reading) (e : WatchEnding)
    (now : NodeState) : List LineMoment → Type 0 where
  not_opened : e.status ≡ 6 → SinkFailed (on_output e) → AppendedPart e.output.before e.output.after opening
      → IsUnwritten e.errors → IsUnread log → now ≡ booted
      → EndsBooted rules booted opening log e now []
  of_log : (lines : List LineMoment) → EndsLines rules booted opening log e now lines
      → EndsBooted rules booted opening log e now lines

-- the node booted, if there is an image, and took these lines
pub record AnswersAll (image : Option (List ℕ)) (rules : List FrameRule) (start : NodeState) (log : Reading)
    (e : WatchEnding) (now : NodeState) : Type 0 where
  pub told : List Line
  pub booted : NodeState
  pub lines : List LineMoment
  pub boots : BootsWith image start told booted
  pub ends : EndsBooted rules booted (opening_of told) log e now lines

-- what was done over the first disk, and printed. Over a disk that tells its bytes, none of them loose, it is one run
-- of the machine of the bus, and all of `OneEndpointRun` holds of it
pub record DidEndpoint (bus : NamedBus) (rules : List FrameRule) (image : Option (List ℕ)) (log : Reading)
    (d : DiskStates) (e : WatchEnding) : Type 0 where
  pub told : List Line
  pub lines : List LineMoment
  pub ran : RanEndpoint bus rules image d.before d.after told lines
  pub ends : EndsBooted rules ran.booted (opening_of told) log e ran.now lines
  pub one_run : TellFirm bus d.before → OneEndpointRun bus rules image d.before d.after told lines

-- the node isn't started, and the row that says why is printed on standard error; or it took the lines of the log
pub data DoesEndpoint (same : Type 0) (bus : NamedBus) (rules : List FrameRule) (image : Option (List ℕ))
    (log : Reading) (d : DiskStates) (e : WatchEnding) : Type 0 where
  not_started : EndsInRow (ComesKept same bus d) (on_errors e) → IsUnwritten e.output → IsUnread log
      → DoesEndpoint same bus rules image log d e
  did : DidEndpoint bus rules image log d e → DoesEndpoint same bus rules image log d e

-- the rows that come before anything is asked of the log: those of the inputs, at which every disk is as before; and
-- those of a node that isn't started over its disk, for what a look or the start finds there
pub data ComesUnlogged (same : Type 0) (i : EndpointInputs) (d : DiskStates) : Row → Type 0 where
  of_inputs : (row : Row) → ComesBeforeLog i row → same → ComesUnlogged same i d row
  unstarted : (row : Row) → OverEndpoint i (λ bus rules image. ComesKept same bus d row) → IsUnread i.log
      → ComesUnlogged same i d row

-- all but the log was read whole, and the node was started and took lines of the log
abbrev pub DidLines : EndpointInputs → DiskStates → WatchEnding → Type 0
DidLines i d e = OverEndpoint i (λ bus rules image. DidEndpoint bus rules image i.log d e)

-- how a run ends: in a row that comes before the log, on standard error alone; or over inputs that were read whole
abbrev pub EndsEndpoint : Type 0 → EndpointInputs → DiskStates → WatchEnding → Type 0
EndsEndpoint same i d e = (EndsInRow (ComesUnlogged same i d) (on_errors e) × IsUnwritten e.output) ⊎ DidLines i d e

-- what was done over inputs that were read whole is one run of the machine
abbrev pub IsOneRun : EndpointInputs → DiskStates → WatchEnding → Type 0
IsOneRun i d e = OverEndpoint i (λ bus rules image. (did : DidEndpoint bus rules image i.log d e)
    × OneEndpointRun bus rules image d.before d.after did.told did.lines)
