-- The table of answers of `endpoint`: what a run promises, by status. Answers are printed on standard output, and
-- nothing else is. The usage line, refusals and faults are printed on standard error
use Rattle.std.specs.Prelude.{◌≡◌, ◌≢◌, ◌⊎◌, ℕ, ◌<◌, ◌≤◌, true, Option, Some, Err, List, [], ◌∷◌, ◌++◌, length, get_or, codes}
use Rattle.basics.specs.FaultCount.{last_count, Rose}
use Rattle.bus_port.specs.Whole.{AppendedPart}
use Rattle.text_lines.specs.Readings.{Fault}
use Rattle.text_lines.specs.Texts.{line, fault_text_of}
use Rattle.program_edge.specs.declared.input.InputFault.TheVariants.{ReadFault, TooLong}
use Rattle.program_edge.specs.Rows.{memory_row}
use Rattle.program_edge.specs.Inputs.{Reading, IsUnread, Offers, SourceFailed, CountsFault, CountsTooMuch}
use Rattle.program_edge.specs.Endings.{EndsIn, MayEndIn, EndsInRow, PrintsFront, SinkFailed, CountsWriteFault}
use Rattle.cut_disk.specs.State.{DiskState}
use Rattle.secoc_node.specs.Words.{IsImage}
use Rattle.bus_config.specs.declared.fault.ConfigFault.{ConfigFault}
use Rattle.bus_config.specs.BusFile.{bus_of}
use Rattle.bus_config.specs.FaultTexts.{config_fault_text}
use Rattle.bus_config.specs.Buses.{NamedBus}
use Rattle.bus_programs.specs.BusFiles.{OffersBus}
use Rattle.bus_world.specs.declared.start.StartFault.{StartFault}
use Rattle.bus_world.specs.Starts.{HasRoom, FindsRoom}
use Rattle.bus_world.specs.StartRows.{start_row}
use Rattle.bus_world.specs.StartAnswers.{DiskStates, CountsDiskFault, failed_row}
use Rattle.kept_starts.specs.KeepRows.{RefusesStart, BusKeepsDisk, HoldsNoStore}
use Rattle.bus_programs.specs.BusRoutes.{routes_of}
use Rattle.can_logs.specs.LogRuns.{IsUnwritten, WritesWhole, WatchEnding, on_output, on_errors}
use Rattle.endpoint_commands.specs.declared.rules.FrameRule.{FrameRule}
use Rattle.endpoint_commands.specs.Rules.{rules_of}
use Rattle.endpoint_commands.specs.Running.{LineMoment, answers_behind, closing_text, tells_failed_disk}
use Rattle.endpoint_commands.specs.Logs.{Unfailed, LogRead, LinesRead}
use Rattle.endpoint_commands.specs.Rows.{EndpointInputs, AsksEndpoint, AsksBoot, endpoint_usage, OverEndpoint, LacksEndpointInput, HasConfigFault, HasOtherNodes, HasMapFault, HasOtherImage, OffersNode, OffersRules, OffersEndpoint}
use Rattle.endpoint_commands.specs.Promises.{opening_of, DidEndpoint, ComesUnlogged, DidLines, EndsEndpoint}

-- ---- how a log was answered

-- its end came: all its lines were answered, and their answers and the counts were printed; standard error got nothing
pub record AnswersWholeLog (bus : NamedBus) (rules : List FrameRule) (image : Option (List ℕ)) (log : Reading)
    (d : DiskStates) (e : WatchEnding) : Type 0 where
  pub did : DidEndpoint bus rules image log d e
  pub read : LogRead rules did.ran.booted log did.lines did.ran.now
  pub unfailed : Unfailed did.lines
  pub prints : WritesWhole e.output
      (opening_of did.told ++ answers_behind rules 0 did.lines ++ closing_text rules did.lines)
  pub untold : IsUnwritten e.errors

-- of what came of it all complete lines were answered: their answers were printed, and this text on standard error
pub record AnswersComplete (bus : NamedBus) (rules : List FrameRule) (image : Option (List ℕ)) (log : Reading)
    (d : DiskStates) (e : WatchEnding) (text : List ℕ) : Type 0 where
  pub did : DidEndpoint bus rules image log d e
  pub read : LinesRead rules did.ran.booted log did.lines did.ran.now
  pub unfailed : Unfailed did.lines
  pub prints : WritesWhole e.output (opening_of did.told ++ answers_behind rules 0 did.lines)
  pub tells : WritesWhole e.errors text

-- it failed, and then standard error: all complete lines were answered, and their answers were printed; of the text
-- that tells it a proper prefix was
pub record LogFailsFirst (bus : NamedBus) (rules : List FrameRule) (image : Option (List ℕ)) (log : Reading)
    (d : DiskStates) (e : WatchEnding) : Type 0 where
  pub did : DidEndpoint bus rules image log d e
  pub read : LinesRead rules did.ran.booted log did.lines did.ran.now
  pub prints : WritesWhole e.output (opening_of did.told ++ answers_behind rules 0 did.lines)
  pub tells : AppendedPart e.errors.before e.errors.after (codes "read fault\n")

-- the disk failed at the last line that was taken, and at none before it: all answers were printed, and the last one
-- tells so; standard error got nothing
pub record StopsAtDisk (bus : NamedBus) (rules : List FrameRule) (image : Option (List ℕ)) (log : Reading)
    (d : DiskStates) (e : WatchEnding) : Type 0 where
  pub did : DidEndpoint bus rules image log d e
  pub earlier : List LineMoment
  pub last : LineMoment
  pub lines_are : did.lines ≡ earlier ++ last ∷ []
  pub unfailed : Unfailed earlier
  pub tells : tells_failed_disk last.line ≡ true
  pub calm : log.after.faults ≡ log.before.faults
  pub prints : WritesWhole e.output (opening_of did.told ++ answers_behind rules 0 did.lines)
  pub untold : IsUnwritten e.errors

-- ---- the disk

-- the count of faults of the first disk rose, or is full
abbrev pub FirstDiskFailed : DiskStates → Type 0
FirstDiskFailed d = (disk : DiskState) → Rose (get_or d.before 0 disk).faults (get_or d.after 0 disk).faults

-- ---- the table

-- exactly this text was printed on standard error, and nothing on standard output
abbrev pub TellsText : WatchEnding → List ℕ → Type 0
TellsText e text = IsUnwritten e.output × WritesWhole e.errors text

-- the usage line was printed, and nothing was read
abbrev pub TellsEndpointUsage : EndpointInputs → WatchEnding → Type 0
TellsEndpointUsage i e = (¬ AsksEndpoint i.words)
    × (IsUnread i.config × IsUnread i.map × IsUnread i.image × IsUnread i.log) × TellsText e endpoint_usage

-- what is printed at 3: the first fault of the bus file, or that its bus hasn't one node, or that the image isn't one
pub data TellsRefused (i : EndpointInputs) (e : WatchEnding) : Type 0 where
  by_fault : (fault : ConfigFault) (text : List ℕ) → HasConfigFault i fault → config_fault_text fault ≡ Some text
      → TellsText e text → TellsRefused i e
  by_nodes : HasOtherNodes i → TellsText e (line (codes "config: nodes")) → TellsRefused i e
  by_image : HasOtherImage i → TellsText e (line (codes "image: length")) → TellsRefused i e

-- THE TABLE OF ANSWERS, in three parts. "Both ways": the status has this cause, and the cause brings the status. A sink
-- whose count of faults rises makes it 6 instead: standard error at 2 to 5 and 8 to 10, standard output at 0, 5, 8 and
-- 11. 0, 3, 4, 9 and 10 may give way to 7, out of memory; no clause brings 7.

-- 2, 3 and 4: the arguments are malformed; the bus file or the image is refused; a line of the map is
pub record RefusesEndpoint (i : EndpointInputs) (e : WatchEnding) : Type 0 where
  -- 2, both ways: the arguments are malformed; nothing was read.
  pub usage : e.status ≡ 2 → TellsEndpointUsage i e
  pub usage_only : ¬ AsksEndpoint i.words → EndsIn 2 (on_errors e)
  -- 3, both ways: the bus file has a fault, or its bus hasn't one node; or an image hasn't 1 to 65,536 bytes.
  pub refused : e.status ≡ 3 → TellsRefused i e
  pub config_refused_only : (file : List ℕ) (fault : ConfigFault) → AsksEndpoint i.words → Offers i.config file
      → bus_of file ≡ Err fault → MayEndIn 3 (on_errors e)
  pub nodes_refused_only : (bus : NamedBus) → AsksEndpoint i.words → OffersBus i.config bus → length bus.nodes ≢ 1
      → MayEndIn 3 (on_errors e)
  pub image_refused_only : (bus : NamedBus) (rules : List FrameRule) (image : List ℕ) → OffersRules i bus rules
      → AsksBoot i.words → Offers i.image image → ¬ IsImage image → MayEndIn 3 (on_errors e)
  -- 4, both ways: the map has a fault over the node's routes, and its first fault is printed.
  pub map_refused : e.status ≡ 4 → (fault : Fault) × HasMapFault i fault × TellsText e (fault_text_of fault)
  pub map_refused_only : (bus : NamedBus) (text : List ℕ) (fault : Fault) → OffersNode i bus → Offers i.map text
      → rules_of (routes_of bus) text ≡ Err fault → MayEndIn 4 (on_errors e)

-- 5 to 8: a source failed; a sink failed; out of memory; a source had too much
pub record TellsEndpointPorts (same : Type 0) (i : EndpointInputs) (d : DiskStates) (e : WatchEnding) : Type 0 where
  -- 5, both ways: the count of faults of a source that was read rose; 5 may come if it is full, too. Of the log all
  -- complete lines that came were answered.
  pub read_fault : e.status ≡ 5 → (LacksEndpointInput i ReadFault × TellsText e (codes "read fault\n"))
      ⊎ (SourceFailed i.log
      × OverEndpoint i (λ bus rules image. AnswersComplete bus rules image i.log d e (codes "read fault\n")))
  pub read_fault_only : CountsFault i.config ⊎ CountsFault i.map ⊎ CountsFault i.image ⊎ CountsFault i.log
      → EndsIn 5 (on_errors e)
  -- 6, both ways: a sink's count of faults rose; 6 may come if it is full, too. A prefix was written of a row that
  -- comes, on standard error alone; or lines were taken, of whose answers `DidEndpoint` says what was printed.
  pub write_fault : e.status ≡ 6
      → (SinkFailed (on_errors e) × IsUnwritten e.output × PrintsFront (ComesUnlogged same i d) (on_errors e))
      ⊎ ((SinkFailed (on_output e) ⊎ SinkFailed (on_errors e)) × DidLines i d e)
  pub write_fault_only : CountsWriteFault (on_output e) ⊎ CountsWriteFault (on_errors e) → e.status ≡ 6
  -- 6, if the log's count of faults rose, too: the log failed first. So nothing is asked of the log after standard
  -- output failed at an answer, as it could fail.
  pub log_fails_first : e.status ≡ 6 → CountsFault i.log
      → OverEndpoint i (λ bus rules image. LogFailsFirst bus rules image i.log d e)
  -- 7, one way: only before the log; nothing was printed.
  pub no_memory : e.status ≡ 7 → ComesUnlogged same i d memory_row × IsUnread i.log × TellsText e []
  -- 8: one byte more than 1,048,576 came from a source other than the log, both ways; or 2^64 - 1 bytes and more came
  -- of the log, one way, and its complete lines were answered.
  pub too_long : e.status ≡ 8 → (LacksEndpointInput i TooLong × TellsText e (codes "input too long\n"))
      ⊎ OverEndpoint i (λ bus rules image.
      (answers : AnswersComplete bus rules image i.log d e (codes "input too long\n"))
      × (last_count ≤ length answers.read.bytes))
  pub too_long_only : CountsTooMuch i.config ⊎ CountsTooMuch i.map ⊎ CountsTooMuch i.image → EndsIn 8 (on_errors e)

-- 9, 10 and 11: there is no disk, or it is too small; a store is refused; the disk failed at a line
pub record TellsEndpointDisk (same : Type 0) (i : EndpointInputs) (d : DiskStates) (e : WatchEnding) : Type 0 where
  -- Every disk is as before at 2, 3, 4 and 9.
  pub unused : (e.status ≡ 2) ⊎ (e.status ≡ 3) ⊎ (e.status ≡ 4) ⊎ (e.status ≡ 9) → same
  -- 9, both ways: there is no disk, or the first is too small for the node's store.
  pub disks_refused : e.status ≡ 9 → IsUnread i.log × OverEndpoint i (λ bus rules image.
      (fault : StartFault) × FindsRoom bus d.before fault × (d.after ≡ d.before) × TellsText e (start_row fault).text)
  pub disks_refused_only : (bus : NamedBus) (rules : List FrameRule) (image : Option (List ℕ))
      → OffersEndpoint i bus rules image → ¬ HasRoom bus d.before → MayEndIn 9 (on_errors e)
  -- 10, both ways: the disk failed, and wasn't quiet; or it didn't fail, and its bytes are refused. Another store is
  -- named, and so is a cell that isn't the node's. If the disk didn't fail, no byte of a disk in use changed
  -- (`RefusedStartsWriteNothing` of kept_starts).
  pub store_refused : e.status ≡ 10 → IsUnread i.log
      × OverEndpoint i (λ bus rules image. RefusesStart bus d (λ text. TellsText e text))
  pub store_refused_only : (bus : NamedBus) (rules : List FrameRule) (image : Option (List ℕ))
      → OffersEndpoint i bus rules image → HasRoom bus d.before → HoldsNoStore bus d.before
      → MayEndIn 10 (on_errors e)
  -- 11, both ways: the disk's count of faults rose (or is full) at a line of the log, whose answer tells so. If it rose
  -- before the log, the row of 10 tells that it failed.
  pub disk_failed : e.status ≡ 11
      → FirstDiskFailed d × OverEndpoint i (λ bus rules image. StopsAtDisk bus rules image i.log d e)
  pub disk_failed_only : CountsDiskFault d 0
      → (EndsInRow (λ row. row ≡ failed_row 0) (on_errors e) × IsUnwritten e.output) ⊎ EndsIn 11 (on_output e)

-- what a run promises that has these inputs and disks and ends so; `same` is that every disk is as before
pub record RunsEndpoint (same : Type 0) (i : EndpointInputs) (d : DiskStates) (e : WatchEnding) : Type 0 where
  -- A row comes before the log. Or the node is started, and took lines: each answer was printed, up to the last, and
  -- what was done is one run of the machine over a disk that tells its bytes.
  pub ends : EndsEndpoint same i d e
  -- No status comes but 0 and 2 to 11.
  pub statuses : (e.status ≡ 0) ⊎ ((2 ≤ e.status) × (e.status ≤ 11))
  -- 0: the log ended, and all its lines were answered.
  pub answered : e.status ≡ 0 → OverEndpoint i (λ bus rules image. AnswersWholeLog bus rules image i.log d e)
  -- What is valid ends with 0 or 7 on three conditions. The disk serves: it was quiet, or its count didn't rise. The
  -- counts of the log and both sinks neither rose nor are full. Fewer than 2^64 - 1 bytes came of the log.
  pub complete : (bus : NamedBus) (rules : List FrameRule) (image : Option (List ℕ)) → OffersEndpoint i bus rules image
      → BusKeepsDisk bus d → ¬ SourceFailed i.log → i.log.after.taken < last_count
      → ¬ SinkFailed (on_output e) → ¬ SinkFailed (on_errors e) → (e.status ≡ 0) ⊎ (e.status ≡ 7)
  -- 2 to 4, 5 to 8, and 9 to 11.
  pub inputs : RefusesEndpoint i e
  pub ports : TellsEndpointPorts same i d e
  pub disk : TellsEndpointDisk same i d e
