-- The marks of a chart: in the row of each event one, on the lifeline of its node (own)
use Rattle.std.specs.Prelude.{ℕ, ◌+◌, ◌-◌, true, false, Option, None, Some, List, [], ◌∷◌, slice_get}
use Rattle.bus_machine.specs.declared.events.Event.{Event}
use Rattle.bus_machine.specs.declared.events.Event.TheVariants as event
use Rattle.bus_machine.specs.declared.lines.Line.{Line}
use Rattle.bus_machine.specs.declared.lines.Line.TheVariants.{Sent, Accepted, FreshnessFailure, VerificationFailure}
use Rattle.bus_machine.specs.declared.lines.Line.TheVariants.{Keyed, Loaded, Boot, Up, Armed, NoFrame, Refused}
use Rattle.bus_machine.specs.Bus.{node_of}
use Rattle.chart_commands.specs.declared.marks.Origin.{Origin}
use Rattle.chart_commands.specs.declared.marks.Origin.TheVariants.{EventRow, Outside}
use Rattle.chart_commands.specs.declared.marks.MarkKind.{MarkKind}
use Rattle.chart_commands.specs.declared.marks.MarkKind.TheVariants as mark
use Rattle.chart_commands.specs.declared.marks.RowMark.{RowMark}

-- ---- where an arrow begins

-- in the row of the event with this number, if there is one, on the lifeline of its node; else at the left edge
abbrev pub origin_at : ℕ → Option Event → Origin
origin_at number None = Outside
origin_at number (Some sender) = EventRow number (node_of sender)

abbrev pub origin_of : List Event → ℕ → Origin
origin_of events number = origin_at number (slice_get events (number - 1))

-- what is accepted from an event with a number begins there, what is accepted from none at the left edge
abbrev pub accepted_origin : List Event → Option ℕ → Origin
accepted_origin events None = Outside
accepted_origin events (Some number) = origin_of events number

-- what an event brings its node: a delivered PDU begins where it was sent, any other at the left edge
abbrev pub brought_origin : List Event → Event → Origin
brought_origin events (event.Deliver node number) = origin_of events number
brought_origin events _ = Outside

-- ---- what a mark shows

-- whatever a power cut answers is shown as a cut
abbrev pub refused_mark : Event → MarkKind
refused_mark (event.Cut node torn) = mark.Cut
refused_mark _ = mark.Refused

-- of an event and its line, in a script of these events; a verdict has an arrow, whether it is good or not
abbrev pub mark_kind : List Event → Event → Line → MarkKind
mark_kind events e (Sent id v pdu) = mark.Sent
mark_kind events e (Accepted id v payload source) = mark.Arrow (accepted_origin events source) true
mark_kind events e FreshnessFailure = mark.Arrow (brought_origin events e) false
mark_kind events e VerificationFailure = mark.Arrow (brought_origin events e) false
mark_kind events e (Keyed slot) = mark.Done
mark_kind events e (Loaded reply) = mark.Done
mark_kind events e (Boot true) = mark.Done
mark_kind events e (Boot false) = mark.Refused
mark_kind events e Up = mark.Cut
mark_kind events e Armed = mark.Armed
mark_kind events e NoFrame = mark.Nothing
mark_kind events e (Refused refusal) = refused_mark e

-- ---- the marks of a script

-- the mark in the row with this number
abbrev pub row_mark : List Event → ℕ → Event → Line → RowMark
row_mark events row e l = record { node = node_of e; row = row; kind = mark_kind events e l }

-- the marks of some events and their lines, whose rows are numbered from `row` on
abbrev pub marks_from : List Event → ℕ → List Event → List Line → List RowMark
marks_from all row [] lines = []
marks_from all row (e ∷ events) [] = []
marks_from all row (e ∷ events) (l ∷ lines) = row_mark all row e l ∷ marks_from all (row + 1) events lines

-- the marks of all events and their lines
abbrev pub row_marks : List Event → List Line → List RowMark
row_marks events lines = marks_from events 1 events lines
