-- Laws of the marks and of the lifelines of all runs, as statements (own)
use Rattle.std.specs.Prelude.{◌≡◌, ◌↔◌, ◌⊎◌, ℕ, ◌+◌, ◌-◌, ◌<◌, ◌≤◌, ◌==◌, Bool, true, false, cond, filter, Option, None}
use Rattle.std.specs.Prelude.{Some, List, [], ◌∷◌, ◌++◌, length, take, slice_get}
use Rattle.machine_runs.specs.Run.{commands_in, lines_in}
use Rattle.bus_machine.specs.declared.events.Event.TheVariants.{Send}
use Rattle.bus_machine.specs.declared.lines.Line.TheVariants.{Sent, Accepted, Up}
use Rattle.bus_machine.specs.Bus.{World, Instant, Moments, node_of, node_at, state_after}
use Rattle.bus_laws.specs.Laws.{EachRun}
use Rattle.chart_commands.specs.declared.marks.Origin.{Origin}
use Rattle.chart_commands.specs.declared.marks.Origin.TheVariants.{EventRow, Outside}
use Rattle.chart_commands.specs.declared.marks.MarkKind.TheVariants.{Arrow}
use Rattle.chart_commands.specs.declared.marks.RowMark.{RowMark}
use Rattle.chart_commands.specs.declared.lifelines.Stretch.{Stretch}
use Rattle.chart_commands.specs.Marks.{row_marks}
use Rattle.chart_commands.specs.Places.{row_axis, lifeline_top, lifeline_bottom}
use Rattle.chart_commands.specs.Lifelines.{lifeline_of}

-- the marks and the lifelines of a run
abbrev pub run_marks : Moments → List RowMark
run_marks ms = row_marks (commands_in ms) (lines_in ms)

abbrev pub run_lifeline : ℕ → Moments → List Stretch
run_lifeline node ms = lifeline_of node (commands_in ms) (lines_in ms)

-- ---- arrows

-- in this row there is one mark: an arrow from the row of an earlier event, and the lifeline of its node, to this row
-- and the node of this moment. What that event sent is what was accepted
pub record HasOneArrow (ms : Moments) (row number : ℕ) (m : Instant) (id v : ℕ) (payload : List ℕ) : Type 0 where
  pub sender : Instant
  pub least : 1 ≤ number
  pub earlier : number < row
  pub sender_is : slice_get ms (number - 1) ≡ Some sender
  pub asked : sender.command ≡ Send (node_of sender.command) id payload
  pub pdu : List ℕ
  pub it_sent : sender.line ≡ Sent id v pdu
  pub only : filter (λ mark. mark.row == row) (run_marks ms)
      ≡ record { node = node_of m.command; row = row; kind = Arrow (EventRow number (node_of sender.command)) true }
      ∷ []

-- in this row there is one mark: an arrow that leads from the left edge to this row and the node of this moment
abbrev pub HasEdgeArrow : Moments → ℕ → Instant → Type 0
HasEdgeArrow ms row m =
    filter (λ mark. mark.row == row) (run_marks ms)
    ≡ record { node = node_of m.command; row = row; kind = Arrow Outside true } ∷ []

-- the event that an arrow comes from, if it comes from one
abbrev pub origin_event : Origin → Option ℕ
origin_event Outside = None
origin_event (EventRow number node) = Some number

-- the line of this row is an acceptance by the node of the mark, of what this event sent, or none
pub record MarksAcceptance (ms : Moments) (mark : RowMark) (source : Option ℕ) : Type 0 where
  pub least : 1 ≤ mark.row
  pub m : Instant
  pub is_there : slice_get ms (mark.row - 1) ≡ Some m
  pub node_is : mark.node ≡ node_of m.command
  pub id : ℕ
  pub freshness : ℕ
  pub payload : List ℕ
  pub accepts : m.line ≡ Accepted id freshness payload source

-- each acceptance has one arrow, from the event that it names, or from the left edge if it names none. There is no
-- other arrow to an acceptance
pub record ArrowsOf (ms : Moments) : Type 0 where
  pub each : (front rest : Moments) (m : Instant) (id v number : ℕ) (payload : List ℕ) → ms ≡ front ++ m ∷ rest
      → m.line ≡ Accepted id v payload (Some number) → HasOneArrow ms (length front + 1) number m id v payload
  pub from_none : (front rest : Moments) (m : Instant) (id v : ℕ) (payload : List ℕ) → ms ≡ front ++ m ∷ rest
      → m.line ≡ Accepted id v payload None → HasEdgeArrow ms (length front + 1) m
  pub no_other : (front rest : List RowMark) (mark : RowMark) (from : Origin) → run_marks ms ≡ front ++ mark ∷ rest
      → mark.kind ≡ Arrow from true → MarksAcceptance ms mark (origin_event from)

abbrev pub ArrowsAreAcceptances : Type 0
ArrowsAreAcceptances = EachRun (λ start ms last. ArrowsOf ms)

-- ---- lifelines

-- from the axis of this row to that of the next: before the first row from where the lifelines begin, and after the
-- last to where they end
abbrev pub axis_or_top : ℕ → ℕ
axis_or_top row = cond (row == 0) lifeline_top (row_axis row)

abbrev pub next_axis : ℕ → ℕ → ℕ
next_axis rows row = cond (row == rows) (lifeline_bottom rows) (row_axis (row + 1))

pub record IsBehindRow (rows row height : ℕ) : Type 0 where
  pub least : axis_or_top row ≤ height
  pub most : height < next_axis rows row

-- at this height a stretch is drawn, which is down or up
pub record IsDrawnAt (drawn : List Stretch) (down : Bool) (height : ℕ) : Type 0 where
  pub front : List Stretch
  pub one : Stretch
  pub rest : List Stretch
  pub among : drawn ≡ front ++ one ∷ rest
  pub down_is : one.down ≡ down
  pub from : one.from ≤ height
  pub to : height < one.to

-- the node is up in the world after the first rows
abbrev pub up_behind : World → Moments → ℕ → ℕ → Bool
up_behind start ms row node = (node_at (state_after start (take row ms)) node).up

-- this height is beside the sign of a cut in which the node is up again: no more than 14 pixels above or below the axis
pub record IsBesideCut (ms : Moments) (node height : ℕ) : Type 0 where
  pub front : Moments
  pub m : Instant
  pub rest : Moments
  pub whole : ms ≡ front ++ m ∷ rest
  pub of_node : node_of m.command ≡ node
  pub is_up : m.line ≡ Up
  pub least : row_axis (length front + 1) ≤ height + 14
  pub most : height < row_axis (length front + 1) + 14

-- after each row a lifeline is drawn down exactly if its node is then down, and drawn up exactly if it is up. Beside
-- the sign of a cut that left the node up it may be neither
pub record LifelinesOf (start : World) (ms : Moments) : Type 0 where
  pub down : (node row height : ℕ) → node < length start.nodes → row ≤ length ms → IsBehindRow (length ms) row height
      → IsDrawnAt (run_lifeline node ms) true height ↔ (up_behind start ms row node ≡ false)
  pub up : (node row height : ℕ) → node < length start.nodes → row ≤ length ms → IsBehindRow (length ms) row height
      → IsDrawnAt (run_lifeline node ms) false height → up_behind start ms row node ≡ true
  pub drawn_up : (node row height : ℕ) → node < length start.nodes → row ≤ length ms
      → IsBehindRow (length ms) row height
      → up_behind start ms row node ≡ true
      → IsDrawnAt (run_lifeline node ms) false height ⊎ IsBesideCut ms node height

abbrev pub DownIsDrawnDown : Type 0
DownIsDrawnDown = EachRun (λ start ms last. LifelinesOf start ms)
