-- The places of a chart: where each mark lies, in pixels from the upper left corner. Nodes are counted from 0, and rows
-- from 1; there is a header above each forty rows (own)
use Rattle.std.specs.Prelude.{ℕ, ◌+◌, ◌-◌, ◌*◌, ◌/◌, ◌%◌, max, Bool, true, false, cond, nat_lt, List, [], ◌∷◌}
use Rattle.chart_commands.specs.declared.marks.Origin.TheVariants.{EventRow, Outside}
use Rattle.chart_commands.specs.declared.marks.MarkKind.{MarkKind}
use Rattle.chart_commands.specs.declared.marks.MarkKind.TheVariants.{Arrow}
use Rattle.chart_commands.specs.declared.marks.RowMark.{RowMark}
use Rattle.chart_commands.specs.declared.places.ArrowHead.{ArrowHead}
use Rattle.chart_commands.specs.declared.places.ArrowHead.TheVariants.{ToRight, ToLeft, Cross}

-- ---- the grid

-- the lifeline of a node: to the left of the first stand the numbers of the rows; from one to the next are 22 pixels
-- and the longest label, of 28 letters
abbrev pub lifeline_x : ℕ → ℕ
lifeline_x node = 84 + 224 * node

-- the upper edge of a row, and its axis, on which its mark lies
abbrev pub row_top : ℕ → ℕ
row_top row = 96 + 36 * ((row - 1) / 40 + 1) + 28 * (row - 1)

abbrev pub row_axis : ℕ → ℕ
row_axis row = row_top row + 14

-- how far to the right of its lifeline what was sent in a row waits: three places in turn
abbrev pub gutter : ℕ → ℕ
gutter row = 11 + 4 * (row % 3)

-- how many headers there are over so many rows, and the upper edge of each, counted from 0
abbrev pub head_count : ℕ → ℕ
head_count rows = (rows - 1) / 40 + 1

abbrev pub head_top : ℕ → ℕ
head_top block = 96 + 1156 * block

-- where the lifelines begin and end
abbrev pub lifeline_top : ℕ
lifeline_top = 120

abbrev pub lifeline_bottom : ℕ → ℕ
lifeline_bottom rows = 100 + 36 * head_count rows + 28 * rows

-- the size of the chart; its title and its legend are as wide as three nodes
abbrev pub chart_width : ℕ → ℕ
chart_width nodes = 84 + 224 * max nodes 3

abbrev pub chart_height : ℕ → ℕ
chart_height rows = lifeline_bottom rows + 12

-- ---- the marks

-- what is drawn of a mark
pub data Placed : Type 0 where
  -- the sign of its kind, on its lifeline
  sign : (across down : ℕ) (kind : MarkKind) → Placed
  -- a short stroke at the left edge, which begins at this height
  edge : (top : ℕ) → Placed
  -- what was sent waits: from beside its disc to the gutter, and there down to the axis of another row
  wait : (across down gutter_x row : ℕ) → Placed
  -- an arrow on the axis of a row, with its head at its end
  arrow : (begin axis end : ℕ) (head : ArrowHead) → Placed

-- an arrow ends at the lifeline of its node; a verdict that failed is a cross, which stands before it
abbrev pub arrow_head : (right accepted : Bool) → ArrowHead
arrow_head right false = Cross
arrow_head true true = ToRight
arrow_head false true = ToLeft

abbrev pub arrow_end : (right accepted : Bool) → ℕ → ℕ
arrow_end right true node = lifeline_x node
arrow_end true false node = lifeline_x node - 11
arrow_end false false node = lifeline_x node + 11

abbrev pub places_for : ℕ → ℕ → MarkKind → List Placed
places_for node row (Arrow Outside accepted) =
    edge (row_top row + 8) ∷ arrow 52 (row_axis row) (arrow_end true accepted node) (arrow_head true accepted) ∷ []
places_for node row (Arrow (EventRow sent sender) accepted) =
    wait (lifeline_x sender + 6) (row_axis sent) (lifeline_x sender + gutter sent) (row_axis row)
    ∷ arrow (lifeline_x sender + gutter sent) (row_axis row) (arrow_end (nat_lt sender node) accepted node)
    (arrow_head (nat_lt sender node) accepted)
    ∷ []
places_for node row kind = sign (lifeline_x node) (row_axis row) kind ∷ []

abbrev pub places_of : RowMark → List Placed
places_of m = places_for m.node m.row m.kind

-- the label stands to the right of the lifeline, and above an arrow from the right
abbrev pub label_rise : ℕ → MarkKind → ℕ
label_rise node (Arrow (EventRow sent sender) accepted) = cond (nat_lt sender node) 0 9
label_rise node kind = 0

abbrev pub label_x : RowMark → ℕ
label_x m = lifeline_x m.node + 22

abbrev pub label_y : RowMark → ℕ
label_y m = row_axis m.row + 4 - label_rise m.node m.kind
