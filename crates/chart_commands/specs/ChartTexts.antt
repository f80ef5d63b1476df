-- The text of a chart, an SVG (Scalable Vector Graphics 1.1) of eight kinds of elements and integers alone (own)
use Rattle.std.specs.Prelude.{ℕ, ◌+◌, ◌-◌, ◌*◌, Bool, true, false, not, filter, List, [], ◌∷◌, ◌++◌, length, codes}
use Rattle.std.specs.Prelude.{count_by}
use Rattle.std.specs.Fmt.{decimal}
use Rattle.std.specs.List.{flat_map, range_with_len}
use Rattle.bus_machine.specs.declared.events.Event.{Event}
use Rattle.bus_machine.specs.declared.lines.Line.{Line}
use Rattle.bus_config.specs.declared.node_lines.NodeLine.{NodeLine}
use Rattle.bus_config.specs.Buses.{NamedBus}
use Rattle.bus_script.specs.LineTexts.{told_words}
use Rattle.text_lines.specs.Spaced.{spaced}
use Rattle.bus_machine.specs.Tells.{tells_sent, tells_accepted, tells_failed_verdict, tells_keyed, tells_up}
use Rattle.bus_machine.specs.Tells.{tells_refused}
use Rattle.chart_commands.specs.declared.marks.Origin.TheVariants.{EventRow, Outside}
use Rattle.chart_commands.specs.declared.marks.MarkKind.{MarkKind}
use Rattle.chart_commands.specs.declared.marks.MarkKind.TheVariants.{Sent, Done, Cut, Armed, Nothing, Refused, Arrow}
use Rattle.chart_commands.specs.declared.marks.RowMark.{RowMark}
use Rattle.chart_commands.specs.declared.places.ArrowHead.{ArrowHead}
use Rattle.chart_commands.specs.declared.places.ArrowHead.TheVariants.{ToRight, ToLeft, Cross}
use Rattle.chart_commands.specs.declared.lifelines.Stretch.{Stretch}
use Rattle.chart_commands.specs.Marks.{row_marks}
use Rattle.chart_commands.specs.Places.{lifeline_x, row_top, row_axis, head_count, head_top, chart_width, chart_height}
use Rattle.chart_commands.specs.Places.{Placed, sign, edge, wait, arrow, places_of, label_x, label_y}
use Rattle.chart_commands.specs.Lifelines.{lifeline_of}
use Rattle.chart_commands.specs.declared.constants.TheConstants.{STYLE, LEGEND}
use Rattle.chart_commands.specs.Labels.{label_text}

-- ---- a row

-- the class of a row, which gives it its colours
abbrev pub class_name : MarkKind → List ℕ
class_name Sent = codes "sent"
class_name Done = codes "done"
class_name Cut = codes "cut"
class_name Armed = codes "armed"
class_name Nothing = codes "nothing"
class_name Refused = codes "refused"
class_name (Arrow from false) = codes "failed"
class_name (Arrow (EventRow number node) true) = codes "taken"
class_name (Arrow Outside true) = codes "forged"

-- the strokes of a sign, from the place of its mark on: a disc, a square, a flash, a triangle, a bar, a sign of no
-- entry
abbrev pub sign_strokes : MarkKind → List ℕ
sign_strokes Sent = codes "m-7 0a7 7 0 1 0 14 0a7 7 0 1 0-14 0z"
sign_strokes Done = codes "m-6-6h12v12h-12z"
sign_strokes Cut = codes "m5-14l-14 16h6l-4 12l14-16h-6z"
sign_strokes Armed = codes "m0-12l12 21h-24zm0 7v6m0 3v2"
sign_strokes Nothing = codes "m-7-3h14v6h-14z"
sign_strokes Refused = codes "m-9 0a9 9 0 1 0 18 0a9 9 0 1 0-18 0m4 0h10"
sign_strokes (Arrow from accepted) = []

-- the strokes at the end of an arrow
abbrev pub head_strokes : ArrowHead → List ℕ
head_strokes ToRight = codes "m-8-5l8 5l-8 5"
head_strokes ToLeft = codes "m8-5l-8 5l8 5"
head_strokes Cross = codes "m-6-6l12 12m0-12l-12 12"

-- what is placed is a path
abbrev pub place_text : Placed → List ℕ
place_text (sign across down kind) =
    codes "<path d=\"M" ++ (decimal across ++ (codes " " ++ (decimal down ++ (sign_strokes kind ++ codes "\"/>"))))
place_text (edge top) = codes "<path d=\"M52 " ++ (decimal top ++ codes "v12\"/>")
place_text (wait across down gutter_x row) =
    codes "<path class=\"wait\" d=\"M" ++ (decimal across ++ (codes " " ++ (decimal down ++ (codes "H"
    ++ (decimal gutter_x ++ (codes "V" ++ (decimal row ++ codes "\"/>")))))))
place_text (arrow begin axis end head) =
    codes "<path d=\"M" ++ (decimal begin ++ (codes " " ++ (decimal axis ++ (codes "H" ++ (decimal end
    ++ (head_strokes head ++ codes "\"/>"))))))

-- a text at a place
abbrev pub text_at : ℕ → ℕ → List ℕ → List ℕ
text_at x y text =
    codes "<text x=\"" ++ (decimal x ++ (codes "\" y=\"" ++ (decimal y ++ (codes "\">" ++ (text ++ codes "</text>")))))

-- the title of a row, which is the line of a replay without the line feed; its band; and its number
abbrev pub title_of_row : List ℕ → ℕ → Line → List ℕ
title_of_row class row l =
    codes "<g class=\"" ++ (class ++ (codes "\"><title>"
    ++ (decimal row ++ (spaced (told_words l) ++ codes "</title>"))))

abbrev pub band_text : ℕ → List ℕ
band_text top = codes "<rect y=\"" ++ (decimal top ++ codes "\" width=\"100%\" height=\"28\"/>")

abbrev pub number_text : ℕ → ℕ → List ℕ
number_text base row =
    codes "<text class=\"number\" x=\"44\" y=\"" ++ (decimal base ++ (codes "\">" ++ (decimal row ++ codes "</text>")))

abbrev pub front_of_row : RowMark → Line → List ℕ
front_of_row m l =
    title_of_row (class_name m.kind) m.row l ++ (band_text (row_top m.row) ++ number_text (row_axis m.row + 4) m.row)

-- the label of a row
abbrev pub label_of_row : RowMark → Event → Line → List ℕ
label_of_row m e l = text_at (label_x m) (label_y m) (label_text e l)

abbrev pub marked_row : RowMark → Event → Line → List ℕ
marked_row m e l = front_of_row m l ++ (flat_map place_text (places_of m) ++ (label_of_row m e l ++ codes "</g>\n"))

-- the rows of some marks, of whose events and lines these are
abbrev pub rows_text : List RowMark → List Event → List Line → List ℕ
rows_text [] events lines = []
rows_text (m ∷ marks) [] lines = []
rows_text (m ∷ marks) (e ∷ events) [] = []
rows_text (m ∷ marks) (e ∷ events) (l ∷ lines) = marked_row m e l ++ rows_text marks events lines

-- ---- the lifelines

abbrev pub stretch_text : ℕ → Stretch → List ℕ
stretch_text node s =
    codes "M" ++ (decimal (lifeline_x node) ++ (codes " " ++ (decimal s.from ++ (codes "V" ++ decimal s.to))))

-- whether a stretch is drawn among those that are down, or among those that are up
abbrev pub is_among : Bool → Stretch → Bool
is_among true s = s.down
is_among false s = not s.down

-- the strokes of the stretches that are down, or of those that are up
abbrev pub life_strokes : ℕ → Bool → List Stretch → List ℕ
life_strokes node down drawn = flat_map (stretch_text node) (filter (is_among down) drawn)

-- the path of these strokes, in this class; and nothing if there are none
abbrev pub path_text : List ℕ → List ℕ → List ℕ
path_text style strokes =
    codes "<path class=\"" ++ (style ++ (codes "\" d=\"" ++ (strokes ++ codes "\"/>")))

abbrev pub life_path : List ℕ → List ℕ → List ℕ
life_path style [] = []
life_path style (stroke ∷ strokes) = path_text style (stroke ∷ strokes)

abbrev pub lifeline_text : List Event → List Line → ℕ → List ℕ
lifeline_text events lines node =
    life_path (codes "up") (life_strokes node false (lifeline_of node events lines))
    ++ (life_path (codes "down") (life_strokes node true (lifeline_of node events lines)) ++ codes "\n")

-- ---- the headers

-- the name of a node in a box, eight pixels a letter wide and sixteen more
abbrev pub box_text : ℕ → ℕ → ℕ → List ℕ
box_text left top width =
    codes "<rect x=\"" ++ (decimal left ++ (codes "\" y=\"" ++ (decimal top ++ (codes "\" width=\""
    ++ (decimal width ++ codes "\" height=\"26\" rx=\"4\"/>")))))

abbrev pub name_box : ℕ → ℕ → List ℕ → List ℕ
name_box block node name =
    box_text (lifeline_x node - 4 * length name - 8) (head_top block + 4) (8 * length name + 16)
    ++ text_at (lifeline_x node) (head_top block + 21) name

abbrev pub name_boxes : ℕ → ℕ → List NodeLine → List ℕ
name_boxes block node [] = []
name_boxes block node (n ∷ nodes) = name_box block node n.name ++ name_boxes block (node + 1) nodes

abbrev pub header_text : List NodeLine → ℕ → List ℕ
header_text nodes block = codes "<g class=\"head\">" ++ (name_boxes block 0 nodes ++ codes "</g>\n")

-- ---- the whole

-- the seven numbers of a trial's summary, on one line: what was done, and what became of keys and disks
abbrev pub four_numbers : (events sent accepted failures : ℕ) → List ℕ
four_numbers events sent accepted failures =
    codes "events " ++ (decimal events ++ (codes ", sent " ++ (decimal sent ++ (codes ", accepted " ++ (decimal accepted
    ++ (codes ", failures " ++ decimal failures))))))

abbrev pub three_numbers : (keyed cuts refused : ℕ) → List ℕ
three_numbers keyed cuts refused =
    codes ", keyed " ++ (decimal keyed ++ (codes ", cuts " ++ (decimal cuts
    ++ (codes ", refused " ++ decimal refused))))

abbrev pub seven_numbers : (events sent accepted failures keyed cuts refused : ℕ) → List ℕ
seven_numbers events sent accepted failures keyed cuts refused =
    four_numbers events sent accepted failures ++ three_numbers keyed cuts refused

abbrev pub chart_counts : ℕ → List Line → List ℕ
chart_counts events lines =
    seven_numbers events (count_by tells_sent lines) (count_by tells_accepted lines)
    (count_by tells_failed_verdict lines) (count_by tells_keyed lines) (count_by tells_up lines)
    (count_by tells_refused lines)

-- the tag of the whole, the title, the description and the style
abbrev pub whole_tag : ℕ → ℕ → List ℕ
whole_tag width height =
    codes "<svg xmlns=\"http://www.w3.org/2000/svg\" width=\"" ++ (decimal width ++ (codes "\" height=\""
    ++ (decimal height ++ (codes "\" viewBox=\"0 0 " ++ (decimal width ++ (codes " " ++ (decimal height
    ++ codes "\">\n")))))))

abbrev pub opening_text : ℕ → ℕ → List ℕ
opening_text width height =
    whole_tag width height
    ++ (codes "<title>A run of the bus</title>\n<desc>One lifeline a node, one row an event. "
    ++ (codes "An arrow leads from the row of what was sent, along the lifeline of its sender, to the receiver."
    ++ (codes "</desc>\n<style>" ++ (STYLE.now ++ codes "</style>\n"))))

-- the page, the title, the counts and the legend
abbrev pub page_rect : ℕ → ℕ → List ℕ
page_rect width height =
    codes "<rect class=\"page\" width=\"" ++ (decimal width ++ (codes "\" height=\"" ++ (decimal height
    ++ codes "\"/>\n")))

abbrev pub page_text : ℕ → ℕ → List ℕ → List ℕ
page_text width height counts =
    page_rect width height
    ++ (codes "<text class=\"name\" x=\"16\" y=\"28\">A run of the bus</text><text x=\"16\" y=\"50\">" ++ (counts
    ++ (codes "</text>\n" ++ LEGEND.now)))

abbrev pub sized_chart : ℕ → ℕ → NamedBus → List Event → List Line → List ℕ
sized_chart width height bus events lines =
    opening_text width height ++ (page_text width height (chart_counts (length events) lines)
    ++ (flat_map (lifeline_text events lines) (range_with_len 0 (length bus.nodes))
    ++ (rows_text (row_marks events lines) events lines
    ++ (flat_map (header_text bus.nodes) (range_with_len 0 (head_count (length events))) ++ codes "</svg>\n"))))

-- the chart of a bus, of the events of a script over it, and of their lines
abbrev pub chart_text : NamedBus → List Event → List Line → List ℕ
chart_text bus events lines =
    sized_chart (chart_width (length bus.nodes)) (chart_height (length events)) bus events lines
