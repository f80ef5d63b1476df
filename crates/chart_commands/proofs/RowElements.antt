-- A row of a chart is one element, in which each part is an element
use Rattle.std.specs.Prelude.{◌≡◌, ℕ, ◌+◌, true, false, List, [], ◌∷◌, ◌++◌, All, codes}
use Rattle.std.specs.List.{flat_map}
use Rattle.std.specs.Fmt.{decimal}
use Rattle.std.proofs.Common.{refl, subst, append_assoc}
use Rattle.std.proofs.lemmas.List.Elements.{All-head, All-tail}
use Rattle.bus_machine.specs.declared.events.Event.{Event}
use Rattle.bus_machine.specs.declared.lines.Line.{Line}
use Rattle.bus_config.specs.declared.node_lines.NodeLine.{NodeLine}
use Rattle.bus_script.specs.LineTexts.{told_words}
use Rattle.bus_machine.specs.LineKinds.{IsLine}
use Rattle.text_lines.specs.Spaced.{spaced}
use Rattle.bus_script.specs.ScriptEvents.{HasFields, IsScriptEvent}
use Rattle.chart_commands.specs.declared.marks.Origin.TheVariants.{EventRow, Outside}
use Rattle.chart_commands.specs.declared.marks.MarkKind.{MarkKind}
use Rattle.chart_commands.specs.declared.marks.MarkKind.TheVariants.{Sent, Done, Cut, Armed, Nothing, Refused, Arrow}
use Rattle.chart_commands.specs.declared.marks.RowMark.{RowMark}
use Rattle.chart_commands.specs.declared.places.ArrowHead.{ArrowHead}
use Rattle.chart_commands.specs.declared.places.ArrowHead.TheVariants.{ToRight, ToLeft, Cross}
use Rattle.chart_commands.specs.Marks.{row_mark}
use Rattle.chart_commands.specs.Places.{row_top, row_axis, Placed, sign, edge, wait, arrow, places_of, label_x, label_y}
use Rattle.chart_commands.specs.Grammar.{is_content_text, is_tag_name, IsContent, nothing, element, empty_element}
use Rattle.chart_commands.specs.Labels.{label_text}
use Rattle.chart_commands.specs.ChartTexts.{class_name, sign_strokes, head_strokes, place_text, label_of_row, marked_row}
use Rattle.chart_commands.proofs.Pieces.{rows_from}
use Rattle.chart_commands.proofs.Contents.{both_content, spaced_content, decimal_content}
use Rattle.chart_commands.proofs.Joined.{one, both, same_text, row_of, valued, empty_pieces, element_pieces}
use Rattle.chart_commands.proofs.Elements.{named_value, tag, IsContent-append, IsContent-text, IsContent-empty, IsContent-element, IsContent-each}
use Rattle.chart_commands.proofs.Told.{told_content, label_content}

-- ---- words that are the same in every chart

class_content : (kind : MarkKind) → is_content_text (class_name kind) ≡ true
class_content Sent = refl
class_content Done = refl
class_content Cut = refl
class_content Armed = refl
class_content Nothing = refl
class_content Refused = refl
class_content (Arrow from false) = refl
class_content (Arrow (EventRow number node) true) = refl
class_content (Arrow Outside true) = refl

strokes_content : (kind : MarkKind) → is_content_text (sign_strokes kind) ≡ true
strokes_content Sent = refl
strokes_content Done = refl
strokes_content Cut = refl
strokes_content Armed = refl
strokes_content Nothing = refl
strokes_content Refused = refl
strokes_content (Arrow from accepted) = refl

head_content : (head : ArrowHead) → is_content_text (head_strokes head) ≡ true
head_content ToRight = refl
head_content ToLeft = refl
head_content Cross = refl

-- ---- paths

-- a number, a text that is the same in every chart, and more
number_and : (n : ℕ) (fixed rest : List ℕ) → is_content_text fixed ≡ true → is_content_text rest ≡ true
    → is_content_text (decimal n ++ (fixed ++ rest)) ≡ true
number_and n fixed rest h k = both_content (decimal n) (fixed ++ rest) (decimal_content n) (both_content fixed rest h k)

-- a path of these strokes, and one that has a class
path : (strokes : List ℕ) → is_content_text strokes ≡ true → IsContent (empty_element (codes "path") (named_value (codes "d") strokes ∷ []))
path strokes right =
    IsContent-empty (codes "path") (named_value (codes "d") strokes ∷ [])
    (tag (codes "path") (named_value (codes "d") strokes ∷ []) refl refl (refl, right, tt))

pub class_path : (class strokes : List ℕ) → is_content_text class ≡ true → is_content_text strokes ≡ true
    → IsContent (empty_element (codes "path") (named_value (codes "class") class ∷ named_value (codes "d") strokes ∷ []))
class_path class strokes named right =
    IsContent-empty (codes "path") (named_value (codes "class") class ∷ named_value (codes "d") strokes ∷ [])
    (tag (codes "path") (named_value (codes "class") class ∷ named_value (codes "d") strokes ∷ []) refl refl (refl, named, (refl, right, tt)))

sign_is : (x y s : List ℕ) → empty_element (codes "path") (named_value (codes "d") (codes "M" ++ (x ++ (codes " " ++ (y ++ s)))) ∷ [])
    ≡ codes "<path d=\"M" ++ (x ++ (codes " " ++ (y ++ (s ++ codes "\"/>"))))
sign_is x y s = simp append_assoc

edge_is : (y : List ℕ) → empty_element (codes "path") (named_value (codes "d") (codes "M52 " ++ (y ++ codes "v12")) ∷ [])
    ≡ codes "<path d=\"M52 " ++ (y ++ codes "v12\"/>")
edge_is y = simp append_assoc

wait_is : (x y g r : List ℕ) → empty_element (codes "path") (named_value (codes "class") (codes "wait")
    ∷ named_value (codes "d") (codes "M" ++ (x ++ (codes " " ++ (y ++ (codes "H" ++ (g ++ (codes "V" ++ r))))))) ∷ [])
    ≡ codes "<path class=\"wait\" d=\"M" ++ (x ++ (codes " " ++ (y ++ (codes "H" ++ (g ++ (codes "V" ++ (r ++ codes "\"/>")))))))
wait_is x y g r = simp append_assoc

arrow_is : (b a e s : List ℕ) → empty_element (codes "path") (named_value (codes "d") (codes "M" ++ (b ++ (codes " " ++ (a ++ (codes "H" ++ (e ++ s)))))) ∷ [])
    ≡ codes "<path d=\"M" ++ (b ++ (codes " " ++ (a ++ (codes "H" ++ (e ++ (s ++ codes "\"/>"))))))
arrow_is b a e s = simp append_assoc

IsContent-place : (p : Placed) → IsContent (place_text p)
IsContent-place (sign across down kind) =
    subst IsContent (sign_is (decimal across) (decimal down) (sign_strokes kind))
    (path (codes "M" ++ (decimal across ++ (codes " " ++ (decimal down ++ sign_strokes kind))))
    (both_content (codes "M") (decimal across ++ (codes " " ++ (decimal down ++ sign_strokes kind))) refl
    (number_and across (codes " ") (decimal down ++ sign_strokes kind) refl
    (both_content (decimal down) (sign_strokes kind) (decimal_content down) (strokes_content kind)))))
IsContent-place (edge top) =
    subst IsContent (edge_is (decimal top))
    (path (codes "M52 " ++ (decimal top ++ codes "v12"))
    (both_content (codes "M52 ") (decimal top ++ codes "v12") refl (both_content (decimal top) (codes "v12") (decimal_content top) refl)))
IsContent-place (wait across down gutter_x row) =
    subst IsContent (wait_is (decimal across) (decimal down) (decimal gutter_x) (decimal row))
    (class_path (codes "wait") (codes "M" ++ (decimal across ++ (codes " " ++ (decimal down ++ (codes "H" ++ (decimal gutter_x ++ (codes "V" ++ decimal row)))))))
    refl
    (both_content (codes "M") (decimal across ++ (codes " " ++ (decimal down ++ (codes "H" ++ (decimal gutter_x ++ (codes "V" ++ decimal row)))))) refl
    (number_and across (codes " ") (decimal down ++ (codes "H" ++ (decimal gutter_x ++ (codes "V" ++ decimal row)))) refl
    (number_and down (codes "H") (decimal gutter_x ++ (codes "V" ++ decimal row)) refl
    (number_and gutter_x (codes "V") (decimal row) refl (decimal_content row))))))
IsContent-place (arrow begin axis end head) =
    subst IsContent (arrow_is (decimal begin) (decimal axis) (decimal end) (head_strokes head))
    (path (codes "M" ++ (decimal begin ++ (codes " " ++ (decimal axis ++ (codes "H" ++ (decimal end ++ head_strokes head))))))
    (both_content (codes "M") (decimal begin ++ (codes " " ++ (decimal axis ++ (codes "H" ++ (decimal end ++ head_strokes head))))) refl
    (number_and begin (codes " ") (decimal axis ++ (codes "H" ++ (decimal end ++ head_strokes head))) refl
    (number_and axis (codes "H") (decimal end ++ head_strokes head) refl
    (both_content (decimal end) (head_strokes head) (decimal_content end) (head_content head))))))

-- ---- a text at a place

-- a text element with two attributes
pub placed_text : (x y text : List ℕ) → is_content_text x ≡ true → is_content_text y ≡ true → is_content_text text ≡ true
    → IsContent (element (codes "text") (named_value (codes "x") x ∷ named_value (codes "y") y ∷ []) text)
placed_text x y text right also inner =
    IsContent-element (codes "text") (named_value (codes "x") x ∷ named_value (codes "y") y ∷ []) text
    (tag (codes "text") (named_value (codes "x") x ∷ named_value (codes "y") y ∷ []) refl refl (refl, right, (refl, also, tt)))
    (IsContent-text text inner)

-- a text element with a class
pub class_text : (class x y text : List ℕ) → is_content_text class ≡ true → is_content_text x ≡ true → is_content_text y ≡ true → is_content_text text ≡ true
    → IsContent (element (codes "text") (named_value (codes "class") class ∷ named_value (codes "x") x ∷ named_value (codes "y") y ∷ []) text)
class_text class x y text named right also inner =
    IsContent-element (codes "text") (named_value (codes "class") class ∷ named_value (codes "x") x ∷ named_value (codes "y") y ∷ []) text
    (tag (codes "text") (named_value (codes "class") class ∷ named_value (codes "x") x ∷ named_value (codes "y") y ∷ []) refl refl
    (refl, named, (refl, right, (refl, also, tt))))
    (IsContent-text text inner)

label_is : (x y text : List ℕ) → element (codes "text") (named_value (codes "x") x ∷ named_value (codes "y") y ∷ []) text
    ≡ codes "<text x=\"" ++ (x ++ (codes "\" y=\"" ++ (y ++ (codes "\">" ++ (text ++ codes "</text>")))))
label_is x y text =
    same_text (element_pieces (codes "text") (valued (codes "x") x ∷ valued (codes "y") y ∷ []) (one text))
    (row_of (codes "<text x=\"") (x ∷ codes "\" y=\"" ∷ y ∷ codes "\">" ∷ text ∷ codes "</text>" ∷ [])) refl

IsContent-label : (m : RowMark) (e : Event) (l : Line) → HasFields e → IsContent (label_of_row m e l)
IsContent-label m e l has =
    subst IsContent (label_is (decimal (label_x m)) (decimal (label_y m)) (label_text e l))
    (placed_text (decimal (label_x m)) (decimal (label_y m)) (label_text e l) (decimal_content (label_x m)) (decimal_content (label_y m)) (label_content e l has))

-- ---- the row

-- a title without attributes
pub plain_element : (name text : List ℕ) → is_tag_name name ≡ true → is_content_text text ≡ true → IsContent (element name [] text)
plain_element name text named right = IsContent-element name [] text (tag name [] named refl tt) (IsContent-text text right)

-- the band of a row
band : (y : List ℕ) → is_content_text y ≡ true
    → IsContent (empty_element (codes "rect") (named_value (codes "y") y ∷ named_value (codes "width") (codes "100%") ∷ named_value (codes "height") (codes "28") ∷ []))
band y right =
    IsContent-empty (codes "rect") (named_value (codes "y") y ∷ named_value (codes "width") (codes "100%") ∷ named_value (codes "height") (codes "28") ∷ [])
    (tag (codes "rect") (named_value (codes "y") y ∷ named_value (codes "width") (codes "100%") ∷ named_value (codes "height") (codes "28") ∷ []) refl refl
    (refl, right, (refl, refl, (refl, refl, tt))))

-- what stands within a row whose places and label are these
inner_of : (number words top base places label : List ℕ) → List ℕ
inner_of number words top base places label =
    element (codes "title") [] (number ++ words)
    ++ (empty_element (codes "rect") (named_value (codes "y") top ∷ named_value (codes "width") (codes "100%") ∷ named_value (codes "height") (codes "28") ∷ [])
    ++ (element (codes "text") (named_value (codes "class") (codes "number") ∷ named_value (codes "x") (codes "44") ∷ named_value (codes "y") base ∷ []) number
    ++ (places ++ label)))

row_is : (class number words top base places label : List ℕ)
    → element (codes "g") (named_value (codes "class") class ∷ []) (inner_of number words top base places label) ++ codes "\n"
    ≡ ((codes "<g class=\"" ++ (class ++ (codes "\"><title>" ++ (number ++ (words ++ codes "</title>")))))
    ++ ((codes "<rect y=\"" ++ (top ++ codes "\" width=\"100%\" height=\"28\"/>"))
    ++ (codes "<text class=\"number\" x=\"44\" y=\"" ++ (base ++ (codes "\">" ++ (number ++ codes "</text>"))))))
    ++ (places ++ (label ++ codes "</g>\n"))
unfolding inner_of
row_is class number words top base places label =
    same_text
    (both (element_pieces (codes "g") (valued (codes "class") class ∷ [])
    (both (element_pieces (codes "title") [] (both (one number) (one words)))
    (both (empty_pieces (codes "rect") (valued (codes "y") top ∷ valued (codes "width") (codes "100%") ∷ valued (codes "height") (codes "28") ∷ []))
    (both (element_pieces (codes "text") (valued (codes "class") (codes "number") ∷ valued (codes "x") (codes "44") ∷ valued (codes "y") base ∷ []) (one number))
    (both (one places) (one label)))))) (one (codes "\n")))
    (both
    (both (row_of (codes "<g class=\"") (class ∷ codes "\"><title>" ∷ number ∷ words ∷ codes "</title>" ∷ []))
    (both (row_of (codes "<rect y=\"") (top ∷ codes "\" width=\"100%\" height=\"28\"/>" ∷ []))
    (row_of (codes "<text class=\"number\" x=\"44\" y=\"") (base ∷ codes "\">" ∷ number ∷ codes "</text>" ∷ []))))
    (row_of places (label ∷ codes "</g>\n" ∷ []))) refl

inner_content : (number words top base places label : List ℕ) → is_content_text number ≡ true → is_content_text words ≡ true → is_content_text top ≡ true
    → is_content_text base ≡ true → IsContent places → IsContent label → IsContent (inner_of number words top base places label)
unfolding inner_of
inner_content number words top base places label n w t b p l =
    IsContent-append _ (plain_element (codes "title") (number ++ words) refl (both_content number words n w))
    (IsContent-append _ (band top t)
    (IsContent-append _ (class_text (codes "number") (codes "44") base number refl refl b n)
    (IsContent-append label p l)))

IsContent-row : (m : RowMark) (e : Event) (l : Line) → HasFields e → IsLine l → IsContent (marked_row m e l)
IsContent-row m e l has is =
    let inner = inner_of (decimal m.row) (spaced (told_words l)) (decimal (row_top m.row)) (decimal (row_axis m.row + 4)) (flat_map place_text (places_of m)) (label_of_row m e l) in
    subst IsContent (row_is (class_name m.kind) (decimal m.row) (spaced (told_words l)) (decimal (row_top m.row)) (decimal (row_axis m.row + 4))
    (flat_map place_text (places_of m)) (label_of_row m e l))
    (IsContent-append (codes "\n")
    (IsContent-element (codes "g") (named_value (codes "class") (class_name m.kind) ∷ []) inner
    (tag (codes "g") (named_value (codes "class") (class_name m.kind) ∷ []) refl refl (refl, class_content m.kind, tt))
    (inner_content (decimal m.row) (spaced (told_words l)) (decimal (row_top m.row)) (decimal (row_axis m.row + 4)) (flat_map place_text (places_of m)) (label_of_row m e l)
    (decimal_content m.row) (spaced_content (told_words l) (told_content l is)) (decimal_content (row_top m.row)) (decimal_content (row_axis m.row + 4))
    (IsContent-each place_text IsContent-place (places_of m)) (IsContent-label m e l has)))
    (IsContent-text (codes "\n") refl))

pub IsContent-rows : (nodes : List NodeLine) (all : List Event) (row : ℕ) (events : List Event) (lines : List Line) → All (IsScriptEvent nodes) events → All IsLine lines
    → IsContent (rows_from all row events lines)
IsContent-rows nodes all row [] lines are told = nothing
IsContent-rows nodes all row (e ∷ events) [] are told = nothing
IsContent-rows nodes all row (e ∷ events) (l ∷ lines) are told =
    IsContent-append (rows_from all (row + 1) events lines)
    (IsContent-row (row_mark all row e l) e l (All-head (IsScriptEvent nodes) e events are).fields (All-head IsLine l lines told))
    (IsContent-rows nodes all (row + 1) events lines (All-tail (IsScriptEvent nodes) e events are) (All-tail IsLine l lines told))
