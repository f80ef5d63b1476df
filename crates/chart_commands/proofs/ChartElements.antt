-- The whole of a chart is a document
use Rattle.std.specs.Prelude.{◌≡◌, ℕ, ◌+◌, ◌-◌, ◌*◌, true, false, filter, List, [], ◌∷◌, ◌++◌, All, length, codes, count_by}
use Rattle.std.specs.List.{flat_map, range_with_len}
use Rattle.std.specs.Fmt.{decimal}
use Rattle.std.proofs.Common.{refl, sym, ap, ◌∙◌, subst, append_assoc}
use Rattle.std.proofs.lemmas.List.Elements.{All-head, All-tail}
use Rattle.bus_machine.specs.declared.events.Event.{Event}
use Rattle.bus_machine.specs.declared.lines.Line.{Line}
use Rattle.bus_config.specs.declared.node_lines.NodeLine.{NodeLine}
use Rattle.bus_config.specs.Buses.{NamedBus, IsNodeLine, IsNamedBus}
use Rattle.bus_machine.specs.LineKinds.{IsLine}
use Rattle.bus_script.specs.ScriptEvents.{IsScriptEvent}
use Rattle.bus_machine.specs.Tells.{tells_sent, tells_accepted, tells_failed_verdict, tells_keyed, tells_up, tells_refused}
use Rattle.chart_commands.specs.declared.lifelines.Stretch.{Stretch}
use Rattle.chart_commands.specs.Places.{lifeline_x, head_count, head_top, chart_width, chart_height}
use Rattle.chart_commands.specs.Marks.{row_marks}
use Rattle.chart_commands.specs.Lifelines.{lifeline_of}
use Rattle.chart_commands.specs.declared.constants.TheConstants.{STYLE, LEGEND}
use Rattle.chart_commands.specs.Grammar.{is_content_text, Attribute, attribute_text, IsContent, nothing, element, empty_element, IsDocument}
use Rattle.chart_commands.specs.ChartTexts.{rows_text, stretch_text, is_among, life_strokes, life_path, lifeline_text, name_box, name_boxes, header_text, four_numbers, three_numbers, chart_counts, opening_text, page_text, sized_chart, chart_text}
use Rattle.chart_commands.proofs.Contents.{both_content, decimal_content, name_content}
use Rattle.chart_commands.proofs.Joined.{one, both, same_text, row_of, valued, attributes_pieces, empty_pieces, element_pieces}
use Rattle.chart_commands.proofs.Elements.{named_value, tag, IsContent-append, IsContent-text, IsContent-empty, IsContent-element, IsContent-each}
use Rattle.chart_commands.proofs.RowElements.{class_path, placed_text, class_text, plain_element, IsContent-rows}

-- ---- lifelines

stroke_content : (node : ℕ) (s : Stretch) → is_content_text (stretch_text node s) ≡ true
stroke_content node s =
    both_content (codes "M") (decimal (lifeline_x node) ++ (codes " " ++ (decimal s.from ++ (codes "V" ++ decimal s.to)))) refl
    (both_content (decimal (lifeline_x node)) (codes " " ++ (decimal s.from ++ (codes "V" ++ decimal s.to))) (decimal_content (lifeline_x node))
    (both_content (codes " ") (decimal s.from ++ (codes "V" ++ decimal s.to)) refl
    (both_content (decimal s.from) (codes "V" ++ decimal s.to) (decimal_content s.from)
    (both_content (codes "V") (decimal s.to) refl (decimal_content s.to)))))

strokes_content : (node : ℕ) (drawn : List Stretch) → is_content_text (flat_map (stretch_text node) drawn) ≡ true
strokes_content node [] = refl
strokes_content node (s ∷ drawn) = both_content (stretch_text node s) (flat_map (stretch_text node) drawn) (stroke_content node s) (strokes_content node drawn)

life_is : (class strokes : List ℕ) → empty_element (codes "path") (named_value (codes "class") class ∷ named_value (codes "d") strokes ∷ [])
    ≡ codes "<path class=\"" ++ (class ++ (codes "\" d=\"" ++ (strokes ++ codes "\"/>")))
life_is class strokes =
    same_text (empty_pieces (codes "path") (valued (codes "class") class ∷ valued (codes "d") strokes ∷ []))
    (row_of (codes "<path class=\"") (class ∷ codes "\" d=\"" ∷ strokes ∷ codes "\"/>" ∷ [])) refl

IsContent-life : (class strokes : List ℕ) → is_content_text class ≡ true → is_content_text strokes ≡ true → IsContent (life_path class strokes)
IsContent-life class [] named right = nothing
IsContent-life class (stroke ∷ strokes) named right =
    subst IsContent (life_is class (stroke ∷ strokes)) (class_path class (stroke ∷ strokes) named right)

IsContent-lifeline : (events : List Event) (lines : List Line) (node : ℕ) → IsContent (lifeline_text events lines node)
IsContent-lifeline events lines node =
    let drawn = lifeline_of node events lines in
    IsContent-append (life_path (codes "down") (life_strokes node true drawn) ++ codes "\n")
    (IsContent-life (codes "up") (life_strokes node false drawn) refl (strokes_content node (filter (is_among false) drawn)))
    (IsContent-append (codes "\n")
    (IsContent-life (codes "down") (life_strokes node true drawn) refl (strokes_content node (filter (is_among true) drawn)))
    (IsContent-text (codes "\n") refl))

-- ---- headers

abbrev box_of : (x y width : List ℕ) → List Attribute
box_of x y width =
    named_value (codes "x") x ∷ named_value (codes "y") y ∷ named_value (codes "width") width
    ∷ named_value (codes "height") (codes "26") ∷ named_value (codes "rx") (codes "4") ∷ []

box_is : (left top width x base name : List ℕ)
    → empty_element (codes "rect") (box_of left top width)
    ++ element (codes "text") (named_value (codes "x") x ∷ named_value (codes "y") base ∷ []) name
    ≡ (codes "<rect x=\"" ++ (left ++ (codes "\" y=\"" ++ (top ++ (codes "\" width=\"" ++ (width ++ codes "\" height=\"26\" rx=\"4\"/>"))))))
    ++ (codes "<text x=\"" ++ (x ++ (codes "\" y=\"" ++ (base ++ (codes "\">" ++ (name ++ codes "</text>"))))))
box_is left top width x base name =
    same_text
    (both (empty_pieces (codes "rect") (valued (codes "x") left ∷ valued (codes "y") top ∷ valued (codes "width") width
    ∷ valued (codes "height") (codes "26") ∷ valued (codes "rx") (codes "4") ∷ []))
    (element_pieces (codes "text") (valued (codes "x") x ∷ valued (codes "y") base ∷ []) (one name)))
    (both (row_of (codes "<rect x=\"") (left ∷ codes "\" y=\"" ∷ top ∷ codes "\" width=\"" ∷ width ∷ codes "\" height=\"26\" rx=\"4\"/>" ∷ []))
    (row_of (codes "<text x=\"") (x ∷ codes "\" y=\"" ∷ base ∷ codes "\">" ∷ name ∷ codes "</text>" ∷ []))) refl

IsContent-box : (block node : ℕ) (name : List ℕ) → is_content_text name ≡ true → IsContent (name_box block node name)
IsContent-box block node name right =
    let left = decimal (lifeline_x node - 4 * length name - 8) in
    let top = decimal (head_top block + 4) in
    let width = decimal (8 * length name + 16) in
    let x = decimal (lifeline_x node) in
    let base = decimal (head_top block + 21) in
    subst IsContent (box_is left top width x base name)
    (IsContent-append (element (codes "text") (named_value (codes "x") x ∷ named_value (codes "y") base ∷ []) name)
    (IsContent-empty (codes "rect") (box_of left top width)
    (tag (codes "rect") (box_of left top width) refl refl (
      refl,
      decimal_content (lifeline_x node - 4 * length name - 8),
      (
        refl,
        decimal_content (head_top block + 4),
        (refl, decimal_content (8 * length name + 16), (refl, refl, (refl, refl, tt))),
      ),
    )))
    (placed_text x base name (decimal_content (lifeline_x node)) (decimal_content (head_top block + 21)) right))

IsContent-boxes : (block node : ℕ) (nodes : List NodeLine) → All IsNodeLine nodes → IsContent (name_boxes block node nodes)
IsContent-boxes block node [] are = nothing
IsContent-boxes block node (n ∷ nodes) are =
    IsContent-append (name_boxes block (node + 1) nodes)
    (IsContent-box block node n.name (name_content n.name (All-head IsNodeLine n nodes are).named))
    (IsContent-boxes block (node + 1) nodes (All-tail IsNodeLine n nodes are))

header_is : (boxes : List ℕ) → element (codes "g") (named_value (codes "class") (codes "head") ∷ []) boxes ++ codes "\n"
    ≡ codes "<g class=\"head\">" ++ (boxes ++ codes "</g>\n")
header_is boxes = simp append_assoc

IsContent-header : (nodes : List NodeLine) → All IsNodeLine nodes → (block : ℕ) → IsContent (header_text nodes block)
IsContent-header nodes are block =
    subst IsContent (header_is (name_boxes block 0 nodes))
    (IsContent-append (codes "\n")
    (IsContent-element (codes "g") (named_value (codes "class") (codes "head") ∷ []) (name_boxes block 0 nodes)
    (tag (codes "g") (named_value (codes "class") (codes "head") ∷ []) refl refl (refl, refl, tt))
    (IsContent-boxes block 0 nodes are))
    (IsContent-text (codes "\n") refl))

-- ---- the counts and the legend

counted : (name rest : List ℕ) (n : ℕ) → is_content_text name ≡ true → is_content_text rest ≡ true → is_content_text (name ++ (decimal n ++ rest)) ≡ true
counted name rest n h k = both_content name (decimal n ++ rest) h (both_content (decimal n) rest (decimal_content n) k)

last_counted : (name : List ℕ) (n : ℕ) → is_content_text name ≡ true → is_content_text (name ++ decimal n) ≡ true
last_counted name n h = both_content name (decimal n) h (decimal_content n)

counts_content : (events : ℕ) (lines : List Line) → is_content_text (chart_counts events lines) ≡ true
counts_content events lines =
    both_content
    (four_numbers events (count_by tells_sent lines) (count_by tells_accepted lines) (count_by tells_failed_verdict lines))
    (three_numbers (count_by tells_keyed lines) (count_by tells_up lines) (count_by tells_refused lines))
    (counted (codes "events ") _ events refl
    (counted (codes ", sent ") _ (count_by tells_sent lines) refl
    (counted (codes ", accepted ") _ (count_by tells_accepted lines) refl
    (last_counted (codes ", failures ") (count_by tells_failed_verdict lines) refl))))
    (counted (codes ", keyed ") _ (count_by tells_keyed lines) refl
    (counted (codes ", cuts ") _ (count_by tells_up lines) refl
    (last_counted (codes ", refused ") (count_by tells_refused lines) refl)))

-- a line of the legend: a group with a class, of one path and a text
legend_line : (class strokes x text : List ℕ) → List ℕ
legend_line class strokes x text =
    element (codes "g") (named_value (codes "class") class ∷ [])
    (empty_element (codes "path") (named_value (codes "d") strokes ∷ [])
    ++ element (codes "text") (named_value (codes "x") x ∷ named_value (codes "y") (codes "76") ∷ []) text)
    ++ codes "\n"

IsContent-legend_line : (class strokes x text : List ℕ) → is_content_text class ≡ true → is_content_text strokes ≡ true → is_content_text x ≡ true
    → is_content_text text ≡ true → IsContent (legend_line class strokes x text)
unfolding legend_line
IsContent-legend_line class strokes x text named right place inner =
    IsContent-append (codes "\n")
    (IsContent-element (codes "g") (named_value (codes "class") class ∷ []) _
    (tag (codes "g") (named_value (codes "class") class ∷ []) refl refl (refl, named, tt))
    (IsContent-append _
    (IsContent-empty (codes "path") (named_value (codes "d") strokes ∷ [])
    (tag (codes "path") (named_value (codes "d") strokes ∷ []) refl refl (refl, right, tt)))
    (placed_text x (codes "76") text place refl inner)))
    (IsContent-text (codes "\n") refl)

outside_line : List ℕ
outside_line =
    element (codes "g") []
    (empty_element (codes "path") (named_value (codes "d") (codes "M354 66v12") ∷ [])
    ++ (empty_element (codes "path") (named_value (codes "d") (codes "M354 72h28m-8-5l8 5l-8 5") ∷ [])
    ++ element (codes "text") (named_value (codes "x") (codes "390") ∷ named_value (codes "y") (codes "76") ∷ []) (codes "from outside")))
    ++ codes "\n"

down_line : List ℕ
down_line =
    empty_element (codes "path") (named_value (codes "class") (codes "down") ∷ named_value (codes "d") (codes "M702 60V84") ∷ [])
    ++ (element (codes "text") (named_value (codes "x") (codes "718") ∷ named_value (codes "y") (codes "76") ∷ []) (codes "down")
    ++ codes "\n")

legend_is : legend_line (codes "sent") (codes "M24 72m-7 0a7 7 0 1 0 14 0a7 7 0 1 0-14 0z") (codes "38") (codes "sent")
    ++ (legend_line (codes "taken") (codes "M84 72h28m-8-5l8 5l-8 5") (codes "120") (codes "accepted")
    ++ (legend_line (codes "failed") (codes "M196 72h22m-6-6l12 12m0-12l-12 12") (codes "232") (codes "verdict failed")
    ++ (outside_line
    ++ (legend_line (codes "refused") (codes "M504 72m-9 0a9 9 0 1 0 18 0a9 9 0 1 0-18 0m4 0h10") (codes "518") (codes "refused")
    ++ (legend_line (codes "cut") (codes "M596 72m5-14l-14 16h6l-4 12l14-16h-6z") (codes "610") (codes "power cut")
    ++ down_line)))))
    ≡ LEGEND.now
unfolding legend_line outside_line down_line
legend_is = refl

outside_path : (strokes : List ℕ) → is_content_text strokes ≡ true → IsContent (empty_element (codes "path") (named_value (codes "d") strokes ∷ []))
outside_path strokes right =
    IsContent-empty (codes "path") (named_value (codes "d") strokes ∷ [])
    (tag (codes "path") (named_value (codes "d") strokes ∷ []) refl refl (refl, right, tt))

IsContent-outside : IsContent outside_line
unfolding outside_line
IsContent-outside =
    IsContent-append (codes "\n")
    (IsContent-element (codes "g") [] _ (tag (codes "g") [] refl refl tt)
    (IsContent-append _ (outside_path (codes "M354 66v12") refl)
    (IsContent-append _ (outside_path (codes "M354 72h28m-8-5l8 5l-8 5") refl)
    (placed_text (codes "390") (codes "76") (codes "from outside") refl refl refl))))
    (IsContent-text (codes "\n") refl)

IsContent-down : IsContent down_line
unfolding down_line
IsContent-down =
    IsContent-append _ (class_path (codes "down") (codes "M702 60V84") refl refl)
    (IsContent-append (codes "\n") (placed_text (codes "718") (codes "76") (codes "down") refl refl refl) (IsContent-text (codes "\n") refl))

IsContent-legend : IsContent LEGEND.now
IsContent-legend =
    subst IsContent legend_is
    (IsContent-append _ (IsContent-legend_line (codes "sent") (codes "M24 72m-7 0a7 7 0 1 0 14 0a7 7 0 1 0-14 0z") (codes "38") (codes "sent") refl refl refl refl)
    (IsContent-append _ (IsContent-legend_line (codes "taken") (codes "M84 72h28m-8-5l8 5l-8 5") (codes "120") (codes "accepted") refl refl refl refl)
    (IsContent-append _ (IsContent-legend_line (codes "failed") (codes "M196 72h22m-6-6l12 12m0-12l-12 12") (codes "232") (codes "verdict failed") refl refl refl refl)
    (IsContent-append _ IsContent-outside
    (IsContent-append _ (IsContent-legend_line (codes "refused") (codes "M504 72m-9 0a9 9 0 1 0 18 0a9 9 0 1 0-18 0m4 0h10") (codes "518") (codes "refused") refl refl refl refl)
    (IsContent-append _ (IsContent-legend_line (codes "cut") (codes "M596 72m5-14l-14 16h6l-4 12l14-16h-6z") (codes "610") (codes "power cut") refl refl refl refl)
    IsContent-down))))))

-- ---- the whole

abbrev svg_of : (width height : List ℕ) → List Attribute
svg_of width height =
    named_value (codes "xmlns") (codes "http://www.w3.org/2000/svg") ∷ named_value (codes "width") width ∷ named_value (codes "height") height
    ∷ named_value (codes "viewBox") (codes "0 0 " ++ (width ++ (codes " " ++ height))) ∷ []

abbrev page_of : (width height : List ℕ) → List Attribute
page_of width height = named_value (codes "class") (codes "page") ∷ named_value (codes "width") width ∷ named_value (codes "height") height ∷ []

-- what the chart tells before its page, and then
front_of : (style : List ℕ) → List ℕ
front_of style =
    codes "\n" ++ (element (codes "title") [] (codes "A run of the bus")
    ++ (codes "\n" ++ (element (codes "desc") []
    (codes "One lifeline a node, one row an event. " ++ codes "An arrow leads from the row of what was sent, along the lifeline of its sender, to the receiver.")
    ++ (codes "\n" ++ (element (codes "style") [] style ++ codes "\n")))))

behind_front : (width height counts legend rest : List ℕ) → List ℕ
behind_front width height counts legend rest =
    empty_element (codes "rect") (page_of width height)
    ++ (codes "\n" ++ (element (codes "text") (named_value (codes "class") (codes "name") ∷ named_value (codes "x") (codes "16") ∷ named_value (codes "y") (codes "28") ∷ []) (codes "A run of the bus")
    ++ (element (codes "text") (named_value (codes "x") (codes "16") ∷ named_value (codes "y") (codes "50") ∷ []) counts
    ++ (codes "\n" ++ (legend ++ rest)))))

-- the texts of an opening and a page, over their parts
opening_is : (width height style rest : List ℕ)
    → codes "<" ++ (codes "svg" ++ (flat_map attribute_text (svg_of width height) ++ (codes ">" ++ (front_of style ++ rest))))
    ≡ ((codes "<svg xmlns=\"http://www.w3.org/2000/svg\" width=\"" ++ (width ++ (codes "\" height=\""
    ++ (height ++ (codes "\" viewBox=\"0 0 " ++ (width ++ (codes " " ++ (height ++ codes "\">\n"))))))))
    ++ (codes "<title>A run of the bus</title>\n<desc>One lifeline a node, one row an event. "
    ++ (codes "An arrow leads from the row of what was sent, along the lifeline of its sender, to the receiver."
    ++ (codes "</desc>\n<style>" ++ (style ++ codes "</style>\n"))))) ++ rest
unfolding front_of
opening_is width height style rest =
    same_text
    (both (one (codes "<")) (both (one (codes "svg")) (both (attributes_pieces (valued (codes "xmlns") (codes "http://www.w3.org/2000/svg")
    ∷ valued (codes "width") width ∷ valued (codes "height") height
    ∷ record { name = codes "viewBox"; value = row_of (codes "0 0 ") (width ∷ codes " " ∷ height ∷ []) } ∷ []))
    (both (one (codes ">")) (both
    (both (one (codes "\n")) (both (element_pieces (codes "title") [] (one (codes "A run of the bus")))
    (both (one (codes "\n")) (both (element_pieces (codes "desc") []
    (both (one (codes "One lifeline a node, one row an event. "))
    (one (codes "An arrow leads from the row of what was sent, along the lifeline of its sender, to the receiver."))))
    (both (one (codes "\n")) (both (element_pieces (codes "style") [] (one style)) (one (codes "\n"))))))))
    (one rest))))))
    (both (both (row_of (codes "<svg xmlns=\"http://www.w3.org/2000/svg\" width=\"") (width ∷ codes "\" height=\"" ∷ height
    ∷ codes "\" viewBox=\"0 0 " ∷ width ∷ codes " " ∷ height ∷ codes "\">\n" ∷ []))
    (row_of (codes "<title>A run of the bus</title>\n<desc>One lifeline a node, one row an event. ")
    (codes "An arrow leads from the row of what was sent, along the lifeline of its sender, to the receiver."
    ∷ codes "</desc>\n<style>" ∷ style ∷ codes "</style>\n" ∷ []))) (one rest)) refl

page_is : (width height counts legend rest : List ℕ)
    → behind_front width height counts legend rest
    ≡ ((codes "<rect class=\"page\" width=\"" ++ (width ++ (codes "\" height=\"" ++ (height ++ codes "\"/>\n"))))
    ++ (codes "<text class=\"name\" x=\"16\" y=\"28\">A run of the bus</text><text x=\"16\" y=\"50\">" ++ (counts
    ++ (codes "</text>\n" ++ legend)))) ++ rest
unfolding behind_front
page_is width height counts legend rest =
    same_text
    (both (empty_pieces (codes "rect") (valued (codes "class") (codes "page") ∷ valued (codes "width") width ∷ valued (codes "height") height ∷ []))
    (both (one (codes "\n")) (both (element_pieces (codes "text") (valued (codes "class") (codes "name") ∷ valued (codes "x") (codes "16") ∷ valued (codes "y") (codes "28") ∷ [])
    (one (codes "A run of the bus")))
    (both (element_pieces (codes "text") (valued (codes "x") (codes "16") ∷ valued (codes "y") (codes "50") ∷ []) (one counts))
    (both (one (codes "\n")) (both (one legend) (one rest)))))))
    (both (both (row_of (codes "<rect class=\"page\" width=\"") (width ∷ codes "\" height=\"" ∷ height ∷ codes "\"/>\n" ∷ []))
    (row_of (codes "<text class=\"name\" x=\"16\" y=\"28\">A run of the bus</text><text x=\"16\" y=\"50\">")
    (counts ∷ codes "</text>\n" ∷ legend ∷ []))) (one rest)) refl

document_is : (attributes front behind : List ℕ)
    → ((codes "<" ++ (codes "svg" ++ attributes)) ++ (codes ">" ++ ((front ++ behind) ++ (codes "</" ++ (codes "svg" ++ codes ">"))))) ++ 10 ∷ []
    ≡ codes "<" ++ (codes "svg" ++ (attributes ++ (codes ">" ++ (front ++ (behind ++ codes "</svg>\n")))))
document_is attributes front behind =
    same_text
    (both (both (both (one (codes "<")) (both (one (codes "svg")) (one attributes)))
    (both (one (codes ">")) (both (both (one front) (one behind)) (both (one (codes "</")) (both (one (codes "svg")) (one (codes ">")))))))
    (one (10 ∷ [])))
    (row_of (codes "<") (codes "svg" ∷ attributes ∷ codes ">" ∷ front ∷ behind ∷ codes "</svg>\n" ∷ [])) refl

end_is : (page lifes rows heads end : List ℕ) → (page ++ (lifes ++ (rows ++ heads))) ++ end ≡ page ++ (lifes ++ (rows ++ (heads ++ end)))
end_is page lifes rows heads end = simp append_assoc

style_content : is_content_text STYLE.now ≡ true
style_content = refl

IsContent-front : (style : List ℕ) → is_content_text style ≡ true → IsContent (front_of style)
unfolding front_of
IsContent-front style right =
    let desc : List ℕ = codes "One lifeline a node, one row an event. "
    ++ codes "An arrow leads from the row of what was sent, along the lifeline of its sender, to the receiver." in
    IsContent-append (element (codes "title") [] (codes "A run of the bus") ++ (codes "\n" ++ (element (codes "desc") [] desc ++ (codes "\n" ++ (element (codes "style") [] style ++ codes "\n")))))
    (IsContent-text (codes "\n") refl)
    (IsContent-append (codes "\n" ++ (element (codes "desc") [] desc ++ (codes "\n" ++ (element (codes "style") [] style ++ codes "\n"))))
    (plain_element (codes "title") (codes "A run of the bus") refl refl)
    (IsContent-append (element (codes "desc") [] desc ++ (codes "\n" ++ (element (codes "style") [] style ++ codes "\n")))
    (IsContent-text (codes "\n") refl)
    (IsContent-append (codes "\n" ++ (element (codes "style") [] style ++ codes "\n"))
    (plain_element (codes "desc") desc refl refl)
    (IsContent-append (element (codes "style") [] style ++ codes "\n")
    (IsContent-text (codes "\n") refl)
    (IsContent-append (codes "\n") (plain_element (codes "style") style refl right) (IsContent-text (codes "\n") refl))))))

IsContent-behind : (width height counts legend rest : List ℕ) → is_content_text width ≡ true → is_content_text height ≡ true → is_content_text counts ≡ true
    → IsContent legend → IsContent rest → IsContent (behind_front width height counts legend rest)
unfolding behind_front
IsContent-behind width height counts legend rest w h c l r =
    let after : IsContent (codes "\n" ++ (legend ++ rest)) =
    IsContent-append (legend ++ rest) (IsContent-text (codes "\n") refl) (IsContent-append rest l r) in
    let counts_and = IsContent-append (codes "\n" ++ (legend ++ rest)) (placed_text (codes "16") (codes "50") counts refl refl c) after in
    let title_and = IsContent-append
    (element (codes "text") (named_value (codes "x") (codes "16") ∷ named_value (codes "y") (codes "50") ∷ []) counts ++ (codes "\n" ++ (legend ++ rest)))
    (class_text (codes "name") (codes "16") (codes "28") (codes "A run of the bus") refl refl refl refl) counts_and in
    IsContent-append _
    (IsContent-empty (codes "rect") (page_of width height) (tag (codes "rect") (page_of width height) refl refl (refl, refl, (refl, w, (refl, h, tt)))))
    (IsContent-append _ (IsContent-text (codes "\n") refl) title_and)

-- what stands after the page
behind_page : NamedBus → List Event → List Line → List ℕ
behind_page bus events lines =
    flat_map (lifeline_text events lines) (range_with_len 0 (length bus.nodes))
    ++ (rows_text (row_marks events lines) events lines ++ flat_map (header_text bus.nodes) (range_with_len 0 (head_count (length events))))

sized_is : (width height : ℕ) (bus : NamedBus) (events : List Event) (lines : List Line)
    → element (codes "svg") (svg_of (decimal width) (decimal height))
    (front_of STYLE.now ++ behind_front (decimal width) (decimal height) (chart_counts (length events) lines) LEGEND.now (behind_page bus events lines)) ++ 10 ∷ []
    ≡ sized_chart width height bus events lines
unfolding behind_page
sized_is width height bus events lines =
    let counts : List ℕ = chart_counts (length events) lines in
    let behind : List ℕ = behind_front (decimal width) (decimal height) counts LEGEND.now (behind_page bus events lines) in
    document_is (flat_map attribute_text (svg_of (decimal width) (decimal height))) (front_of STYLE.now) behind
    ∙ opening_is (decimal width) (decimal height) STYLE.now (behind ++ codes "</svg>\n")
    ∙ ap (λ (xs : List ℕ). opening_text width height ++ (xs ++ codes "</svg>\n")) (page_is (decimal width) (decimal height) counts LEGEND.now (behind_page bus events lines))
    ∙ ap (λ (xs : List ℕ). opening_text width height ++ xs)
    (end_is (page_text width height counts) (flat_map (lifeline_text events lines) (range_with_len 0 (length bus.nodes))) (rows_text (row_marks events lines) events lines)
    (flat_map (header_text bus.nodes) (range_with_len 0 (head_count (length events)))) (codes "</svg>\n"))

pub IsDocument-chart : (bus : NamedBus) (events : List Event) (lines : List Line) → IsNamedBus bus → All (IsScriptEvent bus.nodes) events → All IsLine lines
    → IsDocument (chart_text bus events lines)
unfolding behind_page
IsDocument-chart bus events lines is are told =
    let width : ℕ = chart_width (length bus.nodes) in
    let height : ℕ = chart_height (length events) in
    let counts : List ℕ = chart_counts (length events) lines in
    let w = decimal_content width in
    let h = decimal_content height in
    record {
      name = codes "svg";
      attributes = svg_of (decimal width) (decimal height);
      content = front_of STYLE.now ++ behind_front (decimal width) (decimal height) counts LEGEND.now (behind_page bus events lines);
      tag = tag (codes "svg") (svg_of (decimal width) (decimal height)) refl refl (
        refl,
        refl,
        (
          refl,
          w,
          (
            refl,
            h,
            (
              refl,
              both_content (codes "0 0 ") (decimal width ++ (codes " " ++ decimal height)) refl
                  (both_content (decimal width) (codes " " ++ decimal height) w (both_content (codes " ") (decimal height) refl h)),
              tt,
            ),
          ),
        ),
      );
      inner = IsContent-append (behind_front (decimal width) (decimal height) counts LEGEND.now (behind_page bus events lines)) (IsContent-front STYLE.now style_content)
          (IsContent-behind (decimal width) (decimal height) counts LEGEND.now (behind_page bus events lines) w h (counts_content (length events) lines) IsContent-legend
          (IsContent-append (rows_text (row_marks events lines) events lines ++ flat_map (header_text bus.nodes) (range_with_len 0 (head_count (length events))))
          (IsContent-each (lifeline_text events lines) (IsContent-lifeline events lines) (range_with_len 0 (length bus.nodes)))
          (IsContent-append (flat_map (header_text bus.nodes) (range_with_len 0 (head_count (length events))))
          (IsContent-rows bus.nodes events 1 events lines are told)
          (IsContent-each (header_text bus.nodes) (IsContent-header bus.nodes is.are_nodes) (range_with_len 0 (head_count (length events)))))));
      is = sym (sized_is width height bus events lines);
    }
