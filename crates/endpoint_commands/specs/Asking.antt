-- What a line of a log asks of a node, and the event of the machine that this is
use Rattle.std.specs.Prelude.{ℕ, ◌<◌, ◌≤◌, ◌==◌, ◌&&◌, nat_lt, if◌then◌else◌, List, [], length, take, codes, slice_index_or, Option, None, Some, option_and_then, option_map}
use Rattle.std.specs.Str.{bytes_eq}
use Rattle.text_lines.specs.Lines.{words_of, is_skipped}
use Rattle.text_lines.specs.Readings.{nth_word}
use Rattle.secoc_words.specs.Forms.{key_form, two_form}
use Rattle.memory_update.specs.declared.messages.Request.{Request}
use Rattle.freshness_routes.specs.declared.routes.Direction.{Direction}
use Rattle.freshness_routes.specs.declared.routes.Direction.TheVariants.{Sends, Receives}
use Rattle.bus_machine.specs.declared.events.Event.{Event}
use Rattle.bus_machine.specs.declared.events.Event.TheVariants as event
use Rattle.can_logs.specs.declared.frames.LogFrame.{LogFrame}
use Rattle.can_logs.specs.Frames.{log_frame_of}
use Rattle.line_stream.specs.Pieces.{line_limit}
use Rattle.endpoint_commands.specs.declared.rules.FrameRule.{FrameRule}
use Rattle.endpoint_commands.specs.declared.asking.Asked.{Asked}
use Rattle.endpoint_commands.specs.declared.asking.Asked.TheVariants.{Nothing, Other, Frame, Load}
use Rattle.endpoint_commands.specs.Rules.{place_of_rule, taken_size}

-- ---- what a line asks

-- `load M1 M2 M3`
unfoldable pub request_form : List (List ℕ) → Option Request
request_form words =
    if length words == 4 && bytes_eq (nth_word words 1) (codes "load")
    then option_and_then (λ m1. option_and_then (λ m2. option_map (λ m3. record { m1 = m1; m2 = m2; m3 = m3 })
    (key_form (nth_word words 4))) (two_form (nth_word words 3))) (key_form (nth_word words 2))
    else None

-- a frame that the rule at this place takes, or none
abbrev pub asked_at : List ℕ → Option ℕ → Asked
asked_at bytes None = Other
asked_at bytes (Some place) = Frame place bytes

-- a frame on this channel, or none
abbrev pub asked_on_channel : List FrameRule → List ℕ → Option LogFrame → Asked
asked_on_channel rules channel None = Other
asked_on_channel rules channel (Some frame) = asked_at frame.bytes (place_of_rule rules frame.can channel)

-- a request, or else what these words are as a frame
abbrev pub asked_first : Option Request → Asked → Asked
asked_first (Some request) asked = Load request
asked_first None asked = asked

-- the words of a line that isn't skipped
unfoldable pub asked_of_words : List FrameRule → List (List ℕ) → Asked
asked_of_words rules words =
    asked_first (request_form words) (asked_on_channel rules (nth_word words 2) (log_frame_of words))

-- a line of a log: another one where it is too long, and nothing where it is skipped
unfoldable pub asked_of_line : List FrameRule → List ℕ → Asked
asked_of_line rules bytes =
    if nat_lt line_limit (length bytes) then Other
    else if is_skipped (words_of bytes) then Nothing
    else asked_of_words rules (words_of bytes)

-- ---- the event that this is for the one node of the bus

-- the rule at a place; past the last one of no frame
abbrev pub no_rule : FrameRule
no_rule = record { direction = Sends; can = []; id = 0; size = 1; from = None; to = [] }

abbrev pub rule_at : List FrameRule → ℕ → FrameRule
rule_at rules place = slice_index_or rules place no_rule

-- the node sends these bytes under a Data ID, or receives them
abbrev pub event_under : Direction → ℕ → List ℕ → Event
event_under Sends id bytes = event.Send 0 id bytes
event_under Receives id bytes = event.Inject 0 id bytes

-- the rule's event for the first of these data bytes
abbrev pub frame_event : FrameRule → List ℕ → Event
frame_event rule bytes = event_under rule.direction rule.id (take (taken_size rule) bytes)

-- the event that is asked for: none where a frame has fewer data bytes than its rule takes
unfoldable pub event_asked : List FrameRule → Asked → Option Event
event_asked rules (Frame place bytes) =
    if nat_lt (length bytes) (taken_size (rule_at rules place)) then None
    else Some (frame_event (rule_at rules place) bytes)
event_asked rules (Load request) = Some (event.Load 0 request)
event_asked rules _ = None

-- a frame's rule is one of so many, and its line has three words at least, of so many
abbrev pub IsWithin : ℕ → ℕ → Asked → Type 0
IsWithin rules words (Frame place bytes) = (place < rules) × (3 ≤ words)
IsWithin rules words asked = Unit {0}
