-- The lines of a map of `endpoint`: which frames a node takes, and where its answers go
use Rattle.std.specs.Prelude.{ℕ, ◌+◌, ◌&&◌, not, nat_lt, Bool, true, if◌then◌else◌, List, length, codes, Option, None, Some, option_and_then, Result, Ok}
use Rattle.std.specs.List.{list_any, position}
use Rattle.std.specs.Option.{ok_or}
use Rattle.std.specs.Str.{bytes_eq}
use Rattle.text_lines.specs.declared.fault.Cause.{Cause}
use Rattle.text_lines.specs.declared.fault.Cause.TheVariants as cause
use Rattle.text_lines.specs.Forms.{number_form}
use Rattle.text_lines.specs.Readings.{Fault, nth_word, field, with_count, read_all, ◌>>=◌}
use Rattle.secoc_words.specs.Forms.{data_id_form}
use Rattle.freshness_routes.specs.declared.routes.Direction.{Direction}
use Rattle.freshness_routes.specs.declared.routes.Direction.TheVariants.{Sends, Receives}
use Rattle.freshness_routes.specs.declared.routes.Route.{Route}
use Rattle.bus_machine.specs.Node.{place_in}
use Rattle.can_logs.specs.MapLines.{can_form, hears}
use Rattle.can_logs.specs.Frames.{is_data_can}
use Rattle.endpoint_commands.specs.declared.rules.FrameRule.{FrameRule}

-- ---- a line: `send CANID ID LEN FROM TO` or `receive CANID ID LEN FROM TO`

-- the first word: the node sends the data of these frames, or receives them
unfoldable pub rule_direction_form : List ℕ → Option Direction
rule_direction_form word =
    if bytes_eq word (codes "send") then Some Sends
    else if bytes_eq word (codes "receive") then Some Receives
    else None

-- FROM and TO: the name of a channel; `-` names none, and as FROM means any
abbrev pub named_channel : List ℕ → Option (List ℕ)
named_channel word = if bytes_eq word (codes "-") then None else Some word

-- a frame can come on both of two FROMs: they are the same channel, or one of them is any
abbrev pub may_meet : Option (List ℕ) → Option (List ℕ) → Bool
may_meet None other = true
may_meet (Some own) None = true
may_meet (Some own) (Some other) = bytes_eq own other

-- a rule takes frames of this CAN identifier that may come on this FROM, too
abbrev pub takes_also : List ℕ → Option (List ℕ) → FrameRule → Bool
takes_also can from rule = bytes_eq rule.can can && may_meet rule.from from

-- a CAN identifier that some data frame can have, and of which no rule before takes a frame that may come on this FROM
abbrev pub is_free_can : List FrameRule → Option (List ℕ) → List ℕ → Bool
is_free_can before from can = is_data_can can && not (list_any (takes_also can from) before)

-- CANID: such a CAN identifier
unfoldable pub free_can_form : List FrameRule → Option (List ℕ) → List ℕ → Option (List ℕ)
free_can_form before from word =
    option_and_then (λ can. if is_free_can before from can then Some can else None) (can_form word)

-- ID: the Data ID of a route in this direction
unfoldable pub routed_id_form : List Route → Direction → List ℕ → Option ℕ
routed_id_form routes direction word =
    option_and_then (λ id. if nat_lt (place_in routes id direction) (length routes) then Some id else None)
    (data_id_form word)

-- the rule of a line with this first word, over a node with these routes
unfoldable pub rule_with : List Route → List FrameRule → Direction → List (List ℕ) → Result FrameRule Cause
rule_with routes before direction words = do
  can ← field 2 (free_can_form before (named_channel (nth_word words 5)) (nth_word words 2))
  id ← field 3 (routed_id_form routes direction (nth_word words 3))
  size ← field 4 (number_form 1 60 (nth_word words 4))
  to ← field 6 (named_channel (nth_word words 6))
  Ok (record {
    direction = direction;
    can = can;
    id = id;
    size = size;
    from = named_channel (nth_word words 5);
    to = to;
  })

-- the rule of a line behind those of the lines before it
unfoldable pub rule_of : List Route → List FrameRule → List (List ℕ) → Result FrameRule Cause
rule_of routes before words = do
  direction ← ok_or (rule_direction_form (nth_word words 1)) cause.Event
  with_count 6 words (rule_with routes before direction words)

-- ---- a map

-- the most lines that a map has
abbrev pub most_rules : ℕ
most_rules = 512

-- the rules of a map over a node with these routes, or its first fault
unfoldable pub rules_of : List Route → List ℕ → Result (List FrameRule) Fault
rules_of routes text = read_all (rule_of routes) most_rules text

-- ---- a frame

-- a rule takes a frame of this CAN identifier on this channel
abbrev pub takes_frame : List ℕ → List ℕ → FrameRule → Bool
takes_frame can channel rule = bytes_eq rule.can can && hears rule.from channel

-- the place of the rule that takes it, counted from 0
abbrev pub place_of_rule : List FrameRule → List ℕ → List ℕ → Option ℕ
place_of_rule rules can channel = position (takes_frame can channel) rules

-- how many of its first data bytes the rule takes: the payload, and of a frame that is received the four bytes behind
-- it, too
abbrev pub size_by : Direction → ℕ → ℕ
size_by Sends size = size
size_by Receives size = size + 4

abbrev pub taken_size : FrameRule → ℕ
taken_size rule = size_by rule.direction rule.size
