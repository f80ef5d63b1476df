-- The lines of a log that a node took, as turns of the node alone
use Rattle.std.specs.Prelude.{◌≡◌, ℕ, ◌+◌, Bool, true, false, if◌then◌else◌, nat_lt, Option, None, Some, List, [], ◌∷◌, ◌++◌, length, map, take}
use Rattle.std.specs.Option.{option_to_list}
use Rattle.std.proofs.Common.{refl, sym, ap, ◌∙◌, subst}
use Rattle.std.proofs.lemmas.List.{map-append}
use Rattle.std.proofs.lemmas.Option.{same_Some, none-some}
use Rattle.machine_runs.specs.Run.{Moment, Run, commands_in, lines_in, seen_as}
use Rattle.machine_runs.proofs.CallerLemmas.{Run-append}
use Rattle.freshness_routes.specs.declared.routes.Direction.{Direction}
use Rattle.freshness_routes.specs.declared.routes.Direction.TheVariants.{Sends, Receives}
use Rattle.bus_machine.specs.declared.events.Event.{Event}
use Rattle.bus_machine.specs.declared.events.Event.TheVariants as event
use Rattle.bus_machine.specs.declared.lines.Line.{Line}
use Rattle.bus_machine.specs.declared.lines.Line.TheVariants.{Sent, Accepted, FreshnessFailure, VerificationFailure, Keyed, Loaded, Boot, Up, Armed, NoFrame, Refused}
use Rattle.bus_machine.specs.Bus.{World, Moments, sent_after}
use Rattle.secoc_node.specs.State.{NodeState}
use Rattle.endpoint_commands.specs.declared.rules.FrameRule.{FrameRule}
use Rattle.endpoint_commands.specs.declared.asking.Asked.{Asked}
use Rattle.endpoint_commands.specs.declared.asking.Asked.TheVariants.{Nothing, Other, Frame, Load}
use Rattle.endpoint_commands.specs.Alone.{TurnsAlone}
use Rattle.endpoint_commands.specs.Rules.{taken_size}
use Rattle.endpoint_commands.specs.Asking.{asked_of_line, event_asked, event_under, frame_event, rule_at}
use Rattle.endpoint_commands.specs.Running.{LineMoment, DoesEvent, TakesLine}
use Rattle.endpoint_commands.specs.Headline.{BootsWith, boot_events, events_asked, told_in_lines, without_source}
use Rattle.endpoint_commands.proofs.AloneRun.{AloneState, alone_world, AloneStep, IsOfEndpoint, is_send, is_inject, is_load, is_boot, with_source}

abbrev pub AloneMoment : Type 0
AloneMoment = Moment Event Line AloneState

-- the moments as those of the machine
abbrev pub seen : List AloneMoment → Moments
seen ms = seen_as (λ (e : Event). e) alone_world ms

-- ---- the events that lines ask for

under_is : (direction : Direction) (id : ℕ) (bytes : List ℕ) → IsOfEndpoint (event_under direction id bytes)
under_is Sends id bytes = is_send id bytes
under_is Receives id bytes = is_inject id bytes

frame_is : (few : Bool) (rule : FrameRule) (bytes : List ℕ) (e : Event) → (if few then None else Some (frame_event rule bytes)) ≡ Some e → IsOfEndpoint e
frame_is true rule bytes e is = absurd (none-some e is)
frame_is false rule bytes e is = subst IsOfEndpoint (same_Some (frame_event rule bytes) e is) (under_is rule.direction rule.id (take (taken_size rule) bytes))

pub asked_is : (rules : List FrameRule) (asked : Asked) (e : Event) → event_asked rules asked ≡ Some e → IsOfEndpoint e
unfolding event_asked
asked_is rules Nothing e is = absurd (none-some e is)
asked_is rules Other e is = absurd (none-some e is)
asked_is rules (Frame place bytes) e is = frame_is (nat_lt (length bytes) (taken_size (rule_at rules place))) (rule_at rules place) bytes e is
asked_is rules (Load request) e is = subst IsOfEndpoint (same_Some (event.Load 0 request) e is) (is_load request)

-- ---- one line

abbrev pub alone_moment : AloneState → Event → Line → NodeState → AloneMoment
alone_moment s e told after = record {
  command = e;
  line = with_source (alone_world s) told;
  after = record { node = after; events = s.events + 1; sent = sent_after (alone_world s) e (with_source (alone_world s) told) };
}

abbrev pub part_of : AloneState → Option Event → Option Line → NodeState → List AloneMoment
part_of s (Some e) (Some told) after = alone_moment s e told after ∷ []
part_of s _ _ after = []

abbrev pub state_then : AloneState → Option Event → Option Line → NodeState → AloneState
state_then s (Some e) (Some told) after = (alone_moment s e told after).after
state_then s _ _ after = s

unsourced : (w : World) (line : Line) → without_source (with_source w line) ≡ without_source line
unsourced w (Accepted id v payload source) = refl
unsourced w (Sent id v pdu) = refl
unsourced w FreshnessFailure = refl
unsourced w VerificationFailure = refl
unsourced w (Keyed slot) = refl
unsourced w (Loaded reply) = refl
unsourced w (Boot good) = refl
unsourced w Up = refl
unsourced w Armed = refl
unsourced w NoFrame = refl
unsourced w (Refused refusal) = refl

-- what a line is to the node alone
pub record OnePart (s : AloneState) (o : Option Event) (l : Option Line) (after : NodeState) : Type 0 where
  pub run : Run AloneStep s (part_of s o l after) (state_then s o l after)
  pub ends : (state_then s o l after).node ≡ after
  pub commands : commands_in (part_of s o l after) ≡ option_to_list o
  pub lines : map without_source (lines_in (part_of s o l after)) ≡ map without_source (option_to_list l)

pub alone_one : (s : AloneState) (e : Event) (told : Line) (after : NodeState) → IsOfEndpoint e → TurnsAlone s.node e told after
    → AloneStep s e (with_source (alone_world s) told) (alone_moment s e told after).after
alone_one s e told after is alone = record {
  of_endpoint = is;
  told = told;
  alone = alone;
  line_is = refl;
  events = refl;
  sent = refl;
}

one_part : (s : AloneState) (o : Option Event) (l : Option Line) (after : NodeState) → ((e : Event) → o ≡ Some e → IsOfEndpoint e) → DoesEvent o s.node l after → OnePart s o l after
one_part s None None after is does = record { run = refl; ends = sym does; commands = refl; lines = refl }
one_part s None (Some told) after is does = absurd does
one_part s (Some e) None after is does = absurd does
one_part s (Some e) (Some told) after is does = record {
  run = (alone_one s e told after (is e refl) does, refl);
  ends = refl;
  commands = refl;
  lines = ap (λ (l : Line). l ∷ []) (unsourced (alone_world s) told);
}

-- ---- all lines

abbrev pub event_of_line : List FrameRule → LineMoment → Option Event
event_of_line rules m = event_asked rules (asked_of_line rules m.command)

-- lines that were taken, as a run of the node alone
pub record LinesAlone (rules : List FrameRule) (s : AloneState) (ms : List LineMoment) (now : NodeState) : Type 0 where
  pub moments : List AloneMoment
  pub last : AloneState
  pub run : Run AloneStep s moments last
  pub ends : last.node ≡ now
  pub commands : commands_in moments ≡ events_asked rules (commands_in ms)
  pub lines : map without_source (lines_in moments) ≡ map without_source (told_in_lines ms)

join_part : (rules : List FrameRule) (s : AloneState) (m : LineMoment) (ms : List LineMoment) (now : NodeState) → (part : OnePart s (event_of_line rules m) m.line m.after)
    → LinesAlone rules (state_then s (event_of_line rules m) m.line m.after) ms now → LinesAlone rules s (m ∷ ms) now
join_part rules s m ms now part rest =
    let first : List AloneMoment = part_of s (event_of_line rules m) m.line m.after in
    let mid : AloneState = state_then s (event_of_line rules m) m.line m.after in
    record {
      moments = first ++ rest.moments;
      last = rest.last;
      run = Run-append AloneStep s first rest.moments mid rest.last part.run rest.run;
      ends = rest.ends;
      commands = map-append (λ (x : AloneMoment). x.command) first rest.moments
          ∙ ap (λ (es : List Event). es ++ commands_in rest.moments) part.commands
          ∙ ap (λ (es : List Event). option_to_list (event_of_line rules m) ++ es) rest.commands;
      lines = ap (map without_source) (map-append (λ (x : AloneMoment). x.line) first rest.moments)
          ∙ map-append without_source (lines_in first) (lines_in rest.moments)
          ∙ ap (λ (ls : List Line). ls ++ map without_source (lines_in rest.moments)) part.lines
          ∙ ap (λ (ls : List Line). map without_source (option_to_list m.line) ++ ls) rest.lines
          ∙ sym (map-append without_source (option_to_list m.line) (told_in_lines ms));
    }

pub lines_alone : (rules : List FrameRule) (s : AloneState) (ms : List LineMoment) (now : NodeState) → Run (TakesLine rules) s.node ms now → LinesAlone rules s ms now
lines_alone rules s [] now run = record { moments = []; last = s; run = refl; ends = sym run; commands = refl; lines = refl }
lines_alone rules s (m ∷ ms) now run =
    let part : OnePart s (event_of_line rules m) m.line m.after = one_part s (event_of_line rules m) m.line m.after (λ e is. asked_is rules (asked_of_line rules m.command) e is) run.0 in
    let mid : AloneState = state_then s (event_of_line rules m) m.line m.after in
    join_part rules s m ms now part
    (lines_alone rules mid ms now (subst (λ (n : NodeState). Run (TakesLine rules) n ms now) (sym part.ends) run.1))

-- ---- behind a boot

abbrev pub begun : NodeState → AloneState
begun start = record { node = start; events = 0; sent = [] }

pub record EndpointAlone (rules : List FrameRule) (image : Option (List ℕ)) (start : NodeState) (told : List Line) (ms : List LineMoment) (now : NodeState) : Type 0 where
  pub moments : List AloneMoment
  pub last : AloneState
  pub run : Run AloneStep (begun start) moments last
  pub ends : last.node ≡ now
  pub commands : commands_in moments ≡ boot_events image ++ events_asked rules (commands_in ms)
  pub lines : map without_source (lines_in moments) ≡ map without_source (told ++ told_in_lines ms)

pub endpoint_alone : (rules : List FrameRule) (image : Option (List ℕ)) (start booted : NodeState) (told : List Line) (ms : List LineMoment) (now : NodeState)
    → BootsWith image start told booted → Run (TakesLine rules) booted ms now → EndpointAlone rules image start told ms now
endpoint_alone rules None start booted told ms now (none, same) run =
    let rest = lines_alone rules (begun start) ms now (subst (λ (n : NodeState). Run (TakesLine rules) n ms now) same run) in
    record {
      moments = rest.moments;
      last = rest.last;
      run = rest.run;
      ends = rest.ends;
      commands = rest.commands;
      lines = rest.lines ∙ ap (λ (ls : List Line). map without_source (ls ++ told_in_lines ms)) (sym none);
    }
endpoint_alone rules (Some image) start booted told ms now (line, one, alone) run =
    let first : AloneMoment = alone_moment (begun start) (event.Boot 0 image) line booted in
    let rest = lines_alone rules first.after ms now run in
    record {
      moments = first ∷ rest.moments;
      last = rest.last;
      run = (alone_one (begun start) (event.Boot 0 image) line booted (is_boot image) alone, rest.run);
      ends = rest.ends;
      commands = ap (λ (es : List Event). event.Boot 0 image ∷ es) rest.commands;
      lines = ap (λ (l : Line). l ∷ map without_source (lines_in rest.moments)) (unsourced (alone_world (begun start)) line)
          ∙ ap (λ (ls : List Line). without_source line ∷ ls) rest.lines
          ∙ ap (λ (ls : List Line). map without_source (ls ++ told_in_lines ms)) (sym one);
    }
