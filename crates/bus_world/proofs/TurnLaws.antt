-- Laws of turns: they leave as many nodes, and their moments have the events and lines that they have as moments of the
-- machine
use Rattle.std.specs.Prelude.{◌≡◌, ℕ, suc, List, [], ◌∷◌, length, take, All}
use Rattle.std.proofs.Common.{refl, sym, ap, ◌∙◌}
use Rattle.std.proofs.lemmas.List.Elements.{All-nil, All-cons}
use Rattle.machine_runs.specs.Run.{Moment, Run, commands_in, lines_in}
use Rattle.machine_runs.proofs.CallerLemmas.{MemberSteps-length}
use Rattle.bus_machine.specs.declared.events.Event.{Event}
use Rattle.bus_machine.specs.declared.lines.Line.{Line}
use Rattle.bus_machine.specs.LineKinds.{IsLine}
use Rattle.bus_world.specs.Worlds.{BusState, BusTurn}
use Rattle.bus_world.specs.WorldTurns.{seen}

-- turns leave as many nodes
pub as_many_nodes : (s : BusState) (ms : List (Moment Event Line BusState)) (t : BusState)
    → Run BusTurn s ms t → length t.nodes ≡ length s.nodes
as_many_nodes s [] t run = ap (λ (n : BusState). length n.nodes) run
as_many_nodes s (m ∷ ms) t run = as_many_nodes m.after ms t run.1 ∙ MemberSteps-length run.0.one

-- each line is one that its type has
pub turns_are_lines : (s : BusState) (ms : List (Moment Event Line BusState)) (t : BusState)
    → Run BusTurn s ms t → All IsLine (lines_in (seen ms))
turns_are_lines s [] t run = All-nil IsLine
turns_are_lines s (m ∷ ms) t run =
    All-cons IsLine m.line (lines_in (seen ms)) run.0.is_line (turns_are_lines m.after ms t run.1)

pub same_commands : (ms : List (Moment Event Line BusState)) → commands_in (seen ms) ≡ commands_in ms
same_commands [] = refl
same_commands (m ∷ ms) = ap (λ (es : List Event). m.command ∷ es) (same_commands ms)

pub same_lines : (ms : List (Moment Event Line BusState)) → lines_in (seen ms) ≡ lines_in ms
same_lines [] = refl
same_lines (m ∷ ms) = ap (λ (ls : List Line). m.line ∷ ls) (same_lines ms)

pub same_length : (ms : List (Moment Event Line BusState)) → length (seen ms) ≡ length ms
same_length [] = refl
same_length (m ∷ ms) = ap suc (same_length ms)

pub first_commands : (ms : List (Moment Event Line BusState)) (events : List Event)
    → commands_in ms ≡ take (length ms) events → commands_in (seen ms) ≡ take (length (seen ms)) events
first_commands ms events first =
    same_commands ms ∙ first ∙ ap (λ (n : ℕ). take n events) (sym (same_length ms))
