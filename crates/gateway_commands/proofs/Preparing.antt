-- The first phase, put together
use Rattle.std.specs.Prelude.{◌≡◌, ℕ, List, [], ◌∷◌, length, get_or, Err}
use Rattle.std.proofs.Common.{sym, ap, ◌∙◌, subst, arith}
use Rattle.program_edge.specs.declared.input.InputFault.TheVariants as input
use Rattle.program_edge.specs.Rows.{Row, memory_row}
use Rattle.program_edge.specs.Inputs.{IsUnread}
use Rattle.program_edge.proofs.CallerLemmas.{Lacks-unread}
use Rattle.bus_config.specs.declared.node_lines.NodeLine.{NodeLine}
use Rattle.bus_config.specs.Buses.{NamedBus}
use Rattle.bus_script.specs.EventForms.{node_line_at, own_events_of}
use Rattle.bus_programs.specs.BusFiles.{ReadsBus, LacksBus, no_file, file_refused}
use Rattle.bus_programs.specs.Scripts.{LacksLines, no_lines, lines_refused}
use Rattle.gateway_commands.specs.Words.{AsksGateway, AsksSomeGateway}
use Rattle.bus_programs.specs.Inputs.{BusInputs}
use Rattle.gateway_commands.specs.Inputs.{of_file, of_bus, SetsPairs}
use Rattle.gateway_commands.specs.Rows.{RowOfInputs, no_config, config_refused, no_script, script_refused}
use Rattle.gateway_commands.specs.Steps.{ChecksPairs}

-- ---- the rows

-- there is no memory for the pairs
pub RowOf-memory : (i : BusInputs) → AsksSomeGateway i.words → IsUnread i.config → IsUnread i.script → RowOfInputs i memory_row
RowOf-memory i asks config script = no_config input.Memory (asks.0, asks.1, Lacks-unread i.config config, script)

-- there is no bus
pub RowOf-config : (i : BusInputs) (pairs : List (ℕ × ℕ)) (row : Row) → AsksGateway i.words pairs → LacksBus i.config row → IsUnread i.script → RowOfInputs i row
RowOf-config i pairs row asks (no_file fault lacks) unread = no_config fault (pairs, asks, lacks, unread)
RowOf-config i pairs row asks (file_refused fault text is told) unread = config_refused pairs text asks (of_file fault text is told) unread

-- the bus doesn't take the pairs
pub RowOf-pairs : (i : BusInputs) (bus : NamedBus) (pairs : List (ℕ × ℕ)) (row : Row) → AsksGateway i.words pairs → ReadsBus i.config bus → ChecksPairs bus pairs (Err row)
    → IsUnread i.script → RowOfInputs i row
RowOf-pairs i bus pairs row asks reads (text, refuses, is) unread =
    subst (RowOfInputs i) (sym is) (config_refused pairs text asks (of_bus bus text reads refuses) unread)

-- there is no script
pub RowOf-script : (i : BusInputs) (bus : NamedBus) (pairs : List (ℕ × ℕ)) (row : Row) → SetsPairs i bus pairs → LacksLines (own_events_of bus.nodes) i.script row → RowOfInputs i row
RowOf-script i bus pairs row set (no_lines fault lacks) = no_script fault (bus, pairs, set, lacks)
RowOf-script i bus pairs row set (lines_refused fault text whole is) =
    script_refused fault (record { bus = bus; pairs = pairs; set = set; text = text; whole = whole; is = is })

-- ---- the bus

-- the one node of the bus
pub gate_is : (nodes all : List NodeLine) (n : NodeLine) → nodes ≡ all → length all ≡ 1 → n ≡ get_or nodes 0 n → n.config ≡ (node_line_at all 0).config
gate_is nodes [] n same one is = absurd (let no : ⊥ = omega (arith, one) in no)
gate_is nodes (x ∷ xs) n same one is = ap (λ (l : NodeLine). l.config) (is ∙ ap (λ (ns : List NodeLine). get_or ns 0 n) same)
