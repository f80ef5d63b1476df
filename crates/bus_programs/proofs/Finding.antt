-- The bus of a bus file, and the events of a script, put together
use Rattle.std.specs.Prelude.{◌≡◌, ℕ, List, [], ◌∷◌, length, get_or, Some, Result, Ok, Err, Vec}
use Rattle.std.specs.declared.alloc.Global.{Global}
use Rattle.std.proofs.Common.{ap, ◌∙◌, arith, inl, inr, sym, subst}
use Rattle.program_edge.specs.declared.input.InputFault.TheVariants as input
use Rattle.program_edge.specs.Rows.{Row, memory_row}
use Rattle.program_edge.specs.Inputs.{Reading, ReadsWhole}
use Rattle.program_edge.proofs.CallerLemmas.{Lacks-whole}
use Rattle.bus_config.specs.declared.fault.ConfigFault.{ConfigFault}
use Rattle.bus_config.specs.declared.fault.ConfigFault.TheVariants as config
use Rattle.bus_config.specs.BusFile.{bus_of}
use Rattle.bus_config.specs.FaultTexts.{config_fault_text}
use Rattle.bus_config.specs.Answers.{IsFaultOf}
use Rattle.bus_config.specs.Buses.{NamedBus}
use Rattle.bus_config.specs.declared.node_lines.NodeLine.{NodeLine}
use Rattle.bus_script.specs.EventForms.{node_line_at}
use Rattle.bus_machine.specs.declared.events.Event.{Event}
use Rattle.bus_programs.proofs.CallerLemmas.{LacksLines-read}
use Rattle.bus_programs.specs.Scripts.{ScriptMeaning, HasScript, FindsScript}
use Rattle.bus_programs.specs.BusFiles.{IsConfigRow, HasBus, LacksBus, no_file, file_refused, FindsBus}

-- a fault that has a text is the definition's
told_fault : (meaning : Result NamedBus ConfigFault) (fault : ConfigFault) (text : List ℕ) → IsFaultOf meaning fault → config_fault_text fault ≡ Some text → meaning ≡ Err fault
told_fault meaning config.Toml text is told = is
told_fault meaning config.Root text is told = is
told_fault meaning (config.Node i) text is told = is
told_fault meaning (config.Route i j) text is told = is
told_fault meaning (config.Sender id) text is told = is
told_fault meaning config.Memory text is told = cc told

pub HasBus-refused : (file : List ℕ) (fault : ConfigFault) (row : Row) → IsFaultOf (bus_of file) fault → IsConfigRow fault row → HasBus file (Err row)
HasBus-refused file fault row is (inl (text, told, row_is)) = inl (fault, told_fault (bus_of file) fault text is told, inl (text, told, row_is))
HasBus-refused file fault row is (inr memory) = inr memory

LacksBus-memory : (config : Reading) (file : List ℕ) (row : Row) → ReadsWhole config file → row ≡ memory_row → LacksBus config row
LacksBus-memory config file row whole memory = subst (LacksBus config) (sym memory) (no_file input.Memory (Lacks-whole config file whole))

-- a bus file that was read whole
pub FindsBus-read : (config : Reading) (file : List ℕ) (result : Result NamedBus Row) → ReadsWhole config file → HasBus file result → FindsBus config result
FindsBus-read config file (Ok bus) whole is = (file, whole, is)
FindsBus-read config file (Err row) whole (inl (fault, is, inl (text, told, row_is))) =
    subst (LacksBus config) (sym row_is) (file_refused fault text (file, whole, is) told)
FindsBus-read config file (Err row) whole (inl (fault, is, inr memory)) = LacksBus-memory config file row whole memory
FindsBus-read config file (Err row) whole (inr memory) = LacksBus-memory config file row whole memory

-- a script that was read whole
pub FindsScript-read : (meaning : ScriptMeaning) (bus : NamedBus) (script : Reading) (text : List ℕ) (result : Result (Vec Event Global) Row)
    → ReadsWhole script text → HasScript meaning bus text result → FindsScript meaning bus script result
FindsScript-read meaning bus script text (Ok events) whole is = ((text, whole, is.0), is.1)
FindsScript-read meaning bus script text (Err row) whole is = LacksLines-read (meaning bus.nodes) script text row whole is

-- the one node of a bus
pub first_config : (nodes all : List NodeLine) (n : NodeLine) → nodes ≡ all → length all ≡ 1 → n ≡ get_or nodes 0 n → n.config ≡ (node_line_at all 0).config
first_config nodes [] n same one is = absurd (let no : ⊥ = omega (arith, one) in no)
first_config nodes (x ∷ xs) n same one is = ap (λ (l : NodeLine). l.config) (is ∙ ap (λ (ns : List NodeLine). get_or ns 0 n) same)
