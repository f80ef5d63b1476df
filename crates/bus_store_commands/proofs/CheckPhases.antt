-- The phases of a run of `slots check FILE BUS`, put together
use Rattle.std.proofs.Common.{◌≡◌, ◌⊎◌, ◌∙◌, ℕ, List, true, false, inl, inr, sym, subst}
use Rattle.std.specs.Prelude.{Bool, Result, Ok, Err, Vec, Some, IfOk, IfErr, codes}
use Rattle.std.specs.declared.alloc.Global.{Global}
use Rattle.program_edge.specs.declared.input.InputFault.{InputFault}
use Rattle.program_edge.specs.declared.input.InputFault.TheVariants as input
use Rattle.program_edge.specs.Rows.{Row, row_of, input_row, memory_row}
use Rattle.program_edge.specs.Inputs.{Reading, IsUnread, ReadsWhole, Lacks}
use Rattle.program_edge.specs.Endings.{Ending}
use Rattle.program_edge.specs.Told.{EndingTold}
use Rattle.program_edge.proofs.CallerLemmas.{Lacks-whole}
use Rattle.freshness_routes.specs.declared.routes.Route.{Route}
use Rattle.bus_config.specs.Buses.{NamedBus}
use Rattle.bus_programs.specs.BusFiles.{ReadsBus}
use Rattle.bus_programs.specs.BusRoutes.{routes_of, HasOneNode}
use Rattle.slot_commands.specs.Checked.{Checked}
use Rattle.slot_commands.specs.Stores.{NoStoreIn}
use Rattle.bus_store_commands.specs.NodeBuses.{ReadsNodeBus, LacksNodeBus, other_nodes}
use Rattle.bus_store_commands.specs.BusWords.{asks_over_bus}
use Rattle.any_cells.specs.declared.finding.CountingStore.{CountingStore}
use Rattle.bus_store_commands.specs.CheckRows.{BusCheckInputs, AsksBusCheck, wanted_store, ChecksNodeStore, DoesBusCheck, found_nothing, found, not_checked, bus_check_usage}
use Rattle.bus_store_commands.specs.CheckRows.{ComesOfBusCheck, no_form, no_node, done, AnswersBusCheck}
use Rattle.bus_store_commands.specs.CheckRows as rows
use Rattle.bus_store_commands.specs.ChecksOverBus.{ChecksOverBus}
use Rattle.bus_store_commands.proofs.CheckPromises.{checks_row}

-- malformed arguments
pub words_refused : (i : BusCheckInputs) (row : Row) → asks_over_bus (codes "check") i.words ≡ false → IsUnread i.bus → IsUnread i.file
    → row ≡ row_of 2 bus_check_usage → ComesOfBusCheck i row
words_refused i row none bus_unread unread is = subst (ComesOfBusCheck i) (sym is) (no_form none bus_unread unread)

-- a bus that hasn't one node
pub others_lack : (config : Reading) (bus : NamedBus) (row : Row) → ReadsBus config bus → HasOneNode bus (Err row) → LacksNodeBus config row
others_lack config bus row reads (others, is) = subst (LacksNodeBus config) (sym is) (other_nodes bus reads others)

-- a bus file that gives no bus of one node
pub node_lacking : (i : BusCheckInputs) (cause row : Row) → AsksBusCheck i.words → LacksNodeBus i.bus cause → IsUnread i.file → row ≡ cause
    → ComesOfBusCheck i row
node_lacking i cause row asks lacks unread is = subst (ComesOfBusCheck i) (sym is) (no_node cause asks lacks unread)

-- a file that gives no bytes
pub file_lacking : (i : BusCheckInputs) (bus : NamedBus) (fault : InputFault) (row : Row) → AsksBusCheck i.words → ReadsNodeBus i.bus bus
    → Lacks i.file fault → row ≡ input_row fault → ComesOfBusCheck i row
file_lacking i bus fault row asks reads lacks is = subst (ComesOfBusCheck i) (sym is) (rows.no_file bus fault asks reads lacks)

-- what is done over its bytes and the bus
pub check_done : (i : BusCheckInputs) (bus : NamedBus) (x shown : List ℕ) (result : Result (Vec ℕ Global × ℕ) Row)
    → AsksBusCheck i.words → ReadsNodeBus i.bus bus → ReadsWhole i.file x → shown ≡ x
    → IfOk result (λ r. DoesBusCheck bus shown (row_of r.1 r.0.items))
    → IfErr result (λ row. DoesBusCheck bus shown row ⊎ (row ≡ memory_row)) → AnswersBusCheck i result
check_done i bus x shown (Ok (text, status)) asks reads whole is does not =
    done bus shown (row_of status text.items) asks reads (subst (ReadsWhole i.file) (sym is) whole) does
check_done i bus x shown (Err row) asks reads whole is does (inl not) =
    done bus shown row asks reads (subst (ReadsWhole i.file) (sym is) whole) not
check_done i bus x shown (Err row) asks reads whole is does (inr memory) =
    subst (ComesOfBusCheck i) (sym memory) (rows.no_file bus input.Memory asks reads (Lacks-whole i.file x whole))

-- ---- a check

-- a check over a store and routes that are those of the bus is one over the bus
over_bus : (bus : NamedBus) (wanted : CountingStore) (routes : List Route) (x text : List ℕ) (good : Bool) → wanted ≡ wanted_store bus
    → routes ≡ routes_of bus → Checked (Some wanted) (Some routes) x text good → Checked (Some (wanted_store bus)) (Some (routes_of bus)) x text good
over_bus bus wanted routes x text good is are checked =
    subst (λ (w : CountingStore). Checked (Some w) (Some (routes_of bus)) x text good) is
    (subst (λ (r : List Route). Checked (Some wanted) (Some r) x text good) are checked)

good_over_bus : (bus : NamedBus) (x text : List ℕ) (good : Bool) → Checked (Some (wanted_store bus)) (Some (routes_of bus)) x text good → good ≡ true
    → DoesBusCheck bus x (row_of 0 text)
good_over_bus bus x text good (findings, checks, decides) is =
    found_nothing text (subst (λ (f : List (List (List ℕ))). ChecksNodeStore bus x f text) (decides.0 is) checks)

bad_over_bus : (bus : NamedBus) (x text : List ℕ) (good : Bool) → Checked (Some (wanted_store bus)) (Some (routes_of bus)) x text good → good ≡ false
    → DoesBusCheck bus x (row_of 1 text)
bad_over_bus bus x text good (findings, checks, decides) is =
    found findings text (λ none. let clash : false ≡ true = sym is ∙ decides.1 none in cc clash) checks

pub check_good : (bus : NamedBus) (wanted : CountingStore) (routes : List Route) (x text : List ℕ) (good : Bool) → wanted ≡ wanted_store bus
    → routes ≡ routes_of bus → Checked (Some wanted) (Some routes) x text good → good ≡ true → DoesBusCheck bus x (row_of 0 text)
check_good bus wanted routes x text good is are checked none =
    good_over_bus bus x text good (over_bus bus wanted routes x text good is are checked) none

pub check_bad : (bus : NamedBus) (wanted : CountingStore) (routes : List Route) (x text : List ℕ) (good : Bool) → wanted ≡ wanted_store bus
    → routes ≡ routes_of bus → Checked (Some wanted) (Some routes) x text good → good ≡ false → DoesBusCheck bus x (row_of 1 text)
check_bad bus wanted routes x text good is are checked some =
    bad_over_bus bus x text good (over_bus bus wanted routes x text good is are checked) some

pub check_refused : (bus : NamedBus) (x : List ℕ) (row : Row) → NoStoreIn x row ⊎ (row ≡ memory_row)
    → DoesBusCheck bus x row ⊎ (row ≡ memory_row)
check_refused bus x row (inl none) = inl (not_checked row none)
check_refused bus x row (inr memory) = inr memory

-- ---- a run

-- what was told of a text that comes
pub told_row : (i : BusCheckInputs) (e : Ending) (status : ℕ) (items shown : List ℕ) → shown ≡ items → ComesOfBusCheck i (row_of status items)
    → EndingTold e.before e.after shown status e.status → ChecksOverBus i e
told_row i e status items shown is comes told =
    checks_row i e
    (record { row = row_of status shown; comes = subst (λ (t : List ℕ). ComesOfBusCheck i (row_of status t)) (sym is) comes; told = told })
