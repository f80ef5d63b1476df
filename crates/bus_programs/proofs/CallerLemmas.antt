-- The lemmas that crates above cite.
use Rattle.std.specs.Prelude.{◌≡◌, ℕ, zero, suc, ◌-◌, ◌≤◌, List, [], ◌∷◌, length, get_or, replicate, All, ◌⊎◌, ◌+◌, ◌<◌}
use Rattle.std.specs.Prelude.{Result, Ok, Err, ◌≢◌, ◌==◌, true, false, map, Option}
use Rattle.std.proofs.Common.{refl, ap, subst, arith, sym, ◌∙◌, inl, inr}
use Rattle.std.proofs.lemmas.Bool.{true≢false}
use Rattle.std.proofs.lemmas.List.{length-map, length-replicate}
use Rattle.cut_disk.specs.declared.mem_disk.MemDisk.{MemDisk}
use Rattle.cut_disk.specs.State.{DiskState}
use Rattle.cut_disk.specs.Calls.{IsQuiet}
use Rattle.cut_disk.specs.Memory.{fresh, disk_of}
use Rattle.cut_disk.specs.MemDisk.{contents}
use Rattle.cell_store.specs.declared.faults.Reread.TheVariants.{DiskFailed, NotFormatted, Damaged}
use Rattle.freshness_routes.specs.Config.{Config}
use Rattle.bus_config.specs.Buses.{NamedBus, IsNamedBus}
use Rattle.bus_world.specs.declared.start.Start.TheVariants.{Format}
use Rattle.bus_world.specs.declared.start.StartFault.{StartFault}
use Rattle.bus_world.specs.declared.start.StartFault.TheVariants.{TooFew, TooSmall, Store, BadSlot, BadBound, Memory}
use Rattle.bus_world.specs.Starts.{FindsRoom, OfNumber}
use Rattle.bus_world.specs.StartRows.{StoreCause}
use Rattle.bus_world.proofs.CallerLemmas.{no_line, size_of_any}
use Rattle.bus_programs.specs.Blank.{AreBlank, blank_state, disk_states}
use Rattle.bus_port.specs.Fault.{last_count}
use Rattle.bus_port.specs.Sink.{SinkState}
use Rattle.bus_port.specs.Source.{SourceState}
use Rattle.bus_port.specs.Whole.{CameWithin}
use Rattle.program_edge.specs.Input.{input_limit, input_fault_status}
use Rattle.program_edge.specs.declared.input.InputFault.{InputFault}
use Rattle.program_edge.specs.Rows.{Row}
use Rattle.program_edge.specs.Inputs.{Reading, IsUnread, ReadsWhole, Lacks, Offers, CountsFault, CountsTooMuch}
use Rattle.program_edge.specs.Endings.{Ending}
use Rattle.program_edge.specs.NamedSources.{Openings, missing_source}
use Rattle.program_edge.proofs.CallerLemmas.{Lacks-whole, Offers-whole, Offers-is}
use Rattle.bus_config.specs.declared.fault.ConfigFault.{ConfigFault}
use Rattle.bus_config.specs.BusFile.{bus_of}
use Rattle.text_lines.specs.LineRows.{NoLines}
use Rattle.text_lines.specs.Readings.{Fault}
use Rattle.bus_programs.specs.BusFiles.{ReadsBus, IsConfigFault, OffersBus}
use Rattle.bus_programs.specs.Inputs.{BusInputs}
use Rattle.bus_programs.specs.Named.{SourcesBack, inputs_had, WantsMemory, RunOfWords, ran_example, ran_words, ran_nothing}
use Rattle.bus_programs.specs.Named.{StatusesOf}
use Rattle.bus_programs.specs.Scripts.{LacksLines, no_lines, lines_refused}
use Rattle.bus_machine.specs.declared.events.Event.{Event}
use Rattle.bus_config.specs.declared.node_lines.NodeLine.{NodeLine}
use Rattle.bus_script.specs.ScriptEvents.{HasFields, IsScriptEvent}
use Rattle.bus_world.specs.Turns.{CanBeDone}
use Rattle.program_edge.specs.declared.input.InputFault.TheVariants as input
use Rattle.bus_machine.specs.declared.events.Event.TheVariants as event

-- ---- a bus over enough blank disks of enough size finds room for its stores, and no disk of it fails as they are made

-- whichever place is looked at
all_blank : (size i : ℕ) (disks : List MemDisk)
    → All (λ (disk : MemDisk). contents disk ≡ fresh (replicate size 0)) disks
    → get_or (disk_states disks) i (blank_state size) ≡ blank_state size
all_blank size i [] all = refl
all_blank size zero (disk ∷ disks) all = ap disk_of (all 0 disk (omega arith))
all_blank size (suc i) (disk ∷ disks) all =
    all_blank size i disks (λ k d inside. all (suc k) d (omega (arith, inside)))

blank_quiet : (size : ℕ) → IsQuiet (blank_state size)
blank_quiet size = record { quiet = refl; below = omega arith }

-- ---- no disk fails

quiet_there : (count size : ℕ) (disks : List MemDisk) (bus : NamedBus) (after : List DiskState) (number : ℕ)
    (P : Config → DiskState → DiskState → Type 0)
    → AreBlank count size disks → OfNumber Format bus (disk_states disks) after number P
    → P (get_or bus.nodes (number - 1) no_line).config (blank_state size) (get_or after (number - 1) (blank_state size))
quiet_there count size disks bus after number P are of =
    subst
    (λ (s : DiskState). P (get_or bus.nodes (number - 1) no_line).config s
    (get_or after (number - 1) (blank_state size)))
    (all_blank size (number - 1) disks are.blank) (of.disk no_line (blank_state size))

pub blank_no_cause : (count size : ℕ) (disks : List MemDisk) (bus : NamedBus) (after : List DiskState)
    (fault : StartFault)
    → AreBlank count size disks → StoreCause Format bus (disk_states disks) after fault → ⊥
blank_no_cause count size disks bus after (Store number DiskFailed) are of =
    (quiet_there count size disks bus after number _ are of).1 (blank_quiet size)
blank_no_cause count size disks bus after (Store number NotFormatted) are of =
    let none = (quiet_there count size disks bus after number _ are of).0 in
    cc
blank_no_cause count size disks bus after (Store number (Damaged place)) are of =
    let none = (quiet_there count size disks bus after number _ are of).0 in
    cc
blank_no_cause count size disks bus after (BadSlot number slot) are of =
    let none = (quiet_there count size disks bus after number _ are of).0 in
    cc
blank_no_cause count size disks bus after (BadBound number cell) are of =
    let none = (quiet_there count size disks bus after number _ are of).0 in
    cc
blank_no_cause count size disks bus after TooFew are of = of
blank_no_cause count size disks bus after (TooSmall number) are of = of
blank_no_cause count size disks bus after Memory are of = of

-- ---- room is found

pub blank_has_room : (count size : ℕ) (disks : List MemDisk) (bus : NamedBus) (fault : StartFault)
    → length bus.nodes ≤ count → 54564 ≤ size → AreBlank count size disks → IsNamedBus bus
    → FindsRoom bus (disk_states disks) fault → ⊥
blank_has_room count size disks bus TooFew enough large are is few =
    omega (arith, few, length-map disks (λ (disk : MemDisk). disk_of (contents disk)), are.count_is, enough)
blank_has_room count size disks bus (TooSmall number) enough large are is small =
    let there = all_blank size (number - 1) disks are.blank in
    let routes = is.few_routes (number - 1) no_line (omega (arith, small.least, small.most)) in
    omega (
      arith,
      small.small no_line (blank_state size),
      ap (λ (s : DiskState). s.size) there,
      length-replicate {A = ℕ} size 0,
      large,
      size_of_any bus.kind bus.version (length (get_or bus.nodes (number - 1) no_line).config.routes) routes,
    )
blank_has_room count size disks bus (Store number cause) enough large are is room = room
blank_has_room count size disks bus (BadSlot number slot) enough large are is room = room
blank_has_room count size disks bus (BadBound number cell) enough large are is room = room
blank_has_room count size disks bus Memory enough large are is room = room

-- ---- laws of bus files that are offered, and of the sources of a program

-- ---- a bus file that is offered

Ok_not_Err : (r : Result NamedBus ConfigFault) (bus : NamedBus) (fault : ConfigFault) → r ≡ Ok bus → r ≡ Err fault → ⊥
Ok_not_Err r bus fault ok err = cc

same_Ok : (r : Result NamedBus ConfigFault) (one other : NamedBus) → r ≡ Ok one → r ≡ Ok other → one ≡ other
same_Ok r one other ok also = cc

-- what was read is what was offered
pub same_bus : (config : Reading) (one other : NamedBus) → ReadsBus config one → OffersBus config other → one ≡ other
same_bus config one other (read, whole, is) (file, offers, ok) =
    same_Ok (bus_of file) one other (sym (ap bus_of (Offers-whole config file read offers whole)) ∙ is) ok

-- it has a bus or a fault
pub bus_or_fault : (config : Reading) (bus : NamedBus) (file : List ℕ) (fault : ConfigFault) → ReadsBus config bus
    → Offers config file → bus_of file ≡ Err fault → ⊥
bus_or_fault config bus file fault (read, whole, is) offers err =
    Ok_not_Err (bus_of file) bus fault (sym (ap bus_of (Offers-whole config file read offers whole)) ∙ is) err

pub offered_no_fault : (config : Reading) (bus : NamedBus) (fault : ConfigFault) → OffersBus config bus
    → IsConfigFault config fault → ⊥
offered_no_fault config bus fault (file, offers, ok) (read, whole, is) =
    Ok_not_Err (bus_of file) bus fault ok (sym (ap bus_of (Offers-whole config file read offers whole)) ∙ is)

-- a source that is offered gives no input only if memory is out
pub memory_status : (r : Reading) (text : List ℕ) (fault : InputFault) → Offers r text → Lacks r fault
    → input_fault_status fault ≡ 7
memory_status r text fault offers lacks = ap input_fault_status (Offers-is r text fault offers lacks)

-- ---- the sources

-- at most as many bytes as an input may have were counted
abbrev pub Within : Reading → Type 0
Within r = r.before.taken + input_limit < last_count → r.after.taken ≤ r.before.taken + input_limit

within_unread : (r : Reading) → IsUnread r → Within r
within_unread r same below = omega (arith, ap (λ (s : SourceState). s.taken) same)

within_came : (r : Reading) → CameWithin r.before r.after input_limit → Within r
within_came r came below = omega (arith, came.1, came.2.counted, below)

-- no fault was counted, and no byte too many
abbrev pub ReadsCalmly : Reading → Type 0
ReadsCalmly r = (r.after.faults ≡ r.before.faults) × Within r

pub calm_unread : (r : Reading) → IsUnread r → ReadsCalmly r
calm_unread r same = (ap (λ (s : SourceState). s.faults) same, within_unread r same)

pub calm_whole : (r : Reading) (text : List ℕ) → ReadsWhole r text → ReadsCalmly r
calm_whole r text whole = (whole.no_fault, within_came r (text, whole.within, whole.came))

-- a row of a source that gave nothing, or no fault was counted and no byte too many
abbrev pub RowTells : Row → Reading → Reading → Type 0
RowTells row config script = ((row.status ≡ 5) × (Within config × Within script))
    ⊎ (((row.status ≡ 8)
    × ((config.after.faults ≡ config.before.faults) × (script.after.faults ≡ script.before.faults)))
    ⊎ (ReadsCalmly config × ReadsCalmly script))

lacking : (r : Reading) (fault : InputFault) → Lacks r fault
    → ((input_fault_status fault ≡ 5) × Within r)
    ⊎ (((input_fault_status fault ≡ 8) × (r.after.faults ≡ r.before.faults)) ⊎ ReadsCalmly r)
lacking r input.ReadFault lacks = inl (refl, within_came r lacks.1)
lacking r input.TooLong lacks = inr (inl (refl, lacks.0))
lacking r input.Memory lacks = inr (inr (lacks.0, within_came r lacks.1))

pub told_first : (fault : InputFault) (text : List ℕ) (config script : Reading) → Lacks config fault
    → ReadsCalmly script
    → RowTells (record { status = input_fault_status fault; text = text }) config script
told_first fault text config script lacks calm = elim (lacking config fault lacks) [
  | inl five ↦ inl (five.0, (five.1, calm.1))
  | inr (inl eight) ↦ inr (inl (eight.0, (eight.1, calm.0)))
  | inr (inr also) ↦ inr (inr (also, calm))
]

pub told_second : (fault : InputFault) (text : List ℕ) (config script : Reading) → ReadsCalmly config
    → Lacks script fault
    → RowTells (record { status = input_fault_status fault; text = text }) config script
told_second fault text config script calm lacks = elim (lacking script fault lacks) [
  | inl five ↦ inl (five.0, (calm.1, five.1))
  | inr (inl eight) ↦ inr (inl (eight.0, (calm.0, eight.1)))
  | inr (inr also) ↦ inr (inr (calm, also))
]

pub told_fault : (row : Row) (config script : Reading) → RowTells row config script
    → CountsFault config ⊎ CountsFault script → row.status ≡ 5
told_fault row config script (inl five) rose = five.0
told_fault row config script (inr (inl eight)) (inl rose) = absurd (let no : ⊥ = omega (arith, eight.1.0, rose) in no)
told_fault row config script (inr (inl eight)) (inr rose) = absurd (let no : ⊥ = omega (arith, eight.1.1, rose) in no)
told_fault row config script (inr (inr calm)) (inl rose) = absurd (let no : ⊥ = omega (arith, calm.0.0, rose) in no)
told_fault row config script (inr (inr calm)) (inr rose) = absurd (let no : ⊥ = omega (arith, calm.1.0, rose) in no)

beyond_within : (r : Reading) → Within r → CountsTooMuch r → ⊥
beyond_within r within more = omega (arith, within more.0, more.1)

pub told_too_much : (row : Row) (config script : Reading) → RowTells row config script
    → CountsTooMuch config ⊎ CountsTooMuch script → row.status ≡ 8
told_too_much row config script (inl five) (inl more) = absurd (beyond_within config five.1.0 more)
told_too_much row config script (inl five) (inr more) = absurd (beyond_within script five.1.1 more)
told_too_much row config script (inr (inl eight)) more = eight.0
told_too_much row config script (inr (inr calm)) (inl more) = absurd (beyond_within config calm.0.1 more)
told_too_much row config script (inr (inr calm)) (inr more) = absurd (beyond_within script calm.1.1 more)

-- ---- lines

-- lines that were read whole, and have no meaning
pub LacksLines-read : {A : Type 0} (meaning : List ℕ → Result (List A) Fault) (script : Reading) (text : List ℕ)
    (row : Row) → ReadsWhole script text
    → NoLines (meaning text) row → LacksLines meaning script row
LacksLines-read meaning script text row whole (inl (fault, is, row_is)) =
    subst (LacksLines meaning script) (sym row_is) (lines_refused fault text whole is)
LacksLines-read meaning script text row whole (inr memory) =
    subst (LacksLines meaning script) (sym memory) (no_lines input.Memory (Lacks-whole script text whole))

-- ---- events of a script can be done

-- an event whose fields are within their bounds
pub can_be_done : (e : Event) → HasFields e → CanBeDone e
can_be_done (event.Send node id payload) has = tt
can_be_done (event.Deliver node number) has = tt
can_be_done (event.Inject node id pdu) has = tt
can_be_done (event.Load node request) has = tt
can_be_done (event.Key node update authkey) has = tt
can_be_done (event.Boot node image) has = (has.0, has.1)
can_be_done (event.Cut node torn) has = tt
can_be_done (event.Stop node calls) has = has.0
can_be_done (event.Fail node calls) has = has.0

-- those that a script has
pub all_can_be_done : (nodes : List NodeLine) (events : List Event) → All (IsScriptEvent nodes) events
    → All CanBeDone events
all_can_be_done nodes events are k d inside = can_be_done (get_or events k d) (are k d inside).fields

-- ---- what comes of the words of a program that has an example

-- no words are no texts, and some are some
pub no_words : {A : Type 0} (f : A → List ℕ) (words : List A) → (length words == 0) ≡ true → map f words ≡ []
no_words f [] none = refl
no_words f (word ∷ words) none = absurd (let empty : length (word ∷ words) ≡ 0 = grind arith in omega arith)

pub some_words : {A : Type 0} (f : A → List ℕ) (words : List A) → (length words == 0) ≡ false → map f words ≢ []
some_words f [] some none = absurd (true≢false some)
some_words f (w ∷ words) some none =
    absurd (let empty : length (map f (w ∷ words)) ≡ 0 = ap length none in omega (arith, empty))

-- nothing was opened or written for want of memory
pub unopened_wants : {o : Openings} → {back : SourcesBack} → {sink : SinkState} → {status : ℕ} → status ≡ 7
    → back.config ≡ missing_source 0 → back.script ≡ missing_source 0
    → WantsMemory o o back (record { before = sink; after = sink; status = status })
unopened_wants seven config script =
    record { status_is = seven; unwritten = refl; unopened = refl; config_missing = config; script_missing = script }

-- what the statuses of each run say they say of the words
pub words_told : {Asks Malformed : List (List ℕ) → Type 0}
    → {Names : List (List ℕ) → Option (List ℕ) → Option (List ℕ) → Type 0} → {Example : BusInputs → Type 0}
    → {Runs : BusInputs → Ending → Type 0} → {opens : List ℕ → SourceState → Type 0} → {before after : Openings}
    → {back : SourcesBack} → {words : List (List ℕ)} → {e : Ending} → Malformed [] → (Asks words → ¬ Malformed words)
    → ((i : BusInputs) → Runs i e → StatusesOf Malformed i.words e.status)
    → RunOfWords Asks Names Example Runs opens before after back words e → StatusesOf Malformed words e.status
words_told none apart each (ran_example empty same ran) = record {
  usage = λ two. rw empty none;
  usage_only = λ some malformed. absurd (some empty);
  starts = (each ran.inputs ran.ran).starts;
}
words_told none apart each (ran_words some had) = each (inputs_had had) had.over.has
words_told none apart each (ran_nothing why wants) = record {
  usage = λ two. absurd (omega (arith, wants.status_is, two));
  usage_only = λ some malformed. elim why [ inl asks ↦ absurd (apart asks malformed) | inr empty ↦ absurd (some empty) ];
  starts = (λ nine. omega (arith, wants.status_is, nine), λ ten. omega (arith, wants.status_is, ten));
}
