-- What each row of a gateway's table says of the arguments and of the sources
use Rattle.std.specs.Prelude.{◌≡◌, ◌⊎◌, ℕ, Some, List, [], ◌∷◌, map, Result, Ok, Err}
use Rattle.std.proofs.Common.{arith, refl, ap, ◌∙◌, subst, inl, inr}
use Rattle.text_lines.specs.Readings.{Fault}
use Rattle.program_edge.specs.Rows.{Row}
use Rattle.program_edge.specs.Inputs.{Reading, Offers}
use Rattle.program_edge.proofs.CallerLemmas.{Offers-whole}
use Rattle.bus_config.specs.declared.fault.ConfigFault.{ConfigFault}
use Rattle.bus_config.specs.BusFile.{bus_of}
use Rattle.bus_machine.specs.declared.events.Event.{Event}
use Rattle.bus_config.specs.Buses.{NamedBus}
use Rattle.bus_script.specs.EventForms.{own_events_of}
use Rattle.bus_world.specs.declared.start.Start.TheVariants.{Format}
use Rattle.bus_world.specs.StartAnswers.{DiskStates, ComesOfStart}
use Rattle.bus_programs.specs.BusFiles.{OffersBus}
use Rattle.bus_programs.proofs.CallerLemmas.{same_bus, ReadsCalmly, calm_unread, calm_whole, RowTells, told_first, told_second, bus_or_fault, offered_no_fault, memory_status}
use Rattle.gateway_commands.specs.Words.{AsksGateway, AsksNoGateway}
use Rattle.bus_programs.specs.Inputs.{BusInputs}
use Rattle.gateway_commands.specs.Inputs.{TakesPairs, RefusesPairs, other_number, bad_pair, RefusesConfig, of_file, of_bus, SetsPairs, SetsGateway, OffersGateway}
use Rattle.gateway_commands.specs.Rows.{RowOfInputs, no_form, no_config, config_refused, no_script, script_refused, RowOfGateway, without_disks, not_started}

-- ---- the words

some_same : (p q : List (ℕ × ℕ)) → map Some p ≡ map Some q → p ≡ q
some_same [] [] same = refl
some_same [] (y ∷ ys) same = absurd (let no : ⊥ = cc in no)
some_same (x ∷ xs) [] same = absurd (let no : ⊥ = cc in no)
some_same (x ∷ xs) (y ∷ ys) same =
    let first : x ≡ y = cc in
    let rest : map Some xs ≡ map Some ys = cc in
    ap (λ (z : ℕ × ℕ). z ∷ xs) first ∙ ap (λ (zs : List (ℕ × ℕ)). y ∷ zs) (some_same xs ys rest)

-- words give one list of pairs
pub asks_once : (words : List (List ℕ)) (p q : List (ℕ × ℕ)) → AsksGateway words p → AsksGateway words q → p ≡ q
asks_once words p q one other = grind (arith, some_same)

-- ---- the sources

refused_calm : (config : Reading) (pairs : List (ℕ × ℕ)) (text : List ℕ) → RefusesConfig config pairs text → ReadsCalmly config
refused_calm config pairs text (of_file fault _ is told) = calm_whole config is.0 is.1
refused_calm config pairs text (of_bus bus _ reads refuses) = calm_whole config reads.0 reads.1

set_calm : (i : BusInputs) (bus : NamedBus) (pairs : List (ℕ × ℕ)) → SetsPairs i bus pairs → ReadsCalmly i.config
set_calm i bus pairs set = calm_whole i.config set.of_bus.0 set.of_bus.1

pub calm_gateway : (i : BusInputs) (bus : NamedBus) (pairs : List (ℕ × ℕ)) (events : List Event) → SetsGateway i bus pairs events → ReadsCalmly i.config × ReadsCalmly i.script
calm_gateway i bus pairs events set = (set_calm i bus pairs set.set, calm_whole i.script set.text set.whole)

inputs_tell : (i : BusInputs) (row : Row) → RowOfInputs i row → RowTells row i.config i.script
inputs_tell i row comes = grind (arith, calm_unread, told_first, refused_calm, told_second, set_calm, calm_whole)

pub row_tells : (same : Type 0) (i : BusInputs) (d : DiskStates) (row : Row) → RowOfGateway same i d row → RowTells row i.config i.script
row_tells same i d row (without_disks _ comes as_before) = inputs_tell i row comes
row_tells same i d row (not_started _ (bus, pairs, events, set, start) nine) = inr (inr (calm_gateway i bus pairs events set))

-- ---- words of another form

inputs_ask : (i : BusInputs) (row : Row) → RowOfInputs i row → AsksNoGateway i.words → row.status ≡ 2
inputs_ask i row comes nothing = grind arith

pub row_asks : (same : Type 0) (i : BusInputs) (d : DiskStates) (row : Row) → RowOfGateway same i d row → AsksNoGateway i.words → row.status ≡ 2
row_asks same i d row comes nothing = grind (arith, inputs_ask)

-- ---- a bus file that is offered, and has a fault

inputs_refuse : (i : BusInputs) (row : Row) (file : List ℕ) (fault : ConfigFault) (pairs : List (ℕ × ℕ)) → RowOfInputs i row → AsksGateway i.words pairs
    → Offers i.config file → bus_of file ≡ Err fault → (row.status ≡ 3) ⊎ (row.status ≡ 7)
inputs_refuse i row file fault pairs comes asks offers err = grind (arith, memory_status, bus_or_fault)

pub row_refuses : (same : Type 0) (i : BusInputs) (d : DiskStates) (row : Row) (file : List ℕ) (fault : ConfigFault) (pairs : List (ℕ × ℕ)) → RowOfGateway same i d row
    → AsksGateway i.words pairs → Offers i.config file → bus_of file ≡ Err fault → (row.status ≡ 3) ⊎ (row.status ≡ 7)
row_refuses same i d row file fault pairs comes asks offers err = grind (arith, inputs_refuse, bus_or_fault)

-- ---- a bus that is offered, and doesn't take the pairs

takes_or_refuses : (bus : NamedBus) (pairs : List (ℕ × ℕ)) (text : List ℕ) → TakesPairs bus pairs → RefusesPairs bus pairs text → ⊥
takes_or_refuses bus pairs text takes (other_number other) = other takes.one
takes_or_refuses bus pairs text takes (bad_pair place one lowest) = lowest.bad (takes.good place lowest.inside)

pub set_not_refused : (i : BusInputs) (bus over : NamedBus) (pairs p : List (ℕ × ℕ)) (text : List ℕ) → SetsPairs i over p → AsksGateway i.words pairs
    → OffersBus i.config bus → RefusesPairs bus pairs text → ⊥
set_not_refused i bus over pairs p text set asks offers refuses =
    let same : over ≡ bus = same_bus i.config over bus set.of_bus offers in
    let one : p ≡ pairs = asks_once i.words p pairs set.asks asks in
    takes_or_refuses bus pairs text (subst (λ (b : NamedBus). TakesPairs b pairs) same (subst (λ (q : List (ℕ × ℕ)). TakesPairs over q) one set.takes)) refuses

inputs_refuse_pairs : (i : BusInputs) (row : Row) (bus : NamedBus) (pairs : List (ℕ × ℕ)) (text : List ℕ) → RowOfInputs i row → AsksGateway i.words pairs
    → OffersBus i.config bus → RefusesPairs bus pairs text → (row.status ≡ 3) ⊎ (row.status ≡ 7)
inputs_refuse_pairs i row bus pairs text comes asks offers refuses = grind (arith, memory_status, set_not_refused)

pub row_refuses_pairs : (same : Type 0) (i : BusInputs) (d : DiskStates) (row : Row) (bus : NamedBus) (pairs : List (ℕ × ℕ)) (text : List ℕ) → RowOfGateway same i d row
    → AsksGateway i.words pairs → OffersBus i.config bus → RefusesPairs bus pairs text → (row.status ≡ 3) ⊎ (row.status ≡ 7)
row_refuses_pairs same i d row bus pairs text comes asks offers refuses = grind (arith, inputs_refuse_pairs, set_not_refused)

-- ---- a gateway that is offered

refuses_not_offered : (i : BusInputs) (bus : NamedBus) (pairs p : List (ℕ × ℕ)) (text : List ℕ) → AsksGateway i.words p → RefusesConfig i.config p text → OffersGateway i bus pairs → ⊥
refuses_not_offered i bus pairs p text asks (of_file fault _ is told) offers = offered_no_fault i.config bus fault offers.of_bus is
refuses_not_offered i bus pairs p text asks (of_bus over _ reads refuses) offers =
    let same : over ≡ bus = same_bus i.config over bus reads offers.of_bus in
    let one : p ≡ pairs = asks_once i.words p pairs asks offers.asks in
    takes_or_refuses bus pairs text offers.takes
    (subst (λ (b : NamedBus). RefusesPairs b pairs text) same (subst (λ (q : List (ℕ × ℕ)). RefusesPairs over q text) one refuses))

-- what was read is what was offered
pub offered_events : (i : BusInputs) (bus over : NamedBus) (pairs p : List (ℕ × ℕ)) (text input : List ℕ) (meaning : Result (List Event) Fault) → SetsPairs i over p
    → text ≡ input → own_events_of over.nodes text ≡ meaning → OffersGateway i bus pairs → own_events_of bus.nodes input ≡ meaning
offered_events i bus over pairs p text input meaning set same is offers =
    subst (λ (b : NamedBus). own_events_of b.nodes input ≡ meaning) (same_bus i.config over bus set.of_bus offers.of_bus)
    (subst (λ (t : List ℕ). own_events_of over.nodes t ≡ meaning) same is)

-- out of memory; or the script's first fault; or the bus doesn't start
abbrev pub OfOffered : DiskStates → Row → NamedBus → List ℕ → Type 0
OfOffered d row bus input =
    (row.status ≡ 7)
    ⊎ (((fault : Fault) × (row.status ≡ 4) × (own_events_of bus.nodes input ≡ Err fault))
    ⊎ ((events : List Event) × (own_events_of bus.nodes input ≡ Ok events) × ComesOfStart Format bus d row))

inputs_offered : (i : BusInputs) (d : DiskStates) (row : Row) (bus : NamedBus) (pairs : List (ℕ × ℕ)) (input : List ℕ) → RowOfInputs i row → OffersGateway i bus pairs
    → Offers i.script input → OfOffered d row bus input
inputs_offered i d row bus pairs input (no_form none config script) offers lines = absurd (none pairs offers.asks)
inputs_offered i d row bus pairs input (no_config other (p, also, lacks, unread)) offers lines = inl (memory_status i.config offers.of_bus.0 other offers.of_bus.1 lacks)
inputs_offered i d row bus pairs input (config_refused p told asks why unread) offers lines = absurd (refuses_not_offered i bus pairs p told asks why offers)
inputs_offered i d row bus pairs input (no_script other (over, p, set, lacks)) offers lines = inl (memory_status i.script input other lines lacks)
inputs_offered i d row bus pairs input (script_refused fault f) offers lines =
    inr (inl (fault, refl, offered_events i bus f.bus pairs f.pairs f.text input (Err fault) f.set (Offers-whole i.script input f.text lines f.whole) f.is offers))

pub row_offered : (same : Type 0) (i : BusInputs) (d : DiskStates) (row : Row) (bus : NamedBus) (pairs : List (ℕ × ℕ)) (input : List ℕ) → RowOfGateway same i d row
    → OffersGateway i bus pairs → Offers i.script input → OfOffered d row bus input
row_offered same i d row bus pairs input (without_disks _ comes as_before) offers lines = inputs_offered i d row bus pairs input comes offers lines
row_offered same i d row bus pairs input (not_started _ (over, p, events, set, start) nine) offers lines =
    inr (inr (
      events,
      offered_events i bus over pairs p set.text input (Ok events) set.set (Offers-whole i.script input set.text lines set.whole) set.has offers,
      subst (λ (b : NamedBus). ComesOfStart Format b d row) (same_bus i.config over bus set.set.of_bus offers.of_bus) start,
    ))
