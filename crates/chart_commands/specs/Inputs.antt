-- What goes into a chart, and what of it is read (own)
use Rattle.std.specs.Prelude.{◌≡◌, ℕ, List, length, Ok, Err, codes}
use Rattle.program_edge.specs.declared.input.InputFault.{InputFault}
use Rattle.program_edge.specs.Inputs.{IsUnread, ReadsWhole, Lacks}
use Rattle.text_lines.specs.Readings.{Fault}
use Rattle.text_lines.specs.Texts.{line}
use Rattle.bus_machine.specs.declared.events.Event.{Event}
use Rattle.bus_config.specs.Buses.{NamedBus, IsNamedBus}
use Rattle.bus_script.specs.EventForms.{events_of}
use Rattle.bus_programs.specs.BusFiles.{ReadsBus, OffersBus}
use Rattle.bus_programs.specs.Inputs.{BusInputs}

-- the arguments are two: the first names the bus file, and the second the script
abbrev pub AsksChart : List (List ℕ) → Type 0
AsksChart words = length words ≡ 2

-- if they aren't two
abbrev pub chart_usage : List ℕ
chart_usage = line (codes "usage: chart B F")

-- the arguments are two, and there is no bus file, for this cause; of the script nothing was read
abbrev pub NoChartConfig : BusInputs → InputFault → Type 0
NoChartConfig i fault = AsksChart i.words × Lacks i.config fault × IsUnread i.script

-- the arguments are two, and the bus is that of the bus file, which was read whole
pub record SetsBus (i : BusInputs) (bus : NamedBus) : Type 0 where
  pub asks : AsksChart i.words
  pub of_bus : ReadsBus i.config bus
  pub is_bus : IsNamedBus bus

-- that is so, and there is no script, for this cause
abbrev pub NoChartScript : BusInputs → InputFault → Type 0
NoChartScript i fault = (bus : NamedBus) × SetsBus i bus × Lacks i.script fault

-- that is so, and the script was read whole, and this is its first fault
pub record HasBadEvent (i : BusInputs) (fault : Fault) : Type 0 where
  pub bus : NamedBus
  pub set : SetsBus i bus
  pub text : List ℕ
  pub whole : ReadsWhole i.script text
  pub is : events_of bus.nodes text ≡ Err fault

-- that is so, and the script was read whole, and has these events
pub record SetsChart (i : BusInputs) (bus : NamedBus) (events : List Event) : Type 0 where
  pub set : SetsBus i bus
  pub text : List ℕ
  pub whole : ReadsWhole i.script text
  pub has : events_of bus.nodes text ≡ Ok events

-- all inputs are valid, and were read whole; this holds of what they mean
abbrev pub OverChart : BusInputs → (NamedBus → List Event → Type 0) → Type 0
OverChart i P = (bus : NamedBus) × (events : List Event) × SetsChart i bus events × P bus events

-- the arguments are two, and the source of the bus file, which didn't fail, tells one with this bus
pub record OffersChart (i : BusInputs) (bus : NamedBus) : Type 0 where
  pub asks : AsksChart i.words
  pub of_bus : OffersBus i.config bus
