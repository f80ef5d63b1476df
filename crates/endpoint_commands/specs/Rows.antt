-- The table of answers of `endpoint` before its log: its rows, and when each comes
use Rattle.std.specs.Prelude.{◌≡◌, ◌≢◌, ◌⊎◌, ℕ, Bool, true, false, Option, None, Some, List, length, codes, Ok, Err}
use Rattle.text_lines.specs.Texts.{line}
use Rattle.program_edge.specs.declared.input.InputFault.{InputFault}
use Rattle.program_edge.specs.Rows.{Row, row_of, input_row, memory_row}
use Rattle.program_edge.specs.Inputs.{Reading, IsUnread, ReadsWhole, Lacks, Offers}
use Rattle.text_lines.specs.LineRows.{line_row}
use Rattle.text_lines.specs.Readings.{Fault}
use Rattle.secoc_node.specs.Words.{IsImage}
use Rattle.bus_config.specs.declared.fault.ConfigFault.{ConfigFault}
use Rattle.bus_config.specs.FaultTexts.{config_fault_text}
use Rattle.bus_config.specs.Buses.{NamedBus}
use Rattle.bus_programs.specs.BusFiles.{ReadsBus, OffersBus, IsConfigFault}
use Rattle.bus_programs.specs.BusRoutes.{routes_of}
use Rattle.bus_programs.specs.Scripts.{ReadsLinesAs}
use Rattle.endpoint_commands.specs.declared.rules.FrameRule.{FrameRule}
use Rattle.endpoint_commands.specs.declared.run.EndpointForm.{EndpointForm}
use Rattle.endpoint_commands.specs.declared.run.EndpointForm.TheVariants.{Plain, Boots}
use Rattle.endpoint_commands.specs.Rules.{rules_of}

-- what goes into a run: its words, and what was known of its sources
pub record EndpointInputs : Type 0 where
  pub words : List (List ℕ)
  pub config : Reading
  pub map : Reading
  pub image : Reading
  pub log : Reading

-- `B MAP LOG DISK`, or with an image behind them
abbrev pub AsksEndpoint : List (List ℕ) → Type 0
AsksEndpoint words = (length words ≡ 4) ⊎ (length words ≡ 5)

abbrev pub AsksBoot : List (List ℕ) → Type 0
AsksBoot words = length words ≡ 5

-- the form of the words, or that they have another
abbrev pub AsksForm : List (List ℕ) → Option EndpointForm → Type 0
AsksForm words None = ¬ AsksEndpoint words
AsksForm words (Some Plain) = length words ≡ 4
AsksForm words (Some Boots) = AsksBoot words

abbrev pub does_boot : EndpointForm → Bool
does_boot Plain = false
does_boot Boots = true

abbrev pub endpoint_usage : List ℕ
endpoint_usage = line (codes "usage: endpoint B MAP LOG DISK [IMAGE]")

-- the words are of the form, and the bus file was read whole and has a bus of one node, of which this holds
abbrev pub OverNode : EndpointInputs → (NamedBus → Type 0) → Type 0
OverNode i P = AsksEndpoint i.words × ((bus : NamedBus) × ReadsBus i.config bus × (length bus.nodes ≡ 1) × P bus)

-- the map was read whole, too, and has rules over this node, of which this holds
abbrev pub OverRules : EndpointInputs → (NamedBus → List FrameRule → Type 0) → Type 0
OverRules i P = OverNode i (λ bus.
    (rules : List FrameRule) × ReadsLinesAs (rules_of (routes_of bus)) i.map rules × P bus rules)

-- the source of an image was read whole, if these words ask for one
abbrev pub ReadsImage : List (List ℕ) → Reading → Option (List ℕ) → Type 0
ReadsImage words source None = (length words ≡ 4) × IsUnread source
ReadsImage words source (Some image) = AsksBoot words × ReadsWhole source image × IsImage image

-- all but the log was read whole, and gives this
abbrev pub SetsEndpoint : EndpointInputs → NamedBus → List FrameRule → Option (List ℕ) → Type 0
SetsEndpoint i bus rules image = AsksEndpoint i.words × ReadsBus i.config bus × (length bus.nodes ≡ 1)
    × ReadsLinesAs (rules_of (routes_of bus)) i.map rules × ReadsImage i.words i.image image

-- all but the log was read whole, and this holds of what it gives
abbrev pub OverEndpoint : EndpointInputs → (NamedBus → List FrameRule → Option (List ℕ) → Type 0) → Type 0
OverEndpoint i P = (bus : NamedBus) × (rules : List FrameRule) × (image : Option (List ℕ))
    × SetsEndpoint i bus rules image × P bus rules image

-- ---- what a row comes of

-- the sources in their order: the first that gives no input, for this cause; those after it are unread
pub data LacksEndpointInput (i : EndpointInputs) (fault : InputFault) : Type 0 where
  of_config : AsksEndpoint i.words → Lacks i.config fault → IsUnread i.map → IsUnread i.image → IsUnread i.log
      → LacksEndpointInput i fault
  of_map : OverNode i (λ bus. Lacks i.map fault) → IsUnread i.image → IsUnread i.log → LacksEndpointInput i fault
  of_image : OverRules i (λ bus rules. AsksBoot i.words × Lacks i.image fault) → IsUnread i.log
      → LacksEndpointInput i fault

-- the bus file was read whole, and this is its first fault; nothing else was read
abbrev pub HasConfigFault : EndpointInputs → ConfigFault → Type 0
HasConfigFault i fault = AsksEndpoint i.words × IsConfigFault i.config fault
    × (IsUnread i.map × IsUnread i.image × IsUnread i.log)

-- the bus file was read whole, and its bus hasn't one node; nothing else was read
abbrev pub HasOtherNodes : EndpointInputs → Type 0
HasOtherNodes i = AsksEndpoint i.words × ((bus : NamedBus) × ReadsBus i.config bus × (length bus.nodes ≢ 1))
    × (IsUnread i.map × IsUnread i.image × IsUnread i.log)

-- the map was read whole, and this is its first fault over the node's routes; neither an image nor the log was read
abbrev pub HasMapFault : EndpointInputs → Fault → Type 0
HasMapFault i fault = OverNode i (λ bus.
    (text : List ℕ) × ReadsWhole i.map text × (rules_of (routes_of bus) text ≡ Err fault))
    × (IsUnread i.image × IsUnread i.log)

-- an image was asked for and read whole, and has not 1 to 65,536 bytes; the log is unread
abbrev pub HasOtherImage : EndpointInputs → Type 0
HasOtherImage i = OverRules i (λ bus rules. AsksBoot i.words
    × ((bytes : List ℕ) × ReadsWhole i.image bytes × ¬ IsImage bytes)) × IsUnread i.log

-- the rows of the inputs, in their order
pub data ComesBeforeLog (i : EndpointInputs) : Row → Type 0 where
  no_form : ¬ AsksEndpoint i.words → IsUnread i.config → IsUnread i.map → IsUnread i.image → IsUnread i.log
      → ComesBeforeLog i (row_of 2 endpoint_usage)
  no_source : (fault : InputFault) → LacksEndpointInput i fault → ComesBeforeLog i (input_row fault)
  config_fault : (fault : ConfigFault) (text : List ℕ) → HasConfigFault i fault → config_fault_text fault ≡ Some text
      → ComesBeforeLog i (row_of 3 text)
  other_nodes : HasOtherNodes i → ComesBeforeLog i (row_of 3 (line (codes "config: nodes")))
  map_fault : (fault : Fault) → HasMapFault i fault → ComesBeforeLog i (line_row fault)
  other_image : HasOtherImage i → ComesBeforeLog i (row_of 3 (line (codes "image: length")))
  no_room : OverEndpoint i (λ bus rules image. Unit {0}) → IsUnread i.log → ComesBeforeLog i memory_row

-- ---- what the sources tell, and none of them failed

-- the words are of the form, and the bus file has a bus of one node
abbrev pub OffersNode : EndpointInputs → NamedBus → Type 0
OffersNode i bus = AsksEndpoint i.words × OffersBus i.config bus × (length bus.nodes ≡ 1)

-- the map has rules over this node, too
abbrev pub OffersRules : EndpointInputs → NamedBus → List FrameRule → Type 0
OffersRules i bus rules = OffersNode i bus
    × ((text : List ℕ) × Offers i.map text × (rules_of (routes_of bus) text ≡ Ok rules))

-- and an image that is asked for is one that a node boots with
abbrev pub OffersImage : EndpointInputs → Option (List ℕ) → Type 0
OffersImage i None = length i.words ≡ 4
OffersImage i (Some image) = AsksBoot i.words × Offers i.image image × IsImage image

abbrev pub OffersEndpoint : EndpointInputs → NamedBus → List FrameRule → Option (List ℕ) → Type 0
OffersEndpoint i bus rules image = OffersRules i bus rules × OffersImage i image
