-- The bus of one node of a bus file, or why there is none
use Rattle.std.specs.Prelude.{◌≡◌, ◌≢◌, length, codes, Result, Ok, Err}
use Rattle.text_lines.specs.Texts.{line}
use Rattle.program_edge.specs.Rows.{Row, row_of}
use Rattle.program_edge.specs.Inputs.{Reading}
use Rattle.bus_config.specs.Buses.{NamedBus}
use Rattle.bus_programs.specs.BusFiles.{ReadsBus, LacksBus, OffersBus}

-- the bus file was read whole, and has this bus, of one node
abbrev pub ReadsNodeBus : Reading → NamedBus → Type 0
ReadsNodeBus config bus = ReadsBus config bus × (length bus.nodes ≡ 1)

-- its source tells one with this bus, and didn't fail
abbrev pub OffersNodeBus : Reading → NamedBus → Type 0
OffersNodeBus config bus = OffersBus config bus × (length bus.nodes ≡ 1)

-- why there is none: the source gives no bus, or one that hasn't one node
pub data LacksNodeBus (config : Reading) : Row → Type 0 where
  no_bus : (row : Row) → LacksBus config row → LacksNodeBus config row
  other_nodes : (bus : NamedBus) → ReadsBus config bus → length bus.nodes ≢ 1
      → LacksNodeBus config (row_of 3 (line (codes "config: nodes")))

-- the bus, or why there is none
abbrev pub TakesNodeBus : Reading → Result NamedBus Row → Type 0
TakesNodeBus config (Ok bus) = ReadsNodeBus config bus
TakesNodeBus config (Err row) = LacksNodeBus config row
