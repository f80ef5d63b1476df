use Rattle.std.proofs.Common.{refl, sym, ◌∙◌, map}
use Rattle.std.specs.Prelude.{string_bytes}
use Rattle.bus_store_commands.proofs.GrowPhases.{asked_bus, asked_none}
use Rattle.bus_store_commands.proofs.growing.grow_asked.Goals as goal

pub returns-then-not-asks_over_bus : goal.returns-then-not-asks_over_bus
returns-then-not-asks_over_bus g c =
    asked_none
    (record { words = map string_bytes c.args.words.now; bus = record { before = g.S.Source.state c.args.bus.now; after = g.S.Source.state c.args.bus.now } })
    c.fixed.result (sym c.asks_over_bus.ensures ∙ c.if-not-asks_over_bus.true) refl c.fixed.ensures

pub returns : goal.returns
returns g c =
    asked_bus
    (record {
      words = map string_bytes c.args.words.now;
      bus = record { before = g.S.Source.state c.args.bus.now; after = g.S.Source.state c.node_bus_from.new.config };
    })
    c.node_bus_from.result (sym c.asks_over_bus.ensures ∙ c.if-not-asks_over_bus.false) c.node_bus_from.ensures
