use Rattle.std.proofs.Common.{refl, subst, sym, map, arith}
use Rattle.std.proofs.lemmas.List.{length-map}
use Rattle.std.proofs.lemmas.Result.{err_from_is_err_and}
use Rattle.std.specs.Prelude.{string_bytes}
use Rattle.bus_config.specs.Buses.{IsNamedBus}
use Rattle.chart_commands.specs.Inputs.{AsksChart}
use Rattle.chart_commands.specs.Rows.{ChartInputRow, no_form}
use Rattle.chart_commands.proofs.Preparing.{ChartInputRow-config, ChartInputRow-script}
use Rattle.chart_commands.proofs.inputs.prepare.Goals as goal

pub returns-then-words-ne2 : goal.returns-then-words-ne2
returns-then-words-ne2 g c =
    let other : ¬ AsksChart (map string_bytes c.args.words.now) =
    λ two. omega (arith, c.if-words-ne2.true, two, length-map c.args.words.now string_bytes) in
    subst (ChartInputRow _) (sym c.fixed.ensures) (no_form other refl refl)

pub returns-in_err-bus : goal.returns-in_err-bus
returns-in_err-bus g c =
    let asks : AsksChart (map string_bytes c.args.words.now) = omega (arith, c.if-words-ne2.false, length-map c.args.words.now string_bytes) in
    let p = err_from_is_err_and c.from_residual.result c.from_residual.ensures.1 in
    rw (p.1, p.2) (ChartInputRow-config _ _ asks c.in_err-bus.ensures refl)

pub returns-in_err-events : goal.returns-in_err-events
returns-in_err-events g c =
    let asks : AsksChart (map string_bytes c.args.words.now) = omega (arith, c.if-words-ne2.false, length-map c.args.words.now string_bytes) in
    let p = err_from_is_err_and c.from_residual-in_err-events.result c.from_residual-in_err-events.ensures.1 in
    rw (p.1, p.2)
    (ChartInputRow-script _ c.in_ok-bus.bus _
    (record { asks = asks; of_bus = c.in_ok-bus.ensures; is_bus = subst IsNamedBus c.bus.view_is c.bus.invariant })
    c.in_err-events.ensures)
