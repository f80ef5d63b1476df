use Rattle.std.proofs.Common.{refl, sym, ◌∙◌}
use Rattle.std.proofs.lemmas.Result.{err_from_is_err_and}
use Rattle.bus_store_commands.proofs.MakePhases.{make_words_refused, make_node_lacking, make_room_lacking}
use Rattle.bus_store_commands.proofs.make.prepare.Goals as goal

pub returns-then-not-asks_over_bus : goal.returns-then-not-asks_over_bus
returns-then-not-asks_over_bus g c =
    make_words_refused _ _ _ (sym c.asks_over_bus.ensures ∙ c.if-not-asks_over_bus.true) refl c.fixed.ensures

pub returns-in_err-bus : goal.returns-in_err-bus
returns-in_err-bus g c =
    let p = err_from_is_err_and c.from_residual.result c.from_residual.ensures.1 in
    rw (p.1, p.2) (make_node_lacking _ _ _ _ (sym c.asks_over_bus.ensures ∙ c.if-not-asks_over_bus.false) c.in_err-bus.ensures refl)

pub returns-in-Ok : goal.returns-in-Ok
returns-in-Ok g c = (sym c.asks_over_bus.ensures ∙ c.if-not-asks_over_bus.false, c.in_ok-bus.ensures, c.in-Ok.ensures)

pub returns-in-Err : goal.returns-in-Err
returns-in-Err g c =
    make_room_lacking _ _ _ _ (sym c.asks_over_bus.ensures ∙ c.if-not-asks_over_bus.false) c.in_ok-bus.ensures c.no_memory.ensures
