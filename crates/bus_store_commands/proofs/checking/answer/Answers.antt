use Rattle.std.proofs.Common.{refl, sym, ◌∙◌}
use Rattle.std.proofs.lemmas.Result.{err_from_is_err_and}
use Rattle.bus_store_commands.proofs.CheckPhases.{words_refused, node_lacking, file_lacking, check_done}
use Rattle.bus_store_commands.proofs.checking.answer.Goals as goal

pub returns-then-not-asks_over_bus : goal.returns-then-not-asks_over_bus
returns-then-not-asks_over_bus g c = words_refused _ _ (sym c.asks_over_bus.ensures ∙ c.if-not-asks_over_bus.true) refl refl c.fixed.ensures

pub returns-in_err-bus : goal.returns-in_err-bus
returns-in_err-bus g c =
    let p = err_from_is_err_and c.from_residual.result c.from_residual.ensures.1 in
    rw (p.1, p.2) (node_lacking _ _ _ (sym c.asks_over_bus.ensures ∙ c.if-not-asks_over_bus.false) c.in_err-bus.ensures refl refl)

pub returns-in_err-bytes : goal.returns-in_err-bytes
returns-in_err-bytes g c =
    let p = err_from_is_err_and c.from_residual-in_err-bytes.result c.from_residual-in_err-bytes.ensures.1 in
    rw (p.1, p.2) (file_lacking _ _ _ _ (sym c.asks_over_bus.ensures ∙ c.if-not-asks_over_bus.false) c.in_ok-bus.ensures c.in_err-bytes.ensures.refused refl)

pub returns : goal.returns
returns g c =
    check_done _ _ _ _ c.check_over_bus.result (sym c.asks_over_bus.ensures ∙ c.if-not-asks_over_bus.false) c.in_ok-bus.ensures c.in_ok-bytes.ensures.ok
    c.as_slice.ensures.value c.check_over_bus.ensures.done c.check_over_bus.ensures.refused
