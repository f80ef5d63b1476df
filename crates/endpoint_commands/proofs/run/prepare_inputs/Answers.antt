use Rattle.std.proofs.Common.{List, subst, sym, refl}
use Rattle.std.proofs.lemmas.Result.{err_from_is_err_and}
use Rattle.bus_config.specs.Buses.{IsNamedBus}
use Rattle.endpoint_commands.specs.declared.rules.FrameRule.{FrameRule}
use Rattle.endpoint_commands.specs.States.{HasRoomFor}
use Rattle.endpoint_commands.specs.Rows.{AsksEndpoint, ComesBeforeLog, no_room}
use Rattle.endpoint_commands.proofs.Preparing.{no_bus_row, other_bus_row, no_rules_row, no_image_row, sets_rules, finds_image, image_is, form_asks, form_five, form_four}
use Rattle.endpoint_commands.proofs.run.prepare_inputs.Goals as goal

pub returns-in_err-bus : goal.returns-in_err-bus
returns-in_err-bus g c = λ words log form.
    let p = err_from_is_err_and c.from_residual.result c.from_residual.ensures.1 in
    rw (p.1, p.2) (no_bus_row _ _ (form_asks words c.args.form form) c.in_err-bus.ensures refl refl refl)

pub returns-in_err-check_bus : goal.returns-in_err-check_bus
returns-in_err-check_bus g c = λ words log form.
    let p = err_from_is_err_and c.from_residual-in_err-check_bus.result c.from_residual-in_err-check_bus.ensures.1 in
    rw (p.1, p.2) (other_bus_row _ c.in_ok-bus.bus _ (form_asks words c.args.form form) c.in_ok-bus.ensures c.in_err-check_bus.ensures refl refl refl)

pub returns-in_err-rules : goal.returns-in_err-rules
returns-in_err-rules g c = λ words log form.
    let p = err_from_is_err_and c.from_residual-in_err-rules.result c.from_residual-in_err-rules.ensures.1 in
    rw (p.1, p.2)
    (no_rules_row _ c.in_ok-bus.bus c.node_routes.result.now _ (form_asks words c.args.form form) c.in_ok-bus.ensures c.in_ok-check_bus.ensures c.node_routes.ensures
    c.in_err-rules.ensures refl refl)

pub returns-in_err-image : goal.returns-in_err-image
returns-in_err-image g c = λ words log form.
    let p = err_from_is_err_and c.from_residual-in_err-image.result c.from_residual-in_err-image.ensures.1 in
    let asks : AsksEndpoint words = form_asks words c.args.form form in
    rw (p.1, p.2)
    (no_image_row _ c.in_ok-bus.bus c.node_routes.result.now c.in_ok-rules.rules.items c.boots.result _ asks c.in_ok-bus.ensures c.in_ok-check_bus.ensures c.node_routes.ensures
    c.in_ok-rules.ensures (form_five words c.args.form c.boots.result c.boots.ensures form) c.in_err-image.ensures refl)

pub returns-in-Ok : goal.returns-in-Ok
returns-in-Ok g c = λ words log form.
    let asks : AsksEndpoint words = form_asks words c.args.form form in
    let image =
    finds_image words _ c.boots.result c.in_ok-image.image asks (form_five words c.args.form c.boots.result c.boots.ensures form) (form_four words c.args.form c.boots.result c.boots.ensures form) c.in_ok-image.ensures in
    let rules = sets_rules c.in_ok-bus.bus _ c.node_routes.result.now c.in_ok-rules.rules.items c.node_routes.ensures c.in_ok-rules.ensures in (
      record {
        is_bus = subst IsNamedBus c.bus.view_is c.bus.invariant;
        one = c.in_ok-check_bus.ensures;
        room = subst (λ (rs : List FrameRule). HasRoomFor rs c.in-Ok.room) c.as_slice.ensures.value c.in-Ok.ensures;
        image = image_is words _ c.in_ok-image.image image;
      },
      (asks, c.in_ok-bus.ensures, c.in_ok-check_bus.ensures, rules, image),
      refl,
    )

pub returns-in-Err : goal.returns-in-Err
returns-in-Err g c = λ words log form.
    let asks : AsksEndpoint words = form_asks words c.args.form form in
    let image =
    finds_image words _ c.boots.result c.in_ok-image.image asks (form_five words c.args.form c.boots.result c.boots.ensures form) (form_four words c.args.form c.boots.result c.boots.ensures form) c.in_ok-image.ensures in
    let rules = sets_rules c.in_ok-bus.bus _ c.node_routes.result.now c.in_ok-rules.rules.items c.node_routes.ensures c.in_ok-rules.ensures in
    subst (ComesBeforeLog _) (sym c.no_memory.ensures)
    (no_room (c.in_ok-bus.bus, c.in_ok-rules.rules.items, c.in_ok-image.image, (asks, c.in_ok-bus.ensures, c.in_ok-check_bus.ensures, rules, image), tt) refl)
