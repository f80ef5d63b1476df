use Rattle.std.proofs.Common.{◌≡◌, Some, map, option_map, sym, ap, ◌∙◌}
use Rattle.toml.specs.Data.{as_array}
use Rattle.toml.specs.View.{view, array_view}
use Rattle.bus_config.specs.Values.{items_list}
use Rattle.bus_config.proofs.RowLists.{items_listed}
use Rattle.bus_config.proofs.values.rows.Goals as goal

pub returns-in-Some : goal.returns-in-Some
returns-in-Some c =
    let found : Some (array_view c.in-Some.rows.now) ≡ as_array (view c.args.value.now) = ap (option_map (λ v. array_view v.now)) (sym c.in-Some.is) ∙ c.as_array.ensures in
    ap (λ vs. Some (map view vs)) c.as_slice.ensures.value
    ∙ sym (ap Some (items_listed c.in-Some.rows.now.items))
    ∙ ap (option_map items_list) found
