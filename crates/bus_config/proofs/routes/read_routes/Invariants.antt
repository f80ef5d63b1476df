use Rattle.std.proofs.Common.{◌≡◌, ◌≢◌, [], length, All, AllPairs, map}
use Rattle.toml.specs.View.{view}
use Rattle.freshness_routes.specs.Config.{IsRoute}
use Rattle.bus_config.specs.BusFile.{routes_from}
use Rattle.bus_config.proofs.RouteRows.{routes_left}
use Rattle.bus_config.proofs.routes.read_routes.Given as goal

abbrev pub invariant-loop-place : goal.invariant-loop-place
invariant-loop-place l = record {
  whole : routes_left l.node l.routes.items l.rows l.place ≡ routes_from l.node [] (map view l.rows);
  counted : length l.routes.items ≡ l.place;
  are_routes : All IsRoute l.routes.items;
  own_ids : AllPairs (λ r s. r.id ≢ s.id) l.routes.items;
}
