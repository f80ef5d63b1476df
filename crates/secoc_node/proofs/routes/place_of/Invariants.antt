-- none of the routes so far is the one
use Rattle.std.proofs.Common.{◌≡◌, ◌+◌, drop}
use Rattle.bus_machine.specs.Node.{place_in}
use Rattle.secoc_node.proofs.routes.place_of.Given as goal

abbrev pub invariant-loop-place : goal.invariant-loop-place
invariant-loop-place l = place_in l.routes l.id l.direction ≡ l.place + place_in (drop l.place l.routes) l.id l.direction
