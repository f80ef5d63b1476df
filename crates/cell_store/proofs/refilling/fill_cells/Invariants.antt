-- The cells before i are written.
use Rattle.std.proofs.Common.{◌≡◌, take, set}
use Rattle.std.specs.List.{flat_map}
use Rattle.cut_disk.specs.Images.{splice}
use Rattle.cell_store.proofs.refilling.fill_cells.Given as goal

abbrev pub invariant-loop-i : goal.invariant-loop-i
invariant-loop-i l = l.room ≡ splice 1 (flat_map (λ c. c) (take l.i (set l.cells l.cell l.payload))) l.initial.room
