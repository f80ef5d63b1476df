use Rattle.std.proofs.lemmas.Result.{on_ok_weaker}
use Rattle.cell_store.proofs.FormatLaws.{firm_pairs-cells}
use Rattle.cell_store.proofs.moving.write_behind.Goals as goal

pub returns-in-Twin-clause-firm : goal.returns-in-Twin-clause-firm
returns-in-Twin-clause-firm g c = rw c.in-Twin.is (on_ok_weaker c.write_cells.result (firm_pairs-cells c.args.version c.args.cells.now _ _) c.write_cells.ensures.pairs)
