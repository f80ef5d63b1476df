-- The last deeds of the chain are made.
use Rattle.std.proofs.Common.{◌-◌, length, drop}
use Rattle.seal_logs.specs.Reads.{reads_in, MakesOf}
use Rattle.seal_logs.proofs.following.make_cells.Given as goal

abbrev pub invariant-loop-i : goal.invariant-loop-i
invariant-loop-i l = record {
  made : MakesOf (reads_in l.fn.sizes l.fn.reads l.fn.bank) l.fn.generation (drop (length l.fn.chain - l.i) l.fn.chain) l.initial.cells l.cells;
}
