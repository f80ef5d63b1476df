-- The cells before this one are read.
use Rattle.std.proofs.Common.{◌≡◌, ◌<◌, ℕ, Some, [], get_or}
use Rattle.seal_parts.specs.declared.LineBody.TheVariants.{Copies}
use Rattle.seal_logs.specs.Reads.{reads_in}
use Rattle.seal_logs.proofs.following.read_copy.Given as goal

abbrev pub invariant-loop-i : goal.invariant-loop-i
invariant-loop-i l = record {
  copied : (j : ℕ) → j < l.i → (reads_in l.fn.sizes l.fn.reads l.fn.bank j).line ≡ Some (record { generation = l.fn.generation; body = Copies j (get_or l.cells j []) });
}
