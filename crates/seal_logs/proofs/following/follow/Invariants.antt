-- These deeds were followed, and the next one stands before the limit.
use Rattle.std.proofs.Common.{◌+◌, ◌≤◌, ℕ, List, ◌++◌, take}
use Rattle.seal_logs.specs.Reads.{reads_in, IsChain}
use Rattle.seal_logs.proofs.following.follow.Given as goal

abbrev pub invariant-loop-count : goal.invariant-loop-count
invariant-loop-count l = record {
  done : (ks : List ℕ) → IsChain l.fn.sizes (reads_in l.fn.sizes l.fn.reads l.fn.bank) l.fn.generation l.limit l.next ks
      → IsChain l.fn.sizes (reads_in l.fn.sizes l.fn.reads l.fn.bank) l.fn.generation l.fn.sizes.places l.fn.last (take l.count l.chain ++ ks);
  only : (ks : List ℕ) → IsChain l.fn.sizes (reads_in l.fn.sizes l.fn.reads l.fn.bank) l.fn.generation l.fn.sizes.places l.fn.last ks
      → (rest : List ℕ) × IsChain l.fn.sizes (reads_in l.fn.sizes l.fn.reads l.fn.bank) l.fn.generation l.limit l.next rest;
  bound : l.limit + l.count ≤ l.fn.sizes.places;
}
