-- The bytes before this address are what the cut leaves of them, and the others are as they were.
use Rattle.std.proofs.Common.{◌≡◌, ℕ, ◌<◌, ◌≤◌, get_or}
use Rattle.cut_disk.specs.Memory.{left_byte}
use Rattle.cut_disk.proofs.mem_disk.tear.Given as goal

abbrev pub invariant-loop-address : goal.invariant-loop-address
invariant-loop-address l = record {
  done : (k : ℕ) → k < l.address → get_or l.bytes k 0 ≡ left_byte l.torn l.initial.bytes l.synced l.loose k;
  rest : (k : ℕ) → l.address ≤ k → get_or l.bytes k 0 ≡ get_or l.initial.bytes k 0;
}
