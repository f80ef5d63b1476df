-- The units from the start to before i are blank, and the others are as before.
use Rattle.std.proofs.Common.{◌≡◌, ◌⊎◌, ◌<◌, ◌≤◌, ℕ, length}
use Rattle.seal_parts.specs.Parts.{blank_unit}
use Rattle.seal_parts.specs.Memory.{unit_in}
use Rattle.seal_parts.proofs.mem_part.blank_range.Given as goal

abbrev pub invariant-loop-i : goal.invariant-loop-i
invariant-loop-i l = record {
  same : length l.held.items ≡ length l.initial.held.items;
  blank : (k : ℕ) → l.fn.start ≤ k → k < l.i → unit_in l.held.items k ≡ blank_unit;
  rest : (k : ℕ) → (k < l.fn.start) ⊎ (l.i ≤ k) → unit_in l.held.items k ≡ unit_in l.initial.held.items k;
}
