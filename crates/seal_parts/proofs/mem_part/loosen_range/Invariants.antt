-- So many units are left as a cut leaves them, and the others are as before.
use Rattle.std.proofs.Common.{◌≡◌, ◌⊎◌, ◌+◌, ◌*◌, ◌<◌, ◌≤◌, ℕ, length}
use Rattle.seal_parts.specs.declared.UnitKind.{UnitKind}
use Rattle.seal_parts.specs.Parts.{MayBeLeft}
use Rattle.seal_parts.specs.Memory.{unit_in, unit_number}
use Rattle.seal_parts.proofs.mem_part.loosen_range.Given as goal

abbrev pub invariant-loop-i : goal.invariant-loop-i
invariant-loop-i l = record {
  same : length l.held.items ≡ length l.initial.held.items;
  contents : (k : ℕ) (kind : UnitKind) → k * 5 + unit_number kind < l.i → MayBeLeft kind (unit_in l.initial.held.items (l.fn.start + (k * 5 + unit_number kind))).content
      (unit_in l.held.items (l.fn.start + (k * 5 + unit_number kind))).content;
  rest : (k : ℕ) → (k < l.fn.start) ⊎ (l.fn.start + l.i ≤ k) → unit_in l.held.items k ≡ unit_in l.initial.held.items k;
}
