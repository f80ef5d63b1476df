-- Every place keeps its content, and those outside of the range are as before.
use Rattle.std.proofs.Common.{◌≡◌, ◌⊎◌, ◌<◌, ◌≤◌, ℕ, length}
use Rattle.flash_places.specs.Memory.{flash_place_in}
use Rattle.flash_places.proofs.mem_flash.loosen_range.Given as goal

abbrev pub invariant-loop-i : goal.invariant-loop-i
invariant-loop-i l = record {
  same : length l.held.items ≡ length l.initial.held.items;
  contents : (k : ℕ) → (flash_place_in l.held.items k).content ≡ (flash_place_in l.initial.held.items k).content;
  rest : (k : ℕ) → (k < l.fn.start) ⊎ (l.i ≤ k) → flash_place_in l.held.items k ≡ flash_place_in l.initial.held.items k;
}
