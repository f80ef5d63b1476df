-- The places from the start to before i are blank, and the others are as before.
use Rattle.std.proofs.Common.{◌≡◌, ◌⊎◌, ◌<◌, ◌≤◌, ℕ, length}
use Rattle.flash_places.specs.Places.{blank_place}
use Rattle.flash_places.specs.Memory.{flash_place_in}
use Rattle.flash_places.proofs.mem_flash.blank_range.Given as goal

abbrev pub invariant-loop-i : goal.invariant-loop-i
invariant-loop-i l = record {
  same : length l.held.items ≡ length l.initial.held.items;
  blank : (k : ℕ) → l.fn.start ≤ k → k < l.i → flash_place_in l.held.items k ≡ blank_place;
  rest : (k : ℕ) → (k < l.fn.start) ⊎ (l.i ≤ k) → flash_place_in l.held.items k ≡ flash_place_in l.initial.held.items k;
}
