-- A flash in memory is a flash.
use Rattle.std.proofs.Common.{ℕ, ◌+◌, ◌*◌, ◌^◌, ◌<◌, ◌≤◌, Bool, List, ap, if◌then◌else◌, arith}
use Rattle.std.proofs.lemmas.Bool.{le-ltb}
use Rattle.basics.specs.FaultCount.{last_count}
use Rattle.flash_places.specs.declared.mem_flash.MemPlace.{MemPlace}
use Rattle.flash_places.specs.Places.{blank_place}
use Rattle.flash_places.specs.Memory.{flash_place_in, flash_of}
use Rattle.flash_places.specs.State.{BlankBehind, IsFlash}

pub blank_behind : (places : ℕ) (held : List MemPlace) → BlankBehind places (flash_of places held)
blank_behind places held bank k far =
    ap (λ (b : Bool). if b then flash_place_in held (bank * places + k) else blank_place) (le-ltb k places far)

pub memory_is_a_flash : (banks places faults : ℕ) (tells : Bool) (held : List MemPlace) → 2 ≤ banks → banks ≤ 16
    → faults ≤ last_count → places < 2 ^ 16
    → IsFlash (record { flash = flash_of places held; banks = banks; places = places; faults = faults; tells_blank = tells })
memory_is_a_flash banks places faults tells held two few counted fits = record {
  two = two;
  few = few;
  sized = omega arith;
  counted = counted;
  behind = blank_behind places held;
}
