-- What a flash in memory means.
use Rattle.std.specs.Prelude.{Bool}
use Rattle.flash_places.specs.declared.mem_flash.MemFlash.{MemFlash}
use Rattle.flash_places.specs.Memory.{flash_of}
use Rattle.flash_places.specs.State.{FlashState}

abbrev pub memory_state : MemFlash → FlashState
memory_state m = record {
  flash = flash_of m.places m.held.items;
  banks = m.banks;
  places = m.places;
  faults = m.faults;
  tells_blank = m.tells_blank;
}

-- the same flash, which tells blank places or not
abbrev pub telling_blank : Bool → FlashState → FlashState
telling_blank tells s = record {
  flash = s.flash;
  banks = s.banks;
  places = s.places;
  faults = s.faults;
  tells_blank = tells;
}
