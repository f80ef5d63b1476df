-- Places in a list: what a flash in memory holds.
use Rattle.std.specs.Prelude.{ℕ, zero, suc, ◌+◌, ◌*◌, nat_lt, if◌then◌else◌, List, [], ◌∷◌}
use Rattle.flash_places.specs.declared.mem_flash.MemPlace.{MemPlace}
use Rattle.flash_places.specs.Places.{FlashPlace, Flash, blank_place}

abbrev pub flash_place_of : MemPlace → FlashPlace
flash_place_of p = record { content = p.content; firm = p.firm }

-- the place at this index of a list, and a blank one after its end
abbrev pub flash_place_in : List MemPlace → ℕ → FlashPlace
flash_place_in [] k = blank_place
flash_place_in (p ∷ ps) zero = flash_place_of p
flash_place_in (p ∷ ps) (suc k) = flash_place_in ps k

-- banks of so many places, one after the other, and blank places after each
abbrev pub flash_of : ℕ → List MemPlace → Flash
flash_of places held bank k = if nat_lt k places then flash_place_in held (bank * places + k) else blank_place
