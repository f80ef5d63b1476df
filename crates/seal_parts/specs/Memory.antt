-- Units in a list: what a part in memory holds.
use Rattle.std.specs.Prelude.{ℕ, zero, suc, ◌+◌, ◌*◌, Bool, false, nat_lt, if◌then◌else◌, List, [], ◌∷◌, get_or}
use Rattle.seal_parts.specs.declared.mem_part.MemUnit.{MemUnit}
use Rattle.seal_parts.specs.declared.UnitKind.{UnitKind}
use Rattle.seal_parts.specs.declared.UnitKind.TheVariants.{Guard, SecondGuard, Line, Confirm, SecondConfirm}
use Rattle.seal_parts.specs.Parts.{PartUnit, PartFlash, blank_unit}

-- the place of a unit among those of its place
abbrev pub unit_number : UnitKind → ℕ
unit_number Guard = 0
unit_number SecondGuard = 1
unit_number Line = 2
unit_number Confirm = 3
unit_number SecondConfirm = 4

abbrev pub unit_of : MemUnit → PartUnit
unit_of u = record { content = u.content; firm = u.firm; missed = u.missed }

-- the unit at this index of a list, and a blank one after its end
abbrev pub unit_in : List MemUnit → ℕ → PartUnit
unit_in [] k = blank_unit
unit_in (u ∷ us) zero = unit_of u
unit_in (u ∷ us) (suc k) = unit_in us k

-- banks of so many places, one after the other, and blank units after each
abbrev pub part_in : ℕ → List Bool → List MemUnit → PartFlash
part_in places erased held = record {
  unit = λ bank k kind.
      if nat_lt k places then unit_in held (bank * (places * 5) + (k * 5 + unit_number kind)) else blank_unit;
  is_erased = λ bank. get_or erased bank false;
}
