-- A part in memory is a part.
use Rattle.std.proofs.Common.{◌≡◌, ℕ, zero, suc, ◌+◌, ◌*◌, ◌^◌, ◌<◌, ◌≤◌, Bool, true, false, nat_lt, if◌then◌else◌, List}
use Rattle.std.proofs.Common.{[], ◌∷◌, length, refl, ap, arith}
use Rattle.std.proofs.lemmas.Bool.{le-ltb}
use Rattle.std.proofs.Math.Nat.{mul-le-mul_right}
use Rattle.basics.specs.FaultCount.{last_count}
use Rattle.seal_parts.specs.declared.PartClass.{PartClass}
use Rattle.seal_parts.specs.declared.mem_part.MemUnit.{MemUnit}
use Rattle.seal_parts.specs.declared.UnitKind.{UnitKind}
use Rattle.seal_parts.specs.Parts.{blank_unit}
use Rattle.seal_parts.specs.Memory.{unit_number, unit_in, part_in}
use Rattle.seal_parts.specs.State.{IsPart}

unit_behind : (us : List MemUnit) (k : ℕ) → length us ≤ k → unit_in us k ≡ blank_unit
unit_behind [] k far = refl
unit_behind (u ∷ us) zero far = absurd (omega (arith, far))
unit_behind (u ∷ us) (suc k) far = unit_behind us k (omega (arith, far))

unit_beyond : (banks places : ℕ) (held : List MemUnit) → length held ≡ banks * (places * 5) → (bank k : ℕ) (kind : UnitKind)
    → banks ≤ bank → unit_in held (bank * (places * 5) + (k * 5 + unit_number kind)) ≡ blank_unit
unit_beyond banks places held sized bank k kind far =
    let more : banks * (places * 5) ≤ bank * (places * 5) = mul-le-mul_right (places * 5) far in
    unit_behind held (bank * (places * 5) + (k * 5 + unit_number kind)) (omega (arith, more, sized))

pub memory_is_a_part : (class : PartClass) (banks places faults : ℕ) (erased : List Bool) (held : List MemUnit)
    → 2 ≤ banks → banks ≤ 16 → faults ≤ last_count → places < 2 ^ 16 → length held ≡ banks * (places * 5)
    → IsPart (record {
      flash = part_in places erased held;
      class = class;
      banks = banks;
      places = places;
      faults = faults;
    })
memory_is_a_part class banks places faults erased held two few counted fits sized = record {
  two = two;
  few = few;
  sized = omega arith;
  counted = counted;
  behind = λ bank k kind far.
      ap (λ (b : Bool). if b then unit_in held (bank * (places * 5) + (k * 5 + unit_number kind)) else blank_unit)
      (le-ltb k places far);
  beyond = λ bank k kind far.
      elim (nat_lt k places) as (λ (b : Bool).
      (if b then unit_in held (bank * (places * 5) + (k * 5 + unit_number kind)) else blank_unit) ≡ blank_unit)
      [ true ↦ unit_beyond banks places held sized bank k kind far | false ↦ refl ];
}
