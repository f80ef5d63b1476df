-- The units that a part programs.
use Rattle.std.specs.Prelude.{◌≢◌, ℕ}
use Rattle.flash_lines.specs.declared.units.UnitSize.{UnitSize}
use Rattle.flash_lines.specs.declared.units.UnitSize.TheVariants.{Bytes8, Bytes16, Bytes32, Bytes64, Bytes128}

abbrev pub unit_bytes : UnitSize → ℕ
unit_bytes Bytes8 = 8
unit_bytes Bytes16 = 16
unit_bytes Bytes32 = 32
unit_bytes Bytes64 = 64
unit_bytes Bytes128 = 128

-- no unit has so many bytes
abbrev pub IsNoUnit : ℕ → Type 0
IsNoUnit bytes = (unit : UnitSize) → unit_bytes unit ≢ bytes
