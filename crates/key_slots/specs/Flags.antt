-- The five flags of a slot as a number
use Rattle.std.specs.Prelude.{ℕ, ◌+◌, ◌*◌, ◌/◌, ◌%◌, ◌==◌, Bool, true, false}
use Rattle.key_slots.specs.declared.memory.Flags.{Flags}

-- a flag as a bit
abbrev pub bit : Bool → ℕ
bit true = 1
bit false = 0

-- the flags as a number of five bits, WRITE_PROTECTION the highest (SHE specification, message M2)
abbrev pub flags_number : Flags → ℕ
flags_number f = bit f.write * 16 + bit f.boot * 8 + bit f.debugger * 4 + bit f.usage * 2 + bit f.wildcard

-- the flags with these five bits
abbrev pub flags_from : ℕ → Flags
flags_from n = record {
  write = n / 16 % 2 == 1;
  boot = n / 8 % 2 == 1;
  debugger = n / 4 % 2 == 1;
  usage = n / 2 % 2 == 1;
  wildcard = n % 2 == 1;
}
