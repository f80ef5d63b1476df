-- A time in which a line of the map accepted nothing, from one moment to another, in microseconds
use Rattle.std.specs.Prelude.{ℕ, ◌-◌, ◌^◌, nat_lt, if◌then◌else◌}
use Rattle.watch_commands.specs.declared.times.Silence.{Silence}

abbrev pub no_silence : Silence
no_silence = record { from = 0; to = 0 }

-- of a log without times nobody knows when a line accepted anything
abbrev pub endless_silence : Silence
endless_silence = record { from = 0; to = 2 ^ 64 - 1 }

abbrev pub lasts : Silence → ℕ
lasts s = s.to - s.from

-- of two the longer one, and the earlier if both are as long
abbrev pub longer : Silence → Silence → Silence
longer one later = if nat_lt (lasts one) (lasts later) then later else one
