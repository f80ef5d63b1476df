-- What a log may have at most if it is to pass
use Rattle.std.specs.Prelude.{ℕ, ◌+◌, ◌-◌, ◌*◌, ◌/◌, ◌==◌, ◌&&◌, nat_lt, Bool, true, false, if◌then◌else◌, Option, None, Some, is_none}
use Rattle.watch_commands.specs.declared.limits.Limits.{Limits}
use Rattle.watch_commands.specs.declared.options.WatchOptions.{WatchOptions}

abbrev pub no_limits : Limits
no_limits = record { missed = None; missed_share = None; malformed = None; unmapped = None; silent = None }

-- the limit that a number is more than, if it is
abbrev pub limit_over : Option ℕ → ℕ → Option ℕ
limit_over None number = None
limit_over (Some most) number = if nat_lt most number then Some most else None

-- the limit that a time reaches, if it does
abbrev pub limit_reached : Option ℕ → ℕ → Option ℕ
limit_reached None time = None
limit_reached (Some least) time = if nat_lt time least then None else Some least

abbrev pub is_within : Option ℕ → ℕ → Bool
is_within limit number = is_none (limit_over limit number)

-- a part of so many as a share in percent, rounded up; 0 of none
abbrev pub share_of : ℕ → ℕ → ℕ
share_of part whole = if whole == 0 then 0 else (part * 100 + (whole - 1)) / whole

-- with `--strict` what has no limit has this one
abbrev pub or_strict : Bool → ℕ → Option ℕ → Option ℕ
or_strict strict most (Some given) = Some given
or_strict true most None = Some most
or_strict false most None = None

-- the limits that hold. A share is a limit of what a line of the map missed, too
abbrev pub limits_in : WatchOptions → Limits
limits_in options = record {
  missed = or_strict (options.strict && is_none options.limits.missed_share) 0 options.limits.missed;
  missed_share = options.limits.missed_share;
  malformed = or_strict options.strict 0 options.limits.malformed;
  unmapped = or_strict options.strict 0 options.limits.unmapped;
  silent = or_strict options.strict 5000000 options.limits.silent;
}
