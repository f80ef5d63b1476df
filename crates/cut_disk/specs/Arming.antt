-- Which calls are to fail.
use Rattle.std.specs.Prelude.{ℕ, ◌-◌, Bool, true, false, ◌||◌, ◌&&◌, nat_le, if◌then◌else◌, Option, Some, None, is_none}
use Rattle.cut_disk.specs.declared.arming.Arms.{Arms}
use Rattle.cut_disk.specs.declared.arming.StopState.{StopState}
use Rattle.cut_disk.specs.declared.arming.StopState.TheVariants.{Clear, Armed, Begun}

-- nothing is armed, and no stop has begun
abbrev pub no_arms : Arms
no_arms = record { stop = Clear; fail = None }

-- a stop makes the next call fail: it has begun, or it begins with that call
abbrev pub stops_next : StopState → Bool
stops_next Clear = false
stops_next (Armed calls) = nat_le calls 1
stops_next Begun = true

-- the one call that is to fail is the next
abbrev pub fails_next : Option ℕ → Bool
fails_next None = false
fails_next (Some calls) = nat_le calls 1

-- the next call is to fail
abbrev pub fails : Arms → Bool
fails a = stops_next a.stop || fails_next a.fail

-- one call later
abbrev pub stop_after : StopState → StopState
stop_after Clear = Clear
stop_after (Armed calls) = if nat_le calls 1 then Begun else Armed (calls - 1)
stop_after Begun = Begun

abbrev pub fail_after : Option ℕ → Option ℕ
fail_after None = None
fail_after (Some calls) = if nat_le calls 1 then None else Some (calls - 1)

-- one call later: each arm counts each call, whatever makes that call fail
abbrev pub after_call : Arms → Arms
after_call a = record { stop = stop_after a.stop; fail = fail_after a.fail }

-- after a power cut: no stop and no arm for one, but the call that is to fail by itself
abbrev pub after_cut : Arms → Arms
after_cut a = record { stop = Clear; fail = a.fail }

-- a new arm of a stop replaces an older one, but a stop that has begun goes on
abbrev pub rearmed : ℕ → StopState → StopState
rearmed calls Clear = Armed calls
rearmed calls (Armed older) = Armed calls
rearmed calls Begun = Begun

-- the call of this number, counted from now, and all later ones are to fail
abbrev pub with_stop : ℕ → Arms → Arms
with_stop calls a = record { stop = rearmed calls a.stop; fail = a.fail }

-- the call of this number, counted from now, is to fail
abbrev pub with_fail : ℕ → Arms → Arms
with_fail calls a = record { stop = a.stop; fail = Some calls }

-- no arm and no stop
abbrev pub is_clear : StopState → Bool
is_clear Clear = true
is_clear (Armed calls) = false
is_clear Begun = false

abbrev pub is_unarmed : Arms → Bool
is_unarmed a = is_clear a.stop && is_none a.fail
