use Rattle.std.proofs.Common.{◌≡◌}
use Rattle.unit_keys.specs.Wrapped.{wrap_steps}
use Rattle.unit_keys.proofs.wrapping.wrap.Given as goal

-- the register after the steps so far
abbrev pub invariant-loop-t : goal.invariant-loop-t
invariant-loop-t l = l.register ≡ wrap_steps l.schedule l.t l.initial.register
