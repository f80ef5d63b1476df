-- no value so far fits
use Rattle.std.proofs.Common.{◌≡◌, ℕ, ◌+◌, ◌*◌, ◌<◌, ◌≤◌, false}
use Rattle.locate_commands.specs.Locating.{fit_first}
use Rattle.locate_commands.proofs.searching.search_from.Given as goal

abbrev pub invariant-loop-step : goal.invariant-loop-step
invariant-loop-step l = (w : ℕ) → l.fn.start ≤ w → w < l.fn.start + 256 * l.step → fit_first l.fn.receiver l.fn.first l.fn.rest w ≡ false
