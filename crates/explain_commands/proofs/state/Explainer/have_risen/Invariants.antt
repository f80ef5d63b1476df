-- each line of the map so far is optional, or its counter rose
use Rattle.std.proofs.Common.{◌≡◌}
use Rattle.std.specs.List.{list_all, range_with_len}
use Rattle.explain_commands.specs.Explaining.{has_risen_at}
use Rattle.explain_commands.proofs.state.Explainer.have_risen.Given as goal

abbrev pub invariant-loop-place : goal.invariant-loop-place
invariant-loop-place l = l.each ≡ list_all (has_risen_at l.self.mapping l.self.counters) (range_with_len 0 l.place)
