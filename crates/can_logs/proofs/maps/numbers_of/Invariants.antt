-- the numbers so far
use Rattle.std.proofs.Common.{◌≡◌, take, map}
use Rattle.text_lines.specs.declared.span.Cut.{Cut}
use Rattle.can_logs.proofs.maps.numbers_of.Given as goal

abbrev pub invariant-loop-line : goal.invariant-loop-line
invariant-loop-line l = l.numbers.items ≡ map (λ (c : Cut). c.line) (take l.line-index l.line-items)
