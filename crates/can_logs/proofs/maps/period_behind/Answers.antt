use Rattle.std.proofs.Common.{◌≡◌, List, ℕ, [], drop, sym, ap, arith}
use Rattle.std.specs.Prelude.{None}
use Rattle.std.proofs.Math.ListN.{drop_of_length-le}
use Rattle.can_logs.specs.Seconds.{seconds_form, period_form}
use Rattle.can_logs.proofs.maps.period_behind.Goals as goal

-- no byte is left
pub returns-then-word-count : goal.returns-then-word-count
unfolding seconds_form
returns-then-word-count c =
    let none : drop c.args.count c.args.word.now ≡ [] = drop_of_length-le c.args.word.now (omega arith) in
    sym (ap period_form none)
