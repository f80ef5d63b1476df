use Rattle.std.proofs.Common.{◌≡◌, ◌+◌, ◌%◌, ◌^◌, ◌<◌, ap, ◌∙◌, arith}
use Rattle.std.proofs.lemmas.Nat.{pow_pos}
use Rattle.std.proofs.Math.Nat.{mod-lt}
use Rattle.secured_pdu.proofs.Candidates.{low_reached, ahead_at, ahead_if_some, none_if_none}
use Rattle.secured_pdu.proofs.candidate.ahead_with_bits.Goals as goal

pub returns-then-less-from-clause-none : goal.returns-then-less-from-clause-none
returns-then-less-from-clause-none c = λ v x.
    let b = c.args.bits in
    let y = c.distance.result in
    let e = c.low_bits-less.ensures in
    let small : y % 2 ^ b < 2 ^ b = mod-lt y (pow_pos b) in
    let at : v ≡ c.args.counter + 1 + y % 2 ^ b = ahead_at c.args.counter c.args.window b c.args.truncated (y % 2 ^ b) v c.requires.window_fits small (low_reached c.args.counter y b c.args.truncated c.requires.bits_most c.requires.truncated_fits c.distance.ensures) x in
    let near = x.near in
    let over = c.if-less-from.true in
    let w = c.from.ensures in
    omega (arith, e, at, near, over, w)

pub returns-clause-none : goal.returns-clause-none
returns-clause-none c =
    let b = c.args.bits in
    let y = c.distance.result in
    let e : c.low_bits-less.result ≡ y % 2 ^ b = c.low_bits-less.ensures in
    let small : y % 2 ^ b < 2 ^ b = mod-lt y (pow_pos b) in
    none_if_none c.args.counter c.args.window b c.args.truncated c.low_bits-less.result c.checked_add.result c.checked_add.ensures c.requires.window_fits (omega (arith, e, small))
    (ap (λ n. (c.args.counter + 1 + n) % 2 ^ b) e ∙ low_reached c.args.counter y b c.args.truncated c.requires.bits_most c.requires.truncated_fits c.distance.ensures)

pub returns-clause-ahead : goal.returns-clause-ahead
returns-clause-ahead c =
    let b = c.args.bits in
    let y = c.distance.result in
    let e : c.low_bits-less.result ≡ y % 2 ^ b = c.low_bits-less.ensures in
    let less = c.if-less-from.false in
    let w = c.from.ensures in
    ahead_if_some c.args.counter c.args.window b c.args.truncated c.low_bits-less.result c.checked_add.result c.checked_add.ensures (omega (arith, less, w))
    (ap (λ n. (c.args.counter + 1 + n) % 2 ^ b) e ∙ low_reached c.args.counter y b c.args.truncated c.requires.bits_most c.requires.truncated_fits c.distance.ensures)
