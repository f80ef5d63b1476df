use Rattle.she_aes.specs.declared.substitution.TheConstants.{INVERSES, QUOTIENTS}
use Rattle.she_aes.specs.Lookups.{entry}
use Rattle.she_aes.specs.Substitution.{low_nibble, high_nibble, total, quotient, from_upper, from_total, first, second}
use Rattle.she_aes.proofs.Substituting.{places, looked, summed, low_nibble_fits, high_nibble_fits, total_fits, from_upper_fits, from_total_fits, first_fits, second_fits, low_is, high_is, total_is}
use Rattle.she_aes.proofs.substitution.quotients.Goals as goal

pub look_up-quotient-requires : goal.look_up-quotient-requires
look_up-quotient-requires c =
    let v = c.args.pairs in
    let is = c.fits-pairs in
    places v is low_nibble low_nibble_fits (low_is v is)

pub look_up-requires : goal.look_up-requires
look_up-requires c =
    let v = c.args.pairs in
    let is = c.fits-pairs in
    places v is high_nibble high_nibble_fits (high_is v is)

pub look_up-requires-2 : goal.look_up-requires-2
look_up-requires-2 c =
    let v = c.args.pairs in
    let is = c.fits-pairs in
    places v is total total_fits (total_is v is)

pub look_up-requires-3 : goal.look_up-requires-3
look_up-requires-3 c =
    let v = c.args.pairs in
    let is = c.fits-pairs in
    let quotients = looked v is QUOTIENTS low_nibble c.look_up-quotient.ensures (low_is v is) in
    let from_upper_is = summed v is (λ p. entry INVERSES (high_nibble p)) quotient (looked v is INVERSES high_nibble c.look_up.ensures (high_is v is)) quotients in
    places v is from_upper from_upper_fits from_upper_is

pub look_up-requires-4 : goal.look_up-requires-4
look_up-requires-4 c =
    let v = c.args.pairs in
    let is = c.fits-pairs in
    let quotients = looked v is QUOTIENTS low_nibble c.look_up-quotient.ensures (low_is v is) in
    let from_total_is = summed v is (λ p. entry INVERSES (total p)) quotient (looked v is INVERSES total c.look_up-2.ensures (total_is v is)) quotients in
    places v is from_total from_total_fits from_total_is

pub returns : goal.returns
returns c =
    let v = c.args.pairs in
    let is = c.fits-pairs in
    let quotients = looked v is QUOTIENTS low_nibble c.look_up-quotient.ensures (low_is v is) in
    let from_upper_is = summed v is (λ p. entry INVERSES (high_nibble p)) quotient (looked v is INVERSES high_nibble c.look_up.ensures (high_is v is)) quotients in
    let from_total_is = summed v is (λ p. entry INVERSES (total p)) quotient (looked v is INVERSES total c.look_up-2.ensures (total_is v is)) quotients in
    let first_is = summed v is (λ p. entry INVERSES (from_upper p)) total (looked v is INVERSES from_upper c.look_up-3.ensures from_upper_is) (total_is v is) in
    let second_is = summed v is (λ p. entry INVERSES (from_total p)) high_nibble (looked v is INVERSES from_total c.look_up-4.ensures from_total_is) (high_is v is) in
    record {
      first = first_is;
      first_fits = places v is first first_fits first_is;
      second = second_is;
      second_fits = places v is second second_fits second_is;
    }
