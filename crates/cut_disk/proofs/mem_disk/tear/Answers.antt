-- Each byte of the range is what the cut leaves of it, and so are the others, which aren't loose.
use Rattle.std.proofs.Common.{◌∙◌, sym, arith, ⊎_elim}
use Rattle.std.proofs.lemmas.Bool.{cases_lt}
use Rattle.std.proofs.lemmas.List.FromFn.{fill_by_all}
use Rattle.cut_disk.specs.Memory.{left_byte, left_bytes}
use Rattle.cut_disk.proofs.Ranges.{left_of_firm}
use Rattle.cut_disk.proofs.mem_disk.tear.Goals as goal

pub returns-clause-torn : goal.returns-clause-torn
unfolding left_bytes
returns-clause-torn c =
    fill_by_all (left_byte c.args.torn c.args.bytes.now c.args.synced.now c.args.loose.now) _ _ 0
    c.loop-address.auto.bytes
    (λ k below. ⊎_elim
    (λ early. c.loop-address.invariant.done k early)
    (λ late. c.loop-address.invariant.rest k late ∙ sym (left_of_firm c.args.torn c.args.bytes.now c.args.synced.now c.args.loose.now k (c.requires.firm.behind k (omega arith))))
    (cases_lt k c.loop-address.address))
