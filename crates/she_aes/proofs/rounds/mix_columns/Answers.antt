use Rattle.std.proofs.Common.{ap, ◌∙◌}
use Rattle.she_aes.specs.Pairs.{in_pairs}
use Rattle.she_aes.proofs.PairLanes.{mixed, mixed_pairs}
use Rattle.she_aes.proofs.rounds.mix_columns.Goals as goal

pub returns : goal.returns
returns c =
    λ s block once doubled. ap (λ o. mixed o c.args.doubled) once ∙ ap (mixed (in_pairs s)) doubled ∙ mixed_pairs s block
