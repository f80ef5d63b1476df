use Rattle.std.proofs.Common.{inl, inr, arith}
use Rattle.rathonsi_c.proofs.GrowthAnswers.{tell-range}
use Rattle.rathonsi_c.proofs.growing.told.Goals.{then-cells-lt14-via-then-cells-lt14, then-cells-lt14-via-else-cells-lt14+then-cells-gt270}
use Rattle.rathonsi_c.proofs.growing.told.Goals as goal

pub returns-then-cells-lt14-clause-untold : goal.returns-then-cells-lt14-clause-untold
returns-then-cells-lt14-clause-untold c =
    tell-range c.args.image.now c.in_ok-cells.cells (omega (arith, c.if-image-lt984.false)) c.in_ok-cells.ensures.told
    (elim c.then-cells-lt14.branch [
      | then-cells-lt14-via-then-cells-lt14 w ↦ inl (omega (arith, w.if-cells-lt14))
      | then-cells-lt14-via-else-cells-lt14+then-cells-gt270 w ↦ inr (omega (arith, w.if-cells-gt270))
    ])
