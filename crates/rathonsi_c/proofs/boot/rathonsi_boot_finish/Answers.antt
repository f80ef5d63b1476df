use Rattle.std.proofs.Common.{◌≡◌, ◌++◌, length, sym, ◌∙◌, arith}
use Rattle.rathonsi_c.proofs.PieceLaws.{program_head, boot_tag, says_booted}
use Rattle.rathonsi_c.proofs.boot.rathonsi_boot_finish.Goals as goal

pub returns-clause-ends : goal.returns-clause-ends
returns-clause-ends c = λ _ key mac size program t.
    let whole : length program ≡ size = omega (arith, t.left) in
    let tag = boot_tag key program c.in-Some.tag size whole (c.in-Some.ensures.some.1 key (program_head size ++ program) t.took) in (
      whole,
      says_booted key program c.in-Some.tag mac c.is_wanted.result tag
          (λ e. c.is_wanted.ensures.yes (t.wanted ∙ e))
          (λ differs. c.is_wanted.ensures.no (λ e. differs (sym t.wanted ∙ e))),
    )
