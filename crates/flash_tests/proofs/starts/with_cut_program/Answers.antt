use Rattle.std.proofs.Common.{◌≡◌, sym, subst}
use Rattle.flash_places.specs.Places.{blank_place}
use Rattle.flash_places.specs.State.{FlashState}
use Rattle.flash_tests.proofs.starts.with_cut_program.Goals as goal

pub program-requires-clause-blank : goal.program-requires-clause-blank
program-requires-clause-blank c =
    subst (λ (s : FlashState). s.flash 1 2 ≡ blank_place) (sym c.fail_at.ensures.same) (c.in_ok-flash.ensures.blank 1 2)
