use Rattle.std.proofs.Common.{sym, subst, arith}
use Rattle.seal_parts.specs.declared.UnitKind.TheVariants.{Guard}
use Rattle.seal_parts.specs.Parts.{MayProgram, is_blank}
use Rattle.seal_parts.specs.State.{PartState}
use Rattle.flash_tests.proofs.parts.with_cut_guard.Goals as goal

pub program-requires-clause-may : goal.program-requires-clause-may
program-requires-clause-may c =
    subst (λ (s : PartState). MayProgram s.class Guard s.flash 1 2) (sym c.fail_at.ensures.same)
    (is_blank (c.in_ok-part.ensures.erased 1 (omega arith)) (c.in_ok-part.ensures.blank 1 2 Guard))
