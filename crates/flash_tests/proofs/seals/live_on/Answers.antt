use Rattle.std.proofs.Common.{sym, subst}
use Rattle.seal_parts.specs.declared.mem_part.MemPart.{MemPart}
use Rattle.seal_parts.specs.MemPart.{memory_part}
use Rattle.seal_store.specs.Lived.{HasSealStore}
use Rattle.flash_tests.specs.declared.seals.TheConstants.{SIZES}
use Rattle.flash_tests.proofs.seals.live_on.Goals.{in-Cut, in-Jammed+in_ok-part-in-Jammed}
use Rattle.flash_tests.proofs.seals.live_on.Goals as goal

pub loop-preserved : goal.loop-preserved
loop-preserved c = record {
  has = elim c.match-live_once.branch [
    | in-Cut w ↦ subst (λ (m : MemPart). HasSealStore (memory_part m) SIZES) (sym w.part-is) c.live_once.ensures
    | in-Jammed+in_ok-part-in-Jammed w ↦ subst (λ (m : MemPart). HasSealStore (memory_part m) SIZES) (sym w.part-is) w.in_ok-part-in-Jammed.ensures
  ];
}
