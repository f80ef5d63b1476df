use Rattle.std.proofs.Common.{subst, sym}
use Rattle.store_plan.specs.Leaving.{IsImageOf}
use Rattle.flash_images.proofs.CallerLemmas.{call-leaves, call-done}
use Rattle.rathonsi_c.proofs.laws.the_power_comes_back_on_a_flash.Goals as goal

pub returns-clause-back : goal.returns-clause-back
returns-clause-back _ n s deeds cells c d a b found lives idle old new only empty opened = record {
  left = call-leaves s deeds cells c d a.plan a.image b.image found lives idle old new only;
  empty = empty;
  opened = opened;
}

pub returns-clause-done : goal.returns-clause-done
returns-clause-done _ s deeds cells i new c between d a b found taken all idle old p finished =
    subst (λ image. IsImageOf image d.cells) (sym finished.done.image_is)
    (call-done s deeds cells i new c between d a.plan a.image found taken all idle old p)
