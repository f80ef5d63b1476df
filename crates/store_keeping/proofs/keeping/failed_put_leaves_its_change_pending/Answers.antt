use Rattle.std.proofs.Common.{refl}
use Rattle.std.specs.Prelude.{set}
use Rattle.store_keeping.proofs.CallerLemmas.{fits_failed_put}
use Rattle.store_keeping.proofs.keeping.failed_put_leaves_its_change_pending.Goals as goal

pub returns : goal.returns
returns g = λ keeping old new i c fits up none holds fails.
    fits_failed_put keeping old new i c fits up none holds (set keeping.cells i c) fails refl
