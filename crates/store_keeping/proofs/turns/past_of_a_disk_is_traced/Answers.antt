use Rattle.store_keeping.proofs.CallerLemmas.{traced_since}
use Rattle.store_keeping.proofs.turns.past_of_a_disk_is_traced.Goals as goal

pub returns : goal.returns
returns g c = λ few before start now moments each told opened holds run all tells.
    traced_since g.M.OverDisk.steps g.M.OverDisk.seen g.M.OverDisk.disk g.M.OverDisk.mark g.M.OverDisk.most g.M.OverDisk.fails g.M.OverDisk.holds each
    g.M.OverDisk.fits told few before start moments now opened holds run all tells
