use Rattle.store_keeping.proofs.CallerLemmas.{failures_told}
use Rattle.store_keeping.proofs.turns.failures_of_a_run_are_counted.Goals as goal

pub returns : goal.returns
returns g c = λ few before start now moments each opened holds run.
    failures_told g.M.OverDisk.steps g.M.OverDisk.seen g.M.OverDisk.disk g.M.OverDisk.mark g.M.OverDisk.most g.M.OverDisk.fails g.M.OverDisk.holds each
    few before start moments now opened holds run
