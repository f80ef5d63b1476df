use Rattle.std.proofs.Common.{length, ap, subst}
use Rattle.cut_disk.specs.Armed.{ArmsFail}
use Rattle.cut_disk.proofs.CallerLemmas.{runs_of_call}
use Rattle.cell_store.specs.Cells.{CellsState}
use Rattle.cell_store.proofs.TwinSteps.{armed-store}
use Rattle.cell_store.proofs.twin.TwinCellsCutCells.fail_at.Goals as goal

pub invariant_of-self : goal.invariant_of-self
invariant_of-self g c =
    armed-store c.self.inside.version (g.D.Disk.state c.self.inside.disk) (g.D.Disk.state c.fail_at.new.self) c.self.inside.held.items (length c.self.inside.reread.items) c.self.inside.broken c.fail_at.ensures.call.size c.fail_at.ensures.same c.self.invariant

pub returns-clause-rest : goal.returns-clause-rest
returns-clause-rest g c =
    ap (λ (x : CellsState). record x { disk = g.D.Disk.state c.fail_at.new.self }) c.self.view_is

pub returns-clause-arms : goal.returns-clause-arms
returns-clause-arms g c =
    let e = c.fail_at.ensures in
    subst (λ (x : CellsState). ArmsFail c.args.calls x.disk (g.D.Disk.state c.fail_at.new.self)) c.self.view_is
    (record { runs = runs_of_call e.call; told = e.same; faults = e.count; arms = e.arms; loud = e.loud })
