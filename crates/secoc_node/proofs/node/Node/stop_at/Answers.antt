use Rattle.std.proofs.Common.{◌≡◌, ap, refl, subst}
use Rattle.cell_store.specs.Cells.{CellsState}
use Rattle.secoc_node.specs.State.{NodeState, FitsNow}
use Rattle.secoc_node.specs.Keeping.{state_in}
use Rattle.secoc_node.proofs.CallLaws.{fits_told}
use Rattle.secoc_node.proofs.node.Node.stop_at.Goals as goal

pub returns-clause-rest : goal.returns-clause-rest
returns-clause-rest g c =
    let new = g.C.Cells.state c.stop_at.new.self in
    subst (λ (s : NodeState). state_in c.self.inside.known new ≡ record s { store = record s.store { disk = new.disk } }) c.self.view_is
    (ap (λ (s : CellsState). state_in c.self.inside.known s) c.stop_at.ensures.rest)

pub returns-clause-fits : goal.returns-clause-fits
returns-clause-fits g c =
    let new = state_in c.self.inside.known (g.C.Cells.state c.stop_at.new.self) in
    subst (λ s. FitsNow s → FitsNow new) c.self.view_is
    (fits_told (state_in c.self.inside.known (g.C.Cells.state c.self.inside.cells)) new refl (ap (λ (s : CellsState). s.layout) c.stop_at.ensures.rest) c.stop_at.ensures.arms.told)
