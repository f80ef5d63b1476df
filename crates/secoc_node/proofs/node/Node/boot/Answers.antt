use Rattle.std.proofs.Common.{sym, subst}
use Rattle.secoc_node.specs.State.{FitsNow}
use Rattle.secoc_node.specs.Keeping.{state_in}
use Rattle.secoc_node.proofs.node.Node.boot.Goals as goal

-- a boot changes nothing that is kept
pub returns-clause-fits : goal.returns-clause-fits
returns-clause-fits g c =
    let known = c.self.inside.known in
    let store = g.C.Cells.state c.self.inside.cells in
    subst (λ s. FitsNow s → FitsNow (state_in (record known { engine = c.boot.new.self }) store)) c.self.view_is
    (subst (λ e. FitsNow (state_in known store) → FitsNow (state_in (record known { engine = e }) store)) (sym c.boot.ensures.after)
    (λ fits told is. let f = fits told is in record { images = f.images; firm_up = f.firm_up }))
