use Rattle.std.proofs.Common.{◌≡◌, refl, sym, ap, ◌∙◌, subst, List, ℕ, set}
use Rattle.cell_store.specs.declared.kinds.Version.TheVariants.{One}
use Rattle.cell_store.specs.Layout.{twin_layout}
use Rattle.cell_store.specs.Store.{Stands, Put}
use Rattle.cell_store.specs.Twin.{cell_at}
use Rattle.store_plan.specs.Plans.{applied}
use Rattle.store_plan.proofs.GatedLaws.{applied-put, applied-stands, applied-cell, applied-others}
use Rattle.store_plan.proofs.planning.done.Goals as goal

pub returns-clause-put : goal.returns-clause-put
returns-clause-put c = λ cell new p.
    let plan = c.args.plan.now in
    let e : c.apply-3.new.image ≡ applied plan c.args.image.now = rw (c.apply-3.ensures, c.apply-2.ensures, c.apply.ensures) refl in
    subst (λ (y : List ℕ). Put (twin_layout One) c.args.image.now cell new y) (sym e) (applied-put plan c.args.image.now cell new p)

pub returns-clause-stands : goal.returns-clause-stands
returns-clause-stands c = λ cells cell new stands below p.
    let plan = c.args.plan.now in
    let e : c.apply-3.new.image ≡ applied plan c.args.image.now = rw (c.apply-3.ensures, c.apply-2.ensures, c.apply.ensures) refl in
    subst (λ (y : List ℕ). Stands (twin_layout One) y (set cells cell new)) (sym e) (applied-stands plan c.args.image.now cell new p cells stands below)

pub returns-clause-cell : goal.returns-clause-cell
returns-clause-cell c = λ cell new p.
    let plan = c.args.plan.now in
    let e : c.apply-3.new.image ≡ applied plan c.args.image.now = rw (c.apply-3.ensures, c.apply-2.ensures, c.apply.ensures) refl in
    ap (λ (y : List ℕ). cell_at y cell) e ∙ applied-cell plan c.args.image.now cell new p

pub returns-clause-others : goal.returns-clause-others
returns-clause-others c = λ cell other new p ne.
    let plan = c.args.plan.now in
    let e : c.apply-3.new.image ≡ applied plan c.args.image.now = rw (c.apply-3.ensures, c.apply-2.ensures, c.apply.ensures) refl in
    ap (λ (y : List ℕ). cell_at y other) e ∙ applied-others plan c.args.image.now cell new p other ne
