use Rattle.std.proofs.Common.{◌+◌, length, refl, sym, subst, ap, Err, OnOk}
use Rattle.std.specs.Prelude.{IfErr}
use Rattle.cell_store.specs.declared.faults.Reread.{Reread}
use Rattle.cell_store.specs.Reading.{CutAndRead}
use Rattle.bus_machine.specs.Steps.{cuts, NodeStep}
use Rattle.secoc_node.specs.declared.faults.CutFault.TheVariants as cut
use Rattle.secoc_node.specs.Powering.{ComesUp, StaysDown}
use Rattle.secoc_node.specs.Lines.{cut_line}
use Rattle.secoc_node.specs.State.{NodeState, FitsNow, TellsFitting}
use Rattle.secoc_node.specs.Keeping.{node_in, state_in}
use Rattle.secoc_node.proofs.FitsLaws.{fits_refused}
use Rattle.secoc_node.proofs.CutLaws.{fallen, each_image, node_after, step_after, comes_up, stays_down, fits_after, step_unread}
use Rattle.secoc_node.proofs.node.Node.power_cut.Goals as goal

-- ---- the store isn't read anew

pub returns-in-Err-clause-step : goal.returns-in-Err-clause-step
returns-in-Err-clause-step g c fitting =
    let known = c.self.inside.known in
    let unread = c.in-Err.ensures.refused.never (each_image known (g.C.Cells.state c.self.inside.cells) c.self.invariant (subst TellsFitting (sym c.self.view_is) fitting)) in
    subst (λ (s : NodeState). NodeStep s.node cuts (cut_line (Err (cut.Store c.in-Err.fault))) (node_in (fallen known))) c.self.view_is
    (step_unread (node_in known) c.in-Err.fault unread)

pub returns-in-Err-clause-fits : goal.returns-in-Err-clause-fits
returns-in-Err-clause-fits g c =
    let known = c.self.inside.known in
    let left = g.C.Cells.state c.power_cut.new.self in
    subst (λ s. FitsNow s → FitsNow (state_in (fallen known) left)) c.self.view_is
    (λ fits. fits_refused (state_in known (g.C.Cells.state c.self.inside.cells)) left fits c.power_cut.ensures.disk.image c.power_cut.ensures.disk.runs.tells c.power_cut.ensures.layout)

pub returns-in-Err-clause-refused : goal.returns-in-Err-clause-refused
returns-in-Err-clause-refused g c =
    let known = c.self.inside.known in
    let store = g.C.Cells.state c.self.inside.cells in
    let left = g.C.Cells.state c.power_cut.new.self in
    subst (λ (s : NodeState). StaysDown s (state_in (fallen known) left) (cut.Store c.in-Err.fault)) c.self.view_is
    (record {
      refused = refl;
      cause = c.in-Err.ensures.refused.cause;
      only = λ fitting. ap (λ (f : Reread). cut.Store f) (c.in-Err.ensures.refused.never (each_image known store c.self.invariant fitting));
    })

pub returns-in-Err-clause-disk : goal.returns-in-Err-clause-disk
returns-in-Err-clause-disk g c =
    let left = g.C.Cells.state c.power_cut.new.self in
    subst (λ (s : NodeState). CutAndRead c.args.torn (68 + (14 + length s.node.config.routes)) s.store.disk left.disk) c.self.view_is
    (subst (λ n. CutAndRead c.args.torn (68 + n) (g.C.Cells.state c.self.inside.cells).disk left.disk) c.self.invariant.count c.power_cut.ensures.disk)

-- ---- it is

pub invariant_of-self-2 : goal.invariant_of-self-2
invariant_of-self-2 g c =
    let left = g.C.Cells.state c.power_cut.new.self in
    node_after c.self.inside.known (g.C.Cells.state c.self.inside.cells) c.self.invariant left
    (record { layout = c.power_cut.ensures.layout; count = c.power_cut.ensures.count; cuts_to = c.power_cut.ensures.disk.image; tells = c.power_cut.ensures.disk.runs.tells; now = c.in_default.ensures.reread.stands; whole = c.in_default.ensures.reread.whole })
    c.power_up.new.self c.power_up.result c.power_up.ensures.begins c.power_up.ensures.as_before

pub returns-clause-step : goal.returns-clause-step
returns-clause-step g c fitting =
    let known = c.self.inside.known in
    let left = g.C.Cells.state c.power_cut.new.self in
    subst (λ (s : NodeState). NodeStep s.node cuts (cut_line c.power_up.result) (node_in c.power_up.new.self)) c.self.view_is
    (step_after known (g.C.Cells.state c.self.inside.cells) c.self.invariant left
    (record { layout = c.power_cut.ensures.layout; count = c.power_cut.ensures.count; cuts_to = c.power_cut.ensures.disk.image; tells = c.power_cut.ensures.disk.runs.tells; now = c.in_default.ensures.reread.stands; whole = c.in_default.ensures.reread.whole })
    c.power_up.new.self c.power_up.result c.power_up.ensures.begins c.power_up.ensures.cause (subst TellsFitting (sym c.self.view_is) fitting))

pub returns-clause-fits : goal.returns-clause-fits
returns-clause-fits g c =
    let known = c.self.inside.known in
    let left = g.C.Cells.state c.power_cut.new.self in
    subst (λ s. FitsNow s → FitsNow (state_in c.power_up.new.self left)) c.self.view_is
    (fits_after known (g.C.Cells.state c.self.inside.cells) c.self.invariant left
    (record { layout = c.power_cut.ensures.layout; count = c.power_cut.ensures.count; cuts_to = c.power_cut.ensures.disk.image; tells = c.power_cut.ensures.disk.runs.tells; now = c.in_default.ensures.reread.stands; whole = c.in_default.ensures.reread.whole })
    c.power_up.new.self c.power_up.result c.power_up.ensures.begins c.power_up.ensures.as_before)

pub returns-clause-sound : goal.returns-clause-sound
returns-clause-sound g c = (invariant_of-self-2 g c).sound

pub returns-clause-up : goal.returns-clause-up
returns-clause-up g c =
    let known = c.self.inside.known in
    let left = g.C.Cells.state c.power_cut.new.self in
    subst (λ (s : NodeState). OnOk c.power_up.result (ComesUp s (state_in c.power_up.new.self left))) c.self.view_is
    (comes_up known (g.C.Cells.state c.self.inside.cells) c.self.invariant left
    (record { layout = c.power_cut.ensures.layout; count = c.power_cut.ensures.count; cuts_to = c.power_cut.ensures.disk.image; tells = c.power_cut.ensures.disk.runs.tells; now = c.in_default.ensures.reread.stands; whole = c.in_default.ensures.reread.whole })
    c.power_up.new.self c.power_up.result c.power_up.ensures.begins c.in_default.ensures.reread)

pub returns-clause-refused : goal.returns-clause-refused
returns-clause-refused g c =
    let known = c.self.inside.known in
    let left = g.C.Cells.state c.power_cut.new.self in
    subst (λ (s : NodeState). IfErr c.power_up.result (StaysDown s (state_in c.power_up.new.self left))) c.self.view_is
    (stays_down known (g.C.Cells.state c.self.inside.cells) c.self.invariant left
    (record { layout = c.power_cut.ensures.layout; count = c.power_cut.ensures.count; cuts_to = c.power_cut.ensures.disk.image; tells = c.power_cut.ensures.disk.runs.tells; now = c.in_default.ensures.reread.stands; whole = c.in_default.ensures.reread.whole })
    c.power_up.new.self c.power_up.result c.power_up.ensures.as_before c.in_default.ensures.reread c.power_up.ensures.cause)

pub returns-clause-disk : goal.returns-clause-disk
returns-clause-disk g c =
    let left = g.C.Cells.state c.power_cut.new.self in
    subst (λ (s : NodeState). CutAndRead c.args.torn (68 + (14 + length s.node.config.routes)) s.store.disk left.disk) c.self.view_is
    (subst (λ n. CutAndRead c.args.torn (68 + n) (g.C.Cells.state c.self.inside.cells).disk left.disk) c.self.invariant.count c.power_cut.ensures.disk)
