use Rattle.std.specs.Prelude.{◌≡◌, ◌<◌, ◌≤◌, ◌∷◌, get_or, length, map}
use Rattle.std.proofs.Common.{arith, sym, ap, subst, ◌∙◌}
use Rattle.std.proofs.lemmas.List.{length-map, length-drop, get_or_default}
use Rattle.cut_disk.specs.State.{DiskState}
use Rattle.cell_store.specs.Store.{store_size}
use Rattle.any_cells.specs.Either.{layout}
use Rattle.freshness_routes.specs.Config.{IsConfig}
use Rattle.bus_config.specs.declared.node_lines.NodeLine.{NodeLine}
use Rattle.bus_world.specs.Starts.{cells_in, Opened, NotOpened, fault_of_node}
use Rattle.bus_world.proofs.OpenLaws.{states_left, first_state, opened_more}
use Rattle.bus_world.proofs.start.open_all.Goals as goal

pub open_node-requires : goal.open_node-requires
open_node-requires g c =
    let place = c.loop-place.place in
    let line = c.node-item.result in
    let st = g.D.Disk.state in
    let states = map st c.args.disks.now.items in
    let x = c.remove-disk.result in
    let nodes = c.args.bus.now.nodes in
    let inside = subst (λ xs. place < length xs) c.nodes-node-items.ensures.value c.loop-place-test.true in
    let at = subst (λ xs. line ≡ get_or xs place line) c.nodes-node-items.ensures.value c.node-item.is in
    let here = first_state st c.loop-place.disks.items x states place (st x) c.loop-place.invariant.1
    (omega (arith, length-map c.loop-place.disks.items st, ap length c.loop-place.invariant.1, length-drop place states, c.requires.room.enough, inside)) c.remove-disk.ensures.value in (
      subst (λ l. IsConfig l.config) (sym at) (c.nodes-node-items.ensures.is_bus.are_nodes place line inside).config,
      subst (λ s. store_size (layout c.kind.result c.version.result) (cells_in line.config) ≤ s.size) (sym here)
          (subst (λ k. store_size (layout k c.version.result) (cells_in line.config) ≤ (get_or states place (st x)).size) (sym c.kind.ensures)
          (subst (λ v. store_size (layout c.args.bus.now.kind v) (cells_in line.config) ≤ (get_or states place (st x)).size) (sym c.version.ensures)
          (subst (λ l. store_size (layout c.args.bus.now.kind c.args.bus.now.version) (cells_in l.config) ≤ (get_or states place (st x)).size) (sym at)
          (c.requires.room.room place line (st x) inside)))),
    )

pub returns-in-Err-clause-opened : goal.returns-in-Err-clause-opened
returns-in-Err-clause-opened g c =
    let place = c.loop-place.place in
    let line = c.node-item.result in
    let st = g.D.Disk.state in
    let states = map st c.args.disks.now.items in
    let x = c.remove-disk.result in
    let disk = st c.in-Err.unopened.disk in
    let bus = c.args.bus.now in
    let inside = subst (λ xs. place < length xs) c.nodes-node-items.ensures.value c.loop-place-test.true in
    let at = λ (l : NodeLine). get_or_default bus.nodes place l line inside ∙ sym (subst (λ xs. line ≡ get_or xs place line) c.nodes-node-items.ensures.value c.node-item.is) in
    let here = λ (d : DiskState). first_state st c.loop-place.disks.items x states place d c.loop-place.invariant.1
    (omega (arith, length-map c.loop-place.disks.items st, ap length c.loop-place.invariant.1, length-drop place states, c.requires.room.enough, inside)) c.remove-disk.ensures.value in
    record {
      place = place;
      inside = inside;
      opened = c.loop-place.invariant.0;
      disk = disk;
      left = ap (map st) c.put_first.ensures.items ∙ ap (λ ys. disk ∷ ys) (states_left st c.loop-place.disks.items c.remove-disk.new.self.items states place c.loop-place.invariant.1 c.remove-disk.ensures.by_index.2);
      cause = c.in-Err.unopened.fault;
      refused = λ l d.
          subst (λ y. NotOpened c.args.start bus.kind bus.version y.config (get_or states place d) disk c.in-Err.unopened.fault) (sym (at l))
          (subst (λ s. NotOpened c.args.start bus.kind bus.version line.config s disk c.in-Err.unopened.fault) (here d)
          (subst (λ k. NotOpened c.args.start k bus.version line.config (st x) disk c.in-Err.unopened.fault) c.kind.ensures
          (subst (λ v. NotOpened c.args.start c.kind.result v line.config (st x) disk c.in-Err.unopened.fault) c.version.ensures c.in-Err.ensures.refused)));
      fault_is = c.fault_of_node.ensures ∙ ap (λ n. fault_of_node n c.in-Err.unopened.fault) c.number_of.ensures;
    }

pub loop-place-preserved : goal.loop-place-preserved
loop-place-preserved g c =
    let place = c.loop-place.place in
    let line = c.node-item.result in
    let st = g.D.Disk.state in
    let states = map st c.args.disks.now.items in
    let x = c.remove-disk.result in
    let bus = c.args.bus.now in
    let inside = subst (λ xs. place < length xs) c.nodes-node-items.ensures.value c.loop-place-test.true in
    let at = λ (l : NodeLine). get_or_default bus.nodes place l line inside ∙ sym (subst (λ xs. line ≡ get_or xs place line) c.nodes-node-items.ensures.value c.node-item.is) in
    let here = λ (d : DiskState). first_state st c.loop-place.disks.items x states place d c.loop-place.invariant.1
    (omega (arith, length-map c.loop-place.disks.items st, ap length c.loop-place.invariant.1, length-drop place states, c.requires.room.enough, inside)) c.remove-disk.ensures.value in (
      opened_more c.args.start place bus states c.loop-place.nodes.items c.push_reserved.new.self.items c.in-Ok.node line (st x) c.loop-place.invariant.0 c.push_reserved.ensures.items at here
          (subst (λ k. Opened c.args.start k bus.version line.config (st x) c.in-Ok.node) c.kind.ensures (subst (λ v. Opened c.args.start c.kind.result v line.config (st x) c.in-Ok.node) c.version.ensures c.in-Ok.ensures.opened)),
      states_left st c.loop-place.disks.items c.remove-disk.new.self.items states place c.loop-place.invariant.1 c.remove-disk.ensures.by_index.2,
      omega (arith, c.remove-disk.ensures.len, c.loop-place.invariant.2),
      omega (arith, c.remove-disk.ensures.capacity, c.loop-place.invariant.3),
      omega (arith, c.push_reserved.ensures.len, c.loop-place.invariant.4),
      omega (arith, c.push_reserved.ensures.capacity, c.loop-place.invariant.5),
    )
