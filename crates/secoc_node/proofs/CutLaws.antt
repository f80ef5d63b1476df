-- What a power cut of a node leaves
use Rattle.std.proofs.Common.{◌≡◌, ◌+◌, false, true≢false, length, refl, sym, subst, ap, ◌∙◌, inl, inr}
use Rattle.std.specs.Prelude.{Some, is_some, Result, Ok, Err, OnOk, OnErr, IfErr}
use Rattle.cut_disk.specs.Images.{CutsTo}
use Rattle.cell_store.specs.declared.faults.Reread.{Reread}
use Rattle.cell_store.specs.declared.faults.Reread.TheVariants as reread
use Rattle.cell_store.specs.Cells.{CellsState, Rereads, StandsNow, EachImageStands}
use Rattle.slot_disk.specs.Cell.{FirstBadSlot}
use Rattle.bus_machine.specs.declared.lines.Line.TheVariants.{Refused}
use Rattle.bus_machine.specs.declared.lines.Refusal.TheVariants.{MemoryFailure}
use Rattle.bus_machine.specs.Node.{Node, Kept, Change, changed, refused_up}
use Rattle.bus_machine.specs.Steps.{cuts, NodeStep}
use Rattle.bus_laws.proofs.CallerLemmas.{Sound-step, pending_forward}
use Rattle.secoc_node.specs.declared.faults.CutFault.{CutFault}
use Rattle.secoc_node.specs.declared.faults.CutFault.TheVariants as cut
use Rattle.secoc_node.specs.declared.known.Known.{Known}
use Rattle.secoc_node.specs.Cells.{CellsOf, IsKept, SlotsButNoBound}
use Rattle.secoc_node.specs.Causes.{LifeCause, CutCause}
use Rattle.secoc_node.specs.Powering.{ComesUp, StaysDown}
use Rattle.secoc_node.specs.Lines.{cut_line}
use Rattle.secoc_node.specs.State.{NodeState, FitsNow, TellsFitting}
use Rattle.secoc_node.specs.Keeping.{node_in, state_in, IsNode, BeginsLife}
use Rattle.secoc_node.proofs.CellsLaws.{length-CellsOf}
use Rattle.secoc_node.proofs.KeptLaws.{kept_of_sound, kept_changed, no_bad_slot, no_bad_bound}
use Rattle.secoc_node.proofs.FitsLaws.{FoundCells, found_cells, each_stands, fits_refused, fits_up}
use Rattle.secoc_node.proofs.LifeLaws.{life_node, life_is, life_cells, life_keeps, life_powers}

-- the store was read anew after the cut
pub record ReadAnew (old new : CellsState) : Type 0 where
  pub layout : new.layout ≡ old.layout
  pub count : length new.cells ≡ length old.cells
  pub cuts_to : CutsTo old.disk.told new.disk.told
  pub tells : is_some new.disk.told ≡ is_some old.disk.told
  pub now : StandsNow new
  pub whole : new.broken ≡ false

abbrev pub fallen : Known → Known
fallen known = record known { up = false }

module _ (known : Known) (store : CellsState) (is : IsNode known store) where
  abbrev node : Node
  node = node_in known

  abbrev old : NodeState
  old = state_in known store

  pending_kept : (change : Change) → node.pending ≡ Some change → IsKept node.config (changed change node.kept)
  pending_kept change at = kept_changed node change is.sound (pending_forward node change is.sound at)

  -- over a disk that fits, a store that is read stands in each image
  pub each_image : TellsFitting old → EachImageStands store
  each_image fitting =
      each_stands old (14 + length node.config.routes) is.count (length-CellsOf node.config node.kept (kept_of_sound node is.sound))
      (λ change at. length-CellsOf node.config (changed change node.kept) (pending_kept change at)) fitting

  -- the node is down, with what it knew
  pub node_fallen : (left : CellsState) → length left.cells ≡ length store.cells → IsNode (fallen known) left
  node_fallen left count = record {
    sound = Sound-step node cuts (Refused MemoryFailure) (refused_up node) is.sound refl;
    own = is.own;
    counted = is.counted;
    count = count ∙ is.count;
    keeps = λ e. absurd (true≢false (sym e));
  }

  -- cells that are found are all slots and bounds
  found_kept : (left : CellsState) → FoundCells node left.cells → (kept : Kept) × IsKept node.config kept × (left.cells ≡ CellsOf node.config kept)
  found_kept left found = elim found [
    | inl as_before ↦ (node.kept, kept_of_sound node is.sound, as_before)
    | inr made ↦ (changed made.0 node.kept, pending_kept made.0 made.1, made.2)
  ]

  no_cause : (left : CellsState) (fault : CutFault) → FoundCells node left.cells → LifeCause node.config.routes left.cells fault → ⊥
  no_cause left (cut.Store fault) found cause = cause
  no_cause left (cut.BadSlot slot) found cause =
      let k = found_kept left found in
      no_bad_slot node.config k.0 slot k.1 (subst (λ cells. FirstBadSlot cells slot) k.2 cause)
  no_cause left (cut.BadBound place) found cause =
      let k = found_kept left found in
      no_bad_bound node.config k.0 place is.sound.config k.1 (subst (λ cells. SlotsButNoBound node.config.routes cells place) k.2 cause)

  module _ (left : CellsState) (anew : ReadAnew store left) (after : Known) where
    left_size : length left.cells ≡ 14 + length node.config.routes
    left_size = anew.count ∙ is.count

    found : TellsFitting old → FoundCells node left.cells
    found fitting = found_cells old left fitting anew.cuts_to anew.now anew.layout

    pub node_after : (r : Result (Unit {0}) CutFault) → OnOk r (BeginsLife known.config left.cells after) → OnErr r (after ≡ fallen known) → IsNode after left
    node_after (Ok u) life same = life_node known.config left.cells after is.sound.config left_size life left anew.whole refl
    node_after (Err fault) life same = subst (λ k. IsNode k left) (sym same) (node_fallen left anew.count)

    pub step_after : (r : Result (Unit {0}) CutFault) → OnOk r (BeginsLife known.config left.cells after) → IfErr r (LifeCause known.config.routes left.cells)
        → TellsFitting old → NodeStep node cuts (cut_line r) (node_in after)
    step_after (Ok u) life cause fitting = life_powers node left.cells after is.sound left_size life (found fitting)
    step_after (Err fault) life cause fitting = absurd (no_cause left fault (found fitting) cause)

    -- where the cells are a node's, it is up
    pub comes_up : (r : Result (Unit {0}) CutFault) → OnOk r (BeginsLife known.config left.cells after) → Rereads store left → OnOk r (ComesUp old (state_in after left))
    comes_up (Ok u) life reread = record {
      up = life_is known.config left.cells after is.sound.config left_size life;
      kept = life_cells known.config left.cells after is.sound.config left_size life;
      stands = reread.stands;
      settled = reread.settled;
      faults = reread.faults;
      grows = reread.grows;
    }
    comes_up (Err fault) life reread = tt

    cause_after : (fault : CutFault) → Rereads store left → LifeCause known.config.routes left.cells fault → CutCause known.config.routes store left fault
    cause_after (cut.Store fault) reread cause = absurd cause
    cause_after (cut.BadSlot slot) reread cause = (record { faults = reread.faults; stands = reread.stands }, cause)
    cause_after (cut.BadBound place) reread cause = (record { faults = reread.faults; stands = reread.stands }, cause)

    -- where they aren't, it stays down
    pub stays_down : (r : Result (Unit {0}) CutFault) → OnErr r (after ≡ fallen known) → Rereads store left → IfErr r (LifeCause known.config.routes left.cells) → IfErr r (StaysDown old (state_in after left))
    stays_down (Ok u) same reread cause = tt
    stays_down (Err fault) same reread cause = record {
      refused = ap (λ k. node_in k) same;
      cause = cause_after fault reread cause;
      only = λ fitting. absurd (no_cause left fault (found fitting) cause);
    }

    pub fits_after : (r : Result (Unit {0}) CutFault) → OnOk r (BeginsLife known.config left.cells after) → OnErr r (after ≡ fallen known) → FitsNow old → FitsNow (state_in after left)
    fits_after (Ok u) life same fits =
        fits_up (state_in after left) store anew.cuts_to anew.tells anew.now (life_keeps known.config left.cells after is.sound.config left_size life left anew.whole refl)
    fits_after (Err fault) life same fits =
        subst (λ k. FitsNow (state_in k left)) (sym same) (fits_refused old left fits anew.cuts_to anew.tells anew.layout)

-- if the store isn't read, only the disk can have failed
pub step_unread : (node : Node) (fault : Reread) → fault ≡ reread.DiskFailed → NodeStep node cuts (cut_line (Err (cut.Store fault))) (refused_up node)
step_unread node fault is = subst (λ f. NodeStep node cuts (cut_line (Err (cut.Store f))) (refused_up node)) (sym is) refl
