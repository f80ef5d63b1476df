-- The bus seen at one of its nodes: each turn of the bus is a turn of its disk
use Rattle.std.specs.Prelude.{◌≡◌, ◌⊎◌, ℕ, ◌+◌, ◌<◌, ◌&&◌, ◌==◌, Bool, true, false, cond, None, List, [], ◌∷◌, length, get_or, set}
use Rattle.std.specs.Option.{option_to_list}
use Rattle.std.proofs.Common.{refl, sym, ap, ◌∙◌, subst, arith, inl, inr}
use Rattle.std.proofs.lemmas.Bool.Decides.{eqb_tells}
use Rattle.std.proofs.lemmas.List.{get_or-map, get_or-set_same, get_or-set_other}
use Rattle.std.proofs.lemmas.Option.{get_or_from_slice_get, slice_get-get_or}
use Rattle.machine_runs.specs.Run.{Moment, Run}
use Rattle.machine_runs.proofs.CallerLemmas.{MemberSteps-length}
use Rattle.cut_disk.specs.State.{DiskState}
use Rattle.cut_disk.specs.Calls.{Runs, Later}
use Rattle.cut_disk.proofs.CallerLemmas.{runs_none, later_of_runs, later_join}
use Rattle.cell_store.specs.declared.kinds.Layout.{Layout}
use Rattle.store_keeping.specs.DiskTurns.{CountsFailure, DiskTurn, TellsBytes}
use Rattle.freshness_routes.specs.Config.{Config}
use Rattle.bus_machine.specs.declared.events.Event.{Event}
use Rattle.bus_machine.specs.declared.events.Event.TheVariants as event
use Rattle.bus_machine.specs.declared.lines.Line.{Line}
use Rattle.bus_machine.specs.declared.lines.Line.TheVariants.{Refused}
use Rattle.bus_machine.specs.declared.lines.Refusal.TheVariants.{MemoryFailure}
use Rattle.bus_machine.specs.Node.{Node, first_node}
use Rattle.bus_machine.specs.Bus.{no_config, node_of, node_at}
use Rattle.bus_machine.specs.Past.{mark_of, most_entries, cell_count}
use Rattle.bus_world.specs.Turns.{FitsNode}
use Rattle.bus_world.specs.Turns.{NodeState, TellsFitting}
use Rattle.bus_world.specs.Turns.{duty_of, most_calls, NodeTurn, TellsFaults}
use Rattle.bus_world.specs.Worlds.{BusState, world_of, BusTurn, EachFits, TurnsAreRuns}
use Rattle.bus_world.specs.NodeDisks.{mark_at, most_at, tells_failure, fails_at, fits_at}

-- the disk of the node at a place
abbrev pub disk_at : NodeState → ℕ → BusState → DiskState
disk_at x i s = (get_or s.nodes i x).store.disk

-- the node at a place, as the machine has it
pub node_there : (s : BusState) (i : ℕ) (x : NodeState) → i < length s.nodes → node_at (world_of s) i ≡ (get_or s.nodes i x).node
node_there s i x inside = get_or-map (λ (n : NodeState). n.node) s.nodes i x (first_node no_config) inside

-- ---- one turn

-- the node at a place took its turn, or is as before
abbrev TurnAt : NodeState → ℕ → BusState → Event → Line → BusState → Type 0
TurnAt x i s e l t =
    (((node_of e == i) ≡ true) × NodeTurn (get_or s.nodes i x) (duty_of (world_of s) e) l (get_or t.nodes i x))
    ⊎ (((node_of e == i) ≡ false) × (get_or t.nodes i x ≡ get_or s.nodes i x))

turn_at : (x : NodeState) (i : ℕ) (s : BusState) (e : Event) (l : Line) (t : BusState) → i < length s.nodes → BusTurn s e l t → TurnAt x i s e l t
turn_at x i s e l t inside turn = elim (eqb_tells (node_of e) i) [
  | inl same ↦
      let old : get_or s.nodes i x ≡ turn.one.before =
      subst (λ (k : ℕ). get_or s.nodes k x ≡ turn.one.before) same.1 (get_or_from_slice_get s.nodes (node_of e) turn.one.before x turn.one.was) in
      let new : get_or t.nodes i x ≡ turn.one.after =
      ap (λ (xs : List NodeState). get_or xs i x) turn.one.others
      ∙ subst (λ (k : ℕ). get_or (set s.nodes k turn.one.after) i x ≡ turn.one.after) (sym same.1) (get_or-set_same s.nodes i turn.one.after x inside) in
      inl (
        same.0,
        subst (λ (n : NodeState). NodeTurn n (duty_of (world_of s) e) l (get_or t.nodes i x)) (sym old)
            (subst (λ (n : NodeState). NodeTurn turn.one.before (duty_of (world_of s) e) l n) (sym new) turn.one.step),
      )
  | inr other ↦
      inr (
        other.0,
        ap (λ (xs : List NodeState). get_or xs i x) turn.one.others ∙ get_or-set_other s.nodes (node_of e) i turn.one.after x (λ is. other.1 (sym is)),
      )
]

pub inside_after : (i : ℕ) (s : BusState) (e : Event) (l : Line) (t : BusState) → i < length s.nodes → BusTurn s e l t → i < length t.nodes
inside_after i s e l t inside turn = omega (arith, inside, MemberSteps-length turn.one)

most_of_event : (cells : ℕ) (e : Event) → most_calls cells (mark_of e) ≡ most_entries cells e
most_of_event cells (event.Send node id payload) = refl
most_of_event cells (event.Deliver node number) = refl
most_of_event cells (event.Inject node id pdu) = refl
most_of_event cells (event.Load node request) = refl
most_of_event cells (event.Key node update authkey) = refl
most_of_event cells (event.Boot node image) = refl
most_of_event cells (event.Cut node torn) = refl
most_of_event cells (event.Stop node calls) = refl
most_of_event cells (event.Fail node calls) = refl

counts_failure : (line : Line) (before after : ℕ) → TellsFaults line before after → CountsFailure (tells_failure line) before after
counts_failure (Refused MemoryFailure) before after tells = tells
counts_failure _ before after tells = tells

-- the turn of the node whose event it is
own_turn : (s : BusState) (e : Event) (line : Line) (before after : NodeState) → NodeTurn before (duty_of (world_of s) e) line after
    → DiskTurn (mark_of e) (most_entries (cell_count after.node) e) (tells_failure line) before.store.disk after.store.disk
own_turn s e line before after turn =
    let cells : cell_count before.node ≡ cell_count after.node = ap (λ (c : Config). 14 + length c.routes) (sym turn.config) in
    record {
      runs = subst (λ (n : ℕ). Runs (option_to_list (mark_of e)) n before.store.disk after.store.disk)
          (most_of_event (cell_count before.node) e ∙ ap (λ (n : ℕ). most_entries n e) cells) turn.runs;
      counts = counts_failure line before.store.disk.faults after.store.disk.faults turn.faults;
    }

not_called : (d : DiskState) → DiskTurn None 0 false d d
not_called d = record { runs = runs_none d; counts = refl }

-- what an event and its line are at node i, by whether the event is its own
abbrev TurnOf : Bool → Event → Line → ℕ → DiskState → DiskState → Type 0
TurnOf mine e l most old new = DiskTurn (cond mine (mark_of e) None) (cond mine most 0) (mine && tells_failure l) old new

-- a turn of the bus, at the disk of a node
pub turn_of_disk : (x : NodeState) (i : ℕ) (s : BusState) (e : Event) (l : Line) (t : BusState) → i < length s.nodes → BusTurn s e l t
    → DiskTurn (mark_at i e) (most_at i (world_of t) e) (fails_at i e l) (disk_at x i s) (disk_at x i t)
turn_of_disk x i s e l t inside turn =
    let most : ℕ = most_entries (cell_count (node_at (world_of t) i)) e in
    elim (turn_at x i s e l t inside turn) [
      | inl own ↦
          let there : (get_or t.nodes i x).node ≡ node_at (world_of t) i = sym (node_there t i x (inside_after i s e l t inside turn)) in
          subst (λ (b : Bool). TurnOf b e l most (disk_at x i s) (disk_at x i t)) (sym own.0)
          (subst (λ (n : Node). DiskTurn (mark_of e) (most_entries (cell_count n) e) (tells_failure l) (disk_at x i s) (disk_at x i t)) there
          (own_turn s e l (get_or s.nodes i x) (get_or t.nodes i x) own.1))
      | inr other ↦
          subst (λ (b : Bool). TurnOf b e l most (disk_at x i s) (disk_at x i t)) (sym other.0)
          (subst (λ (n : NodeState). DiskTurn None 0 false (disk_at x i s) n.store.disk) (sym other.1) (not_called (disk_at x i s)))
    ]

-- ---- runs

pub later_run : (x : NodeState) (i : ℕ) (s : BusState) (ms : List (Moment Event Line BusState)) (t : BusState) → i < length s.nodes → Run BusTurn s ms t
    → Later (disk_at x i s) (disk_at x i t)
later_run x i s [] t inside run =
    subst (λ (n : BusState). Later (disk_at x i s) (disk_at x i n)) (sym run) (later_of_runs (runs_none (disk_at x i s)))
later_run x i s (m ∷ ms) t inside run =
    later_join (later_of_runs (turn_of_disk x i s m.command m.line m.after inside run.0).runs)
    (later_run x i m.after ms t (inside_after i s m.command m.line m.after inside run.0) run.1)

-- ---- over disks that tell their bytes and fit

-- the node at this place has a store of this layout, over a disk that fits it
pub record HoldsAt (l : Layout) (x : NodeState) (i : ℕ) (s : BusState) : Type 0 where
  pub inside : i < length s.nodes
  pub fits : EachFits s
  pub layout_is : (get_or s.nodes i x).store.layout ≡ l

keeps_layout : (l : Layout) (x : NodeState) (i : ℕ) (s : BusState) (e : Event) (line : Line) (t : BusState) → TurnAt x i s e line t
    → (get_or s.nodes i x).store.layout ≡ l → (get_or t.nodes i x).store.layout ≡ l
keeps_layout l x i s e line t (inl own) is = own.1.layout ∙ is
keeps_layout l x i s e line t (inr other) is = ap (λ (n : NodeState). n.store.layout) other.1 ∙ is

pub holds_after : TurnsAreRuns → (l : Layout) (x : NodeState) (i : ℕ) (s : BusState) (e : Event) (line : Line) (t : BusState) → HoldsAt l x i s → BusTurn s e line t
    → HoldsAt l x i t
holds_after turns l x i s e line t holds turn = record {
  inside = inside_after i s e line t holds.inside turn;
  fits = (turns s t (record { command = e; line = line; after = t } ∷ []) holds.fits (turn, refl)).1;
  layout_is = keeps_layout l x i s e line t (turn_at x i s e line t holds.inside turn) holds.layout_is;
}

pub holds_run : TurnsAreRuns → (l : Layout) (x : NodeState) (i : ℕ) (s : BusState) (ms : List (Moment Event Line BusState)) (t : BusState) → HoldsAt l x i s → Run BusTurn s ms t
    → HoldsAt l x i t
holds_run turns l x i s [] t holds run = subst (HoldsAt l x i) (sym run) holds
holds_run turns l x i s (m ∷ ms) t holds run = holds_run turns l x i m.after ms t (holds_after turns l x i s m.command m.line m.after holds run.0) run.1

-- so the disk tells bytes that fit the machine's node
pub tells_at : (l : Layout) (x : NodeState) (i : ℕ) (s : BusState) → HoldsAt l x i s → TellsBytes (fits_at l i (world_of s)) (disk_at x i s)
tells_at l x i s holds =
    let n : NodeState = get_or s.nodes i x in
    let f : TellsFitting n = holds.fits i n (slice_get-get_or s.nodes i x holds.inside) in
    record {
      now = f.now;
      told = f.told;
      fit = subst (λ (m : Node). FitsNode l m f.now) (sym (node_there s i x holds.inside))
          (subst (λ (k : Layout). FitsNode k n.node f.now) holds.layout_is f.fits);
    }
