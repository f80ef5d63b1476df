-- A start that is refused after some nodes that are open
use Rattle.std.specs.Prelude.{◌≡◌, ℕ, suc, ◌+◌, ◌-◌, ◌<◌, ◌≤◌, false, Some, List, [], ◌∷◌, ◌++◌, length, drop, get_or}
use Rattle.std.proofs.Common.{refl, sym, ap, ◌∙◌, subst, arith, inl, inr, length-append}
use Rattle.std.proofs.lemmas.Bool.{cases_lt}
use Rattle.std.proofs.Math.Nat.{eq-or-lt_of_le}
use Rattle.std.proofs.lemmas.List.{length-map, length-drop, get_or-map, get_or_append_left, get_or-append_right, get_or-drop, ext_get_or}
use Rattle.cut_disk.specs.State.{DiskState, Told}
use Rattle.cut_disk.specs.Calls.{Rose, Runs}
use Rattle.cut_disk.proofs.CallerLemmas.{runs_none, runs_more}
use Rattle.cell_store.specs.declared.kinds.Kind.{Kind}
use Rattle.cell_store.specs.declared.kinds.Version.{Version}
use Rattle.cell_store.specs.declared.faults.Reread.TheVariants as reread
use Rattle.cell_store.specs.Formats.{FreshOn}
use Rattle.cell_store.proofs.CallerLemmas.{fresh_images}
use Rattle.any_cells.specs.Either.{layout}
use Rattle.freshness_routes.specs.Config.{Config}
use Rattle.bus_machine.specs.Node.{Kept, first_node}
use Rattle.bus_machine.specs.Bus.{no_config}
use Rattle.bus_config.specs.declared.node_lines.NodeLine.{NodeLine}
use Rattle.bus_config.specs.Buses.{NamedBus}
use Rattle.secoc_node.specs.State.{NodeState}
use Rattle.secoc_node.proofs.CallerLemmas.{told_before}
use Rattle.bus_world.specs.declared.opening.OpenFault.{OpenFault}
use Rattle.bus_world.specs.declared.opening.OpenFault.TheVariants as open_fault
use Rattle.bus_world.specs.declared.start.Start.{Start}
use Rattle.bus_world.specs.declared.start.Start.TheVariants.{Format, Attach}
use Rattle.bus_world.specs.declared.start.StartFault.{StartFault}
use Rattle.bus_world.specs.declared.start.StartFault.TheVariants as start_fault
use Rattle.bus_world.specs.TakingUp.{new_cells, start_calls, KeptOn, LeftOver, LeavesDisk, StaysFound, RefusedFor, OpenCause, MovedFirst, CountsRefusal, CellsAtFault}
use Rattle.bus_world.specs.Starts.{disks_of, Opened, HasRoom, OfNumber, RefusedAt, StartCause, Broken, NotStarted, FindsRoom, OpensTo, fault_of_node}
use Rattle.bus_world.proofs.StartRowLaws.{no_line, untouched_left, untouched_leaves, untouched_stays}
use Rattle.bus_world.proofs.TakingLaws.{left_of_leaves}

pub opened_left : (start : Start) (kind : Kind) (version : Version) (config : Config) (before : DiskState) (n : NodeState) → Opened start kind version config before n
    → LeftOver start kind version config before n.store.disk
opened_left Format kind version config before n o = inr (inl (λ t told x image.
    let old = told_before before.told n.store.disk.told o.runs.tells t told in
    fresh_images (layout kind version) (new_cells config) old.0 t (subst (λ o. FreshOn (layout kind version) (new_cells config) old.0 o) told (o.leaves old.0 old.1)) x image))
opened_left Attach kind version config before n o =
    left_of_leaves kind version config before n.store.disk (inl o.faults) (λ t told. inl (o.leaves t told, o.faults))

opened_leaves : (start : Start) (kind : Kind) (version : Version) (config : Config) (before : DiskState) (n : NodeState) → Opened start kind version config before n
    → LeavesDisk start kind version config before n.store.disk
opened_leaves Format kind version config before n o = inr (inl o.leaves)
opened_leaves Attach kind version config before n o = λ t told. inl (o.leaves t told, o.faults)

-- something past the last node
abbrev no_node : NamedBus → DiskState → NodeState
no_node bus d = record { node = first_node no_config; store = record { layout = layout bus.kind bus.version; cells = []; disk = d; broken = false } }

-- what is left of a disk
abbrev Left : Start → NamedBus → List DiskState → List DiskState → ℕ → NodeLine → DiskState → Type 0
Left start bus before after i l d =
    Runs [] (start_calls start bus.kind (get_or bus.nodes i l).config) (get_or before i d) (get_or after i d)
    × LeftOver start bus.kind bus.version (get_or bus.nodes i l).config (get_or before i d) (get_or after i d)

untouched : (start : Start) (bus : NamedBus) (before after : List DiskState) (i : ℕ) (l : NodeLine) (d : DiskState) → get_or after i d ≡ get_or before i d → Left start bus before after i l d
untouched start bus before after i l d same = (
  subst (λ s. Runs [] (start_calls start bus.kind (get_or bus.nodes i l).config) (get_or before i d) s) (sym same) (runs_more _ (omega arith) (runs_none (get_or before i d))),
  subst (λ s. LeftOver start bus.kind bus.version (get_or bus.nodes i l).config (get_or before i d) s) (sym same)
      (untouched_left start bus.kind bus.version (get_or bus.nodes i l).config (get_or before i d)),
)

same_leaves : (start : Start) (bus : NamedBus) (before after : List DiskState) (i : ℕ) (l : NodeLine) (d : DiskState) → get_or after i d ≡ get_or before i d
    → LeavesDisk start bus.kind bus.version (get_or bus.nodes i l).config (get_or before i d) (get_or after i d)
same_leaves start bus before after i l d same =
    subst (λ s. LeavesDisk start bus.kind bus.version (get_or bus.nodes i l).config (get_or before i d) s) (sym same)
    (untouched_leaves start bus.kind bus.version (get_or bus.nodes i l).config (get_or before i d))

same_stays : (start : Start) (bus : NamedBus) (before after : List DiskState) (i : ℕ) (l : NodeLine) (d : DiskState) → get_or after i d ≡ get_or before i d
    → StaysFound start bus.kind bus.version (get_or bus.nodes i l).config (get_or before i d) (get_or after i d)
same_stays start bus before after i l d same =
    subst (λ (s : DiskState). StaysFound start bus.kind bus.version (get_or bus.nodes i l).config (get_or before i d) s) (sym same)
    (untouched_stays start bus.kind bus.version (get_or bus.nodes i l).config (get_or before i d))

-- the node at a place is refused, the ones before it were taken and didn't fail, and those after it weren't touched
module _ (start : Start) (bus : NamedBus) (before after : List DiskState) (place : ℕ) (inside : place < length bus.nodes)
    (earlier : (i : ℕ) (d : DiskState) → i < place → (get_or after i d).faults ≡ (get_or before i d).faults)
    (taken : (i : ℕ) (l : NodeLine) (d : DiskState) (t : Told) → i < place → (get_or before i d).told ≡ Some t
    → (kept : Kept) × KeptOn start bus.kind bus.version (get_or bus.nodes i l).config t.bytes kept)
    (later : (i : ℕ) (d : DiskState) → place < i → get_or after i d ≡ get_or before i d) where
  at_number : (P : Config → DiskState → DiskState → Type 0)
      → ((l : NodeLine) (d : DiskState) → P (get_or bus.nodes place l).config (get_or before place d) (get_or after place d)) → OfNumber start bus before after (place + 1) P
  at_number P holds = record {
    least = omega arith;
    most = omega (arith, inside);
    disk = λ l d. subst (λ k. P (get_or bus.nodes k l).config (get_or before k d) (get_or after k d)) {y = place + 1 - 1} (omega arith) (holds l d);
    earlier = λ i d less. earlier i d (omega (arith, less));
    taken = λ i l d t less. taken i l d t (omega (arith, less));
    later = λ i d from. later i d (omega (arith, from));
  }

  refused_at : (fault : OpenFault) → ((l : NodeLine) (d : DiskState) → RefusedFor start bus.kind bus.version (get_or bus.nodes place l).config (get_or before place d).told fault)
      → ((d : DiskState) → (get_or after place d).faults ≡ (get_or before place d).faults)
      → ((l : NodeLine) (d : DiskState) → MovedFirst bus.kind bus.version (get_or bus.nodes place l).config (get_or before place d).told (get_or after place d).told fault)
      → ((l : NodeLine) → CellsAtFault (get_or bus.nodes place l).config fault)
      → RefusedAt start bus before after (place + 1) fault
  refused_at fault h same moved cells =
      at_number
      (λ config old new.
      RefusedFor start bus.kind bus.version config old.told fault × (new.faults ≡ old.faults)
      × MovedFirst bus.kind bus.version config old.told new.told fault × CellsAtFault config fault)
      (λ l d. (h l d, same d, moved l d, cells l))

  start_cause : (cause : OpenFault)
      → ((l : NodeLine) (d : DiskState) → OpenCause start bus.kind bus.version (get_or bus.nodes place l).config (get_or before place d) (get_or after place d) cause)
      → ((d : DiskState) → CountsRefusal cause (get_or before place d).faults (get_or after place d).faults)
      → ((l : NodeLine) (d : DiskState) → MovedFirst bus.kind bus.version (get_or bus.nodes place l).config (get_or before place d).told (get_or after place d).told cause)
      → ((l : NodeLine) → CellsAtFault (get_or bus.nodes place l).config cause)
      → StartCause start bus before after (fault_of_node (place + 1) cause)
  start_cause (open_fault.Store reread.DiskFailed) h counts moved cells = at_number (λ config old new. Rose old.faults new.faults) h
  start_cause (open_fault.Store reread.NotFormatted) h counts moved cells = refused_at (open_fault.Store reread.NotFormatted) h counts moved cells
  start_cause (open_fault.Store (reread.Damaged i)) h counts moved cells = refused_at (open_fault.Store (reread.Damaged i)) h counts moved cells
  start_cause (open_fault.BadSlot slot) h counts moved cells = refused_at (open_fault.BadSlot slot) h counts moved cells
  start_cause (open_fault.BadBound place) h counts moved cells = refused_at (open_fault.BadBound place) h counts moved cells
  start_cause open_fault.TooSmall h counts moved cells = tt
  start_cause open_fault.Memory h counts moved cells = tt

-- out of memory of a start is that of a node
of_memory : (n : ℕ) (cause : OpenFault) → fault_of_node n cause ≡ start_fault.Memory → cause ≡ open_fault.Memory
of_memory n (open_fault.Store fault) is = cc is
of_memory n (open_fault.BadSlot slot) is = cc is
of_memory n (open_fault.BadBound cell) is = cc is
of_memory n open_fault.TooSmall is = cc is
of_memory n open_fault.Memory is = refl

-- there is room on the disk
fits_on : (start : Start) (kind : Kind) (version : Version) (config : Config) (before after : DiskState) → OpenCause start kind version config before after open_fault.TooSmall → ⊥
fits_on start kind version config before after none = none

as_broken : (start : Start) (bus : NamedBus) (before after : List DiskState) (n : ℕ) (cause : OpenFault) → (cause ≡ open_fault.TooSmall → ⊥)
    → Broken start bus before after (fault_of_node n cause) → NotStarted start bus before after (fault_of_node n cause)
as_broken start bus before after n (open_fault.Store fault) room b = b
as_broken start bus before after n (open_fault.BadSlot slot) room b = b
as_broken start bus before after n (open_fault.BadBound place) room b = b
as_broken start bus before after n open_fault.TooSmall room b = absurd (room refl)
as_broken start bus before after n open_fault.Memory room b = b

-- out of memory is told only if the disk didn't fail
memory_counts : (cause : OpenFault) → cause ≡ open_fault.Memory → (before after : DiskState) → CountsRefusal cause before.faults after.faults → after.faults ≡ before.faults
memory_counts cause is before after counts = subst (λ f. CountsRefusal f before.faults after.faults) is counts

module _ (start : Start) (bus : NamedBus) (before mid after : List DiskState) (nodes : List NodeState) (fault : StartFault) (room : HasRoom bus before) (o : OpensTo start bus before mid nodes fault) (is : after ≡ disks_of nodes ++ mid) where
  all : after ≡ disks_of nodes ++ o.disk ∷ drop (o.place + 1) before
  all = is ∙ ap (λ ys. disks_of nodes ++ ys) o.left

  opened_count : length (disks_of nodes) ≡ o.place
  opened_count = length-map nodes (λ (n : NodeState). n.store.disk) ∙ o.opened.count

  within : o.place < length before
  within = omega (arith, o.inside, room.enough)

  count : length after ≡ length before
  count = ap length all ∙ length-append (disks_of nodes) (o.disk ∷ drop (o.place + 1) before) ∙ omega (arith, opened_count, length-drop (o.place + 1) before, within)

  earlier : (i : ℕ) (d : DiskState) (n : NodeState) → i < o.place → get_or after i d ≡ (get_or nodes i n).store.disk
  earlier i d n less =
      ap (λ ys. get_or ys i d) all ∙ get_or_append_left (disks_of nodes) (o.disk ∷ drop (o.place + 1) before) d i (omega (arith, opened_count))
      ∙ get_or-map (λ (n : NodeState). n.store.disk) nodes i n d (omega (arith, o.opened.count))

  behind : (i : ℕ) (d : DiskState) → o.place ≤ i → get_or after i d ≡ get_or (o.disk ∷ drop (o.place + 1) before) (i - o.place) d
  behind i d from = ap (λ ys. get_or ys i d) all ∙ get_or-append_right (disks_of nodes) (o.disk ∷ drop (o.place + 1) before) o.place i d opened_count from

  here : (d : DiskState) → get_or after o.place d ≡ o.disk
  here d = behind o.place d (omega arith) ∙ ap (λ k. get_or (o.disk ∷ drop (o.place + 1) before) k d) {y = 0} (omega arith)

  later : (i : ℕ) (d : DiskState) → o.place < i → get_or after i d ≡ get_or before i d
  later i d more =
      behind i d (omega arith)
      ∙ ap (λ k. get_or (o.disk ∷ drop (o.place + 1) before) k d) {y = suc (i - (o.place + 1))} (omega arith)
      ∙ get_or-drop (o.place + 1) before (i - (o.place + 1)) d
      ∙ ap (λ k. get_or before k d) (omega arith)

  left : (i : ℕ) (l : NodeLine) (d : DiskState) → i < length bus.nodes → Left start bus before after i l d
  left i l d inside = elim (cases_lt i o.place) [
    | inl less ↦ let n : NodeState = get_or nodes i (no_node bus d) in
        let opened = o.opened.opened i l d (no_node bus d) less in (
          subst (λ s. Runs [] (start_calls start bus.kind (get_or bus.nodes i l).config) (get_or before i d) s) (sym (earlier i d (no_node bus d) less)) opened.runs,
          subst (λ s. LeftOver start bus.kind bus.version (get_or bus.nodes i l).config (get_or before i d) s) (sym (earlier i d (no_node bus d) less))
              (opened_left start bus.kind bus.version (get_or bus.nodes i l).config (get_or before i d) n opened),
        )
    | inr from ↦ elim (eq-or-lt_of_le from) [
      | inl same ↦ subst (λ k. Left start bus before after k l d) same
          (let refused = o.refused l d in (
            subst (λ s. Runs [] (start_calls start bus.kind (get_or bus.nodes o.place l).config) (get_or before o.place d) s) (sym (here d)) refused.runs,
            subst (λ s. LeftOver start bus.kind bus.version (get_or bus.nodes o.place l).config (get_or before o.place d) s) (sym (here d)) refused.left,
          ))
      | inr more ↦ untouched start bus before after i l d (later i d more)
    ]
  ]

  rest : drop (length bus.nodes) after ≡ drop (length bus.nodes) before
  rest = ext_get_or o.disk (drop (length bus.nodes) after) (drop (length bus.nodes) before)
      (length-drop (length bus.nodes) after ∙ ap (λ n. n - length bus.nodes) count ∙ sym (length-drop (length bus.nodes) before))
      (λ k inside. get_or-drop (length bus.nodes) after k o.disk ∙ later (length bus.nodes + k) o.disk (omega (arith, o.inside)) ∙ sym (get_or-drop (length bus.nodes) before k o.disk))

  open_cause : (l : NodeLine) (d : DiskState) → OpenCause start bus.kind bus.version (get_or bus.nodes o.place l).config (get_or before o.place d) (get_or after o.place d) o.cause
  open_cause l d =
      subst (λ s. OpenCause start bus.kind bus.version (get_or bus.nodes o.place l).config (get_or before o.place d) s o.cause) (sym (here d)) (o.refused l d).cause

  open_counts : (d : DiskState) → CountsRefusal o.cause (get_or before o.place d).faults (get_or after o.place d).faults
  open_counts d = subst (λ (s : DiskState). CountsRefusal o.cause (get_or before o.place d).faults s.faults) (sym (here d)) (o.refused no_line d).counts

  open_moved : (l : NodeLine) (d : DiskState)
      → MovedFirst bus.kind bus.version (get_or bus.nodes o.place l).config (get_or before o.place d).told (get_or after o.place d).told o.cause
  open_moved l d =
      subst (λ (s : DiskState). MovedFirst bus.kind bus.version (get_or bus.nodes o.place l).config (get_or before o.place d).told s.told o.cause) (sym (here d)) (o.refused l d).moved

  open_at_fault : (l : NodeLine) → CellsAtFault (get_or bus.nodes o.place l).config o.cause
  open_at_fault l = (o.refused l o.disk).at_fault

  pub has_room : o.cause ≡ open_fault.TooSmall → ⊥
  has_room is = fits_on start bus.kind bus.version (get_or bus.nodes o.place no_line).config (get_or before o.place o.disk) (get_or after o.place o.disk)
      (subst (λ f. OpenCause start bus.kind bus.version (get_or bus.nodes o.place no_line).config (get_or before o.place o.disk) (get_or after o.place o.disk) f) is (open_cause no_line o.disk))

  taken : (i : ℕ) (l : NodeLine) (d : DiskState) (t : Told) → i < o.place → (get_or before i d).told ≡ Some t
      → (kept : Kept) × KeptOn start bus.kind bus.version (get_or bus.nodes i l).config t.bytes kept
  taken i l d t less told =
      let n : NodeState = get_or nodes i (no_node bus d) in
      (n.node.kept, (o.opened.opened i l d (no_node bus d) less).kept t told)

  unfailed : (i : ℕ) (d : DiskState) → i < o.place → (get_or after i d).faults ≡ (get_or before i d).faults
  unfailed i d less = ap (λ (s : DiskState). s.faults) (earlier i d (no_node bus d) less) ∙ (o.opened.opened i no_line d (no_node bus d) less).faults

  leaves : (i : ℕ) (l : NodeLine) (d : DiskState) → i < length bus.nodes
      → LeavesDisk start bus.kind bus.version (get_or bus.nodes i l).config (get_or before i d) (get_or after i d)
  leaves i l d inside = elim (cases_lt i o.place) [
    | inl less ↦ subst (λ s. LeavesDisk start bus.kind bus.version (get_or bus.nodes i l).config (get_or before i d) s) (sym (earlier i d (no_node bus d) less))
        (opened_leaves start bus.kind bus.version (get_or bus.nodes i l).config (get_or before i d) (get_or nodes i (no_node bus d)) (o.opened.opened i l d (no_node bus d) less))
    | inr from ↦ elim (eq-or-lt_of_le from) [
      | inl same ↦ subst (λ k. LeavesDisk start bus.kind bus.version (get_or bus.nodes k l).config (get_or before k d) (get_or after k d)) same
          (subst (λ s. LeavesDisk start bus.kind bus.version (get_or bus.nodes o.place l).config (get_or before o.place d) s) (sym (here d)) (o.refused l d).leaves)
      | inr more ↦ same_leaves start bus before after i l d (later i d more)
    ]
  ]

  stays : (i : ℕ) (l : NodeLine) (d : DiskState) → i < length bus.nodes
      → StaysFound start bus.kind bus.version (get_or bus.nodes i l).config (get_or before i d) (get_or after i d)
  stays i l d inside = elim (cases_lt i o.place) [
    | inl less ↦ subst (λ (s : DiskState). StaysFound start bus.kind bus.version (get_or bus.nodes i l).config (get_or before i d) s) (sym (earlier i d (no_node bus d) less))
        (o.opened.opened i l d (no_node bus d) less).stays
    | inr from ↦ elim (eq-or-lt_of_le from) [
      | inl same ↦ subst (λ (k : ℕ). StaysFound start bus.kind bus.version (get_or bus.nodes k l).config (get_or before k d) (get_or after k d)) same
          (subst (λ (s : DiskState). StaysFound start bus.kind bus.version (get_or bus.nodes o.place l).config (get_or before o.place d) s) (sym (here d)) (o.refused l d).stays)
      | inr more ↦ same_stays start bus before after i l d (later i d more)
    ]
  ]

  memory : o.cause ≡ open_fault.Memory → (i : ℕ) (d : DiskState) → (get_or after i d).faults ≡ (get_or before i d).faults
  memory none i d = elim (cases_lt i o.place) [
    | inl less ↦ unfailed i d less
    | inr from ↦ elim (eq-or-lt_of_le from) [
      | inl same ↦ subst (λ k. (get_or after k d).faults ≡ (get_or before k d).faults) same (ap (λ (s : DiskState). s.faults) (here d) ∙ memory_counts o.cause none (get_or before o.place d) o.disk (o.refused no_line d).counts)
      | inr more ↦ ap (λ (s : DiskState). s.faults) (later i d more)
    ]
  ]

  pub broken : Broken start bus before after (fault_of_node (o.place + 1) o.cause)
  broken = record {
    room = room;
    count = count;
    left = left;
    rest = rest;
    cause = start_cause start bus before after o.place o.inside unfailed taken later o.cause open_cause open_counts open_moved open_at_fault;
    leaves = leaves;
    stays = stays;
    memory = λ is. memory (of_memory (o.place + 1) o.cause is);
  }

pub start_refused : (start : Start) (bus : NamedBus) (before mid after : List DiskState) (nodes : List NodeState) (fault : StartFault) → HasRoom bus before → OpensTo start bus before mid nodes fault
    → after ≡ disks_of nodes ++ mid → NotStarted start bus before after fault
start_refused start bus before mid after nodes fault room o is =
    subst (NotStarted start bus before after) (sym o.fault_is)
    (as_broken start bus before after (o.place + 1) o.cause (has_room start bus before mid after nodes fault room o is) (broken start bus before mid after nodes fault room o is))

-- out of memory before any disk was touched
pub start_unopened : (start : Start) (bus : NamedBus) (before : List DiskState) → HasRoom bus before → NotStarted start bus before before start_fault.Memory
start_unopened start bus before room = record {
  room = room;
  count = refl;
  left = λ i l d inside. untouched start bus before before i l d refl;
  rest = refl;
  cause = tt;
  leaves = λ i l d inside. same_leaves start bus before before i l d refl;
  stays = λ i l d inside. same_stays start bus before before i l d refl;
  memory = λ is i d. refl;
}

-- the disks are missing, or one is too small
pub not_found : (bus : NamedBus) (disks : List DiskState) (fault : StartFault) → FindsRoom bus disks fault → (start : Start) → NotStarted start bus disks disks fault
not_found bus disks start_fault.TooFew finds start = (finds, refl)
not_found bus disks (start_fault.TooSmall node) finds start = (finds, refl)
not_found bus disks (start_fault.Store node cause) finds start = absurd finds
not_found bus disks (start_fault.BadSlot node slot) finds start = absurd finds
not_found bus disks (start_fault.BadBound node cell) finds start = absurd finds
not_found bus disks start_fault.Memory finds start = absurd finds
