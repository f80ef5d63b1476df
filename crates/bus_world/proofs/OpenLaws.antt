-- A node that is opened over a disk that is formatted, and the list of those that are open
use Rattle.std.specs.Prelude.{◌≡◌, ℕ, suc, ◌+◌, ◌<◌, ◌≤◌, Option, None, Some, Result, Ok, Err, IfOk, IfErr, List, [], ◌∷◌, ◌++◌, length, map, drop, get_or}
use Rattle.std.proofs.Common.{refl, sym, ap, ◌∙◌, subst, arith, inl, inr, zero, length-append}
use Rattle.std.proofs.lemmas.Bool.{cases_lt}
use Rattle.std.proofs.lemmas.List.{get_or-map, get_or_append_left, get_or_push, get_or-drop}
use Rattle.bus_config.specs.declared.node_lines.NodeLine.{NodeLine}
use Rattle.bus_config.specs.Buses.{NamedBus}
use Rattle.cut_disk.specs.State.{DiskState, Told}
use Rattle.cut_disk.specs.Images.{firm}
use Rattle.cut_disk.specs.Calls.{Rose}
use Rattle.cut_disk.proofs.CallerLemmas.{runs_none, runs_more, runs_join, grows_then}
use Rattle.cell_store.specs.declared.kinds.Kind.{Kind}
use Rattle.cell_store.specs.declared.kinds.Version.{Version}
use Rattle.cell_store.specs.declared.faults.Reread.TheVariants as reread
use Rattle.cell_store.specs.declared.faults.StoreFault.{StoreFault}
use Rattle.cell_store.specs.declared.faults.StoreFault.TheVariants as store
use Rattle.cell_store.specs.Store.{store_size}
use Rattle.cell_store.specs.Formats.{Formats, FreshOn}
use Rattle.cell_store.specs.Attaching.{Formatted, NotFormed}
use Rattle.cell_store.proofs.CallerLemmas.{stands_once, fresh_images}
use Rattle.any_cells.specs.Either.{layout, format_calls}
use Rattle.freshness_routes.specs.Config.{Config, IsConfig}
use Rattle.bus_machine.specs.Node.{first_node}
use Rattle.secoc_node.specs.Cells.{CellsOf}
use Rattle.secoc_node.specs.State.{NodeState}
use Rattle.secoc_node.proofs.CallerLemmas.{length-CellsOf, first_is_kept, told_before, kept_once}
use Rattle.bus_world.specs.declared.opening.OpenFault.{OpenFault}
use Rattle.bus_world.specs.declared.opening.OpenFault.TheVariants as open_fault
use Rattle.bus_world.specs.declared.start.Start.{Start}
use Rattle.bus_world.specs.declared.start.Start.TheVariants.{Format}
use Rattle.bus_world.specs.TakingUp.{cells_in, new_cells, start_calls, KeptOn, OpenCause, MovedFirst, CountsRefusal}
use Rattle.bus_world.specs.Opening.{AttachedTo, AttachCauseOf, NotAttachedTo, of_store}
use Rattle.bus_world.specs.Starts.{Opened, NotOpened, OpenedFirst}
use Rattle.bus_world.proofs.StartRowLaws.{untouched_left, untouched_leaves, untouched_stays}
use Rattle.bus_world.proofs.AttachLaws.{kept_powered, OnlyDiskOrMemory, of_kept_alone}

-- ---- one node over a disk that is formatted

-- out of memory before any call of the disk
pub not_opened_none : (start : Start) (kind : Kind) (version : Version) (config : Config) (before : DiskState) → NotOpened start kind version config before before open_fault.Memory
not_opened_none start kind version config before = record {
  runs = runs_more (start_calls start kind config) (omega arith) (runs_none before);
  left = untouched_left start kind version config before;
  cause = tt;
  leaves = untouched_leaves start kind version config before;
  stays = untouched_stays start kind version config before;
  moved = tt;
  counts = refl;
  at_fault = tt;
}

-- the format failed
pub not_opened_format : (kind : Kind) (version : Version) (config : Config) (before after : DiskState) (f : StoreFault)
    → length (new_cells config) ≡ cells_in config → store_size (layout kind version) (cells_in config) ≤ before.size
    → NotFormed (layout kind version) (format_calls kind (cells_in config)) (new_cells config) before after f
    → NotOpened Format kind version config before after (of_store f)
not_opened_format kind version config before after store.TooSmall size room h =
    let small : before.size < store_size (layout kind version) (cells_in config) = subst (λ n. before.size < store_size (layout kind version) n) size h.0 in
    absurd (omega (arith, room, small))
not_opened_format kind version config before after store.DiskFailed size room h = record {
  runs = runs_more (start_calls Format kind config) (omega arith) h.runs;
  left = inr (inr h.rose);
  cause = h.rose;
  leaves = inr (inr (record { rose = h.rose; runs = h.runs; unformed = h.unformed }));
  stays = tt;
  moved = tt;
  counts = h.rose;
  at_fault = tt;
}
not_opened_format kind version config before after store.NotFormatted size room h = absurd h
not_opened_format kind version config before after (store.Damaged place) size room h = absurd h
not_opened_format kind version config before after store.Memory size room h = absurd h

-- what a format leaves of a disk
abbrev pub IsFormatted : Kind → Version → Config → DiskState → DiskState → Type 0
IsFormatted kind version config before mid =
    Formatted (layout kind version) (format_calls kind (cells_in config)) (new_cells config) before mid

-- a node that is attached to a fresh store keeps what a new one keeps
new_kept : (kind : Kind) (version : Version) (config : Config) (before mid : DiskState) (n : NodeState) (t : Told) → IsConfig config
    → FreshOn (layout kind version) (new_cells config) t mid.told → AttachedTo kind version config mid n → KeptOn Format kind version config t.bytes n.node.kept
new_kept kind version config before mid n t good fresh a =
    let mine = kept_powered config n.node a.just_powered a.sound in
    record {
      is_kept = mine;
      kept_as = kept_once config n.node.kept (first_node config).kept good mine (first_is_kept config good)
          (stands_once (layout kind version) fresh.bytes (CellsOf config n.node.kept) (new_cells config) (a.stands (firm fresh.bytes) fresh.told) fresh.stands);
    }

pub opened_over : (kind : Kind) (version : Version) (config : Config) (before mid : DiskState) (n : NodeState) → IsConfig config
    → IsFormatted kind version config before mid → AttachedTo kind version config mid n → Opened Format kind version config before n
opened_over kind version config before mid n good f a = record {
  just_powered = a.just_powered;
  sound = a.sound;
  layout_is = a.layout_is;
  kept = λ t told. new_kept kind version config before mid n t good (f.fresh t told) a;
  fits = λ now tells.
      let old = told_before before.told mid.told f.runs.tells now (sym a.told ∙ tells) in
      let fresh = f.fresh old.0 old.1 in
      a.fits fresh.bytes fresh.told now tells;
  runs = runs_join f.runs a.runs;
  grows = grows_then f.grows a.runs;
  faults = a.faults ∙ f.faults;
  leaves = subst (λ o. Formats (layout kind version) (new_cells config) before.told o) (sym a.told) f.fresh;
  stays = tt;
}

untold : (o : Option Told) → ((t : Told) → o ≡ Some t → ⊥) → o ≡ None
untold None never = refl
untold (Some t) never = absurd (never t refl)

-- bytes that were told were formatted, and are refused only if memory is out or the disk failed
told_alone : (kind : Kind) (version : Version) (config : Config) (before mid after : DiskState) (fault : OpenFault) → IsConfig config → IsFormatted kind version config before mid
    → AttachCauseOf kind version config mid after fault → (t : Told) → before.told ≡ Some t → OnlyDiskOrMemory fault
told_alone kind version config before mid after fault good f cause t told =
    let fresh = f.fresh t told in
    of_kept_alone kind version config mid after fault (firm fresh.bytes) (first_node config).kept good (first_is_kept config good) fresh.told fresh.stands cause

open_cause : (kind : Kind) (version : Version) (config : Config) (before mid after : DiskState) (f : OpenFault) → IsConfig config → IsFormatted kind version config before mid
    → AttachCauseOf kind version config mid after f → OpenCause Format kind version config before after f
open_cause kind version config before mid after (open_fault.Store reread.DiskFailed) good f cause = subst (λ n. Rose n after.faults) f.faults cause
open_cause kind version config before mid after (open_fault.Store reread.NotFormatted) good f cause =
    untold before.told (told_alone kind version config before mid after (open_fault.Store reread.NotFormatted) good f cause)
open_cause kind version config before mid after (open_fault.Store (reread.Damaged place)) good f cause =
    untold before.told (told_alone kind version config before mid after (open_fault.Store (reread.Damaged place)) good f cause)
open_cause kind version config before mid after (open_fault.BadSlot slot) good f cause =
    untold before.told (told_alone kind version config before mid after (open_fault.BadSlot slot) good f cause)
open_cause kind version config before mid after (open_fault.BadBound cell) good f cause =
    untold before.told (told_alone kind version config before mid after (open_fault.BadBound cell) good f cause)
open_cause kind version config before mid after open_fault.TooSmall good f cause = cause
open_cause kind version config before mid after open_fault.Memory good f cause = tt

pub none_some : (o : Option Told) (t : Told) → o ≡ None → o ≡ Some t → ⊥
none_some o t none some = cc

-- bytes that are formatted are refused only if they aren't told
untold_moved : (kind : Kind) (version : Version) (config : Config) (before after : DiskState) (f : OpenFault) → OpenCause Format kind version config before after f
    → MovedFirst kind version config before.told after.told f
untold_moved kind version config before after (open_fault.Store cause) untold = tt
untold_moved kind version config before after (open_fault.BadSlot slot) untold = λ t told older. absurd (none_some before.told t untold told)
untold_moved kind version config before after (open_fault.BadBound place) untold = λ t told older. absurd (none_some before.told t untold told)
untold_moved kind version config before after open_fault.TooSmall untold = tt
untold_moved kind version config before after open_fault.Memory untold = tt

pub not_opened_attach : (kind : Kind) (version : Version) (config : Config) (before mid after : DiskState) (fault : OpenFault) → IsConfig config
    → IsFormatted kind version config before mid → NotAttachedTo kind version config mid after fault → NotOpened Format kind version config before after fault
not_opened_attach kind version config before mid after fault good f a = record {
  runs = runs_join f.runs a.runs;
  left = inr (inl (λ t told x image.
      let now : mid.told ≡ Some t = sym a.told ∙ told in
      let old = told_before before.told mid.told f.runs.tells t now in
      fresh_images (layout kind version) (new_cells config) old.0 t (subst (λ o. FreshOn (layout kind version) (new_cells config) old.0 o) now (f.fresh old.0 old.1)) x image));
  cause = open_cause kind version config before mid after fault good f a.cause;
  leaves = inr (inl (subst (λ o. Formats (layout kind version) (new_cells config) before.told o) (sym a.told) f.fresh));
  stays = tt;
  moved = untold_moved kind version config before after fault (open_cause kind version config before mid after fault good f a.cause);
  counts = subst (λ n. CountsRefusal fault n after.faults) f.faults a.counts;
  at_fault = a.at_fault;
}

new_length : (config : Config) → IsConfig config → length (new_cells config) ≡ cells_in config
new_length config is = length-CellsOf config (first_node config).kept (first_is_kept config is)

pub formatted : (kind : Kind) (version : Version) (config : Config) (before mid : DiskState) (list : List (List ℕ)) → IsConfig config → list ≡ new_cells config
    → Formatted (layout kind version) (format_calls kind (length list)) list before mid → IsFormatted kind version config before mid
formatted kind version config before mid list is same h =
    subst (λ n. Formatted (layout kind version) (format_calls kind n) (new_cells config) before mid) (new_length config is)
    (subst (λ xs. Formatted (layout kind version) (format_calls kind (length xs)) xs before mid) same h)

pub not_formatted : (kind : Kind) (version : Version) (config : Config) (before after : DiskState) (f : StoreFault) (list : List (List ℕ)) → IsConfig config → list ≡ new_cells config
    → store_size (layout kind version) (cells_in config) ≤ before.size
    → NotFormed (layout kind version) (format_calls kind (length list)) list before after f → NotOpened Format kind version config before after (of_store f)
not_formatted kind version config before after f list is same room h =
    not_opened_format kind version config before after f (new_length config is) room
    (subst (λ n. NotFormed (layout kind version) (format_calls kind n) (new_cells config) before after f) (new_length config is)
    (subst (λ xs. NotFormed (layout kind version) (format_calls kind (length xs)) xs before after f) same h))

pub ok_by : {A E : Type 0} (P Q : A → Type 0) (r : Result A E) → IfOk r P → ((a : A) → P a → Q a) → IfOk r Q
ok_by P Q (Ok a) h f = f a h
ok_by P Q (Err e) h f = h

pub err_by : {A E : Type 0} (P Q : E → Type 0) (r : Result A E) → IfErr r P → ((e : E) → P e → Q e) → IfErr r Q
err_by P Q (Ok a) h f = h
err_by P Q (Err e) h f = f e h

-- ---- the disks that are left

map_drop_one : {X Y : Type 0} (f : X → Y) (xs : List X) → map f (drop 1 xs) ≡ drop 1 (map f xs)
map_drop_one f [] = refl
map_drop_one f (x ∷ xs) = refl

drop_one_more : {X : Type 0} (k : ℕ) (xs : List X) → drop 1 (drop k xs) ≡ drop (suc k) xs
drop_one_more zero xs = refl
drop_one_more (suc k) [] = refl
drop_one_more (suc k) (x ∷ xs) = drop_one_more k xs

pub states_left : {X Y : Type 0} (f : X → Y) (items later : List X) (states : List Y) (k : ℕ) → map f items ≡ drop k states → later ≡ drop 1 items → map f later ≡ drop (k + 1) states
states_left f items later states k were are =
    ap (map f) are ∙ map_drop_one f items ∙ ap (drop 1) were ∙ drop_one_more k states ∙ ap (λ n. drop n states) {x = suc k} {y = k + 1} (omega arith)

pub first_state : {X : Type 0} (f : X → DiskState) (items : List X) (x : X) (states : List DiskState) (k : ℕ) (d : DiskState) → map f items ≡ drop k states → 0 < length items
    → x ≡ get_or items 0 x → f x ≡ get_or states k d
first_state f items x states k d were some at =
    ap f at ∙ sym (get_or-map f items 0 x d some) ∙ ap (λ ys. get_or ys 0 d) were ∙ get_or-drop k states 0 d ∙ ap (λ i. get_or states i d) (omega arith)

pub opened_more : (start : Start) (k : ℕ) (bus : NamedBus) (before : List DiskState) (nodes later : List NodeState) (n : NodeState) (line : NodeLine) (x : DiskState)
    → OpenedFirst start k bus before nodes → later ≡ nodes ++ n ∷ [] → ((l : NodeLine) → get_or bus.nodes k l ≡ line) → ((d : DiskState) → x ≡ get_or before k d)
    → Opened start bus.kind bus.version line.config x n → OpenedFirst start (k + 1) bus before later
opened_more start k bus before nodes later n line x first is at here opened = record {
  count = ap length is ∙ length-append nodes (n ∷ []) ∙ omega (arith, first.count);
  opened = λ i l d s inside. subst (λ ys. Opened start bus.kind bus.version (get_or bus.nodes i l).config (get_or before i d) (get_or ys i s)) (sym is)
      (elim (cases_lt i k) [
        | inl earlier ↦ subst (λ y. Opened start bus.kind bus.version (get_or bus.nodes i l).config (get_or before i d) y) (sym (get_or_append_left nodes (n ∷ []) s i (omega (arith, first.count))))
            (first.opened i l d s earlier)
        | inr past ↦ let same : k ≡ i = omega arith in
            subst (λ j. Opened start bus.kind bus.version (get_or bus.nodes j l).config (get_or before j d) (get_or (nodes ++ n ∷ []) j s)) same
            (subst (λ y. Opened start bus.kind bus.version (get_or bus.nodes k l).config (get_or before k d) y) (sym (get_or_push nodes n s k first.count))
            (subst (λ y. Opened start bus.kind bus.version y.config (get_or before k d) n) (sym (at l)) (subst (λ y. Opened start bus.kind bus.version line.config y n) (here d) opened)))
      ]);
}
