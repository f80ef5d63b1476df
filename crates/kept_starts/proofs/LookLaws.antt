-- What a look leaves of the disks, and which room they have
use Rattle.std.specs.Prelude.{◌≡◌, ◌↔◌, ℕ, ◌<◌, ◌≤◌, Bool, true, false, IsTrue, List, [], ◌∷◌, length, drop, get_or, map, Result, Ok, Err, OnOk, IfErr}
use Rattle.std.proofs.Common.{suc, zero, refl, sym, ap, ◌∙◌, subst, arith}
use Rattle.std.proofs.Math.Dec.{leb}
use Rattle.std.proofs.lemmas.Bool.{false≢true, leb-true, le-leb}
use Rattle.std.proofs.lemmas.List.{get_or-map, length-map}
use Rattle.cut_disk.specs.State.{DiskState}
use Rattle.cut_disk.specs.Calls.{IsQuiet, AsBefore}
use Rattle.cut_disk.proofs.CallerLemmas.{runs_none, runs_more}
use Rattle.cell_store.specs.Store.{store_size}
use Rattle.any_cells.specs.Either.{layout}
use Rattle.bus_config.specs.declared.node_lines.NodeLine.{NodeLine}
use Rattle.bus_config.specs.Buses.{NamedBus}
use Rattle.bus_script.specs.EventForms.{node_line_at}
use Rattle.bus_world.specs.TakingUp.{cells_in}
use Rattle.bus_world.specs.Starts.{HasRoom}
use Rattle.bus_world.specs.WorldTurns.{TellFirm}
use Rattle.bus_world.proofs.CallerLemmas.{no_disk, no_line}
use Rattle.kept_starts.specs.declared.first.KeepFault.{KeepFault}
use Rattle.kept_starts.specs.LookedAt.{look_calls, size_in_bus, KeepsTold, KeepsOlder, HasStoreRoom, FailsToKeep, LookedAt, no_room, looked, NotKept}

-- ---- each disk after a look

pub unlooked : (calls : ℕ) (disk : DiskState) → AsBefore calls disk disk
unlooked calls disk = record { runs = runs_more calls (omega arith) (runs_none disk); told = refl; faults = refl }

at_first : (calls : ℕ) (disk seen : DiskState) (rest : List DiskState) (i : ℕ) (d : DiskState) → AsBefore calls disk seen
    → AsBefore calls (get_or (disk ∷ rest) i d) (get_or (seen ∷ rest) i d)
at_first calls disk seen rest zero d look = look
at_first calls disk seen rest (suc i) d look = unlooked calls (get_or rest i d)

module _ (bus : NamedBus) (before : List DiskState) where
  -- it is as before, except for reads
  pub look_at : (seen : List DiskState) → LookedAt bus before seen → (i : ℕ) (d : DiskState) → AsBefore (look_calls bus) (get_or before i d) (get_or seen i d)
  look_at _ (no_room none) i d = unlooked (look_calls bus) (get_or before i d)
  look_at _ (looked disk seen rest is room look keeps older) i d =
      subst (λ (disks : List DiskState). AsBefore (look_calls bus) (get_or disks i d) (get_or (seen ∷ rest) i d)) (sym is)
      (at_first (look_calls bus) disk seen rest i d look)

  pub look_rest : (seen : List DiskState) → LookedAt bus before seen → drop 1 seen ≡ drop 1 before
  look_rest _ (no_room none) = refl
  look_rest _ (looked disk seen rest is room look keeps older) = sym (ap (λ (disks : List DiskState). drop 1 disks) is)

  pub look_count : (seen : List DiskState) → LookedAt bus before seen → length seen ≡ length before
  look_count _ (no_room none) = refl
  look_count _ (looked disk seen rest is room look keeps older) = sym (ap (λ (disks : List DiskState). length disks) is)

  -- if there was room, told bytes may be kept
  pub look_keeps : (seen : List DiskState) → LookedAt bus before seen → HasRoom bus before → (disk : DiskState) → KeepsTold bus (get_or before 0 disk)
  look_keeps _ (no_room none) room disk = absurd (none room)
  look_keeps _ (looked first seen rest is room look keeps older) also disk =
      subst (λ (disks : List DiskState). KeepsTold bus (get_or disks 0 disk)) (sym is) keeps

  -- and the cells of a store in version 1 that is moved are the node's
  pub look_older : (seen : List DiskState) → LookedAt bus before seen → HasRoom bus before → (disk : DiskState) → KeepsOlder bus (get_or before 0 disk)
  look_older _ (no_room none) room disk = absurd (none room)
  look_older _ (looked first seen rest is room look keeps older) also disk =
      subst (λ (disks : List DiskState). KeepsOlder bus (get_or disks 0 disk)) (sym is) older

  module _ (seen : List DiskState) (look : LookedAt bus before seen) where
    pub same_told : (i : ℕ) (d : DiskState) → (get_or seen i d).told ≡ (get_or before i d).told
    same_told i d = (look_at seen look i d).told

    pub same_faults : (i : ℕ) (d : DiskState) → (get_or seen i d).faults ≡ (get_or before i d).faults
    same_faults i d = (look_at seen look i d).faults

    pub room_then : HasRoom bus before → HasRoom bus seen
    room_then room = record {
      enough = omega (arith, room.enough, look_count seen look);
      room = λ i l d inside.
          let was = room.room i l d inside in
          omega (arith, was, (look_at seen look i d).runs.size);
    }

    pub room_before : HasRoom bus seen → HasRoom bus before
    room_before room = record {
      enough = omega (arith, room.enough, look_count seen look);
      room = λ i l d inside.
          let was = room.room i l d inside in
          omega (arith, was, (look_at seen look i d).runs.size);
    }

    pub firm_then : TellFirm bus before → TellFirm bus seen
    firm_then firms i d inside = let f = firms i d inside in (f.0, same_told i d ∙ f.1)

    pub quiet_then : (i : ℕ) (d : DiskState) → IsQuiet (get_or before i d) → IsQuiet (get_or seen i d)
    quiet_then i d quiet =
        let stays = (look_at seen look i d).runs.quiet refl quiet in
        record { quiet = stays.quiet; below = omega (arith, stays.faults, quiet.below) }

-- without room no disk was looked at
pub unlooked_same : (bus : NamedBus) (before seen : List DiskState) → LookedAt bus before seen → ¬ HasRoom bus before → seen ≡ before
unlooked_same bus before _ (no_room none) also = refl
unlooked_same bus before _ (looked disk seen rest is room look keeps older) none = absurd (none room)

-- ---- the room of one store

pub first_line : (nodes : List NodeLine) (i : ℕ) (l : NodeLine) → length nodes ≡ 1 → i < length nodes → get_or nodes i l ≡ node_line_at nodes 0
first_line [] i l one inside = absurd (let no : ⊥ = omega (arith, one) in no)
first_line (n ∷ ns) zero l one inside = refl
first_line (n ∷ ns) (suc i) l one inside = absurd (let no : ⊥ = omega (arith, one, inside) in no)

only_first : (nodes : List NodeLine) (i : ℕ) → length nodes ≡ 1 → i < length nodes → i ≡ 0
only_first nodes i one inside = omega (arith, one, inside)

module _ (bus : NamedBus) (one : length bus.nodes ≡ 1) (disks : List DiskState) where
  pub room_of_store : HasStoreRoom bus disks → HasRoom bus disks
  room_of_store has = record {
    enough = omega (arith, one, (has no_disk).0);
    room = λ i l d inside.
        subst (λ (k : ℕ). store_size (layout bus.kind bus.version) (cells_in (get_or bus.nodes i l).config) ≤ (get_or disks k d).size)
        (sym (only_first bus.nodes i one inside))
        (subst (λ (n : NodeLine). store_size (layout bus.kind bus.version) (cells_in n.config) ≤ (get_or disks 0 d).size)
        (sym (first_line bus.nodes i l one inside)) (has d).1);
  }

  pub store_of_room : HasRoom bus disks → HasStoreRoom bus disks
  store_of_room room d =
      let inside : 0 < length bus.nodes = omega (arith, one) in (
        omega (arith, one, room.enough),
        subst (λ (n : NodeLine). store_size (layout bus.kind bus.version) (cells_in n.config) ≤ (get_or disks 0 d).size)
            (first_line bus.nodes 0 no_line one inside) (room.room 0 no_line d inside),
      )

-- ---- the first disk, as the code has it

pub any_ok : {X E : Type 0} (r : Result X E) (P : Type 0) → P → OnOk r P
any_ok (Ok x) P p = p
any_ok (Err e) P p = tt

module _ {D : Type 0} (state : D → DiskState) (bus : NamedBus) (items : List D) where
  abbrev states : List DiskState
  states = map state items

  pub no_disks : length items ≡ 0 → IsTrue false ↔ HasStoreRoom bus states
  no_disks none = (
    λ yes_. absurd (false≢true yes_),
    λ has. absurd (let some = (has no_disk).0 in let no_ : ⊥ = omega (arith, some, none, length-map items state) in no_),
  )

  first_at : (x : D) (d : DiskState) → 0 < length items → x ≡ get_or items 0 x → get_or states 0 d ≡ state x
  first_at x d some at = get_or-map state items 0 x d some ∙ ap state (sym at)

  pub first_room_is : (x : D) (a b : ℕ) → 0 < length items → x ≡ get_or items 0 x → a ≡ size_in_bus bus → b ≡ (state x).size → IsTrue (leb a b) ↔ HasStoreRoom bus states
  first_room_is x a b some at a_is b_is = (
    λ true_. λ d. (
      omega (arith, some, length-map items state),
      (let low : a ≤ b = leb-true a b true_ in omega (arith, low, a_is, b_is, ap (λ (s : DiskState). s.size) (first_at x d some at))),
    ),
    λ has.
        let big = (has no_disk).1 in
        le-leb a b (omega (arith, big, a_is, b_is, ap (λ (s : DiskState). s.size) (first_at x no_disk some at))),
  )

  pub room_or_not : length bus.nodes ≡ 1 → (says : Bool) → (IsTrue says ↔ HasStoreRoom bus states) → says ≡ false → ¬ HasRoom bus states
  room_or_not one says test off room = false≢true (sym off ∙ test.1 (store_of_room bus one states room))

  pub room_there : length bus.nodes ≡ 1 → (says : Bool) → (IsTrue says ↔ HasStoreRoom bus states) → says ≡ true → HasRoom bus states
  room_there one says test on = room_of_store bus one states (test.0 on)

  pub some_there : (says : Bool) → (IsTrue says ↔ HasStoreRoom bus states) → says ≡ true → 0 < length items
  some_there says test on = let some = (test.0 on no_disk).0 in omega (arith, some, length-map items state)

  pub fits_there : (x : D) (says : Bool) → (IsTrue says ↔ HasStoreRoom bus states) → says ≡ true → x ≡ get_or items 0 x → size_in_bus bus ≤ (state x).size
  fits_there x says test on at =
      let big = (test.0 on no_disk).1 in
      omega (arith, big, ap (λ (s : DiskState). s.size) (first_at x no_disk (some_there says test on) at))

-- what was taken out first
split_first : {D : Type 0} (state : D → DiskState) (items : List D) (x : D) (later : List D) → 0 < length items → x ≡ get_or items 0 x → later ≡ drop 1 items
    → map state items ≡ state x ∷ map state later
split_first {D} state [] x later some at rest = absurd (let no_ : ⊥ = omega (arith, some) in no_)
split_first {D} state (i ∷ is) x later some at rest =
    ap (λ (y : D). state y ∷ map state is) (sym at) ∙ ap (λ (ys : List D). state x ∷ map state ys) (sym rest)

pub first_looked : {D : Type 0} (state : D → DiskState) (bus : NamedBus) (items later new : List D) (x y : D) (r : Result (Unit {0}) KeepFault) → 0 < length items
    → x ≡ get_or items 0 x → later ≡ drop 1 items → new ≡ y ∷ later → HasRoom bus (map state items)
    → OnOk r (AsBefore (look_calls bus) (state x) (state y)) → OnOk r (KeepsTold bus (state x)) → OnOk r (KeepsOlder bus (state x)) → OnOk r (LookedAt bus (map state items) (map state new))
first_looked state bus items later new x y (Err fault) some at rest is room look keeps older = tt
first_looked state bus items later new x y (Ok u) some at rest is room look keeps older =
    subst (LookedAt bus (map state items)) (ap (map state) (sym is))
    (looked (state x) (state y) (map state later) (split_first state items x later some at rest) room look keeps older)

pub first_refused : {D : Type 0} (state : D → DiskState) (bus : NamedBus) (items later new : List D) (x y : D) (r : Result (Unit {0}) KeepFault) → 0 < length items
    → x ≡ get_or items 0 x → later ≡ drop 1 items → new ≡ y ∷ later → HasRoom bus (map state items)
    → IfErr r (FailsToKeep bus (state x) (state y)) → IfErr r (NotKept bus (map state items) (map state new))
first_refused state bus items later new x y (Ok u) some at rest is room fails = tt
first_refused state bus items later new x y (Err fault) some at rest is room fails = record {
  disk = state x;
  seen = state y;
  rest = map state later;
  before_is = split_first state items x later some at rest;
  after_is = ap (map state) is;
  room = room;
  fails = fails;
}

pub unlooked_room : {X E T : Type 0} (r : Result X E) (bus : NamedBus) (disks : List DiskState) (now old : T) → HasRoom bus disks
    → OnOk r ((¬ HasRoom bus disks) → now ≡ old)
unlooked_room r bus disks now old room = any_ok r _ (λ none. absurd (none room))
