-- The row of a start that doesn't go on: which it is, and what it says of the disks
use Rattle.std.specs.Prelude.{◌≡◌, ◌⊎◌, ℕ, ◌<◌, Some, None, List, [], ◌∷◌, length, get_or}
use Rattle.std.proofs.Common.{refl, sym, ap, ◌∙◌, subst, arith, inl, inr}
use Rattle.cut_disk.specs.State.{DiskState, Told}
use Rattle.cut_disk.specs.Calls.{Rose, IsQuiet}
use Rattle.cut_disk.proofs.CallerLemmas.{quiet_never_rose}
use Rattle.program_edge.specs.Rows.{Row, memory_row}
use Rattle.store_growing.specs.declared.headers.StoreHeader.{StoreHeader}
use Rattle.store_growing.specs.StoreHeaders.{HeaderStands}
use Rattle.store_growing.proofs.CallerLemmas.{stands_one}
use Rattle.disk_looks.proofs.CallerLemmas.{zeros_none}
use Rattle.disk_looks.specs.declared.looks.Seen.TheVariants.{Other, Neither}
use Rattle.disk_looks.specs.Looks.{AllZeros, CanKeep, IsWanted, LooksAs, seen_other, seen_neither}
use Rattle.bus_config.specs.declared.node_lines.NodeLine.{NodeLine}
use Rattle.bus_config.specs.Buses.{NamedBus}
use Rattle.bus_script.specs.EventForms.{node_line_at}
use Rattle.bus_world.specs.declared.start.Start.TheVariants.{Attach}
use Rattle.bus_world.specs.declared.start.StartFault.{StartFault}
use Rattle.bus_world.specs.Starts.{HasRoom, FindsRoom}
use Rattle.bus_world.specs.StartRows.{start_row, CanStart}
use Rattle.bus_world.specs.StartAnswers.{DiskStates, CountsDiskFault, failed_row, ComesOfStart, disks_refused, store_refused, start_without_memory, BusHasDisks}
use Rattle.bus_world.proofs.CallerLemmas.{no_disk, no_line, no_room_fault, failure_told, start_status, start_without_room, start_complete, start_memory}
use Rattle.kept_starts.specs.declared.first.KeepFault.{KeepFault}
use Rattle.kept_starts.specs.declared.first.KeepFault.TheVariants as keep
use Rattle.kept_starts.specs.LookedAt.{cells_in_bus, config_in_bus, KeepsInBus, UnfinishedInBus, KeepsTold, FailsToKeep, LookedAt, NotKept}
use Rattle.kept_starts.specs.KeepRows.{keep_row, ComesKept, of_look, of_start, BusKeepsDisk, RefusesStart, at_look, at_start}
use Rattle.kept_starts.proofs.UnfinishedLaws.{headless_none}
use Rattle.kept_starts.proofs.LookLaws.{same_told, same_faults, room_then, room_before, quiet_then, unlooked_same}

-- ---- of the look

look_status : (fault : KeepFault) (row : Row) → row ≡ keep_row fault → (row.status ≡ 10) ⊎ (row.status ≡ 7)
look_status (keep.OtherStore there) row is = inl (ap (λ (r : Row). r.status) is)
look_status keep.NotFormatted row is = inl (ap (λ (r : Row). r.status) is)
look_status (keep.Damaged place) row is = inl (ap (λ (r : Row). r.status) is)
look_status (keep.BadSlot slot) row is = inl (ap (λ (r : Row). r.status) is)
look_status (keep.BadBound cell) row is = inl (ap (λ (r : Row). r.status) is)
look_status keep.DiskFailed row is = inl (ap (λ (r : Row). r.status) is)
look_status keep.Memory row is = inr (ap (λ (r : Row). r.status) is)

-- 7 only if there was no memory for the look itself
look_7 : (fault : KeepFault) (row : Row) → row ≡ keep_row fault → row.status ≡ 7 → fault ≡ keep.Memory
look_7 (keep.OtherStore there) row is seven = absurd (let no : ⊥ = omega (arith, seven, ap (λ (r : Row). r.status) is) in no)
look_7 keep.NotFormatted row is seven = absurd (let no : ⊥ = omega (arith, seven, ap (λ (r : Row). r.status) is) in no)
look_7 (keep.Damaged place) row is seven = absurd (let no : ⊥ = omega (arith, seven, ap (λ (r : Row). r.status) is) in no)
look_7 (keep.BadSlot slot) row is seven = absurd (let no : ⊥ = omega (arith, seven, ap (λ (r : Row). r.status) is) in no)
look_7 (keep.BadBound cell) row is seven = absurd (let no : ⊥ = omega (arith, seven, ap (λ (r : Row). r.status) is) in no)
look_7 keep.DiskFailed row is seven = absurd (let no : ⊥ = omega (arith, seven, ap (λ (r : Row). r.status) is) in no)
look_7 keep.Memory row is seven = refl

-- ---- bytes that may be kept are seen so

other_unkept : (bus : NamedBus) (x : List ℕ) (there : StoreHeader) → HeaderStands x (Some there) → ¬ IsWanted bus.kind bus.version (cells_in_bus bus) there
    → CanKeep bus.kind bus.version (cells_in_bus bus) x → ⊥
other_unkept bus x there stands not (inl zeros) = zeros_none x there zeros stands
other_unkept bus x there stands not (inr (that, also, wanted)) =
    let same : Some that ≡ Some there = stands_one x (Some that) (Some there) also stands in
    let is : that ≡ there = cc in
    not (subst (IsWanted bus.kind bus.version (cells_in_bus bus)) is wanted)

neither_unkept : (bus : NamedBus) (x : List ℕ) → HeaderStands x None → ¬ AllZeros x → CanKeep bus.kind bus.version (cells_in_bus bus) x → ⊥
neither_unkept bus x none not (inl zeros) = not zeros
neither_unkept bus x none not (inr (that, stands, wanted)) =
    let same : None ≡ Some that = stands_one x None (Some that) none stands in
    let no : ⊥ = cc in no

seen_other_unkept : (bus : NamedBus) (x : List ℕ) (there : StoreHeader) → LooksAs bus.kind bus.version (cells_in_bus bus) x (Other there)
    → KeepsInBus bus x → ⊥
seen_other_unkept bus x there (seen_other _ stands not) (inl can) = other_unkept bus x there stands not can
seen_other_unkept bus x there (seen_other _ stands not) (inr begun) = headless_none x there begun.headless stands

seen_neither_unkept : (bus : NamedBus) (x : List ℕ) → LooksAs bus.kind bus.version (cells_in_bus bus) x Neither → ¬ UnfinishedInBus bus x
    → KeepsInBus bus x → ⊥
seen_neither_unkept bus x (seen_neither none not) other (inl can) = neither_unkept bus x none not can
seen_neither_unkept bus x (seen_neither none not) other (inr begun) = other begun

-- of a disk that tells bytes that may be kept and over which the node goes on, and that was quiet or didn't fail, memory
-- was out
able_memory : (bus : NamedBus) (disk seen : DiskState) (fault : KeepFault) (t : Told) → disk.told ≡ Some t → KeepsTold bus disk
    → CanStart Attach bus.kind bus.version (config_in_bus bus) t.bytes
    → IsQuiet disk ⊎ ¬ Rose disk.faults seen.faults → FailsToKeep bus disk seen fault → fault ≡ keep.Memory
able_memory bus disk seen (keep.OtherStore there) t tells keeps goes serves f = absurd (seen_other_unkept bus t.bytes there (f.cause.1 t tells) (keeps t tells))
able_memory bus disk seen keep.NotFormatted t tells keeps goes serves f = absurd (elim (f.cause.1 t tells) [
  | inl (neither, other) ↦ seen_neither_unkept bus t.bytes neither other (keeps t tells)
  | inr no_node ↦ no_node.none goes.0 goes.1
])
able_memory bus disk seen (keep.Damaged place) t tells keeps goes serves f = absurd ((f.cause.1 t tells).none goes.0 goes.1)
able_memory bus disk seen (keep.BadSlot slot) t tells keeps goes serves f = absurd ((f.cause.1 t tells).none goes.0 goes.1)
able_memory bus disk seen (keep.BadBound cell) t tells keeps goes serves f = absurd ((f.cause.1 t tells).none goes.0 goes.1)
able_memory bus disk seen keep.DiskFailed t tells keeps goes (inl quiet) f = absurd (quiet_never_rose quiet (f.runs.quiet refl quiet) f.cause)
able_memory bus disk seen keep.DiskFailed t tells keeps goes (inr calm) f = absurd (calm f.cause)
able_memory bus disk seen keep.Memory t tells keeps goes serves f = refl

memory_7 : (fault : KeepFault) (row : Row) → fault ≡ keep.Memory → row ≡ keep_row fault → row.status ≡ 7
memory_7 fault row is said = ap (λ (r : Row). r.status) (said ∙ ap keep_row is)

-- the first of some node lines is the one at the place 0
first_some : (nodes : List NodeLine) → 0 < length nodes → get_or nodes 0 no_line ≡ node_line_at nodes 0
first_some [] some = absurd (let no : ⊥ = omega (arith, some) in no)
first_some (n ∷ ns) some = refl

-- the first of the disks
first_is : (disks rest : List DiskState) (disk d : DiskState) → disks ≡ disk ∷ rest → get_or disks 0 d ≡ disk
first_is disks rest disk d is = ap (λ (ds : List DiskState). get_or ds 0 d) is

-- ---- of either

module _ (same : Type 0) (bus : NamedBus) (d : DiskStates) where
  -- the disks of the start after the look
  abbrev after_look : List DiskState → DiskStates
  after_look seen = record { before = seen; after = d.after }

  pub kept_status : (row : Row) → ComesKept same bus d row → (row.status ≡ 9) ⊎ ((row.status ≡ 10) ⊎ (row.status ≡ 7))
  kept_status row (of_look fault not is) = inr (look_status fault row is)
  kept_status row (of_start seen look (comes, nine)) = start_status Attach bus (after_look seen) row comes

  -- without room it is 9, or 7
  pub kept_without_room : (row : Row) → ComesKept same bus d row → ¬ HasRoom bus d.before → (row.status ≡ 9) ⊎ (row.status ≡ 7)
  kept_without_room row (of_look fault not is) none = absurd (none not.room)
  kept_without_room row (of_start seen look (comes, nine)) none =
      start_without_room Attach bus (after_look seen) row comes (λ room. none (room_before bus d.before seen look room))

  start_with_room : (seen : List DiskState) (row : Row) → ComesOfStart Attach bus (after_look seen) row → HasRoom bus seen → (row.status ≡ 10) ⊎ (row.status ≡ 7)
  start_with_room seen _ (disks_refused fault finds left) room = absurd (no_room_fault bus seen fault room finds)
  start_with_room seen _ (store_refused fault also cause leaves) room = inl refl
  start_with_room seen _ (start_without_memory fault may refused calm) room = inr refl

  -- with room it is 10, or 7
  pub kept_with_room : (row : Row) → ComesKept same bus d row → HasRoom bus d.before → (row.status ≡ 10) ⊎ (row.status ≡ 7)
  kept_with_room row (of_look fault not is) room = look_status fault row is
  kept_with_room row (of_start seen look (comes, nine)) room = start_with_room seen row comes (room_then bus d.before seen look room)

  -- ---- over a disk that serves it is 7

  calm_then : (seen : List DiskState) → LookedAt bus d.before seen → (i : ℕ) (disk : DiskState)
      → IsQuiet (get_or d.before i disk) ⊎ ¬ Rose (get_or d.before i disk).faults (get_or d.after i disk).faults
      → IsQuiet (get_or seen i disk) ⊎ ¬ Rose (get_or seen i disk).faults (get_or d.after i disk).faults
  calm_then seen look i disk (inl quiet) = inl (quiet_then bus d.before seen look i disk quiet)
  calm_then seen look i disk (inr calm) =
      inr (subst (λ (n : ℕ). ¬ Rose n (get_or d.after i disk).faults) (sym (same_faults bus d.before seen look i disk)) calm)

  has_then : (seen : List DiskState) → LookedAt bus d.before seen → BusHasDisks Attach bus d → BusHasDisks Attach bus (after_look seen)
  has_then seen look (room, does) = (
    room_then bus d.before seen look room,
    λ i l disk inside.
        let serves = does i l disk inside in
        ((serves.0.0, same_told bus d.before seen look i disk ∙ serves.0.1, serves.0.2), calm_then seen look i disk serves.1),
  )

  able_look : 0 < length bus.nodes → (fault : KeepFault) → NotKept bus d.before d.after fault → BusKeepsDisk bus d → fault ≡ keep.Memory
  able_look some fault not (has, keeps) =
      let serves = has.1 0 no_line no_disk some in
      let was : get_or d.before 0 no_disk ≡ not.disk = first_is d.before not.rest not.disk no_disk not.before_is in
      let now : get_or d.after 0 no_disk ≡ not.seen = first_is d.after not.rest not.seen no_disk not.after_is in
      able_memory bus not.disk not.seen fault serves.0.0 (ap (λ (s : DiskState). s.told) (sym was) ∙ serves.0.1)
      (subst (KeepsTold bus) was (keeps no_disk))
      (subst (λ (n : NodeLine). CanStart Attach bus.kind bus.version n.config serves.0.0.bytes) (first_some bus.nodes some) serves.0.2)
      (subst (λ (s : DiskState). IsQuiet not.disk ⊎ ¬ Rose not.disk.faults s.faults) now
      (subst (λ (s : DiskState). IsQuiet s ⊎ ¬ Rose s.faults (get_or d.after 0 no_disk).faults) was serves.1))
      not.fails

  pub kept_complete : 0 < length bus.nodes → (row : Row) → ComesKept same bus d row → BusKeepsDisk bus d → row.status ≡ 7
  kept_complete some row (of_look fault not is) able = memory_7 fault row (able_look some fault not able) is
  kept_complete some row (of_start seen look (comes, nine)) able =
      start_complete Attach bus (after_look seen) row comes (has_then seen look able.0)

  -- ---- if the count of the first disk rose, the row tells that it failed

  look_failure : (fault : KeepFault) (row : Row) (disk seen : DiskState) → FailsToKeep bus disk seen fault → row ≡ keep_row fault → disk.faults < seen.faults → row ≡ failed_row 0
  look_failure (keep.OtherStore there) row disk seen f is rose = absurd (let no : ⊥ = omega (arith, rose, f.cause.0) in no)
  look_failure keep.NotFormatted row disk seen f is rose = absurd (let no : ⊥ = omega (arith, rose, f.cause.0) in no)
  look_failure (keep.Damaged place) row disk seen f is rose = absurd (let no : ⊥ = omega (arith, rose, f.cause.0) in no)
  look_failure (keep.BadSlot slot) row disk seen f is rose = absurd (let no : ⊥ = omega (arith, rose, f.cause.0) in no)
  look_failure (keep.BadBound cell) row disk seen f is rose = absurd (let no : ⊥ = omega (arith, rose, f.cause.0) in no)
  look_failure keep.DiskFailed row disk seen f is rose = is
  look_failure keep.Memory row disk seen f is rose = absurd (let no : ⊥ = omega (arith, rose, f.cause) in no)

  pub kept_failure : (row : Row) → ComesKept same bus d row → CountsDiskFault d 0 → row ≡ failed_row 0
  kept_failure row (of_look fault not is) rose =
      look_failure fault row not.disk not.seen not.fails is
      (subst (λ (s : DiskState). not.disk.faults < s.faults) (first_is d.after not.rest not.seen no_disk not.after_is)
      (subst (λ (s : DiskState). s.faults < (get_or d.after 0 no_disk).faults) (first_is d.before not.rest not.disk no_disk not.before_is) (rose no_disk)))
  kept_failure row (of_start seen look (comes, nine)) rose =
      failure_told Attach bus (after_look seen) row 0 comes
      (λ disk. subst (λ (n : ℕ). n < (get_or d.after 0 disk).faults) (sym (same_faults bus d.before seen look 0 disk)) (rose disk))

  -- ---- what a row says, by its status

  start_9 : (seen : List DiskState) → LookedAt bus d.before seen → (row : Row) → ComesOfStart Attach bus (after_look seen) row → row.status ≡ 9
      → (fault : StartFault) × FindsRoom bus d.before fault × (d.after ≡ d.before) × (row.text ≡ (start_row fault).text)
  start_9 seen look _ (disks_refused fault finds left) is =
      let none : ¬ HasRoom bus d.before = λ room. no_room_fault bus seen fault (room_then bus d.before seen look room) finds in
      let as_before : seen ≡ d.before = unlooked_same bus d.before seen look none in
      (fault, subst (λ (disks : List DiskState). FindsRoom bus disks fault) as_before finds, left ∙ as_before, refl)
  start_9 seen look _ (store_refused fault also cause leaves) is = absurd (let no : ⊥ = omega (arith, is) in no)
  start_9 seen look _ (start_without_memory fault may refused calm) is = absurd (let no : ⊥ = omega (arith, is) in no)

  pub kept_9 : (row : Row) → ComesKept same bus d row → row.status ≡ 9
      → ((fault : StartFault) × FindsRoom bus d.before fault × (d.after ≡ d.before) × (row.text ≡ (start_row fault).text)) × same
  kept_9 row (of_look fault not is) nine = absurd (elim (look_status fault row is) [
    | inl ten ↦ (let no : ⊥ = omega (arith, nine, ten) in no)
    | inr seven ↦ (let no : ⊥ = omega (arith, nine, seven) in no)
  ])
  kept_9 row (of_start seen look (comes, known)) nine = (start_9 seen look row comes nine, known nine)

  start_10 : (seen : List DiskState) → LookedAt bus d.before seen → (row : Row) → ComesOfStart Attach bus (after_look seen) row → row.status ≡ 10
      → RefusesStart bus d (λ text. row.text ≡ text)
  start_10 seen look _ (disks_refused fault finds left) is = absurd (let no : ⊥ = omega (arith, is) in no)
  start_10 seen look _ (store_refused fault room cause leaves) is = at_start seen look fault room cause leaves refl
  start_10 seen look _ (start_without_memory fault may refused calm) is = absurd (let no : ⊥ = omega (arith, is) in no)

  pub kept_10 : (row : Row) → ComesKept same bus d row → row.status ≡ 10 → RefusesStart bus d (λ text. row.text ≡ text)
  kept_10 row (of_look fault not is) ten =
      at_look fault not (ap (λ (r : Row). r.status) (sym is) ∙ ten) (ap (λ (r : Row). r.text) is)
  kept_10 row (of_start seen look (comes, known)) ten = start_10 seen look row comes ten

  start_7 : (seen : List DiskState) (row : Row) → ComesOfStart Attach bus (after_look seen) row → row.status ≡ 7 → row ≡ memory_row
  start_7 seen row comes is = start_memory Attach bus (after_look seen) row comes is

  pub kept_7 : (row : Row) → ComesKept same bus d row → row.status ≡ 7 → row ≡ memory_row
  kept_7 row (of_look fault not is) seven = is ∙ ap keep_row (look_7 fault row is seven)
  kept_7 row (of_start seen look (comes, known)) seven = start_7 seen row comes seven

-- what is said of the text that tells it
pub refuses_more : (bus : NamedBus) (d : DiskStates) (P Q : List ℕ → Type 0) → ((text : List ℕ) → P text → Q text) → RefusesStart bus d P → RefusesStart bus d Q
refuses_more bus d P Q more (at_look fault not ten tells) = at_look fault not ten (more _ tells)
refuses_more bus d P Q more (at_start seen look fault room cause leaves tells) = at_start seen look fault room cause leaves (more _ tells)
