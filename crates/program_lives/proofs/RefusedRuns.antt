-- What a run that came to no event leaves of the disks
use Rattle.std.specs.Prelude.{◌≡◌, ℕ, zero, suc, List, [], ◌∷◌, get_or}
use Rattle.std.proofs.Common.{refl, sym, ap, ◌∙◌, subst, inl}
use Rattle.std.proofs.lemmas.Option.{same_Some}
use Rattle.program_edge.specs.Rows.{Row}
use Rattle.cell_store.specs.declared.faults.Reread.TheVariants as reread
use Rattle.bus_world.specs.declared.start.Start.TheVariants.{Attach}
use Rattle.bus_world.specs.declared.start.StartFault.{StartFault}
use Rattle.bus_world.specs.declared.start.StartFault.TheVariants as fault
use Rattle.bus_world.specs.Starts.{HasRoom, FindsRoom, NotStarted, Broken, StartCause}
use Rattle.bus_world.specs.StartRows.{StoreCause, LeavesEach}
use Rattle.bus_world.specs.StartAnswers.{DiskStates, ComesOfStart, disks_refused, store_refused, start_without_memory}
use Rattle.bus_world.specs.WorldTurns.{TellFirm}
use Rattle.bus_lives.specs.Lives.{DiskState, Told, firm, NamedBus, LeftToNext, UnfinishedStart, IsUnfinished, OlderIsFirm}
use Rattle.bus_lives.specs.Lives.{FoundBehindStarts}
use Rattle.bus_lives.proofs.CallerLemmas.{left_joins}
use Rattle.key_commands.specs.Loads.{LoadInputs, ComesInLoad, without_requests, without_disk, without_engine}
use Rattle.program_lives.specs.RefusedRuns.{RefusedStartsAreUnfinished, RefusedLoadsLeaveAll}

-- ---- starts

module _ (bus : NamedBus) (before after : List DiskState) where
  -- the cause that a row tells is the one of the start
  start_cause : (f : StartFault) → StoreCause Attach bus before after f → StartCause Attach bus before after f
  start_cause fault.TooFew cause = absurd cause
  start_cause (fault.TooSmall number) cause = absurd cause
  start_cause (fault.Store number reread.DiskFailed) cause = record {
    least = cause.least;
    most = cause.most;
    disk = λ l d. (cause.disk l d).0;
    earlier = cause.earlier;
    taken = cause.taken;
    later = cause.later;
  }
  start_cause (fault.Store number reread.NotFormatted) cause = cause
  start_cause (fault.Store number (reread.Damaged place)) cause = cause
  start_cause (fault.BadSlot number slot) cause = cause
  start_cause (fault.BadBound number cell) cause = cause
  start_cause fault.Memory cause = absurd cause

  broken : (f : StartFault) → HasRoom bus before → StoreCause Attach bus before after f
      → LeavesEach Attach bus before after → (f ≡ fault.Memory → ⊥) → Broken Attach bus before after f
  broken f room cause leaves other = record {
    room = room;
    count = leaves.count;
    left = leaves.each;
    rest = leaves.rest;
    cause = start_cause f cause;
    leaves = leaves.leaves;
    stays = leaves.stays;
    memory = λ is. absurd (other is);
  }

  not_started : (f : StartFault) → HasRoom bus before → StoreCause Attach bus before after f
      → LeavesEach Attach bus before after → NotStarted Attach bus before after f
  not_started fault.TooFew room cause leaves = absurd cause
  not_started (fault.TooSmall number) room cause leaves = absurd cause
  not_started (fault.Store number why) room cause leaves =
      broken (fault.Store number why) room cause leaves (λ is. let never : ⊥ = cc in never)
  not_started (fault.BadSlot number slot) room cause leaves =
      broken (fault.BadSlot number slot) room cause leaves (λ is. let never : ⊥ = cc in never)
  not_started (fault.BadBound number cell) room cause leaves =
      broken (fault.BadBound number cell) room cause leaves (λ is. let never : ⊥ = cc in never)
  not_started fault.Memory room cause leaves = absurd cause

  finds_none : (f : StartFault) → FindsRoom bus before f → after ≡ before → NotStarted Attach bus before after f
  finds_none fault.TooFew finds same = (finds, same)
  finds_none (fault.TooSmall number) finds same = (finds, same)
  finds_none (fault.Store number why) finds same = absurd finds
  finds_none (fault.BadSlot number slot) finds same = absurd finds
  finds_none (fault.BadBound number cell) finds same = absurd finds
  finds_none fault.Memory finds same = absurd finds

  older_firm : TellFirm bus before → OlderIsFirm bus before
  older_firm firm_each = λ i l d t inside told older.
      let there = firm_each i d inside in
      let is : t ≡ firm there.0 = same_Some t (firm there.0) (sym told ∙ there.1) in
      is ∙ sym (ap (λ (u : Told). firm u.bytes) is)

  -- so it is an unfinished start
  abbrev GivesUnfinished : Type 0
  GivesUnfinished =
      (start : UnfinishedStart) × (start.bus ≡ bus) × (start.before ≡ before) × (start.after ≡ after)
      × IsUnfinished start

  unfinished : (f : StartFault) → NotStarted Attach bus before after f → TellFirm bus before → GivesUnfinished
  unfinished f refused firm_each = (
    record { bus = bus; before = before; after = after; fault = f },
    refl,
    refl,
    refl,
    record { not_started = refused; older_is_firm = older_firm firm_each },
  )

refused_start : (bus : NamedBus) (d : DiskStates) (row : Row) → ComesOfStart Attach bus d row → TellFirm bus d.before
    → GivesUnfinished bus d.before d.after
refused_start bus d _ (disks_refused f finds same) firm_each =
    unfinished bus d.before d.after f (finds_none bus d.before d.after f finds same) firm_each
refused_start bus d _ (store_refused f room cause leaves) firm_each =
    unfinished bus d.before d.after f (not_started bus d.before d.after f room cause leaves) firm_each
refused_start bus d _ (start_without_memory f wants refused calm) firm_each =
    unfinished bus d.before d.after f refused firm_each

pub refused_starts_are_unfinished : RefusedStartsAreUnfinished
refused_starts_are_unfinished = refused_start

-- ---- loads

-- each disk tells what it told
abbrev TellTheSame : List DiskState → List DiskState → Type 0
TellTheSame before after = (i : ℕ) (d : DiskState) → (get_or after i d).told ≡ (get_or before i d).told

first_same : (old new : DiskState) (others : List DiskState) → new.told ≡ old.told
    → TellTheSame (old ∷ others) (new ∷ others)
first_same old new others same zero d = same
first_same old new others same (suc i) d = refl

load_same : (i : LoadInputs) (row : Row) → ComesInLoad i row → TellTheSame i.before i.after
load_same i _ (without_requests row lacks same) = λ k d. ap (λ (ds : List DiskState). (get_or ds k d).told) same
load_same i _ (without_disk requests reads before after) = λ k d.
    ap (λ (ds : List DiskState). (get_or ds k d).told) (after ∙ sym before)
load_same i _ (without_engine requests row reads on) =
    subst (λ (ds : List DiskState). TellTheSame ds i.after) (sym on.before_is)
    (subst (λ (ds : List DiskState). TellTheSame (on.old ∷ on.others) ds) (sym on.after_is)
    (first_same on.old on.new on.others on.holds.read.told))

left_same : (left found now : DiskState) → LeftToNext left found → now.told ≡ found.told → LeftToNext left now
left_same left found now next as_found = left_joins left found now next (inl as_found)

found_same : (bus : NamedBus) (left : List DiskState) (starts : List UnfinishedStart) (before after : List DiskState)
    → TellTheSame before after → FoundBehindStarts bus left starts before → FoundBehindStarts bus left starts after
found_same bus left [] before after same found = λ i d inside.
    left_same (get_or left i d) (get_or before i d) (get_or after i d) (found i d inside) (same i d)
found_same bus left (start ∷ earlier) before after same found = (
  found.0,
  found.1,
  found.2,
  λ i d inside.
      left_same (get_or start.after i d) (get_or before i d) (get_or after i d) (found.3 i d inside) (same i d),
)

pub refused_loads_leave_all : RefusedLoadsLeaveAll
refused_loads_leave_all = λ bus left starts i row comes found.
    found_same bus left starts i.before i.after (load_same i row comes) found
