-- Which status a command ends with, and what it leaves of the disks then
use Rattle.std.specs.Prelude.{◌≡◌, ◌⊎◌, ℕ, ◌≤◌, List}
use Rattle.std.proofs.Common.{◌∙◌, inl, inr, arith}
use Rattle.program_edge.specs.Told.{EndingTold}
use Rattle.program_edge.specs.Rows.{Row}
use Rattle.program_edge.specs.Endings.{Ending, EndsInRow}
use Rattle.bus_config.specs.Buses.{NamedBus}
use Rattle.bus_machine.specs.declared.events.Event.{Event}
use Rattle.bus_world.specs.StartAnswers.{ComesOfStart}
use Rattle.bus_world.proofs.CallerLemmas as start
use Rattle.bus_commands.specs.declared.words.WorldCommand.{WorldCommand}
use Rattle.bus_programs.specs.Inputs.{BusInputs}
use Rattle.bus_commands.specs.Inputs.{SetsWorld, start_of}
use Rattle.bus_commands.specs.StartRows.{CommandDisks}
use Rattle.bus_commands.specs.Rows.{ComesOfInputs, ComesInRun, without_disks, not_started, tried, tried_without_memory}
use Rattle.bus_commands.specs.Table.{LeavesDisks, as_before, by_unfinished_start, by_trial}

-- ---- the status

-- 0, or 2 to 10
abbrev pub InTable : ℕ → Type 0
InTable n = (n ≡ 0) ⊎ ((2 ≤ n) × (n ≤ 10))

inputs_in_table : (i : BusInputs) (row : Row) → ComesOfInputs i row → InTable row.status
inputs_in_table i row comes = grind arith

-- that of a bus that isn't started
unstarted_in_table : (n : ℕ) → (n ≡ 9) ⊎ ((n ≡ 10) ⊎ (n ≡ 7)) → InTable n
unstarted_in_table n is = inr (omega (arith, is), omega (arith, is))

-- that of a replay
pub replayed_in_table : (n : ℕ) → (n ≡ 0) ⊎ ((n ≡ 6) ⊎ (n ≡ 7)) → InTable n
replayed_in_table n is = grind arith

module _ {V : Type 0} where
  row_in_table : (i : BusInputs) (d : CommandDisks V) (row : Row) → ComesInRun i d row → InTable row.status
  row_in_table i d row comes = grind (arith, inputs_in_table, unstarted_in_table)

  -- no other status comes of a row
  pub ends_in_table : (i : BusInputs) (d : CommandDisks V) (e : Ending) → EndsInRow (ComesInRun i d) e → InTable e.status
  ends_in_table i d e ends = grind (arith, row_in_table)

  -- ---- the disks

  -- a start that isn't finished ends in 6, 7 or 10; at 9 no disk was called
  unfinished : (i : BusInputs) (d : CommandDisks V) (e : Ending) (c : WorldCommand) (bus : NamedBus) (events : List Event) (row : Row) → SetsWorld i c bus events
      → ComesOfStart (start_of c) bus d.states row → (row.status ≡ 9 → d.new ≡ d.old) → EndingTold e.before e.after row.text row.status e.status → LeavesDisks i d e
  unfinished i d e c bus events row set comes nine (inr (six, rose, part)) =
      by_unfinished_start (inl six) (c, bus, events, set, start.Comes-leaves (start_of c) bus d.states row comes)
  unfinished i d e c bus events row set comes nine (inl (status_is, well)) = elim (start.start_status (start_of c) bus d.states row comes) [
    | inl is ↦ as_before (nine is)
    | inr (inl ten) ↦ by_unfinished_start (inr (inr (status_is ∙ ten))) (c, bus, events, set, start.Comes-leaves (start_of c) bus d.states row comes)
    | inr (inr seven) ↦ by_unfinished_start (inr (inl (status_is ∙ seven))) (c, bus, events, set, start.Comes-leaves (start_of c) bus d.states row comes)
  ]

  -- what a row leaves
  pub row_leaves : (i : BusInputs) (d : CommandDisks V) (e : Ending) (row : Row) → ComesInRun i d row → EndingTold e.before e.after row.text row.status e.status → LeavesDisks i d e
  row_leaves i d e row (without_disks _ comes same) told = as_before same
  row_leaves i d e row (not_started _ (c, bus, events, set, comes) nine) told = unfinished i d e c bus events row set comes.1 nine told
  row_leaves i d e row (tried summary ran) told = by_trial summary ran
  row_leaves i d e row (tried_without_memory summary ran) told = by_trial summary ran
