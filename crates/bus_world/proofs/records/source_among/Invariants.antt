use Rattle.std.proofs.Common.{ℕ, ◌≡◌, ◌<◌, false, get_or}
use Rattle.bus_world.specs.declared.records.Record.{Record}
use Rattle.bus_world.specs.History.{line_of, has_values}
use Rattle.bus_world.proofs.records.source_among.Given as goal

abbrev pub invariant-loop-record : goal.invariant-loop-record
invariant-loop-record l = (k : ℕ) (d : Record) → k < l.record-index → has_values l.id l.payload l.freshness (line_of (get_or l.records k d)) ≡ false
