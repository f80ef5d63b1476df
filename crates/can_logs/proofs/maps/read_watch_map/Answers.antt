use Rattle.std.proofs.Common.{sym, subst}
use Rattle.can_logs.specs.LogRuns.{LacksWatchMap, no_map}
use Rattle.can_logs.proofs.MapPhases.{ReadsWatchSource-read}
use Rattle.can_logs.proofs.maps.read_watch_map.Goals as goal

pub returns-in-Ok : goal.returns-in-Ok
returns-in-Ok g c =
    let mapped = c.map_of_text.ensures in
    ReadsWatchSource-read _ c.in-Ok.input.items c.map_of_text.result c.in-Ok.ensures.ok
    (rw (← c.as_slice.ensures.value) mapped.ok) (rw (← c.as_slice.ensures.value) mapped.err)

pub returns-in-Err : goal.returns-in-Err
returns-in-Err g c = subst (LacksWatchMap _) (sym c.map_input_refusal.ensures) (no_map c.in-Err.fault c.in-Err.ensures.refused)
