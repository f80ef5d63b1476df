use Rattle.program_edge.proofs.CallerLemmas.{EndsInRow-more}
use Rattle.program_edge.specs.Endings.{EndsInRow}
use Rattle.pdu_collection.specs.Steps.{DoesPairs}
use Rattle.pdu_collection.proofs.Phases.{Comes-does}
use Rattle.pdu_collection.proofs.Promises.{RunsPairs-row}
use Rattle.pdu_collection.proofs.run.run_pairs.Goals as goal

pub returns-in-Ok : goal.returns-in-Ok
returns-in-Ok g c =
    let does : EndsInRow (DoesPairs c.in-Ok.lines.items) _ = rw (← c.as_slice.ensures.value) c.tell_pairs.ensures in
    RunsPairs-row _ _ (EndsInRow-more (Comes-does _ c.in-Ok.lines.items c.in-Ok.ensures.1) does)

pub returns-in-Err : goal.returns-in-Err
returns-in-Err g c = RunsPairs-row _ _ (record { row = c.in-Err.refusal; comes = c.in-Err.ensures; told = c.tell_refusal.ensures })
