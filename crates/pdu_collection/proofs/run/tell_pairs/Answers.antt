use Rattle.std.proofs.Common.{subst, sym, rules}
use Rattle.pdu_collection.specs.Steps.{DoesPairs, said, no_text}
use Rattle.pdu_collection.proofs.run.tell_pairs.Goals as goal

pub returns-in-Ok : goal.returns-in-Ok
returns-in-Ok g c = record { row = _; comes = said c.as_slice.result.now (search rules); told = c.tell.ensures }

pub returns-in-Err : goal.returns-in-Err
returns-in-Err g c =
    record { row = _; comes = subst (DoesPairs c.args.lines.now) (sym c.no_memory.ensures) no_text; told = c.tell_refusal-in-Err.ensures }
