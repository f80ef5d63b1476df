-- The writes, and then a sync.
use Rattle.std.proofs.Common.{arith, sym, ◌∙◌}
use Rattle.std.proofs.lemmas.Result.{on_err_weaker}
use Rattle.cut_disk.proofs.CallerLemmas.{runs_then, runs_more, grows_after, grows_of_call}
use Rattle.cell_store.proofs.Results.{OnOk-from, OnErr-from}
use Rattle.cell_store.proofs.formatting.write_cells.Goals as goal

pub returns-in_err-write_pairs-clause-runs : goal.returns-in_err-write_pairs-clause-runs
returns-in_err-write_pairs-clause-runs g c = runs_more _ (omega arith) c.write_pairs.ensures.runs

pub returns-clause-runs : goal.returns-clause-runs
returns-clause-runs g c = runs_then c.write_pairs.ensures.runs c.sync.ensures.call

pub returns-clause-grows : goal.returns-clause-grows
returns-clause-grows g c = OnOk-from c.sync.result (grows_after c.write_pairs.ensures.runs (grows_of_call c.sync.ensures.call))

pub returns-in_err-write_pairs-clause-torn : goal.returns-in_err-write_pairs-clause-torn
returns-in_err-write_pairs-clause-torn g c = OnErr-from c.from_residual.result c.write_pairs.ensures.outside

pub returns-clause-torn : goal.returns-clause-torn
returns-clause-torn g c =
    on_err_weaker c.sync.result (λ same b was t told. c.write_pairs.ensures.outside b was t (sym same ∙ told)) c.sync.ensures.same
