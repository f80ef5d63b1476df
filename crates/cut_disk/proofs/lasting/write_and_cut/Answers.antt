-- What the write and the sync left, and then a cut of it.
use Rattle.std.proofs.Common.{arith, ◌∙◌, sym}
use Rattle.std.proofs.lemmas.Result.{on_ok_weaker, on_err_weaker}
use Rattle.cut_disk.proofs.CallerLemmas.{runs_then}
use Rattle.cut_disk.proofs.Cuts.{cut_of_firm, cut_of_torn}
use Rattle.cut_disk.proofs.lasting.write_and_cut.Goals as goal

pub returns-clause-runs : goal.returns-clause-runs
returns-clause-runs g c = runs_then c.write_and_sync-outcome.ensures.runs c.power_cut.ensures.call

pub returns-clause-lasts : goal.returns-clause-lasts
returns-clause-lasts g c =
    on_ok_weaker c.write_and_sync-outcome.result
    (λ lasts t is. cut_of_firm (c.power_cut.ensures.left _ (lasts t is)))
    c.write_and_sync-outcome.ensures.lasts

pub returns-clause-torn : goal.returns-clause-torn
returns-clause-torn g c =
    let disk = g.met.D.Disk.is_disk c.args.disk.now in
    on_err_weaker c.write_and_sync-outcome.result
    (λ torn t is. cut_of_torn (omega (arith, disk.bytes_sized t is, c.requires.inside)) (disk.loose_sized t is ∙ sym (disk.bytes_sized t is)) (torn t is) c.power_cut.ensures.left)
    c.write_and_sync-outcome.ensures.torn
