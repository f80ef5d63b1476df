use Rattle.std.proofs.Common.{arith, ◌∙◌}
use Rattle.std.proofs.lemmas.Result.{on_ok_weaker, IfErr-weaker}
use Rattle.cut_disk.specs.Calls.{AsBefore}
use Rattle.cut_disk.proofs.CallerLemmas.{runs_more, runs_join}
use Rattle.store_growing.proofs.DiskSteps.{header_refused, header_fits}
use Rattle.store_growing.proofs.growing.see.Goals as goal

pub returns-in_err-read_image-clause-runs : goal.returns-in_err-read_image-clause-runs
returns-in_err-read_image-clause-runs g c = runs_more 2 (omega arith) c.read_image.ensures.runs

pub returns-in-Ok-clause-runs : goal.returns-in-Ok-clause-runs
returns-in-Ok-clause-runs g c = runs_join c.read_image.ensures.runs c.header_beside.ensures.runs

pub returns-in-Err-clause-runs : goal.returns-in-Err-clause-runs
returns-in-Err-clause-runs g c = runs_join c.read_image.ensures.runs c.header_beside.ensures.runs

pub returns-in-Ok-clause-fits : goal.returns-in-Ok-clause-fits
returns-in-Ok-clause-fits g c =
    on_ok_weaker c.take_header.result
    (header_fits c.args.wanted c.read_image.new.image (g.D.Disk.state c.args.disk.now) (g.D.Disk.state c.read_image.new.disk) c.in-Ok.there
    c.read_image.ensures.same c.in_ok-read_image.ensures.sees c.in-Ok.ensures.stands c.in-Ok.ensures.first)
    c.take_header.ensures.takes

pub returns-in-Ok-clause-refused : goal.returns-in-Ok-clause-refused
returns-in-Ok-clause-refused g c =
    let before : AsBefore 2 (g.D.Disk.state c.args.disk.now) (g.D.Disk.state c.header_beside.new.disk) = record {
      runs = runs_join c.read_image.ensures.runs c.header_beside.ensures.runs;
      told = c.header_beside.ensures.same ∙ c.read_image.ensures.same;
      faults = c.in-Ok.ensures.faults ∙ c.in_ok-read_image.ensures.faults;
    } in
    IfErr-weaker c.take_header.result _ _
    (λ f. header_refused c.args.wanted c.read_image.new.image (g.D.Disk.state c.args.disk.now) (g.D.Disk.state c.read_image.new.disk) c.in-Ok.there
    c.read_image.ensures.same c.in_ok-read_image.ensures.sees c.in-Ok.ensures.stands f (g.D.Disk.state c.header_beside.new.disk) before)
    c.take_header.ensures.refused
