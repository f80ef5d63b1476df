use Rattle.std.proofs.Common.{arith, [], sym, subst}
use Rattle.cut_disk.specs.Calls.{Runs}
use Rattle.cut_disk.proofs.CallerLemmas.{runs_none, runs_more}
use Rattle.cell_store.specs.declared.faults.StoreFault.{StoreFault}
use Rattle.cell_store.specs.declared.kinds.Version.TheVariants.{Two}
use Rattle.cell_store.specs.Attaching.{NotProbed}
use Rattle.store_growing.proofs.DiskSteps.{short_has_none}
use Rattle.store_growing.proofs.headers.second_header.Goals as goal

pub returns-in-Ok-clause-stands : goal.returns-in-Ok-clause-stands
returns-in-Ok-clause-stands g c t told = c.header_found.ensures.found t.bytes (c.in-Ok.ensures.probed.probes t told)

pub returns-in-Err-TooSmall-clause-stands : goal.returns-in-Err-TooSmall-clause-stands
returns-in-Err-TooSmall-clause-stands g c t told two =
    let small = subst (λ (f : StoreFault). NotProbed Two (g.D.Disk.state c.args.disk.now) (g.D.Disk.state c.probe_two.new.disk) f) c.in-Err-TooSmall.field-0-is (c.in-Err-TooSmall.ensures.refused) in
    let sized = (g.met.D.Disk.is_disk c.args.disk.now).bytes_sized t told in
    short_has_none t.bytes (omega (arith, small.0, sized)) two

pub returns-in-Err-TooSmall-clause-runs : goal.returns-in-Err-TooSmall-clause-runs
returns-in-Err-TooSmall-clause-runs g c =
    let small = subst (λ (f : StoreFault). NotProbed Two (g.D.Disk.state c.args.disk.now) (g.D.Disk.state c.probe_two.new.disk) f) c.in-Err-TooSmall.field-0-is (c.in-Err-TooSmall.ensures.refused) in
    subst (λ s. Runs [] 1 (g.D.Disk.state c.args.disk.now) s) (sym small.1) (runs_more 1 (omega arith) (runs_none (g.D.Disk.state c.args.disk.now)))
