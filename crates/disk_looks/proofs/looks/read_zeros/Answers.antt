use Rattle.std.proofs.Common.{refl, arith}
use Rattle.std.proofs.lemmas.Bool.Decides.{Decides-eqb}
use Rattle.std.proofs.lemmas.Slice.Eq.{slice_eq-Decides}
use Rattle.cut_disk.proofs.CallerLemmas.{runs_of_call}
use Rattle.disk_looks.proofs.SeenLaws.{zeros_read}
use Rattle.disk_looks.proofs.looks.read_zeros.Goals as goal

pub returns-in-Ok-clause-zeros : goal.returns-in-Ok-clause-zeros
returns-in-Ok-clause-zeros g c =
    let equal = slice_eq-Decides Decides-eqb c.read.new.out c.args.zeros.now c.eq.result c.eq.ensures in
    zeros_read (g.D.Disk.state c.args.disk.now) c.read.new.out (g.D.Disk.state c.args.disk.now).size c.eq.result (g.met.D.Disk.is_disk c.args.disk.now)
    (omega (arith, c.requires.sized, c.read.auto.out)) refl c.in-Ok.ensures.bytes (rw c.requires.zeros at equal)

pub returns-in-Ok-clause-as_before : goal.returns-in-Ok-clause-as_before
returns-in-Ok-clause-as_before g c = record { runs = runs_of_call c.in-Ok.ensures.call; told = c.read.ensures.same; faults = c.in-Ok.ensures.count }

pub returns-in-Err-clause-refused : goal.returns-in-Err-clause-refused
returns-in-Err-clause-refused g c = record { runs = runs_of_call c.in-Err.ensures.call; told = c.read.ensures.same; cause = c.in-Err.ensures.failed }
