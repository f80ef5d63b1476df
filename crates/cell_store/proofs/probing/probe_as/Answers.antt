use Rattle.std.proofs.Common.{ℕ, List, subst, arith}
use Rattle.cut_disk.proofs.CallerLemmas.{grows_of_call}
use Rattle.cell_store.specs.Store.{Probes}
use Rattle.cell_store.proofs.ReadingLaws.{read_done, read_failed, told-head}
use Rattle.cell_store.proofs.probing.probe_as.Goals as goal

pub returns-in-Ok-clause-probed : goal.returns-in-Ok-clause-probed
returns-in-Ok-clause-probed g c = record {
  room = omega arith;
  as_before = read_done c.read.ensures.call c.read.ensures.same c.in-Ok.ensures.count c.read.ensures.arms;
  grows = grows_of_call c.read.ensures.call;
  few = c.probe_of.ensures.few;
  probes = λ t h. subst (λ (b : List ℕ). Probes c.args.version b c.probe_of.result) (told-head c.args.version _ c.base-base.result c.read.new.out c.in-Ok.ensures.bytes c.base-base.ensures (omega arith) t h) c.probe_of.ensures.is;
}

pub returns-in-Err-clause-refused : goal.returns-in-Err-clause-refused
returns-in-Err-clause-refused g c = (omega arith, read_failed c.read.ensures.call c.read.ensures.same c.in-Err.ensures.failed c.read.ensures.arms)
