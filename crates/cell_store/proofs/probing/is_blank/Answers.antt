use Rattle.std.proofs.lemmas.Bool.Decides.{Decides-eqb}
use Rattle.std.proofs.lemmas.Slice.Eq.{slice_eq-Decides}
use Rattle.std.proofs.Common.{replicate}
use Rattle.cell_store.proofs.probing.is_blank.Goals as goal

pub returns : goal.returns
returns c = slice_eq-Decides Decides-eqb c.args.bytes.now (replicate 32 0) c.eq.result c.eq.ensures
