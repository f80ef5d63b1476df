use Rattle.std.proofs.lemmas.Bool.Decides.{Decides-eqb}
use Rattle.std.proofs.lemmas.Slice.Eq.{slice_eq-Decides}
use Rattle.cell_store.proofs.layout.is_header.Goals as goal

pub returns : goal.returns
returns c = let d = slice_eq-Decides Decides-eqb c.args.bytes.now c.header.result c.eq.result c.eq.ensures in rw c.header.ensures at d
