use Rattle.std.proofs.Common.{refl}
use Rattle.cut_disk.specs.Images.{firm}
use Rattle.cut_disk.proofs.Cuts.{cut_of_firm}
use Rattle.cut_disk.proofs.laws.a_cut_keeps_firm_bytes.Goals as goal

pub returns : goal.returns
returns c = λ bytes new cut. cut_of_firm (cut (firm bytes) refl)
