use Rattle.std.proofs.Common.{refl}
use Rattle.cut_disk.specs.Images.{firm}
use Rattle.store_keeping.proofs.CallerLemmas.{firm_fits, kept_stands}
use Rattle.bus_machine.specs.Node.{powered}
use Rattle.secoc_node.specs.Fits.{node_keeping}
use Rattle.secoc_node.proofs.laws.a_settled_disk_fits_its_node.Goals as goal

pub returns : goal.returns
returns c = λ layout config kept bytes stands.
    firm_fits layout (node_keeping (powered config kept)) (firm bytes) bytes refl (kept_stands layout (node_keeping (powered config kept)) bytes stands)
