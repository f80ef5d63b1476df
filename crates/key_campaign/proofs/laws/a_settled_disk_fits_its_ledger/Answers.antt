use Rattle.std.proofs.Common.{refl}
use Rattle.cut_disk.specs.Images.{firm}
use Rattle.store_keeping.proofs.CallerLemmas.{firm_fits, kept_stands}
use Rattle.key_campaign.specs.Campaign.{powered_ledger}
use Rattle.key_campaign.specs.State.{keeping_of}
use Rattle.key_campaign.proofs.laws.a_settled_disk_fits_its_ledger.Goals as goal

pub returns : goal.returns
returns c = λ layout entries bytes stands.
    firm_fits layout (keeping_of (powered_ledger entries)) (firm bytes) bytes refl (kept_stands layout (keeping_of (powered_ledger entries)) bytes stands)
