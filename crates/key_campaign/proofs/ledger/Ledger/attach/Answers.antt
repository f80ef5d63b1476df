use Rattle.store_keeping.proofs.CallerLemmas.{fits_settled}
use Rattle.key_campaign.specs.Campaign.{powered_ledger}
use Rattle.key_campaign.specs.State.{keeping_of}
use Rattle.key_campaign.proofs.ledger.Ledger.attach.Goals as goal

pub returns-in-Ok-clause-fits : goal.returns-in-Ok-clause-fits
returns-in-Ok-clause-fits g c settled =
    fits_settled (keeping_of (powered_ledger c.in-Ok.entries)) (g.C.Cells.state c.args.cells) settled c.in-Ok.ensures.places.cells_are
