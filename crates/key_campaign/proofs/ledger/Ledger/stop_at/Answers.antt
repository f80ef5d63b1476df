use Rattle.std.proofs.Common.{◌≡◌, ap, subst}
use Rattle.cell_store.specs.Cells.{CellsState}
use Rattle.key_campaign.specs.Campaign.{Campaign}
use Rattle.key_campaign.specs.State.{LedgerState, FitsLedger}
use Rattle.key_campaign.proofs.LedgerLaws.{fits_told}
use Rattle.key_campaign.proofs.ledger.Ledger.stop_at.Goals as goal

pub returns-clause-rest : goal.returns-clause-rest
returns-clause-rest g c =
    let campaign : Campaign = record { entries = c.self.inside.entries; up = c.self.inside.up; pending = c.self.inside.pending } in
    let new = g.C.Cells.state c.stop_at.new.self in
    let over : CellsState → LedgerState = λ store. record { campaign = campaign; store = store } in
    subst (λ (s : LedgerState). over new ≡ record s { store = record s.store { disk = new.disk } }) c.self.view_is
    (ap over c.stop_at.ensures.rest)

pub returns-clause-fits : goal.returns-clause-fits
returns-clause-fits g c =
    let campaign : Campaign = record { entries = c.self.inside.entries; up = c.self.inside.up; pending = c.self.inside.pending } in
    let new = g.C.Cells.state c.stop_at.new.self in
    subst (λ (s : LedgerState). FitsLedger s → FitsLedger (record { campaign = campaign; store = new })) c.self.view_is
    (fits_told campaign (g.C.Cells.state c.self.inside.cells) new (ap (λ (s : CellsState). s.layout) c.stop_at.ensures.rest) c.stop_at.ensures.arms.told)
