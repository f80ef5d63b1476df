use Rattle.std.proofs.Common.{◌≡◌, List, set, sym, ap, subst, ◌∙◌, true, false}
use Rattle.std.specs.Prelude.{Option, Some}
use Rattle.key_campaign.specs.declared.entries.LedgerEntry.{LedgerEntry}
use Rattle.key_campaign.specs.declared.entries.PendingEntry.{PendingEntry}
use Rattle.key_campaign.specs.Entries.{Advances}
use Rattle.key_campaign.specs.Campaign.{Campaign}
use Rattle.key_campaign.specs.State.{LedgerState, FitsLedger, IsLedger}
use Rattle.key_campaign.proofs.LedgerLaws.{ledger_put, fits_ledger_put, fits_ledger_failed}
use Rattle.key_campaign.proofs.ledger.Ledger.put.Goals as goal

pub invariant_of-self : goal.invariant_of-self
invariant_of-self g c =
    let campaign : Campaign = record { entries = c.self.inside.entries; up = c.self.inside.up; pending = c.self.inside.pending } in
    let change : PendingEntry = record { place = c.args.place; entry = c.args.entry } in
    let new = g.C.Cells.state c.put_entry.new.cells in
    let up = subst (λ (s : LedgerState). s.campaign.up ≡ true) (sym c.self.view_is) c.requires.up in
    let advances = subst (λ (s : LedgerState). Advances s.campaign.entries change) (sym c.self.view_is) c.requires.advances in
    let value : set c.self.inside.entries c.args.place (Some c.args.entry) ≡ c.set.new.self =
    sym (c.set.ensures ∙ ap (λ k. set c.self.inside.entries k (Some c.args.entry)) c.from.ensures) in
    subst (λ (es : List (Option LedgerEntry)). IsLedger (record { entries = es; up = c.self.inside.up; pending = c.self.inside.pending }) new) value
    (ledger_put campaign (g.C.Cells.state c.self.inside.cells) c.self.invariant up change advances new c.in-Ok.ensures.put)

pub returns-in-Ok-clause-fits : goal.returns-in-Ok-clause-fits
returns-in-Ok-clause-fits g c =
    let campaign : Campaign = record { entries = c.self.inside.entries; up = c.self.inside.up; pending = c.self.inside.pending } in
    let change : PendingEntry = record { place = c.args.place; entry = c.args.entry } in
    let new = g.C.Cells.state c.put_entry.new.cells in
    let up = subst (λ (s : LedgerState). s.campaign.up ≡ true) (sym c.self.view_is) c.requires.up in
    let advances = subst (λ (s : LedgerState). Advances s.campaign.entries change) (sym c.self.view_is) c.requires.advances in
    let value : set c.self.inside.entries c.args.place (Some c.args.entry) ≡ c.set.new.self =
    sym (c.set.ensures ∙ ap (λ k. set c.self.inside.entries k (Some c.args.entry)) c.from.ensures) in
    let After : List (Option LedgerEntry) → Type 0 =
    λ es. FitsLedger (record { campaign = record { entries = es; up = c.self.inside.up; pending = c.self.inside.pending }; store = new }) in
    subst (λ (s : LedgerState). FitsLedger s → After c.set.new.self) c.self.view_is
    (λ fits. subst After value (fits_ledger_put campaign (g.C.Cells.state c.self.inside.cells) c.self.invariant up change advances new c.in-Ok.ensures.put fits))

pub returns-in-Err-clause-fits : goal.returns-in-Err-clause-fits
returns-in-Err-clause-fits g c =
    let campaign : Campaign = record { entries = c.self.inside.entries; up = c.self.inside.up; pending = c.self.inside.pending } in
    let change : PendingEntry = record { place = c.args.place; entry = c.args.entry } in
    let new = g.C.Cells.state c.put_entry.new.cells in
    let up = subst (λ (s : LedgerState). s.campaign.up ≡ true) (sym c.self.view_is) c.requires.up in
    let advances = subst (λ (s : LedgerState). Advances s.campaign.entries change) (sym c.self.view_is) c.requires.advances in
    subst (λ (s : LedgerState). FitsLedger s → FitsLedger (record { campaign = record { entries = c.self.inside.entries; up = false; pending = Some change }; store = new })) c.self.view_is
    (fits_ledger_failed campaign (g.C.Cells.state c.self.inside.cells) c.self.invariant up change advances new c.in-Err.ensures.failed)

pub returns-in-Ok-clause-sound : goal.returns-in-Ok-clause-sound
returns-in-Ok-clause-sound g c = (invariant_of-self g c).sound
