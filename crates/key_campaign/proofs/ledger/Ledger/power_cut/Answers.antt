use Rattle.std.proofs.Common.{◌+◌, refl, subst, sym, ap}
use Rattle.std.specs.Prelude.{Err}
use Rattle.cell_store.specs.declared.faults.Reread.{Reread}
use Rattle.cell_store.specs.Reading.{CutAndRead}
use Rattle.key_campaign.specs.Entries.{place_count}
use Rattle.key_campaign.specs.Powering.{LedgerComesUp, LedgerStaysDown}
use Rattle.key_campaign.specs.declared.commands.LedgerCommand.TheVariants as command
use Rattle.key_campaign.specs.Campaign.{Campaign, powered_ledger, stays_off}
use Rattle.key_campaign.specs.Steps.{PowersLedger, LedgerStep}
use Rattle.key_campaign.specs.declared.faults.LedgerCut.TheVariants as cut
use Rattle.key_campaign.specs.Lines.{ledger_cut_line}
use Rattle.key_campaign.specs.State.{LedgerState, FitsLedger, TellsLedger}
use Rattle.key_campaign.proofs.CutLaws.{each_image, powers_kept, never_bad, step_unread, fits_off, fits_on}
use Rattle.key_campaign.proofs.ledger.Ledger.power_cut.Goals as goal

-- ---- the store isn't read anew

pub returns-in-Err-clause-step : goal.returns-in-Err-clause-step
returns-in-Err-clause-step g c fitting =
    let campaign : Campaign = record { entries = c.self.inside.entries; up = c.self.inside.up; pending = c.self.inside.pending } in
    let unread = c.in-Err.ensures.refused.never (each_image campaign (g.C.Cells.state c.self.inside.cells) c.self.invariant (subst TellsLedger (sym c.self.view_is) fitting)) in
    subst (λ (s : LedgerState). LedgerStep s.campaign (command.Cut c.args.torn) (ledger_cut_line (Err (cut.Store c.in-Err.fault))) (stays_off campaign)) c.self.view_is
    (step_unread campaign c.args.torn c.in-Err.fault unread)

pub returns-in-Err-clause-fits : goal.returns-in-Err-clause-fits
returns-in-Err-clause-fits g c =
    let campaign : Campaign = record { entries = c.self.inside.entries; up = c.self.inside.up; pending = c.self.inside.pending } in
    let left = g.C.Cells.state c.power_cut.new.self in
    subst (λ (s : LedgerState). FitsLedger s → FitsLedger (record { campaign = stays_off campaign; store = left })) c.self.view_is
    (fits_off campaign (g.C.Cells.state c.self.inside.cells) left c.power_cut.ensures.disk.image c.power_cut.ensures.disk.runs.tells c.power_cut.ensures.layout)

pub returns-in-Err-clause-refused : goal.returns-in-Err-clause-refused
returns-in-Err-clause-refused g c =
    let campaign : Campaign = record { entries = c.self.inside.entries; up = c.self.inside.up; pending = c.self.inside.pending } in
    let store = g.C.Cells.state c.self.inside.cells in
    let left = g.C.Cells.state c.power_cut.new.self in
    subst (λ (s : LedgerState). LedgerStaysDown s (record { campaign = stays_off campaign; store = left }) (cut.Store c.in-Err.fault)) c.self.view_is
    (record {
      refused = refl;
      cause = c.in-Err.ensures.refused.cause;
      only = λ fitting. ap (λ (f : Reread). cut.Store f) (c.in-Err.ensures.refused.never (each_image campaign store c.self.invariant fitting));
    })

pub returns-in-Err-clause-disk : goal.returns-in-Err-clause-disk
returns-in-Err-clause-disk g c =
    let left = g.C.Cells.state c.power_cut.new.self in
    subst (λ (s : LedgerState). CutAndRead c.args.torn (68 + place_count) s.store.disk left.disk) c.self.view_is
    (subst (λ n. CutAndRead c.args.torn (68 + n) (g.C.Cells.state c.self.inside.cells).disk left.disk) c.self.invariant.count c.power_cut.ensures.disk)

-- ---- it is, and its cells are a ledger's

pub returns-in-Ok-clause-step : goal.returns-in-Ok-clause-step
returns-in-Ok-clause-step g c fitting =
    let campaign : Campaign = record { entries = c.self.inside.entries; up = c.self.inside.up; pending = c.self.inside.pending } in
    let left = g.C.Cells.state c.power_cut.new.self in
    subst (λ (s : LedgerState). PowersLedger s.campaign (powered_ledger c.in-Ok.entries)) c.self.view_is
    (powers_kept campaign (g.C.Cells.state c.self.inside.cells) c.self.invariant left c.power_cut.ensures.disk.image c.in_default.ensures.reread.stands c.power_cut.ensures.layout c.in-Ok.entries c.in-Ok.ensures.places
    (subst TellsLedger (sym c.self.view_is) fitting))

pub returns-in-Ok-clause-fits : goal.returns-in-Ok-clause-fits
returns-in-Ok-clause-fits g c fits =
    fits_on c.in-Ok.entries (g.C.Cells.state c.self.inside.cells) (g.C.Cells.state c.power_cut.new.self) c.power_cut.ensures.disk.image c.power_cut.ensures.disk.runs.tells c.in_default.ensures.reread.stands c.in-Ok.ensures.places

pub returns-in-Ok-clause-up : goal.returns-in-Ok-clause-up
returns-in-Ok-clause-up g c =
    let left = g.C.Cells.state c.power_cut.new.self in
    subst (λ (s : LedgerState). LedgerComesUp s (record { campaign = powered_ledger c.in-Ok.entries; store = left })) c.self.view_is
    (record {
      up = refl;
      held = c.in-Ok.ensures.places;
      stands = c.in_default.ensures.reread.stands;
      settled = c.in_default.ensures.reread.settled;
      faults = c.in_default.ensures.reread.faults;
      grows = c.in_default.ensures.reread.grows;
    })

pub returns-in-Ok-clause-disk : goal.returns-in-Ok-clause-disk
returns-in-Ok-clause-disk g c =
    let left = g.C.Cells.state c.power_cut.new.self in
    subst (λ (s : LedgerState). CutAndRead c.args.torn (68 + place_count) s.store.disk left.disk) c.self.view_is
    (subst (λ n. CutAndRead c.args.torn (68 + n) (g.C.Cells.state c.self.inside.cells).disk left.disk) c.self.invariant.count c.power_cut.ensures.disk)

-- ---- it is, and they aren't

pub returns-in-Err-read_places-clause-step : goal.returns-in-Err-read_places-clause-step
returns-in-Err-read_places-clause-step g c fitting =
    let campaign : Campaign = record { entries = c.self.inside.entries; up = c.self.inside.up; pending = c.self.inside.pending } in
    let left = g.C.Cells.state c.power_cut.new.self in
    never_bad campaign (g.C.Cells.state c.self.inside.cells) c.self.invariant left c.power_cut.ensures.disk.image c.in_default.ensures.reread.stands c.power_cut.ensures.layout c.in-Err-read_places.bad c.in-Err-read_places.ensures.bad
    (subst TellsLedger (sym c.self.view_is) fitting)

pub returns-in-Err-read_places-clause-fits : goal.returns-in-Err-read_places-clause-fits
returns-in-Err-read_places-clause-fits g c =
    let campaign : Campaign = record { entries = c.self.inside.entries; up = c.self.inside.up; pending = c.self.inside.pending } in
    let left = g.C.Cells.state c.power_cut.new.self in
    subst (λ (s : LedgerState). FitsLedger s → FitsLedger (record { campaign = stays_off campaign; store = left })) c.self.view_is
    (fits_off campaign (g.C.Cells.state c.self.inside.cells) left c.power_cut.ensures.disk.image c.power_cut.ensures.disk.runs.tells c.power_cut.ensures.layout)

pub returns-in-Err-read_places-clause-refused : goal.returns-in-Err-read_places-clause-refused
returns-in-Err-read_places-clause-refused g c =
    let campaign : Campaign = record { entries = c.self.inside.entries; up = c.self.inside.up; pending = c.self.inside.pending } in
    let store = g.C.Cells.state c.self.inside.cells in
    let left = g.C.Cells.state c.power_cut.new.self in
    subst (λ (s : LedgerState). LedgerStaysDown s (record { campaign = stays_off campaign; store = left }) (cut.BadEntry c.in-Err-read_places.bad)) c.self.view_is
    (record {
      refused = refl;
      cause = record { faults = c.in_default.ensures.reread.faults; stands = c.in_default.ensures.reread.stands; first = c.in-Err-read_places.ensures.bad };
      only = λ fitting. absurd
          (never_bad campaign store c.self.invariant left c.power_cut.ensures.disk.image c.in_default.ensures.reread.stands c.power_cut.ensures.layout c.in-Err-read_places.bad c.in-Err-read_places.ensures.bad fitting);
    })

pub returns-in-Err-read_places-clause-disk : goal.returns-in-Err-read_places-clause-disk
returns-in-Err-read_places-clause-disk g c =
    let left = g.C.Cells.state c.power_cut.new.self in
    subst (λ (s : LedgerState). CutAndRead c.args.torn (68 + place_count) s.store.disk left.disk) c.self.view_is
    (subst (λ n. CutAndRead c.args.torn (68 + n) (g.C.Cells.state c.self.inside.cells).disk left.disk) c.self.invariant.count c.power_cut.ensures.disk)
