use Rattle.std.proofs.Common.{sym, ap, subst, ◌∙◌}
use Rattle.cut_disk.specs.State.{DiskState}
use Rattle.cell_store.specs.Cells.{CellsState}
use Rattle.any_cells.specs.Either.{any_state}
use Rattle.key_campaign.specs.Entries.{place_count}
use Rattle.campaign_commands.specs.declared.opening.NoLedgerCause.TheVariants.{BadEntry}
use Rattle.adopt_commands.specs.StandingLedgers.{LacksStanding}
use Rattle.adopt_commands.proofs.StandingLaws.{attached_not_blank, opens_standing, stands_badly, not_attached}
use Rattle.adopt_commands.proofs.standing.standing_ledger.Goals as goal

pub returns-in-Err-clause-refused : goal.returns-in-Err-clause-refused
unfolding place_count
returns-in-Err-clause-refused g c =
    not_attached (g.D.Disk.state c.args.disk) (g.D.Disk.state c.in-Err.refused.disk) c.in-Err.refused.fault c.in-Err.ensures.refused

pub returns-in-Ok-attach-clause-opened : goal.returns-in-Ok-attach-clause-opened
unfolding place_count
returns-in-Ok-attach-clause-opened g c =
    opens_standing (g.D.Disk.state c.args.disk) (any_state c.in-Ok.cells) c.in-Ok.ensures.attached
    c.in-Ok-attach.ledger c.in-Ok-attach.ensures.up c.in-Ok-attach.ensures.sound c.in-Ok-attach.ensures.held c.in-Ok-attach.ensures.store c.in-Ok-attach.ensures.fits

pub returns-in-Ok-attach-clause-stood : goal.returns-in-Ok-attach-clause-stood
unfolding place_count
returns-in-Ok-attach-clause-stood g c = attached_not_blank (g.D.Disk.state c.args.disk) (any_state c.in-Ok.cells) c.in-Ok.ensures.attached

pub returns-in-Err-attach-clause-refused : goal.returns-in-Err-attach-clause-refused
unfolding place_count
returns-in-Err-attach-clause-refused g c =
    subst (λ (after : DiskState). LacksStanding (g.D.Disk.state c.args.disk) after (BadEntry c.in-Err-attach.bad.entry))
    (sym (c.release.ensures ∙ ap (λ (s : CellsState). s.disk) c.in-Err-attach.ensures.handed_back))
    (stands_badly (g.D.Disk.state c.args.disk) (any_state c.in-Ok.cells) c.in-Ok.ensures.attached c.in-Err-attach.bad.entry c.in-Err-attach.ensures.bad)

pub attach-requires-clause-count : goal.attach-requires-clause-count
unfolding place_count
attach-requires-clause-count g c = c.in-Ok.ensures.attached.count
