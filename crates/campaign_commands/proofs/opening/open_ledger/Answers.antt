use Rattle.std.proofs.Common.{ℕ, List, sym, ap, subst, ◌∙◌}
use Rattle.cell_store.specs.declared.kinds.Kind.TheVariants.{Twin}
use Rattle.cell_store.specs.declared.kinds.Version.TheVariants.{One}
use Rattle.any_cells.specs.Either.{any_state}
use Rattle.any_cells.specs.Opening.{StoreOpened, NoStoreOpened}
use Rattle.cut_disk.specs.State.{DiskState}
use Rattle.cell_store.specs.Cells.{CellsState}
use Rattle.campaign_commands.specs.Opening.{ledger_layout, FindsBadEntry}
use Rattle.campaign_commands.proofs.Opened.{count, opens_ledger, finds_bad}
use Rattle.campaign_commands.proofs.opening.open_ledger.Goals as goal

pub returns-in-Err-clause-refused : goal.returns-in-Err-clause-refused
returns-in-Err-clause-refused g c =
    subst (λ (cells : List (List ℕ)). NoStoreOpened ledger_layout cells (g.D.Disk.state c.args.disk) (g.D.Disk.state c.in-Err.refused.disk) c.in-Err.refused.fault)
    c.empty_cells-empty.ensures c.in-Err.ensures.refused

pub attach-requires-clause-count : goal.attach-requires-clause-count
attach-requires-clause-count g c =
    count (g.D.Disk.state c.args.disk) (any_state c.in-Ok.cells)
    (subst (λ (cells : List (List ℕ)). StoreOpened Twin One cells (g.D.Disk.state c.args.disk) (any_state c.in-Ok.cells)) c.empty_cells-empty.ensures c.in-Ok.ensures.opened)

pub returns-in-Ok-attach-clause-opened : goal.returns-in-Ok-attach-clause-opened
returns-in-Ok-attach-clause-opened g c =
    opens_ledger (g.D.Disk.state c.args.disk) (any_state c.in-Ok.cells)
    (subst (λ (cells : List (List ℕ)). StoreOpened Twin One cells (g.D.Disk.state c.args.disk) (any_state c.in-Ok.cells)) c.empty_cells-empty.ensures c.in-Ok.ensures.opened)
    c.in-Ok-attach.ledger c.in-Ok-attach.ensures.up c.in-Ok-attach.ensures.sound c.in-Ok-attach.ensures.held c.in-Ok-attach.ensures.store c.in-Ok-attach.ensures.fits

pub returns-in-Err-attach-clause-refused : goal.returns-in-Err-attach-clause-refused
returns-in-Err-attach-clause-refused g c =
    subst (λ (after : DiskState). FindsBadEntry (g.D.Disk.state c.args.disk) after c.in-Err-attach.bad.entry)
    (sym (c.release.ensures ∙ ap (λ (s : CellsState). s.disk) c.in-Err-attach.ensures.handed_back))
    (finds_bad (g.D.Disk.state c.args.disk) (any_state c.in-Ok.cells)
    (subst (λ (cells : List (List ℕ)). StoreOpened Twin One cells (g.D.Disk.state c.args.disk) (any_state c.in-Ok.cells)) c.empty_cells-empty.ensures c.in-Ok.ensures.opened)
    c.in-Err-attach.bad.entry c.in-Err-attach.ensures.bad)
