use Rattle.std.proofs.Common.{subst, arith}
use Rattle.cell_store.specs.declared.kinds.Kind.TheVariants.{Twin}
use Rattle.cell_store.specs.declared.kinds.Version.TheVariants.{One}
use Rattle.disk_looks.specs.Looks.{LooksAs}
use Rattle.kept_campaigns.specs.LedgerLooks.{ledger_cell_count}
use Rattle.kept_campaigns.proofs.LedgerLaws.{unused_kept, standing_kept, neither_unkept, older_unkept}
use Rattle.kept_campaigns.proofs.looking.look_at_disk.Goals as goal

pub returns-in-Ok-Unused-clause-keeps : goal.returns-in-Ok-Unused-clause-keeps
returns-in-Ok-Unused-clause-keeps g c room t tells =
    unused_kept t.bytes (subst (LooksAs Twin One ledger_cell_count t.bytes) c.in-Ok-Unused.field-0-is (c.in-Ok-Unused.ensures.seen t tells))

pub returns-in-Ok-Standing-clause-keeps : goal.returns-in-Ok-Standing-clause-keeps
returns-in-Ok-Standing-clause-keeps g c room t tells =
    standing_kept t.bytes (subst (LooksAs Twin One ledger_cell_count t.bytes) c.in-Ok-Standing.field-0-is (c.in-Ok-Standing.ensures.seen t tells))

pub returns-in-Ok-Neither-clause-refused : goal.returns-in-Ok-Neither-clause-refused
returns-in-Ok-Neither-clause-refused g c =
    neither_unkept (g.D.Disk.state c.args.disk) (g.D.Disk.state c.look_whole.new.disk) c.in-Ok-Neither.ensures.as_before
    (omega (arith, c.if-size-store_size.false, c.size.ensures, c.store_size.ensures))
    (λ t tells. subst (LooksAs Twin One ledger_cell_count t.bytes) c.in-Ok-Neither.field-0-is (c.in-Ok-Neither.ensures.seen t tells))

pub returns-in-Ok-Older-clause-refused : goal.returns-in-Ok-Older-clause-refused
returns-in-Ok-Older-clause-refused g c =
    older_unkept (g.D.Disk.state c.args.disk) (g.D.Disk.state c.look_whole.new.disk) c.in-Ok-Older.ensures.as_before
    (omega (arith, c.if-size-store_size.false, c.size.ensures, c.store_size.ensures))
    (λ t tells. subst (LooksAs Twin One ledger_cell_count t.bytes) c.in-Ok-Older.field-0-is (c.in-Ok-Older.ensures.seen t tells))
