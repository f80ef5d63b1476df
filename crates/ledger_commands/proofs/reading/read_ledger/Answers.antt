use Rattle.any_cells.specs.Either.{any_state}
use Rattle.cut_disk.specs.MemDisk.{contents}
use Rattle.ledger_commands.proofs.BytesLaws.{at_places, read_in_memory, not_in_memory, bad_in_memory}
use Rattle.ledger_commands.proofs.reading.read_ledger.Goals as goal

pub returns-in-Err-clause-refused : goal.returns-in-Err-clause-refused
returns-in-Err-clause-refused c =
    not_in_memory c.args.bytes.now (contents c.in-Ok.disk) c.in-Ok.ensures _ _ _ c.in-Err.refused.fault c.store_refusal.result c.in-Err.ensures.refused c.store_refusal.ensures

pub attach-requires-clause-count : goal.attach-requires-clause-count
attach-requires-clause-count c = at_places _ c.in-Ok-attach_as.ensures.attached.count

pub returns-in-Ok-attach-clause-read : goal.returns-in-Ok-attach-clause-read
returns-in-Ok-attach-clause-read c =
    read_in_memory c.args.bytes.now (contents c.in-Ok.disk) c.in-Ok.ensures _ (any_state c.in-Ok-attach_as.cells) _ c.in-Ok-attach_as.ensures.attached
    c.in-Ok-attach.ensures.held c.in-Ok-attach.ensures.sound.count

pub returns-in-Err-attach-clause-refused : goal.returns-in-Err-attach-clause-refused
returns-in-Err-attach-clause-refused c =
    bad_in_memory c.args.bytes.now (contents c.in-Ok.disk) c.in-Ok.ensures _ (any_state c.in-Ok-attach_as.cells) c.in-Err-attach.bad.entry c.bad_entry_refusal.result
    c.in-Ok-attach_as.ensures.attached c.in-Err-attach.ensures.bad c.bad_entry_refusal.ensures
