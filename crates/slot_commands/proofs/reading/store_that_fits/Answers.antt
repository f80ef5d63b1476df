use Rattle.std.proofs.Common.{arith}
use Rattle.slot_commands.proofs.ReadingLaws.{few_found, no_room_found}
use Rattle.slot_commands.proofs.reading.store_that_fits.Goals as goal

pub returns-then-found-lt-SLOT_COUNT-clause-refused : goal.returns-then-found-lt-SLOT_COUNT-clause-refused
returns-then-found-lt-SLOT_COUNT-clause-refused c = few_found _ c.args.found _ c.requires.counts c.if-found-lt-SLOT_COUNT.true c.few_cells.ensures

pub returns-then-bytes-store_size-clause-refused : goal.returns-then-bytes-store_size-clause-refused
returns-then-bytes-store_size-clause-refused c =
    no_room_found _ c.args.found _ c.requires.counts c.if-found-lt-SLOT_COUNT.false (omega (arith, c.if-bytes-store_size.true, c.store_size.ensures))
    c.store_refusal.ensures
