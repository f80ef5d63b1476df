use Rattle.std.proofs.Common.{ap, length, arith}
use Rattle.any_cells.proofs.MigratingLaws.{migrates, only-disk, not-migrated}
use Rattle.any_cells.proofs.migrating.migrate_into.Goals as goal

pub returns-in-Ok-clause-migrated : goal.returns-in-Ok-clause-migrated
returns-in-Ok-clause-migrated g c =
    let e = c.deref_mut.ensures.value in
    record {
      room = c.requires.room;
      runs = rw e at c.move_up.ensures.runs;
      grows = c.in-Ok.ensures.grows;
      faults = c.in-Ok.ensures.faults;
      migrated = migrates c.args.kind (length c.args.room.items) c.move_up.new.cells _ _ (let same = ap length e in omega arith) c.in-Ok.ensures.moved;
      images = rw e at c.in-Ok.ensures.images;
      besides = rw e at c.in-Ok.ensures.besides;
    }

pub returns-clause-refused : goal.returns-clause-refused
returns-clause-refused g c =
    let e = c.deref_mut.ensures.value in
    rw c.from.ensures
    (record {
      cause = not-migrated c.args.kind (length c.args.room.items) _ _ c.in-Err.fault c.requires.room (rw e at c.move_up.ensures.runs) (rw e at c.in-Err.ensures.refused);
      only = only-disk c.args.kind (length c.args.room.items) _ c.in-Err.fault (rw e at c.in-Err.ensures.only);
      images = rw e at c.in-Err.ensures.images;
      besides = rw e at c.in-Err.ensures.besides;
    })
