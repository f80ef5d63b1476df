use Rattle.std.proofs.lemmas.Result.{IfOk-weaker}
use Rattle.any_cells.specs.declared.looking.Found.TheVariants.{Blank, Standing}
use Rattle.bus_store_commands.proofs.MakingStores.{as_read, look_finds, finds_after, room_after, made_after, unmade_after, look_failed, if_err_weaker}
use Rattle.bus_store_commands.proofs.making.make_in_room.Goals as goal

pub make_blank-requires : goal.make_blank-requires
make_blank-requires g c =
    let before = g.D.Disk.state c.args.disk in
    let mid = g.D.Disk.state c.look.new.disk in
    record {
      config = c.requires.config;
      room = room_after c.args.kind c.args.version c.args.config.now before mid (as_read c.in-Ok-Blank.ensures.as_before) c.requires.room;
      blank = finds_after c.args.kind c.args.version c.args.config.now before mid (as_read c.in-Ok-Blank.ensures.as_before) Blank
          (look_finds c.args.kind c.args.version c.args.config.now _ before _ Blank c.in-Ok-Blank.field-0-is c.cells_of.ensures.cells c.in-Ok-Blank.ensures.found);
    }

pub find_standing-requires : goal.find_standing-requires
find_standing-requires g c =
    let before = g.D.Disk.state c.args.disk in
    let mid = g.D.Disk.state c.look.new.disk in
    record {
      config = c.requires.config;
      room = room_after c.args.kind c.args.version c.args.config.now before mid (as_read c.in-Ok-Standing.ensures.as_before) c.requires.room;
      standing = finds_after c.args.kind c.args.version c.args.config.now before mid (as_read c.in-Ok-Standing.ensures.as_before) Standing
          (look_finds c.args.kind c.args.version c.args.config.now _ before _ Standing c.in-Ok-Standing.field-0-is c.cells_of.ensures.cells c.in-Ok-Standing.ensures.found);
    }

pub returns-in-Ok-Blank-clause-made : goal.returns-in-Ok-Blank-clause-made
returns-in-Ok-Blank-clause-made g c =
    IfOk-weaker c.make_blank.result _ _
    (λ d m. made_after c.args.kind c.args.version c.args.config.now (g.D.Disk.state c.args.disk) (g.D.Disk.state c.look.new.disk) (as_read c.in-Ok-Blank.ensures.as_before) (g.D.Disk.state d) m)
    c.make_blank.ensures.made

pub returns-in-Ok-Blank-clause-refused : goal.returns-in-Ok-Blank-clause-refused
returns-in-Ok-Blank-clause-refused g c =
    if_err_weaker c.make_blank.result _ _
    (λ u h. unmade_after c.args.kind c.args.version c.args.config.now (g.D.Disk.state c.args.disk) (g.D.Disk.state c.look.new.disk) (as_read c.in-Ok-Blank.ensures.as_before)
    (g.D.Disk.state u.disk) u.fault c.requires.room h)
    c.make_blank.ensures.refused

pub returns-in-Ok-Standing-clause-made : goal.returns-in-Ok-Standing-clause-made
returns-in-Ok-Standing-clause-made g c =
    IfOk-weaker c.find_standing.result _ _
    (λ d m. made_after c.args.kind c.args.version c.args.config.now (g.D.Disk.state c.args.disk) (g.D.Disk.state c.look.new.disk) (as_read c.in-Ok-Standing.ensures.as_before) (g.D.Disk.state d) m)
    c.find_standing.ensures.made

pub returns-in-Ok-Standing-clause-refused : goal.returns-in-Ok-Standing-clause-refused
returns-in-Ok-Standing-clause-refused g c =
    if_err_weaker c.find_standing.result _ _
    (λ u h. unmade_after c.args.kind c.args.version c.args.config.now (g.D.Disk.state c.args.disk) (g.D.Disk.state c.look.new.disk) (as_read c.in-Ok-Standing.ensures.as_before)
    (g.D.Disk.state u.disk) u.fault c.requires.room h)
    c.find_standing.ensures.refused

pub returns-in-Err-clause-refused : goal.returns-in-Err-clause-refused
returns-in-Err-clause-refused g c =
    look_failed c.args.kind c.args.version c.args.config.now (g.D.Disk.state c.args.disk) (g.D.Disk.state c.look.new.disk) c.in-Err.ensures.failed
