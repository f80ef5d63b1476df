use Rattle.std.proofs.lemmas.Result.{IfOk-weaker}
use Rattle.bus_store_commands.proofs.MakingStores.{unused_after, used_not_taken, other_named, zeros_unread, room_after, made_after, unmade_after, if_err_weaker}
use Rattle.bus_store_commands.proofs.making.make_blank.Goals as goal

pub make_new-requires : goal.make_new-requires
make_new-requires g c =
    let before = g.D.Disk.state c.args.disk in
    let mid = g.D.Disk.state c.is_zeroed.new.disk in
    record {
      config = c.requires.config;
      room = room_after c.args.kind c.args.version c.args.config.now before mid c.in-Ok-true.ensures.as_before c.requires.room;
      unused = unused_after c.args.kind c.args.version c.args.config.now before mid c.in-Ok-true.ensures.as_before _ c.requires.blank
          c.in-Ok-true.ensures.zeros c.in-Ok-true.field-0-test;
    }

pub returns-in-Ok-true-clause-made : goal.returns-in-Ok-true-clause-made
returns-in-Ok-true-clause-made g c =
    IfOk-weaker c.make_new.result _ _
    (λ d m. made_after c.args.kind c.args.version c.args.config.now (g.D.Disk.state c.args.disk) (g.D.Disk.state c.is_zeroed.new.disk) c.in-Ok-true.ensures.as_before (g.D.Disk.state d) m)
    c.make_new.ensures.made

pub returns-in-Ok-true-clause-refused : goal.returns-in-Ok-true-clause-refused
returns-in-Ok-true-clause-refused g c =
    if_err_weaker c.make_new.result _ _
    (λ u h. unmade_after c.args.kind c.args.version c.args.config.now (g.D.Disk.state c.args.disk) (g.D.Disk.state c.is_zeroed.new.disk) c.in-Ok-true.ensures.as_before
    (g.D.Disk.state u.disk) u.fault c.requires.room h)
    c.make_new.ensures.refused

pub returns-in-Ok-false-clause-refused : goal.returns-in-Ok-false-clause-refused
returns-in-Ok-false-clause-refused g c =
    let before = g.D.Disk.state c.args.disk in
    let mid = g.D.Disk.state c.is_zeroed.new.disk in
    other_named c.args.kind c.args.version c.args.config.now before mid c.in-Ok-false.ensures.as_before (g.D.Disk.state c.refuse.result.disk)
    c.refuse.result.fault
    (used_not_taken c.args.kind c.args.version c.args.config.now before mid c.in-Ok-false.ensures.as_before _ c.requires.blank
    c.in-Ok-false.ensures.zeros c.in-Ok-false.field-0-test)
    c.refuse.ensures

pub returns-in-Err-clause-refused : goal.returns-in-Err-clause-refused
returns-in-Err-clause-refused g c =
    rw c.look_fault.ensures
    (zeros_unread c.args.kind c.args.version c.args.config.now 1 (g.D.Disk.state c.args.disk) (g.D.Disk.state c.is_zeroed.new.disk) c.in-Err.fault c.in-Err.ensures.refused)
