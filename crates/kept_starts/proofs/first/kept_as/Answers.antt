use Rattle.std.proofs.Common.{subst}
use Rattle.kept_starts.proofs.LookLaws.{any_ok}
use Rattle.kept_starts.proofs.LookedUnfinished.{begun_keeps, begun_keeps_older}
use Rattle.kept_starts.proofs.OlderLaws.{SeesTold, told_either, told_older}
use Rattle.kept_starts.proofs.first.kept_as.Goals as goal

pub returns-in-Unused-clause-keeps : goal.returns-in-Unused-clause-keeps
returns-in-Unused-clause-keeps g c = (told_either c.args.bus.now (g.D.Disk.state c.args.disk) c.args.seen c.in-Unused.is c.requires.seen).0

pub returns-in-Unused-clause-keeps_older : goal.returns-in-Unused-clause-keeps_older
returns-in-Unused-clause-keeps_older g c = (told_either c.args.bus.now (g.D.Disk.state c.args.disk) c.args.seen c.in-Unused.is c.requires.seen).1

pub returns-in-Older-clause-keeps : goal.returns-in-Older-clause-keeps
returns-in-Older-clause-keeps g c =
    any_ok c.look_at_older.result.1 _
    (told_older c.args.bus.now (g.D.Disk.state c.args.disk) (subst (SeesTold c.args.bus.now (g.D.Disk.state c.args.disk)) c.in-Older.is c.requires.seen))

pub returns-in-Neither-clause-keeps : goal.returns-in-Neither-clause-keeps
returns-in-Neither-clause-keeps g c =
    begun_keeps c.args.bus.now (g.D.Disk.state c.args.disk) c.look_at_unfinished.result.1 c.look_at_unfinished.ensures.unfinished

pub returns-in-Neither-clause-keeps_older : goal.returns-in-Neither-clause-keeps_older
returns-in-Neither-clause-keeps_older g c =
    begun_keeps_older c.args.bus.now (g.D.Disk.state c.args.disk) c.look_at_unfinished.result.1 c.look_at_unfinished.ensures.unfinished
