use Rattle.std.proofs.Common.{refl}
use Rattle.file_disk.proofs.words.open_standing_disk.Goals as goal

pub returns-clause-disk : goal.returns-clause-disk
returns-clause-disk g c = record {
  disk = g.P.Opened.Disk.state c.in_ok-disk.disk;
  one = rw (c.in_ok-push.ensures.items, c.in_ok-disks.ensures.items) refl;
  opened = c.in_ok-disk.ensures.disk;
  tells = c.in_ok-disk.ensures.tells;
}
