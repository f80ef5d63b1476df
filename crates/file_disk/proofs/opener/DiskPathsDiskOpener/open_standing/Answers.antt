use Rattle.file_disk.proofs.Told.{fresh_file, tells_firm}
use Rattle.file_disk.specs.FileDisk.{file_contents}
use Rattle.file_disk.proofs.opener.DiskPathsDiskOpener.open_standing.Goals as goal

pub returns-clause-disk : goal.returns-clause-disk
returns-clause-disk c = fresh_file (file_contents c.in_ok-disk.disk) c.in_ok-disk.ensures

pub returns-clause-tells : goal.returns-clause-tells
returns-clause-tells c = tells_firm (file_contents c.in_ok-disk.disk) c.in_ok-disk.ensures
