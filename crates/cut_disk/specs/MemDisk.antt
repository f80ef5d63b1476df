-- What a disk in memory holds.
use Rattle.cut_disk.specs.declared.mem_disk.MemDisk.{MemDisk}
use Rattle.cut_disk.specs.Memory.{Contents}

abbrev pub contents : MemDisk → Contents
contents disk = record {
  bytes = disk.bytes.items;
  synced = disk.synced.items;
  loose = disk.loose.items;
  arms = disk.arms;
  faults = disk.faults;
}
