-- The law of disks, for a disk in memory that tells its past. It is proved here because an `impl` takes the proof of a
-- law out of specs/ alone.
use Rattle.cut_disk.specs.declared.tape_disk.TapeDisk.{TapeDisk}
use Rattle.cut_disk.specs.Calls.{IsDisk}
use Rattle.cut_disk.specs.MemDisk.{contents}
use Rattle.cut_disk.specs.MemoryLaws.{contents_are_a_disk}
use Rattle.cut_disk.specs.TapeDisk.{tape_contents, tape_disk_of}

pub tape_is_a_disk : (disk : TapeDisk) → IsDisk (tape_disk_of (tape_contents disk))
tape_is_a_disk disk =
    let below = contents_are_a_disk (contents disk.disk) disk.disk.as_many_loose disk.disk.sized disk.disk.counted in
    record {
      sized = below.sized;
      counted = below.counted;
      quiet = λ q. let calm = below.quiet q in record { quiet = calm.quiet; below = calm.below };
      bytes_sized = below.bytes_sized;
      loose_sized = below.loose_sized;
      now = disk.newest;
    }
