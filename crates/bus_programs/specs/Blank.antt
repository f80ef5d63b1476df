-- Blank disks in memory (own)
use Rattle.std.specs.Prelude.{◌≡◌, ℕ, List, length, map, replicate, All}
use Rattle.cut_disk.specs.declared.mem_disk.MemDisk.{MemDisk}
use Rattle.cut_disk.specs.State.{DiskState}
use Rattle.cut_disk.specs.Memory.{fresh, disk_of}
use Rattle.cut_disk.specs.MemDisk.{contents}

-- so many disks of so many zero bytes each, none of them loose; nothing is armed on them, and nothing has failed
pub record AreBlank (count size : ℕ) (disks : List MemDisk) : Type 0 where
  pub count_is : length disks ≡ count
  pub blank : All (λ disk. contents disk ≡ fresh (replicate size 0)) disks

-- what one of them means
abbrev pub blank_state : ℕ → DiskState
blank_state size = disk_of (fresh (replicate size 0))

-- what disks in memory mean
abbrev pub disk_states : List MemDisk → List DiskState
disk_states disks = map (λ disk. disk_of (contents disk)) disks
