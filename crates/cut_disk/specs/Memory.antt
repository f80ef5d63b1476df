-- A disk in memory: what its bytes mean, and what each call makes of them.
use Rattle.std.specs.Prelude.{ℕ, ◌%◌, Bool, true, false, ◌&&◌, ◌==◌, nat_lt, if◌then◌else◌, List, length, map}
use Rattle.std.specs.Prelude.{replicate, slice_index, slice_index_or, Some, None}
use Rattle.std.specs.List.{range_with_len}
use Rattle.cut_disk.specs.declared.Torn.{Torn}
use Rattle.cut_disk.specs.declared.Torn.TheVariants.{Keep, Old, Half, Fill}
use Rattle.cut_disk.specs.declared.arming.Arms.{Arms}
use Rattle.cut_disk.specs.State.{Told, DiskState}
use Rattle.basics.specs.FaultCount.{last_count, counted}
use Rattle.cut_disk.specs.Arming.{no_arms, fails, after_call, after_cut, is_unarmed}
use Rattle.cut_disk.specs.Images.{splice}

-- the bytes as read, the bytes of the last sync, for each byte whether it is loose, which calls are to fail, how many
-- failed
pub record Contents : Type 0 where
  pub bytes : List ℕ
  pub synced : List ℕ
  pub loose : List Bool
  pub arms : Arms
  pub faults : ℕ

-- nothing is armed, nothing has failed, and no byte is loose
abbrev pub fresh : List ℕ → Contents
fresh bytes =
    record { bytes = bytes; synced = bytes; loose = replicate (length bytes) false; arms = no_arms; faults = 0 }

-- no call fails until one is armed
abbrev pub is_calm : Arms → ℕ → Bool
is_calm arms faults = is_unarmed arms && nat_lt faults last_count

-- the bytes as read, and which of them are loose
abbrev pub told_of : Contents → Told
told_of c = record { bytes = c.bytes; loose = c.loose }

-- what the disk means: it tells its bytes, and no past
abbrev pub disk_of : Contents → DiskState
disk_of c = record {
  size = length c.bytes;
  told = Some (told_of c);
  arms = c.arms;
  faults = c.faults;
  quiet = is_calm c.arms c.faults;
  past = None;
}

-- the count after a call
abbrev pub faults_after : Arms → ℕ → ℕ
faults_after arms faults = if fails arms then counted faults else faults

-- one call was counted
abbrev pub called : Contents → Contents
called c = record c { arms = after_call c.arms; faults = faults_after c.arms c.faults }

-- the bytes were placed, whether the write fails or not
abbrev pub after_write : ℕ → List ℕ → Contents → Contents
after_write at bytes c = record c {
  bytes = splice at bytes c.bytes;
  loose = splice at (replicate (length bytes) true) c.loose;
}

-- every byte outlasts a power cut
abbrev pub after_sync : Contents → Contents
after_sync c = record c { synced = c.bytes; loose = replicate (length c.bytes) false }

-- what a power cut leaves of a loose byte at this address
abbrev pub torn_byte : Torn → ℕ → ℕ → ℕ → ℕ
torn_byte Keep address read synced = read
torn_byte Old address read synced = synced
torn_byte Half address read synced = if address % 2 == 0 then read else synced
torn_byte (Fill byte) address read synced = byte

-- what a power cut leaves of the byte at this address
abbrev pub left_byte : Torn → List ℕ → List ℕ → List Bool → ℕ → ℕ
left_byte torn bytes synced loose address =
    if slice_index_or loose address false
    then torn_byte torn address (slice_index bytes address) (slice_index synced address)
    else slice_index bytes address

unfoldable pub left_bytes : Torn → List ℕ → List ℕ → List Bool → List ℕ
left_bytes torn bytes synced loose = map (left_byte torn bytes synced loose) (range_with_len 0 (length bytes))

-- the power was cut
abbrev pub cut : Torn → Contents → Contents
cut torn c = after_sync (record c { bytes = left_bytes torn c.bytes c.synced c.loose; arms = after_cut c.arms })
