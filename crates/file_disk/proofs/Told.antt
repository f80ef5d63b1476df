-- What is known of a disk over a file that was opened just now
use Rattle.std.proofs.Common.{ℕ, replicate, Some, false, refl, sym, ap, ◌∙◌}
use Rattle.file_disk.specs.FileDisk.{FileContents, file_disk_of, IsJustOpened}
use Rattle.file_disk.specs.NamedDisks.{IsFreshFileDisk, TellsFirmBytes}

pub fresh_file : (file : FileContents) → IsJustOpened file → IsFreshFileDisk (file_disk_of file)
fresh_file file opened = record { file = file; over = refl; opened = opened }

pub tells_firm : (file : FileContents) → IsJustOpened file → TellsFirmBytes (file_disk_of file)
tells_firm file opened = record {
  bytes = opened.bytes;
  sized = opened.sized;
  told = ap (λ (c : FileContents). c.told) opened.fresh
      ∙ ap (λ (n : ℕ). Some (record { bytes = opened.bytes; loose = replicate n false })) (sym opened.sized);
}
