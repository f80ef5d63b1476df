-- The law of disks, for a disk over a file. It is proved here because an `impl` takes the proof of a law out of specs/
-- alone.
use Rattle.std.proofs.Common.{◌≡◌, ℕ, ◌^◌, ◌<◌, ◌≤◌, Bool, List, length, Option, Some, None, refl, sym}
use Rattle.std.proofs.Common.{◌∙◌}
use Rattle.std.proofs.lemmas.Bool.{false≢true}
use Rattle.basics.specs.FaultCount.{last_count}
use Rattle.cut_disk.specs.State.{Told}
use Rattle.cut_disk.specs.Calls.{IsDisk}
use Rattle.file_disk.specs.FileBytes.{TellsSize, with_marks}
use Rattle.file_disk.specs.FileDisk.{FileContents, file_disk_of}

pub marked_bytes : {size : ℕ} (told : Option (List ℕ)) (loose : List Bool) (t : Told) → TellsSize size told
    → with_marks told loose ≡ Some t → length t.bytes ≡ size
marked_bytes None loose t tells is = absurd (cc)
marked_bytes (Some bytes) loose t tells is =
    let same : bytes ≡ t.bytes = cc in
    rw (← same) (tells bytes refl)

pub marked_loose : {size : ℕ} (told : Option (List ℕ)) (loose : List Bool) (t : Told) → length loose ≡ size
    → with_marks told loose ≡ Some t → length t.loose ≡ size
marked_loose None loose t marked is = absurd (cc)
marked_loose (Some bytes) loose t marked is =
    let same : loose ≡ t.loose = cc in
    rw (← same) marked

pub file_is_a_disk : (c : FileContents) (told : Option (List ℕ)) (loose : List Bool) → c.told ≡ with_marks told loose
    → c.size < 2 ^ 64 → c.faults ≤ last_count → TellsSize c.size told → length loose ≡ c.size → IsDisk (file_disk_of c)
file_is_a_disk c told loose tells sized counted as_told marked = record {
  sized = sized;
  counted = counted;
  quiet = λ q. absurd (false≢true q);
  bytes_sized = λ t is. marked_bytes told loose t as_told (sym tells ∙ is);
  loose_sized = λ t is. marked_loose told loose t marked (sym tells ∙ is);
  now = λ all is. absurd (cc);
}
