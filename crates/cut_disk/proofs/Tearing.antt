-- What a power cut leaves of the contents of a disk in memory is one of its images, and firm.
use Rattle.std.proofs.Common.{◌≡◌, ℕ, ◌<◌, Bool, false, List, length, Some, arith, refl, ap, ◌∙◌}
use Rattle.std.specs.Prelude.{replicate, if◌then◌else◌}
use Rattle.std.proofs.lemmas.List.FromFn.{length-map-range_with_len, get_or-map-range_with_len}
use Rattle.cut_disk.specs.declared.Torn.{Torn}
use Rattle.cut_disk.specs.Images.{Image, CutsTo}
use Rattle.cut_disk.specs.Memory.{Contents, disk_of, left_byte, left_bytes}

not_loose : (b : Bool) (x y : ℕ) → b ≡ false → (if b then x else y) ≡ y
not_loose b x y h = rw h refl

left_bytes_image : (torn : Torn) (c : Contents) → Image (record { bytes = c.bytes; loose = c.loose }) (left_bytes torn c.bytes c.synced c.loose)
unfolding left_bytes
left_bytes_image torn c = record {
  sized = length-map-range_with_len (left_byte torn c.bytes c.synced c.loose) 0 (length c.bytes);
  agrees = λ i h firm.
      let below : i < length c.bytes = omega (arith, length-map-range_with_len (left_byte torn c.bytes c.synced c.loose) 0 (length c.bytes)) in
      get_or-map-range_with_len (left_byte torn c.bytes c.synced c.loose) 0 (length c.bytes) i i 0 below (omega arith) ∙ not_loose _ _ _ firm;
}

-- what a power cut leaves is an image, and firm
pub cut_leaves : (torn : Torn) (c : Contents) (bytes : List ℕ) (loose : List Bool) → bytes ≡ left_bytes torn c.bytes c.synced c.loose
    → loose ≡ replicate (length bytes) false → CutsTo (disk_of c).told (Some (record { bytes = bytes; loose = loose }))
cut_leaves torn c bytes loose left none t is =
    let same : record { bytes = c.bytes; loose = c.loose } ≡ t = cc in
    record {
      left = bytes;
      image = rw (left, ← same) (left_bytes_image torn c);
      now = ap (λ l. Some (record { bytes = bytes; loose = l })) none;
    }
