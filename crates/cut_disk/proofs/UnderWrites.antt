-- What a power cut may leave under a write, the other way round.
use Rattle.std.proofs.Common.{◌≡◌, ℕ, ◌+◌, ◌≤◌, true, false, List, length, get_or, replicate, sym, ap, ◌∙◌, ⊎_elim, arith}
use Rattle.std.proofs.lemmas.Bool.{cases_lt, false≢true}
use Rattle.std.proofs.lemmas.List.{length-replicate, get_or-replicate}
use Rattle.cut_disk.specs.State.{Told}
use Rattle.cut_disk.specs.Images.{splice, Image, firm, with_bytes, UnderWrite}
use Rattle.cut_disk.proofs.CallerLemmas.{length-splice, get_or-splice_before, get_or-splice_in, get_or-splice_behind}

pub firm_is_an_image : {x y : List ℕ} → y ≡ x → Image (firm x) y
firm_is_an_image {x} {y} same = record { sized = ap length same; agrees = λ i h l. ap (λ (zs : List ℕ). get_or zs i 0) same }

module _ (at : ℕ) (ys zs : List ℕ) (t : Told) (before : List ℕ) (inside : at + length ys ≤ length t.bytes) (marked : length t.loose ≡ length t.bytes)
    (sized : length zs ≡ length ys) (image : Image t before) where
  patched_image : Image (with_bytes at ys t) (splice at zs before)
  patched_image =
      let fits : at + length zs ≤ length before = omega (arith, image.sized) in
      let marks_fit : at + length (replicate (length ys) true) ≤ length t.loose = omega (arith, length-replicate (length ys) true) in
      let all : length (splice at zs before) ≡ length t.bytes = length-splice at zs before fits ∙ image.sized in
      record {
        sized = all ∙ sym (length-splice at ys t.bytes inside);
        agrees = λ i h l.
            ⊎_elim
            (λ low.
            get_or-splice_before at zs before i 0 fits low
            ∙ image.agrees i (omega (arith, image.sized)) (sym (get_or-splice_before at (replicate (length ys) true) t.loose i false marks_fit low) ∙ l)
            ∙ sym (get_or-splice_before at ys t.bytes i 0 inside low))
            (λ from. ⊎_elim
            (λ to. absurd (false≢true (sym l ∙ get_or-splice_in at (replicate (length ys) true) t.loose i false marks_fit from (omega (arith, length-replicate (length ys) true)) ∙ get_or-replicate (length ys) _ true false (omega arith))))
            (λ high.
            get_or-splice_behind at zs before i 0 fits (omega arith)
            ∙ image.agrees i (omega (arith, image.sized, all)) (sym (get_or-splice_behind at (replicate (length ys) true) t.loose i false marks_fit (omega (arith, length-replicate (length ys) true))) ∙ l)
            ∙ sym (get_or-splice_behind at ys t.bytes i 0 inside high))
            (cases_lt i (at + length ys)))
            (cases_lt i at);
      }

-- an image from before with anything in the range is one under the write
pub image_of_under_write : (at : ℕ) (ys : List ℕ) (t : Told) (y : List ℕ) → at + length ys ≤ length t.bytes → length t.loose ≡ length t.bytes
    → UnderWrite at (length ys) t y → Image (with_bytes at ys t) y
image_of_under_write at ys t y inside marked under =
    rw under.patched.is (patched_image at ys under.patched.left t under.before inside marked under.patched.sized under.image)
