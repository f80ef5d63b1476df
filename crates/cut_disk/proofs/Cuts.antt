-- A power cut after a write that lasts, and after one that may be torn.
use Rattle.std.proofs.Common.{◌≡◌, ℕ, ◌+◌, ◌≤◌, List, length, Option, Some, arith, ap, ◌∙◌}
use Rattle.cut_disk.specs.State.{Told}
use Rattle.cut_disk.specs.Images.{firm, LeavesAny, LeavesImage, CutsTo}
use Rattle.cut_disk.proofs.CallerLemmas.{image_of_firm, image_under_write}
use Rattle.cut_disk.specs.Lasting.{LeavesPatched}

-- if no byte is loose, a cut changes nothing
pub cut_of_firm : {x : List ℕ} {new : Option Told} → LeavesImage (firm x) new → new ≡ Some (firm x)
cut_of_firm cut = cut.now ∙ ap (λ y. Some (firm y)) (image_of_firm cut.image)

-- a cut leaves something in the range of the write, and elsewhere what it might have left before
pub cut_of_torn : {at count : ℕ} {t : Told} {mid new : Option Told} → at + count ≤ length t.bytes → length t.loose ≡ length t.bytes
    → LeavesAny at count t mid → CutsTo mid new → LeavesPatched at count t new
cut_of_torn {at} {count} {t} inside sized torn cut =
    let left = cut _ torn.now in
    let under = image_under_write at torn.left t left.left (omega (arith, torn.sized)) sized left.image in
    record {
      before = under.before;
      image = under.image;
      bytes = left.left;
      patched = record { left = under.patched.left; sized = under.patched.sized ∙ torn.sized; is = under.patched.is };
      now = left.now;
    }
