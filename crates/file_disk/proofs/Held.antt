-- What a call of the file below leaves of the bytes that memory holds of it.
use Rattle.std.proofs.Common.{◌≡◌, ℕ, ◌+◌, ◌≤◌, min, Bool, true, false, List, length, Option, Some, None, arith, refl, sym, ap, ◌∙◌}
use Rattle.std.specs.Prelude.{is_some}
use Rattle.std.proofs.lemmas.Bool.{false≢true}
use Rattle.std.proofs.lemmas.List.{length-replicate}
use Rattle.cut_disk.proofs.CallerLemmas.{length-splice}
use Rattle.file_disk.specs.FileBytes.{IsInside, PutsAny}
use Rattle.file_disk.specs.FileCalls.{FileCall}
use Rattle.file_disk.specs.HeldFile.{HeldContents, HoldsFirst}
use Rattle.file_disk.proofs.Marks.{same_bytes}

-- a range of the held bytes lies in what the file below tells
pub inside_part : {n : ℕ} {told : Option (List ℕ)} (at count : ℕ) → IsInside 0 n told → at + count ≤ n → IsInside at count told
inside_part at count inside fits bytes is = let sized = inside bytes is in omega (arith, sized, fits)

-- and a write leaves the file below as long as it was
pub inside_put : {n count : ℕ} (at : ℕ) (old : Option (List ℕ)) {new : Option (List ℕ)} → is_some new ≡ is_some old → PutsAny at count old new → at + count ≤ n
    → IsInside 0 n old → IsInside 0 n new
inside_put at None some puts fits inside bytes is = absurd (false≢true (sym some ∙ ap is_some is))
inside_put at (Some b) some puts fits inside bytes is =
    let p = puts b refl in
    let sized = inside b refl in
    let few = p.patched.sized in
    let kept = ap length (sym (same_bytes p.now is) ∙ p.patched.is) ∙ length-splice at p.patched.left b (omega (arith, sized, few, fits)) in
    omega (arith, sized, kept)

-- what is held of a file
most_first : (is_open : Bool) (n size : ℕ) → (is_open ≡ true → n ≡ min size 131072) → (is_open ≡ false → n ≡ 65536) → n ≤ 131072
most_first true n size opened none = let is = opened refl in omega (arith, is)
most_first false n size opened none = let is = none refl in omega (arith, is)

pub holds_few : {size : ℕ} {calls : Option (List FileCall)} {told : Option (List ℕ)} (held : HeldContents) → HoldsFirst size calls told held → length held.bytes ≤ 131072
holds_few {size} held first =
    most_first held.is_open (length held.bytes) size first.sized (λ closed. ap length (first.none closed) ∙ length-replicate {A = ℕ} 65536 0)
