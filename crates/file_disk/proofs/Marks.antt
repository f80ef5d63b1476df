-- What a call of a file leaves of the bytes that a disk over it tells.
use Rattle.std.proofs.Common.{◌≡◌, ℕ, ◌+◌, ◌≤◌, Bool, true, List, length, replicate, Option, Some, None, arith, refl, sym, ap, ◌∙◌}
use Rattle.std.specs.Prelude.{Result, Ok, Err, is_some, OnOk, OnErr}
use Rattle.std.proofs.lemmas.Bool.{false≢true}
use Rattle.std.proofs.lemmas.List.{length-replicate}
use Rattle.cut_disk.specs.State.{Told}
use Rattle.cut_disk.specs.Images.{splice, with_bytes, Tears}
use Rattle.cut_disk.proofs.CallerLemmas.{patched_alike, length-splice}
use Rattle.file_disk.specs.FileBytes.{TellsSize, IsInside, PutsBytes, PutsAny, with_marks}

-- a write makes the marks of its range, and no more of them
pub marked_more : {size : ℕ} (at count : ℕ) (loose : List Bool) {after : List Bool} → at + count ≤ size → length loose ≡ size
    → after ≡ splice at (replicate count true) loose → length after ≡ size
marked_more at count loose inside marked is =
    ap length is ∙ length-splice at (replicate count true) loose (omega (arith, marked, inside, length-replicate count true)) ∙ marked

-- a range of the disk lies in what its file tells
pub inside_told : {size : ℕ} {told : Option (List ℕ)} (at count : ℕ) → TellsSize size told → at + count ≤ size → IsInside at count told
inside_told at count tells inside bytes is = let sized = tells bytes is in omega (arith, sized, inside)

-- a write that is done, and none at all, put something in the range
any_of_put : {old new : Option (List ℕ)} (at : ℕ) (put : List ℕ) → PutsBytes at put old new → PutsAny at (length put) old new
any_of_put at put puts bytes is = record {
  bytes = splice at put bytes;
  patched = record { left = put; sized = refl; is = refl };
  now = puts bytes is;
}

pub any_of_same : {old new : Option (List ℕ)} (at count : ℕ) → new ≡ old → IsInside at count old → PutsAny at count old new
any_of_same at count same inside bytes is = record {
  bytes = bytes;
  patched = patched_alike at count bytes bytes (inside bytes is) refl (λ i h. refl) (λ i h l. refl);
  now = same ∙ is;
}

pub any_of_either : {V E : Type 0} {old new : Option (List ℕ)} (at : ℕ) (put : List ℕ) (r : Result V E) → OnOk r (PutsBytes at put old new)
    → OnErr r (PutsAny at (length put) old new) → PutsAny at (length put) old new
any_of_either at put (Ok v) puts torn = any_of_put at put puts
any_of_either at put (Err e) puts torn = torn

pub same_bytes : {new : Option (List ℕ)} {b c : List ℕ} → new ≡ Some b → new ≡ Some c → b ≡ c
same_bytes p q = cc

pub tells_put : {size count : ℕ} (at : ℕ) (old : Option (List ℕ)) {new : Option (List ℕ)} → is_some new ≡ is_some old → PutsAny at count old new
    → at + count ≤ size → TellsSize size old → TellsSize size new
tells_put at None some puts inside tells bytes is = absurd (false≢true (sym some ∙ ap is_some is))
tells_put at (Some b) some puts inside tells bytes is =
    let p = puts b refl in
    let sized = tells b refl in
    let few = p.patched.sized in
    ap length (sym (same_bytes p.now is) ∙ p.patched.is) ∙ length-splice at p.patched.left b (omega (arith, sized, few, inside)) ∙ sized

told_alike : {b c : List ℕ} {l m : List Bool} → b ≡ c → l ≡ m → with_marks (Some b) l ≡ with_marks (Some c) m
told_alike p q = rw (p, q) refl

-- what was put in the range, and that this is loose
put_marked : {new : Option (List ℕ)} {before : List Bool} {bytes : List ℕ} (at : ℕ) (left : List ℕ) (after : List Bool) (t : Told) → bytes ≡ t.bytes → before ≡ t.loose
    → new ≡ Some (splice at left bytes) → after ≡ splice at (replicate (length left) true) before → with_marks new after ≡ Some (with_bytes at left t)
put_marked at left after t b l is marks =
    ap (λ o. with_marks o after) is ∙ told_alike (ap (splice at left) b) (marks ∙ ap (splice at (replicate (length left) true)) l)

torn_marked : (old : Option (List ℕ)) {new : Option (List ℕ)} (before after : List Bool) (at count : ℕ) → PutsAny at count old new
    → after ≡ splice at (replicate count true) before → Tears at count (with_marks old before) (with_marks new after)
torn_marked None before after at count puts marks t is = absurd (cc)
torn_marked (Some bytes) before after at count puts marks t is =
    let b : bytes ≡ t.bytes = cc in
    let l : before ≡ t.loose = cc in
    let p = puts bytes refl in
    record {
      left = p.patched.left;
      sized = p.patched.sized;
      now = put_marked at p.patched.left after t b l (p.now ∙ ap (λ y. Some y) p.patched.is) (marks ∙ ap (λ n. splice at (replicate n true) before) (sym p.patched.sized));
    }

same_told : {x y : Told} → Some x ≡ Some y → x ≡ y
same_told p = cc

-- what a write left, of whatever answer, if the disk told the bytes of the file before it with these marks
pub tears_after : (old mid : Option (List ℕ)) {new : Option (List ℕ)} (before marks after : List Bool) (at count : ℕ)
    → with_marks mid after ≡ with_marks old marks → PutsAny at count mid new → marks ≡ splice at (replicate count true) before
    → Tears at count (with_marks old before) (with_marks new after)
tears_after None mid before marks after at count same puts loosened t is = absurd (cc)
tears_after (Some bytes) None before marks after at count same puts loosened t is = absurd (cc)
tears_after (Some bytes) (Some mid) before marks after at count same puts loosened t is =
    let both = same_told same in
    let b : mid ≡ bytes = ap (λ (x : Told). x.bytes) both in
    let l : after ≡ marks = ap (λ (x : Told). x.loose) both in
    torn_marked (Some mid) before after at count puts (l ∙ loosened) t (ap (λ x. with_marks (Some x) before) b ∙ is)

pub on_err : {V E P : Type 0} (r : Result V E) → P → OnErr r P
on_err (Ok v) p = tt
on_err (Err e) p = p
