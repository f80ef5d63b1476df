use Rattle.std.proofs.Common.{◌≡◌, ◌++◌, ℕ, true, false, List, take, refl, sym, ◌∙◌, subst, arith}
use Rattle.std.proofs.lemmas.List.{length-take}
use Rattle.std.specs.Prelude.{Result, Ok, Err, IsOk, OnOk}
use Rattle.line_stream.proofs.Cutting.{HasNoFeed, kept_front, no_feed-append, no_feed-take}
use Rattle.line_stream.proofs.unended.UnendedLine.keep.Goals as goal

if_ok : {A E : Type 0} (r : Result A E) (P : Type 0) → IsOk r → OnOk r P → P
if_ok (Ok _) P is p = p
if_ok (Err _) P is p = let clash : false ≡ true = is in cc

pub invariant_of-self : goal.invariant_of-self
invariant_of-self c =
    let line : List ℕ = c.self.inside.line.items in
    let bytes : List ℕ = c.args.bytes.now in
    let added = if_ok c.try_extend_from_slice.result _ (c.try_extend_from_slice.ensures.variant.1 (omega (arith, c.len.ensures.value, c.len.ensures.fits, length-take c.min.result c.args.bytes.now))) c.try_extend_from_slice.ensures.ok in
    let kept : c.try_extend_from_slice.new.self.items ≡ take 4097 (line ++ bytes) = added ∙ kept_front 4097 c.min.result line bytes (omega (arith, c.len.ensures.value, c.len.ensures.fits)) (omega (arith, c.len.ensures.value, c.len.ensures.fits)) in
    let free : HasNoFeed (line ++ bytes) = no_feed-append line bytes c.self.invariant c.requires in
    subst HasNoFeed (sym kept) (no_feed-take 4097 (line ++ bytes) free)

pub returns : goal.returns
returns c =
    let line : List ℕ = c.self.inside.line.items in
    let bytes : List ℕ = c.args.bytes.now in
    let added = if_ok c.try_extend_from_slice.result _ (c.try_extend_from_slice.ensures.variant.1 (omega (arith, c.len.ensures.value, c.len.ensures.fits, length-take c.min.result c.args.bytes.now))) c.try_extend_from_slice.ensures.ok in
    let kept : c.try_extend_from_slice.new.self.items ≡ take 4097 (line ++ bytes) = added ∙ kept_front 4097 c.min.result line bytes (omega (arith, c.len.ensures.value, c.len.ensures.fits)) (omega (arith, c.len.ensures.value, c.len.ensures.fits)) in
    rw (← c.self.view_is) (rw kept refl)
