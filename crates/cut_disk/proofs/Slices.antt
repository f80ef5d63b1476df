-- What a write to a part of a slice leaves.
use Rattle.std.proofs.Common.{◌≡◌, ℕ, ◌+◌, ◌≤◌, List, length, arith, rules}
use borrow.Rule.Slice.PartMut.{put_mid}
use Rattle.std.proofs.lemmas.List.{places, same_lists}
use Rattle.cut_disk.specs.Images.{splice}

pub put_mid-splice : {X : Type 0} → (at k : ℕ) (xs ys : List X) → k ≡ length ys → at + length ys ≤ length xs → put_mid at k xs ys ≡ splice at ys xs
unfolding splice
put_mid-splice at k xs ys same inside = same_lists _ _ (search (rules, places)) (λ i d h. grind (arith, places))
