use Rattle.std.proofs.Common.{◌≡◌, ℕ, ◌+◌, ◌≤◌, List, length, arith, rules}
use borrow.Rule.Slice.PartMut.{put_mid}
use Rattle.std.proofs.lemmas.List.{places, same_lists}
use Rattle.cut_disk.specs.Images.{splice}
use Rattle.file_disk.proofs.held_file.hold.Goals as goal

-- a write to a part of the held bytes
splice_of_part : {X : Type 0} → (at k : ℕ) (xs ys : List X) → k ≡ length ys → at + length ys ≤ length xs → put_mid at k xs ys ≡ splice at ys xs
unfolding splice
splice_of_part at k xs ys same inside = same_lists _ _ (search (rules, places)) (λ i d h. grind (arith, places))

pub returns : goal.returns
returns c = rw c.copy_from_slice.ensures.after (splice_of_part _ _ _ _ (omega arith) c.requires)
