-- The definitions, tried on written-out disks.
use Rattle.std.proofs.Common.{◌≡◌, ℕ, Bool, true, false, List, [], ◌∷◌, replicate, refl}
use Rattle.cut_disk.specs.declared.Torn.{Torn}
use Rattle.cut_disk.specs.declared.Torn.TheVariants.{Keep, Old, Half, Fill}
use Rattle.cut_disk.specs.declared.arming.Arms.{Arms}
use Rattle.cut_disk.specs.Arming.{no_arms, fails, after_call, after_cut, with_stop, with_fail}
use Rattle.cut_disk.specs.Images.{splice}
use Rattle.cut_disk.specs.Memory.{fresh, after_write, cut, left_bytes}

-- what a cut leaves of four bytes that were written over zeros from this place on, and not synced
abbrev left_of : Torn → ℕ → List ℕ
left_of torn at = (cut torn (after_write at (1 ∷ 2 ∷ 3 ∷ 4 ∷ []) (fresh (replicate 6 0)))).bytes

kept : left_of Keep 0 ≡ 1 ∷ 2 ∷ 3 ∷ 4 ∷ 0 ∷ 0 ∷ []
unfolding splice left_bytes
kept = refl

lost : left_of Old 0 ≡ replicate 6 0
unfolding splice left_bytes
lost = refl

halved : left_of Half 0 ≡ 1 ∷ 0 ∷ 3 ∷ 0 ∷ 0 ∷ 0 ∷ []
unfolding splice left_bytes
halved = refl

-- even and odd are addresses of the disk, and not places in what was written
halved_from_one : left_of Half 1 ≡ 0 ∷ 0 ∷ 2 ∷ 0 ∷ 4 ∷ 0 ∷ []
unfolding splice left_bytes
halved_from_one = refl

filled : left_of (Fill 167) 0 ≡ 167 ∷ 167 ∷ 167 ∷ 167 ∷ 0 ∷ 0 ∷ []
unfolding splice left_bytes
filled = refl

-- which of the next calls are to fail
abbrev next_four : Arms → List Bool
next_four a =
    let b = after_call a in
    let c = after_call b in
    fails a ∷ fails b ∷ fails c ∷ fails (after_call c) ∷ []

stopped : next_four (with_stop 2 no_arms) ≡ false ∷ true ∷ true ∷ true ∷ []
stopped = refl

failed_once : next_four (with_fail 2 no_arms) ≡ false ∷ true ∷ false ∷ false ∷ []
failed_once = refl

-- a call that fails by a stop also counts the other arm down, and that one outlasts the cut
counted_down : next_four (after_cut (after_call (after_call (with_fail 3 (with_stop 1 no_arms))))) ≡ true ∷ false ∷ false ∷ false ∷ []
counted_down = refl

-- a stop that has begun goes on when another is armed, and a cut ends both
goes_on : next_four (with_stop 3 (after_call (with_stop 1 no_arms))) ≡ true ∷ true ∷ true ∷ true ∷ []
goes_on = refl

cut_ends_both : next_four (after_cut (with_stop 3 (after_call (with_stop 1 no_arms)))) ≡ false ∷ false ∷ false ∷ false ∷ []
cut_ends_both = refl
