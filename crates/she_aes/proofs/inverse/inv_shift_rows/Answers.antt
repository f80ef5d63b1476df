use Rattle.std.proofs.Common.{[], ◌∷◌}
use Rattle.std.proofs.lemmas.Simd.{pick_l_left}
use Rattle.she_aes.specs.Cipher.{inv_shift_rows}
use Rattle.she_aes.proofs.inverse.inv_shift_rows.Goals as goal

pub returns : goal.returns
unfolding inv_shift_rows
returns c =
    pick_l_left 0 c.args.state c.args.state 16 (0 ∷ 13 ∷ 10 ∷ 7 ∷ 4 ∷ 1 ∷ 14 ∷ 11 ∷ 8 ∷ 5 ∷ 2 ∷ 15 ∷ 12 ∷ 9 ∷ 6 ∷ 3 ∷ []) c.fits-state.0 tt
