use Rattle.std.proofs.Common.{◌≡◌, ℕ, ◌+◌, ◌%◌, ◌^◌, cond, leb, map, replicate, subst}
use Rattle.std.specs.Int.Bits.{bit_xor}
use Rattle.std.specs.Simd.Lanes.{zip2, sel_l, top}
use Rattle.she_aes.specs.Field.{mul}
use Rattle.she_aes.proofs.MixingLanes.{doubled}
use Rattle.she_aes.proofs.inverse.double.Goals as goal

pub returns : goal.returns
returns c =
    let v = c.args.bytes in
    subst (λ (n : ℕ). zip2 bit_xor (zip2 (λ a b. (a + b) % 2 ^ 8) v v) (sel_l (map (top 7) (zip2 (λ a b. cond (leb a b) 255 0) (replicate n 128) v)) (replicate n 27) (replicate n 0)) ≡ map (mul 2) v) c.fits-bytes.0 (doubled v c.fits-bytes.1)
