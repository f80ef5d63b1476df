-- Each step of a key wrap is undone, and comes of one register alone
use Rattle.std.specs.Int.Bits.{bit_xor, xor_self, xor_assoc, xor_zero_r}
use Rattle.std.proofs.Common.{◌≡◌, ℕ, zero, suc, ◌+◌, ◌*◌, ◌/◌, ◌%◌, ◌^◌, ◌<◌, List, [], ◌∷◌, ◌++◌, All, length, slice_index_or, sym, ap, ◌∙◌, arith}
use Rattle.std.proofs.lemmas.List.Elements.{All-cons, All-nil}
use Rattle.std.proofs.lemmas.Nat.{xor_lt}
use Rattle.basics.specs.Blocks.{IsBlock}
use Rattle.basics.specs.Numbers.{number_of, bytes_of}
use Rattle.basics.proofs.CallerLemmas.{IsBytes-bytes_of, number_of-lt, number_of-bytes_of-lt, bytes_of-number_of, length-bytes_of, number_of-append, same_bytes, same_number}
use Rattle.she_aes.specs.Cipher.{enc, dec, xor_blocks, zero_block}
use Rattle.she_aes.specs.Modes.{cbc, cbc_inverse}
use Rattle.she_aes.proofs.CallerLemmas.{cbc-cbc_inverse, cbc_inverse-cbc, dec-enc, IsBlock-enc, IsBlock-xor_blocks, IsBlock-zero_block}
use Rattle.unit_keys.specs.declared.wrapping.Register.{Register}
use Rattle.unit_keys.specs.Wrapped.{wrap_step, wrap_steps, first_register, register_bytes, wrapped}

-- a register of the code
pub record InHalves (r : Register) : Type 0 where
  pub check : r.check < 2 ^ 64
  pub first : r.first < 2 ^ 64
  pub second : r.second < 2 ^ 64

-- what is added twice is gone
pub twice : (a t : ℕ) → bit_xor (bit_xor a t) t ≡ a
twice a t = xor_assoc a t t ∙ ap (bit_xor a) (xor_self t) ∙ xor_zero_r a

once : (a b t : ℕ) → bit_xor a t ≡ bit_xor b t → a ≡ b
once a b t e = sym (twice a t) ∙ ap (λ x. bit_xor x t) e ∙ twice b t

-- the block of two halves is one of them alone
two_halves : (a b : ℕ) → a < 2 ^ 64 → b < 2 ^ 64 → a * 2 ^ 64 + b < 256 ^ 16
two_halves a b x y = omega (arith, x, y)

-- A block that is decrypted and encrypted again is that block: by the CBC mode of one block after zeros, in which the
-- same zeros are added twice.
encrypted_again : (key block : List ℕ) → IsBlock key → IsBlock block → IsBlock (dec key block) → enc key (dec key block) ≡ block
unfolding cbc cbc_inverse
encrypted_again key block k b d =
    let plain : List ℕ = dec key block in
    let z : List ℕ = zero_block in
    let first : List (List ℕ) → List ℕ = λ text. slice_index_or text 0 z in
    let all : (x : List ℕ) → IsBlock x → All IsBlock (x ∷ []) = λ x h. All-cons IsBlock x [] h (All-nil IsBlock) in
    let same : xor_blocks (xor_blocks plain z) z ≡ plain =
    ap (λ y. xor_blocks y z) (sym (dec-enc key (xor_blocks plain z) k (IsBlock-xor_blocks plain z d IsBlock-zero_block)))
    ∙ ap first (cbc_inverse-cbc key z (plain ∷ []) k IsBlock-zero_block (all plain d)) in
    ap (enc key) (sym same) ∙ ap first (cbc-cbc_inverse key z (block ∷ []) k (all block b))

-- the step leads to the register
pub stepped_back : (key : List ℕ) (t : ℕ) (r : Register) (check first : ℕ) → IsBlock key → InHalves r → t < 2 ^ 64
    → IsBlock (dec key (bytes_of 16 (bit_xor r.check t * 2 ^ 64 + r.second)))
    → number_of (dec key (bytes_of 16 (bit_xor r.check t * 2 ^ 64 + r.second))) ≡ check * 2 ^ 64 + first
    → wrap_step key t (record { check = check; first = first; second = r.first }) ≡ r
unfolding wrap_step
stepped_back key t r check first k fits small d e =
    let sum : ℕ = bit_xor r.check t in
    let back : ℕ = sum * 2 ^ 64 + r.second in
    let block : List ℕ = bytes_of 16 back in
    let high : sum < 2 ^ 64 = xor_lt 64 r.check t fits.check small in
    let low : r.second < 2 ^ 64 = fits.second in
    let same : bytes_of 16 (check * 2 ^ 64 + first) ≡ dec key block =
    ap (bytes_of 16) (sym e) ∙ bytes_of-number_of 16 (dec key block) d in
    let number : number_of (enc key (bytes_of 16 (check * 2 ^ 64 + first))) ≡ back =
    ap (λ x. number_of (enc key x)) same ∙ ap number_of (encrypted_again key block k (IsBytes-bytes_of 16 back) d)
    ∙ number_of-bytes_of-lt 16 back (two_halves sum r.second high low) in
    let first_half : back / 2 ^ 64 ≡ sum = omega (arith, low) in
    let last_half : back % 2 ^ 64 ≡ r.second = omega (arith, low) in
    rw number
    (ap (λ (c : ℕ). record { check = bit_xor c t; first = r.first; second = back % 2 ^ 64 }) first_half
    ∙ ap (λ (c : ℕ). record { check = c; first = r.first; second = back % 2 ^ 64 }) (twice r.check t)
    ∙ ap (λ (s : ℕ). record { check = r.check; first = r.first; second = s }) last_half)

-- a step keeps halves
pub InHalves-wrap_step : (key : List ℕ) (t : ℕ) (r : Register) → IsBlock key → InHalves r → t < 2 ^ 64 → InHalves (wrap_step key t r)
unfolding wrap_step
InHalves-wrap_step key t r k fits small =
    let block : List ℕ = enc key (bytes_of 16 (r.check * 2 ^ 64 + r.first)) in
    let below : number_of block < 256 ^ 16 = number_of-lt 16 block (IsBlock-enc key _ k) in
    record {
      check = xor_lt 64 (number_of block / 2 ^ 64) t (omega (arith, below)) small;
      first = fits.second;
      second = omega arith;
    }

-- and comes of one register alone
stepped_once : (key : List ℕ) (t : ℕ) (r s : Register) → IsBlock key → InHalves r → InHalves s → wrap_step key t r ≡ wrap_step key t s → r ≡ s
unfolding wrap_step
stepped_once key t r s k x y e =
    let from : ℕ = r.check * 2 ^ 64 + r.first in
    let other : ℕ = s.check * 2 ^ 64 + s.first in
    let block : List ℕ = enc key (bytes_of 16 from) in
    let other_block : List ℕ = enc key (bytes_of 16 other) in
    let high : number_of block / 2 ^ 64 ≡ number_of other_block / 2 ^ 64 = once _ _ t (ap (λ (w : Register). w.check) e) in
    let low : number_of block % 2 ^ 64 ≡ number_of other_block % 2 ^ 64 = ap (λ (w : Register). w.second) e in
    let number : number_of block ≡ number_of other_block = omega (arith, high, low) in
    let blocks : block ≡ other_block =
    same_bytes 16 block other_block (IsBlock-enc key _ k) (IsBlock-enc key _ k) number in
    let inputs : bytes_of 16 from ≡ bytes_of 16 other =
    sym (dec-enc key (bytes_of 16 from) k (IsBytes-bytes_of 16 from)) ∙ ap (dec key) blocks
    ∙ dec-enc key (bytes_of 16 other) k (IsBytes-bytes_of 16 other) in
    let a = x.check in
    let b = x.first in
    let c = y.check in
    let d = y.first in
    let same : from ≡ other = same_number 16 from other (two_halves r.check r.first a b) (two_halves s.check s.first c d) inputs in
    let checks : r.check ≡ s.check = omega (arith, same, b, d) in
    let firsts : r.first ≡ s.first = omega (arith, same, b, d) in
    ap (λ (n : ℕ). record { check = n; first = r.first; second = r.second }) checks
    ∙ ap (λ (n : ℕ). record { check = s.check; first = n; second = r.second }) firsts
    ∙ ap (λ (n : ℕ). record { check = s.check; first = s.first; second = n }) (ap (λ (w : Register). w.first) e)

pub InHalves-wrap_steps : (key : List ℕ) (n : ℕ) (r : Register) → IsBlock key → InHalves r → n < 2 ^ 64 → InHalves (wrap_steps key n r)
unfolding wrap_steps
InHalves-wrap_steps key zero r k fits small = fits
InHalves-wrap_steps key (suc n) r k fits small =
    InHalves-wrap_step key (suc n) (wrap_steps key n r) k (InHalves-wrap_steps key n r k fits (omega arith)) small

pub steps_once : (key : List ℕ) (n : ℕ) (r s : Register) → IsBlock key → InHalves r → InHalves s → n < 2 ^ 64 → wrap_steps key n r ≡ wrap_steps key n s → r ≡ s
unfolding wrap_steps
steps_once key zero r s k x y small e = e
steps_once key (suc n) r s k x y small e =
    let less : n < 2 ^ 64 = omega arith in
    steps_once key n r s k x y less
    (stepped_once key (suc n) (wrap_steps key n r) (wrap_steps key n s) k (InHalves-wrap_steps key n r k x less) (InHalves-wrap_steps key n s k y less) e)

-- the number of a register's bytes
number_is : (r : Register) → InHalves r → number_of (register_bytes r) ≡ (r.check * 2 ^ 64 + r.first) * 2 ^ 64 + r.second
number_is r fits =
    let a : List ℕ = bytes_of 8 r.check in
    let b : List ℕ = bytes_of 8 r.first in
    let c : List ℕ = bytes_of 8 r.second in
    number_of-append (a ++ b) c
    ∙ ap (λ n. n * 256 ^ length c + number_of c) (number_of-append a b)
    ∙ ap (λ n. (number_of a * 256 ^ length b + number_of b) * 256 ^ n + number_of c) (length-bytes_of 8 r.second)
    ∙ ap (λ n. (number_of a * 256 ^ n + number_of b) * 2 ^ 64 + number_of c) (length-bytes_of 8 r.first)
    ∙ ap (λ n. (n * 2 ^ 64 + number_of b) * 2 ^ 64 + number_of c) (number_of-bytes_of-lt 8 r.check fits.check)
    ∙ ap (λ n. (r.check * 2 ^ 64 + n) * 2 ^ 64 + number_of c) (number_of-bytes_of-lt 8 r.first fits.first)
    ∙ ap (λ n. (r.check * 2 ^ 64 + r.first) * 2 ^ 64 + n) (number_of-bytes_of-lt 8 r.second fits.second)

-- registers with the same bytes are the same
pub same_register : (r s : Register) → InHalves r → InHalves s → register_bytes r ≡ register_bytes s → r ≡ s
same_register r s x y e =
    let n : (r.check * 2 ^ 64 + r.first) * 2 ^ 64 + r.second ≡ (s.check * 2 ^ 64 + s.first) * 2 ^ 64 + s.second =
    sym (number_is r x) ∙ ap number_of e ∙ number_is s y in
    let b = x.first in
    let c = x.second in
    let d = y.first in
    let f = y.second in
    let seconds : r.second ≡ s.second = omega (arith, n, c, f) in
    let uppers : r.check * 2 ^ 64 + r.first ≡ s.check * 2 ^ 64 + s.first = omega (arith, n, c, f) in
    let firsts : r.first ≡ s.first = omega (arith, uppers, b, d) in
    let checks : r.check ≡ s.check = omega (arith, uppers, b, d) in
    ap (λ (n : ℕ). record { check = n; first = r.first; second = r.second }) checks
    ∙ ap (λ (n : ℕ). record { check = s.check; first = n; second = r.second }) firsts
    ∙ ap (λ (n : ℕ). record { check = s.check; first = s.first; second = n }) seconds

pub InHalves-first_register : (plain : List ℕ) → IsBlock plain → InHalves (first_register plain)
InHalves-first_register plain b =
    let below : number_of plain < 256 ^ 16 = number_of-lt 16 plain b in
    record { check = omega arith; first = omega (arith, below); second = omega arith }

-- keys that are wrapped to the same text
pub wrapped_once : (key plain other : List ℕ) → IsBlock key → IsBlock plain → IsBlock other → wrapped key plain ≡ wrapped key other → plain ≡ other
unfolding wrapped
wrapped_once key plain other k b c e =
    let x : InHalves (first_register plain) = InHalves-first_register plain b in
    let y : InHalves (first_register other) = InHalves-first_register other c in
    let small : 12 < 2 ^ 64 = omega arith in
    let last : wrap_steps key 12 (first_register plain) ≡ wrap_steps key 12 (first_register other) =
    same_register _ _ (InHalves-wrap_steps key 12 _ k x small) (InHalves-wrap_steps key 12 _ k y small) e in
    let same : first_register plain ≡ first_register other = steps_once key 12 _ _ k x y small last in
    let high : number_of plain / 2 ^ 64 ≡ number_of other / 2 ^ 64 = ap (λ (r : Register). r.first) same in
    let low : number_of plain % 2 ^ 64 ≡ number_of other % 2 ^ 64 = ap (λ (r : Register). r.second) same in
    same_bytes 16 plain other b c (omega (arith, high, low))

-- the register at first of a block whose number is told by halves
pub first_is : (plain : List ℕ) (first second : ℕ) → number_of plain ≡ first * 2 ^ 64 + second → second < 2 ^ 64 → first_register plain ≡ record { check = 0xa6a6a6a6a6a6a6a6; first = first; second = second }
first_is plain first second e low =
    let firsts : number_of plain / 2 ^ 64 ≡ first = omega (arith, e, low) in
    let seconds : number_of plain % 2 ^ 64 ≡ second = omega (arith, e, low) in
    ap (λ (x : ℕ). record { check = 0xa6a6a6a6a6a6a6a6; first = x; second = number_of plain % 2 ^ 64 }) firsts
    ∙ ap (λ (x : ℕ). record { check = 0xa6a6a6a6a6a6a6a6; first = first; second = x }) seconds

-- the key of a register at whose first check value is the initial one
pub first_of : (r : Register) → InHalves r → r.check ≡ 0xa6a6a6a6a6a6a6a6 → first_register (bytes_of 16 (r.first * 2 ^ 64 + r.second)) ≡ r
first_of r fits initial =
    let n : ℕ = r.first * 2 ^ 64 + r.second in
    let a = fits.first in
    let b = fits.second in
    first_is (bytes_of 16 n) r.first r.second (number_of-bytes_of-lt 16 n (two_halves r.first r.second a b)) b
    ∙ ap (λ (x : ℕ). record { check = x; first = r.first; second = r.second }) (sym initial)

-- the register at first of the key that this text wraps is the one that twelve steps lead to it
pub only_before : (key plain : List ℕ) (r before : Register) → IsBlock key → IsBlock plain → InHalves r → InHalves before → wrap_steps key 12 before ≡ r → wrapped key plain ≡ register_bytes r → first_register plain ≡ before
unfolding wrapped
only_before key plain r before k b x y steps e =
    let small : 12 < 2 ^ 64 = omega arith in
    let z : InHalves (first_register plain) = InHalves-first_register plain b in
    let last : wrap_steps key 12 (first_register plain) ≡ r = same_register _ r (InHalves-wrap_steps key 12 _ k z small) x e in
    steps_once key 12 (first_register plain) before k z y small (last ∙ sym steps)
