-- The one freshness ahead with some low bits
use Rattle.std.proofs.Common.{◌≡◌, ℕ, ◌+◌, ◌-◌, ◌*◌, ◌/◌, ◌%◌, ◌^◌, ◌<◌, ◌≤◌, inl, inr, Option, Some, None, IfSome, IfNone, sym, ap, ◌∙◌, arith}
use Rattle.std.specs.Option.{SomeIff}
use Rattle.std.proofs.lemmas.Bool.{cases_lt}
use Rattle.std.proofs.lemmas.Nat.{mod-pow-add, mod-mul-add, shl-shr, pow_pos}
use Rattle.std.proofs.Math.Nat.{mod-lt, mod-eq_of_lt, mod-eq-sub-mod, add-mod-mod, mul-mod_left}
use Rattle.secured_pdu.specs.Frame.{AheadWithBits, TakesBits}

-- what shifts leave: the low bits
pub shifted : (v b s : ℕ) → b + s ≡ 64 → v * 2 ^ s % 18446744073709551616 / 2 ^ s ≡ v % 2 ^ b
shifted v b s sum =
    let whole : 2 ^ (b + s) ≡ 18446744073709551616 = ap (λ e. 2 ^ e) sum in
    let split : v * 2 ^ s % 2 ^ (b + s) ≡ (v * 2 ^ s / 2 ^ s % 2 ^ b) * 2 ^ s + v * 2 ^ s % 2 ^ s = mod-pow-add (v * 2 ^ s) b s in
    let high : (v * 2 ^ s / 2 ^ s % 2 ^ b) * 2 ^ s ≡ (v % 2 ^ b) * 2 ^ s = ap (λ q. (q % 2 ^ b) * 2 ^ s) (shl-shr v s) in
    let low : v * 2 ^ s % 2 ^ s ≡ 0 = mul-mod_left v (2 ^ s) in
    let moved : v * 2 ^ s % 2 ^ (b + s) ≡ (v % 2 ^ b) * 2 ^ s = omega (arith, split, high, low) in
    ap (λ n. v * 2 ^ s % n / 2 ^ s) (sym whole) ∙ ap (λ n. n / 2 ^ s) moved ∙ shl-shr (v % 2 ^ b) s

-- fewer low bits of the low bits
fewer_bits : (n b s : ℕ) → n % 2 ^ (s + b) % 2 ^ b ≡ n % 2 ^ b
fewer_bits n b s = ap (λ x. x % 2 ^ b) (mod-pow-add n s b) ∙ mod-mul-add (n / 2 ^ b % 2 ^ s) (2 ^ b) (n % 2 ^ b) (mod-lt n (pow_pos b))

-- the low bits of a number that is a value modulo 2^64, at these bits of what is added
pub low_reached : (counter y b t : ℕ) → b ≤ 64 → t < 2 ^ b → (counter + 1 + y) % 18446744073709551616 ≡ t → (counter + 1 + y % 2 ^ b) % 2 ^ b ≡ t
low_reached counter y b t most small e =
    let sum : 64 - b + b ≡ 64 = omega arith in
    let whole : 2 ^ (64 - b + b) ≡ 18446744073709551616 = ap (λ k. 2 ^ k) sum in
    add-mod-mod (counter + 1) y (2 ^ b)
    ∙ sym (fewer_bits (counter + 1 + y) b (64 - b))
    ∙ ap (λ n. (counter + 1 + y) % n % 2 ^ b) whole
    ∙ ap (λ n. n % 2 ^ b) e
    ∙ mod-eq_of_lt small

-- a number less than m above one with the same remainder is that one
nothing_more : (m a k : ℕ) → k < m → (a + k) % m ≡ a % m → k ≡ 0
nothing_more m a k less e =
    let small : a % m < m = mod-lt a (omega arith) in
    let turned : k + a ≡ a + k = omega arith in
    let same : (k + a % m) % m ≡ a % m = add-mod-mod k a m ∙ ap (λ n. n % m) turned ∙ e in
    elim (cases_lt (k + a % m) m) [
      | inl below ↦ (let is : (k + a % m) % m ≡ k + a % m = mod-eq_of_lt below in omega (arith, same, is))
      | inr over ↦
          let down : (k + a % m) % m ≡ (k + a % m - m) % m = mod-eq-sub-mod over in
          let is : (k + a % m - m) % m ≡ k + a % m - m = mod-eq_of_lt (omega (arith, less, small, over)) in
          omega (arith, same, down, is, less, small, over)
    ]

same_of_mod : (m a b : ℕ) → a ≤ b → b < a + m → a % m ≡ b % m → a ≡ b
same_of_mod m a b le near e =
    let more : a + (b - a) ≡ b = omega arith in
    let none : b - a ≡ 0 = nothing_more m a (b - a) (omega arith) (ap (λ n. n % m) more ∙ sym e) in
    omega arith

-- two numbers within m above another with the same remainder
within_same : (m c u v : ℕ) → c < u → u ≤ c + m → c < v → v ≤ c + m → u % m ≡ v % m → u ≡ v
within_same m c u v au nu av nv e = elim (cases_lt u v) [
  | inl less ↦ same_of_mod m u v (omega arith) (omega arith) e
  | inr more ↦ sym (same_of_mod m v u more (omega arith) (sym e))
]

-- a candidate is the only one
pub same_from_AheadWithBits : (c w b t u v : ℕ) → w ≤ 2 ^ b → AheadWithBits c w b t u → AheadWithBits c w b t v → u ≡ v
same_from_AheadWithBits c w b t u v small x y =
    within_same (2 ^ b) c u v x.above (let n = x.near in omega (arith, n, small)) y.above (let n = y.near in omega (arith, n, small)) (x.low_is ∙ sym y.low_is)

-- and it is the one so far above the counter's successor
pub ahead_at : (c w b t less v : ℕ) → w ≤ 2 ^ b → less < 2 ^ b → (c + 1 + less) % 2 ^ b ≡ t → AheadWithBits c w b t v → v ≡ c + 1 + less
ahead_at c w b t less v small below is x =
    within_same (2 ^ b) c v (c + 1 + less) x.above (let n = x.near in omega (arith, n, small)) (omega arith) (omega (arith, below)) (x.low_is ∙ sym is)

-- ---- what the sum of a counter says

pub ahead_if_some : (c w b t less : ℕ) (o : Option ℕ) → SomeIff o (c + (less + 1) < 18446744073709551616) (c + (less + 1)) → less < w → (c + 1 + less) % 2 ^ b ≡ t → IfSome o (AheadWithBits c w b t)
ahead_if_some c w b t less None h near is = tt
ahead_if_some c w b t less (Some v) (fits, e) near is =
    let turned : c + 1 + less ≡ v = omega (arith, e) in
    record {
      above = omega (arith, e);
      near = omega (arith, e, near);
      low_is = ap (λ n. n % 2 ^ b) (sym turned) ∙ is;
      fits = omega (arith, e, fits);
    }

pub none_if_none : (c w b t less : ℕ) (o : Option ℕ) → SomeIff o (c + (less + 1) < 18446744073709551616) (c + (less + 1)) → w ≤ 2 ^ b → less < 2 ^ b → (c + 1 + less) % 2 ^ b ≡ t → IfNone o ((v : ℕ) → ¬ AheadWithBits c w b t v)
none_if_none c w b t less None h small below is =
    λ v x. h (let e = ahead_at c w b t less v small below is x in let f = x.fits in omega (arith, e, f))
none_if_none c w b t less (Some v) h small below is = tt

-- ---- bits that were given

pub takes : (w b t last : ℕ) → 1 ≤ b → b ≤ 64 → last ≡ w - 1 → t % 2 ^ b ≡ t → last % 2 ^ b ≡ last → TakesBits w b t
takes w b t last least most is e f =
    let small : t % 2 ^ b < 2 ^ b = mod-lt t (pow_pos b) in
    let near : last % 2 ^ b < 2 ^ b = mod-lt last (pow_pos b) in
    record { bits_least = least; bits_most = most; truncated_fits = omega (arith, small, e); window_fits = omega (arith, near, f, is) }

pub last_fits : (w b t last : ℕ) → last ≡ w - 1 → TakesBits w b t → last % 2 ^ b ≡ last
last_fits w b t last is h = (let n = h.window_fits in let p : 0 < 2 ^ b = pow_pos b in mod-eq_of_lt (omega (arith, n, is, p)))
