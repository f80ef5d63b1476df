-- A chain of deeds, and what it makes of cells.
use Rattle.std.proofs.Common.{◌≡◌, ℕ, zero, suc, ◌+◌, ◌-◌, ◌<◌, ◌≤◌, Option, Some, None, List, [], ◌∷◌, ◌++◌, length, take, drop, set, get_or, refl, sym, ap, subst, ◌∙◌, arith}
use Rattle.std.proofs.lemmas.List.{append-nil}
use Rattle.std.proofs.lemmas.Option.{same_Some}
use Rattle.seal_parts.specs.declared.SealLine.{SealLine}
use Rattle.seal_parts.specs.declared.LineBody.TheVariants.{Does}
use Rattle.seal_parts.specs.declared.LogDeed.{LogDeed}
use Rattle.seal_logs.specs.declared.PlaceRead.{PlaceRead}
use Rattle.seal_logs.specs.declared.LogSizes.{LogSizes}
use Rattle.seal_logs.specs.Reads.{ReadsDeed, IsChain, MakesOf, after_body}

does_same : (d e : LogDeed) → Does d ≡ Does e → d ≡ e
does_same d e h = cc

-- a place is read as one deed
pub one_deed : (p : PlaceRead) (g : ℕ) (d e : LogDeed) → ReadsDeed p g d → ReadsDeed p g e → d ≡ e
one_deed p g d e a b = does_same d e (ap (λ (z : SealLine). z.body) (same_Some _ _ (sym a ∙ b)))

-- ---- the next deed of a chain

module _ (s : LogSizes) (places : ℕ → PlaceRead) (g limit at : ℕ) where
  pub chain_at : (ks : List ℕ) → IsChain s places g limit (Some at) ks → (s.cells ≤ at) × ((at < limit) × ((deed : LogDeed) × (ReadsDeed (places at) g deed × ((rest : List ℕ) × IsChain s places g at deed.prev rest))))
  chain_at [] h = absurd h
  chain_at (k ∷ ks) h = (h.1.0, (h.1.1.0, (h.1.1.1.0, (h.1.1.1.1.0, (ks, h.1.1.1.1.1)))))

-- no more deed
pub chain_ends : (s : LogSizes) (places : ℕ → PlaceRead) (g limit : ℕ) (ks : List ℕ) → IsChain s places g limit None ks → ks ≡ []
chain_ends s places g limit [] h = refl
chain_ends s places g limit (k ∷ ks) h = absurd h

-- each place of a chain has its deed
pub chain_deed : (s : LogSizes) (places : ℕ → PlaceRead) (g limit : ℕ) (last : Option ℕ) (ks : List ℕ) → IsChain s places g limit last ks → (i : ℕ) → i < length ks
    → (get_or ks i 0 < limit) × ((deed : LogDeed) × ReadsDeed (places (get_or ks i 0)) g deed)
chain_deed s places g limit last [] h i below = absurd (omega arith)
chain_deed s places g limit None (k ∷ ks) h i below = absurd h
chain_deed s places g limit (Some at) (k ∷ ks) h zero below =
    (omega (arith, h.0, h.1.1.0), (h.1.1.1.0, subst (λ z. ReadsDeed (places z) g h.1.1.1.0) (sym h.0) h.1.1.1.1.0))
chain_deed s places g limit (Some at) (k ∷ ks) h (suc i) below =
    let more = chain_deed s places g at h.1.1.1.0.prev ks h.1.1.1.1.1 i (omega (arith, below)) in
    ((let a = more.0 in let b = h.1.1.0 in omega (arith, a, b)), more.1)

take_more : (xs : List ℕ) (i x : ℕ) (ks : List ℕ) → i < length xs → take i xs ++ x ∷ ks ≡ take (suc i) (set xs i x) ++ ks
take_more [] i x ks below = absurd (omega arith)
take_more (y ∷ xs) zero x ks below = refl
take_more (y ∷ xs) (suc i) x ks below = ap (λ (zs : List ℕ). y ∷ zs) (take_more xs i x ks (omega (arith, below)))

-- one deed more was followed
module _ (s : LogSizes) (places : ℕ → PlaceRead) (g : ℕ) (last : Option ℕ) (xs : List ℕ) (limit count at later : ℕ) (deed : LogDeed) (is : later ≡ count + 1) (room : count < length xs)
    (from : s.cells ≤ at) (below : at < limit) (reads : ReadsDeed (places at) g deed) where
  pub followed : ((ks : List ℕ) → IsChain s places g limit (Some at) ks → IsChain s places g s.places last (take count xs ++ ks))
      → (ks : List ℕ) → IsChain s places g at deed.prev ks → IsChain s places g s.places last (take later (set xs count at) ++ ks)
  followed done ks h = subst (λ z. IsChain s places g s.places last (take z (set xs count at) ++ ks)) (let e : suc count ≡ later = omega (arith, is) in e)
      (subst (λ (zs : List ℕ). IsChain s places g s.places last zs) (take_more xs count at ks room) (done (at ∷ ks) (refl, (from, (below, (deed, (reads, h)))))))

  pub follows_only : ((ks : List ℕ) → IsChain s places g s.places last ks → (rest : List ℕ) × IsChain s places g limit (Some at) rest)
      → (ks : List ℕ) → IsChain s places g s.places last ks → (rest : List ℕ) × IsChain s places g at deed.prev rest
  follows_only only ks h =
      let there = chain_at s places g limit at (only ks h).0 (only ks h).1 in
      let more = there.1.1.1.1 in
      (more.0, subst (λ (d : LogDeed). IsChain s places g at d.prev more.0) (one_deed (places at) g there.1.1.0 deed there.1.1.1.0 reads) more.1)

-- all were followed
pub chain_whole : (s : LogSizes) (places : ℕ → PlaceRead) (g : ℕ) (last : Option ℕ) (xs : List ℕ) (limit n count : ℕ) (next : Option ℕ) → next ≡ None → n ≡ count
    → ((ks : List ℕ) → IsChain s places g limit next ks → IsChain s places g s.places last (take n xs ++ ks)) → IsChain s places g s.places last (take count xs)
chain_whole s places g last xs limit n count next none e done =
    subst (λ k. IsChain s places g s.places last (take k xs)) e
    (subst (λ (zs : List ℕ). IsChain s places g s.places last zs) (append-nil (take n xs))
    (done [] (subst (λ (o : Option ℕ). IsChain s places g limit o []) (sym none) tt)))

-- ---- what the deeds make of cells

pub drop_at : (xs : List ℕ) (i : ℕ) → i < length xs → drop i xs ≡ get_or xs i 0 ∷ drop (suc i) xs
drop_at [] i below = absurd (omega arith)
drop_at (x ∷ xs) zero below = refl
drop_at (x ∷ xs) (suc i) below = drop_at xs i (omega (arith, below))

pub drop_all : (xs : List ℕ) (n : ℕ) → length xs ≤ n → drop n xs ≡ []
drop_all [] zero far = refl
drop_all [] (suc n) far = refl
drop_all (x ∷ xs) zero far = absurd (omega arith)
drop_all (x ∷ xs) (suc n) far = drop_all xs n (omega (arith, far))

pub makes_more : (places : ℕ → PlaceRead) (g : ℕ) (xs : List ℕ) (i next at : ℕ) (deed : LogDeed) (cells between now : List (List ℕ)) → i < length xs → next ≡ i + 1
    → at ≡ get_or xs (length xs - 1 - i) 0 → ReadsDeed (places at) g deed → now ≡ after_body deed.body between
    → MakesOf places g (drop (length xs - i) xs) cells between → MakesOf places g (drop (length xs - next) xs) cells now
makes_more places g xs i next at deed cells between now below e is reads made before =
    let j : ℕ = length xs - 1 - i in
    let inside : j < length xs = omega (arith, below) in
    subst (λ z. MakesOf places g (drop z xs) cells now) (let f : j ≡ length xs - next = omega (arith, below, e) in f)
    (subst (λ (zs : List ℕ). MakesOf places g zs cells now) (sym (drop_at xs j inside)) (
      deed,
      (
        subst (λ z. ReadsDeed (places z) g deed) is reads,
        (
          between,
          (subst (λ z. MakesOf places g (drop z xs) cells between) (let f : length xs - i ≡ suc j = omega (arith, below) in f) before, made),
        ),
      ),
    ))
