-- What holds of each element, and of each and each later one, by recursion
use Rattle.std.specs.Prelude.{◌≡◌, zero, suc, List, [], ◌∷◌, ◌++◌, All, AllPairs, Bool, true, false, cond, find, Some}
use Rattle.std.proofs.Common.{arith, refl, subst}
use Rattle.bus_laws.proofs.SoundSteps.{same_some}

abbrev pub Each : {A : Type 0} → (A → Type 0) → List A → Type 0
Each P [] = Unit {0}
Each P (x ∷ xs) = P x × Each P xs

abbrev pub Pairwise : {A : Type 0} → (A → A → Type 0) → List A → Type 0
Pairwise R [] = Unit {0}
Pairwise R (x ∷ xs) = Each (R x) xs × Pairwise R xs

pub All-Each : {A : Type 0} (P : A → Type 0) (xs : List A) → Each P xs → All P xs
All-Each P [] e k d inside = absurd (omega (arith, inside))
All-Each P (x ∷ xs) e zero d inside = e.0
All-Each P (x ∷ xs) e (suc k) d inside = All-Each P xs e.1 k d (omega (arith, inside))

pub AllPairs-Pairwise : {A : Type 0} (R : A → A → Type 0) (xs : List A) → Pairwise R xs → AllPairs R xs
AllPairs-Pairwise R [] p i j d before inside = absurd (omega (arith, inside))
AllPairs-Pairwise R (x ∷ xs) p i zero d before inside = absurd (omega (arith, before))
AllPairs-Pairwise R (x ∷ xs) p zero (suc j) d before inside = All-Each (R x) xs p.0 j d (omega (arith, inside))
AllPairs-Pairwise R (x ∷ xs) p (suc i) (suc j) d before inside = AllPairs-Pairwise R xs p.1 i j d (omega (arith, before)) (omega (arith, inside))

pub Each-map : {A : Type 0} (P Q : A → Type 0) → ((x : A) → P x → Q x) → (xs : List A) → Each P xs → Each Q xs
Each-map P Q f [] e = tt
Each-map P Q f (x ∷ xs) e = (f x e.0, Each-map P Q f xs e.1)

pub Each-push : {A : Type 0} (P : A → Type 0) (xs : List A) (y : A) → Each P xs → P y → Each P (xs ++ y ∷ [])
Each-push P [] y e p = (p, tt)
Each-push P (x ∷ xs) y e p = (e.0, Each-push P xs y e.1 p)

pub Pairwise-map : {A : Type 0} (R S : A → A → Type 0) → ((x y : A) → R x y → S x y) → (xs : List A) → Pairwise R xs → Pairwise S xs
Pairwise-map R S f [] p = tt
Pairwise-map R S f (x ∷ xs) p = (Each-map (R x) (S x) (f x) xs p.0, Pairwise-map R S f xs p.1)

-- what is found passes the test and is one of the list
pub find_each : {A : Type 0} (test : A → Bool) (P : A → Type 0) (xs : List A) (x : A) → Each P xs → find test xs ≡ Some x → (test x ≡ true) × P x
find_each test P [] x e f = cc
find_each {A} test P (y ∷ ys) x e f = by_test (test y) refl (λ f. find_each test P ys x e.1 f) f
  where
    by_test : (b : Bool) → test y ≡ b → (find test ys ≡ Some x → (test x ≡ true) × P x) → cond b (Some y) (find test ys) ≡ Some x → (test x ≡ true) × P x
    by_test true t rest f = let same : y ≡ x = same_some y x f in (subst (λ z. test z ≡ true) same t, subst P same e.0)
    by_test false t rest f = rest f

pub Each-All : {A : Type 0} (P : A → Type 0) (xs : List A) → All P xs → Each P xs
Each-All P [] all = tt
Each-All P (x ∷ xs) all = (all 0 x (omega arith), Each-All P xs (λ k d inside. all (suc k) d (omega (arith, inside))))
