-- Arrivals join one another in one way.
use Rattle.std.proofs.Common.{◌≡◌, ℕ, zero, suc, ◌<◌, ◌≤◌, List, length, refl, sym, ◌∙◌, subst, arith, ⊎_elim}
use Rattle.std.specs.Prelude.{Option, None, Some}
use Rattle.std.proofs.lemmas.Bool.{cases_lt}
use Rattle.std.proofs.lemmas.List.{same_lists, get_or_default}
use Rattle.pdu_collection.specs.Collection.{Place}
use Rattle.pdu_collection.specs.Joining.{Arrival, partner_at, Joining}
use Rattle.pdu_collection.proofs.NextJoined.{Joins-same}

module _ (place : Place) (xs : List Arrival) (ps qs : List (Option ℕ)) (a : Joining place xs ps) (b : Joining place xs qs) where
  -- if the partners before are the same, so is this one
  here : (i : ℕ) → i < length xs → ((k : ℕ) → k < i → partner_at ps k ≡ partner_at qs k) → (p q : Option ℕ)
      → partner_at ps i ≡ p → partner_at qs i ≡ q → p ≡ q
  here i within same None None e f = refl
  here i within same (Some j) q e f =
      sym ((b.each i j within).1 (Joins-same place xs xs ps qs i j (λ k le. refl) same ((a.each i j within).0 e))) ∙ f
  here i within same None (Some j) e f =
      sym e ∙ (a.each i j within).1 (Joins-same place xs xs qs ps i j (λ k le. refl) (λ k lt. sym (same k lt)) ((b.each i j within).0 f))

  below : (n : ℕ) → n ≤ length xs → (k : ℕ) → k < n → partner_at ps k ≡ partner_at qs k
  below zero le k lt = absurd (omega (arith, lt))
  below (suc n) le k lt =
      ⊎_elim (λ (under : k < n). below n (omega (arith, le)) k under)
      (λ (over : n ≤ k).
      let is : k ≡ n = omega (arith, over, lt) in
      subst (λ m. partner_at ps m ≡ partner_at qs m) (sym is)
      (here n (omega (arith, le)) (below n (omega (arith, le))) (partner_at ps n) (partner_at qs n) refl refl))
      (cases_lt k n)

  pub same_partners : ps ≡ qs
  same_partners = same_lists ps qs (a.as_many ∙ sym b.as_many)
      (λ k d within. get_or_default ps k d None within ∙ below (length xs) (omega arith) k (omega (arith, within, a.as_many)) ∙ get_or_default qs k None d (omega (arith, within, a.as_many, b.as_many)))
