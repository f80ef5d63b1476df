-- The pairs are those of their rule
use Rattle.std.proofs.Common.{◌≡◌, ℕ, ◌-◌, ◌<◌, ◌≤◌, get_or, Bool, true, not, ◌&&◌, ◌||◌, ◌==◌, nat_le, Contains, ◌↔◌, IsTrue, refl, sym, ap, ◌∙◌, arith, subst, inl, inr}
use Rattle.std.specs.List.{range_with_len}
use Rattle.std.proofs.lemmas.Bool.{and_parts, or_cases, eqb-true}
use Rattle.std.proofs.lemmas.Bool.Decides.{nat_tests, Decides-eqb}
use Rattle.std.proofs.lemmas.List.FromFn.{get_or-range_with_len}
use Rattle.key_slots.specs.Authority.{pairs, Authorises, is_pair}
use Rattle.key_slots.proofs.CallerLemmas.{is_pair_listed, passes_at}

-- the rule as a test
abbrev by_rule : ℕ × ℕ → Bool
by_rule p = nat_le 1 p.0 && (nat_le p.0 13 && ((p.1 == 1) || (((p.0 == 3) && (p.1 == 2)) || (not (p.0 == 3) && (p.1 == p.0)))))

rule_of_test : (target auth : ℕ) → by_rule (target, auth) ≡ true → Authorises target auth
rule_of_test target auth e = grind (arith, nat_tests)

pub rule_of_pair : (target auth : ℕ) → Contains pairs (target, auth) → Authorises target auth
rule_of_pair target auth c =
    rule_of_test target auth (ap by_rule (sym c.2) ∙ passes_at by_rule pairs c.0 (target, auth) c.1 refl)

-- the pairs of a target from 1 on
abbrev authorities : ℕ → Bool
authorities target = is_pair target 1 && ((target == 3) || is_pair target target)

pair_of_target : (target : ℕ) → 1 ≤ target → target ≤ 13 → authorities target ≡ true
unfolding is_pair
pair_of_target target low high =
    let within : target - 1 < 13 = omega arith in
    let here : get_or (range_with_len 1 13) (target - 1) 0 ≡ target = get_or-range_with_len 1 13 (target - 1) 0 within ∙ omega arith in
    ap authorities (sym here) ∙ passes_at authorities (range_with_len 1 13) (target - 1) 0 within refl

three_and_two : is_pair 3 2 ≡ true
unfolding is_pair
three_and_two = refl

pub pair_of_rule : (target auth : ℕ) → Authorises target auth → Contains pairs (target, auth)
pair_of_rule target auth r =
    let both = and_parts (is_pair target 1) ((target == 3) || is_pair target target) (pair_of_target target r.0 r.1) in
    let With : ℕ → Type 0 = λ a. Contains pairs (target, a) in
    elim r.2 [
      | inl master ↦ subst With (sym master) (is_pair_listed target 1 both.0)
      | inr (inl second) ↦
          let Of : ℕ → Type 0 = λ t. Contains pairs (t, auth) in
          let Three : ℕ → Type 0 = λ a. Contains pairs (3, a) in
          subst Of (sym second.0) (subst Three (sym second.1) (is_pair_listed 3 2 three_and_two))
      | inr (inr own) ↦ elim (or_cases (target == 3) (is_pair target target) both.1) [
        | inl three ↦ absurd (own.0 (eqb-true target 3 three))
        | inr pair ↦ subst With (sym own.1) (is_pair_listed target target pair)
      ]
    ]

-- an answer that is true exactly if the rule allows it is right of the pairs
decides : (answer : Bool) (target auth : ℕ) → (answer ≡ true → Authorises target auth)
    → (Authorises target auth → answer ≡ true) → IsTrue answer ↔ Contains pairs (target, auth)
decides answer target auth to from = (λ h. pair_of_rule target auth (to h), λ p. from (rule_of_pair target auth p))

-- the same of equal numbers
pub of_same : (answer : Bool) (x y target auth : ℕ) → x ≡ target → y ≡ auth → IsTrue answer ↔ Contains pairs (x, y)
    → IsTrue answer ↔ Contains pairs (target, auth)
of_same answer x y target auth e f h =
    let First : ℕ → Type 0 = λ n. IsTrue answer ↔ Contains pairs (n, y) in
    let Second : ℕ → Type 0 = λ n. IsTrue answer ↔ Contains pairs (target, n) in
    subst Second f (subst First e h)

module _ (target auth : ℕ) (updated : target ≡ 0 → ⊥) (slot : target < 14) where
  pub by_master : auth ≡ 1 → IsTrue true ↔ Contains pairs (target, auth)
  by_master master = decides true target auth (λ _. (omega arith, omega arith, inl master)) (λ _. refl)

  module _ (other : auth ≡ 1 → ⊥) where
    pub by_second : target ≡ 3 → IsTrue (auth == 2) ↔ Contains pairs (target, auth)
    by_second three = decides (auth == 2) target auth
        (λ h. (omega arith, omega arith, inr (inl (three, eqb-true auth 2 h))))
        (λ r. elim r.2 [
          | inl master ↦ absurd (other master)
          | inr (inl second) ↦ (Decides-eqb auth 2).1 second.1
          | inr (inr own) ↦ absurd (own.0 three)
        ])

    pub by_own : (target ≡ 3 → ⊥) → IsTrue (auth == target) ↔ Contains pairs (target, auth)
    by_own not_three = decides (auth == target) target auth
        (λ h. (omega arith, omega arith, inr (inr (not_three, eqb-true auth target h))))
        (λ r. elim r.2 [
          | inl master ↦ absurd (other master)
          | inr (inl second) ↦ absurd (not_three second.0)
          | inr (inr own) ↦ (Decides-eqb auth target).1 own.1
        ])
