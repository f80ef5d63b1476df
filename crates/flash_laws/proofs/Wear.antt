-- How often the banks were erased: each as often as every other, except for one, and except for one a copy that was
-- lost.
use Rattle.std.proofs.Common.{◌≡◌, ◌≢◌, ◌⊎◌, inl, inr, ℕ, suc, ◌+◌, ◌-◌, ◌<◌, ◌≤◌, Bool, if◌then◌else◌, sym, ap, subst, ◌∙◌, arith}
use Rattle.std.proofs.lemmas.Bool.{cases_eq}
use Rattle.std.proofs.lemmas.Bool.Decides.{eqb_tells}
use Rattle.flash_laws.specs.Lives.{next_bank}

-- how often each bank was erased, and how many copies were lost
pub record Wear : Type 0 where
  pub worn : ℕ → ℕ
  pub lost : ℕ

-- Each bank had `rounds` erases, those from this bank on one more, unless it is bank 0; and none has more than that
-- except for one a copy that was lost, and `more`.
pub record Spent (banks : ℕ) (w : Wear) (more bank : ℕ) : Type 0 where
  pub rounds : ℕ
  pub low : (x : ℕ) → x < banks → rounds ≤ w.worn x
  pub low_turn : (x : ℕ) → x < banks → 0 < bank → bank ≤ x → suc rounds ≤ w.worn x
  pub high : (x : ℕ) → x < banks → (bank ≡ 0) ⊎ (x < bank) → w.worn x ≤ rounds + (w.lost + more)
  pub high_turn : (x : ℕ) → x < banks → w.worn x ≤ suc rounds + (w.lost + more)

pub spent_even : (banks : ℕ) (w : Wear) (more bank one other : ℕ) → Spent banks w more bank → one < banks → other < banks
    → w.worn one ≤ w.worn other + 1 + (w.lost + more)
spent_even banks w more bank one other s in_one in_other =
    let a = s.high_turn one in_one in
    let b = s.low other in_other in
    omega (arith, a, b)

-- no erase, and at least as much is allowed
pub spent_as : (banks : ℕ) (w w' : Wear) (more more' bank : ℕ) → ((x : ℕ) → w'.worn x ≡ w.worn x) → w.lost + more ≤ w'.lost + more'
    → Spent banks w more bank → Spent banks w' more' bank
spent_as banks w w' more more' bank same allowed s = record {
  rounds = s.rounds;
  low = λ x inside. let h = s.low x inside in let e = same x in omega (arith, h, e);
  low_turn = λ x inside positive turn. let h = s.low_turn x inside positive turn in let e = same x in omega (arith, h, e);
  high = λ x inside late. let h = s.high x inside late in let e = same x in omega (arith, h, e, allowed);
  high_turn = λ x inside. let h = s.high_turn x inside in let e = same x in omega (arith, h, e, allowed);
}

-- one bank was erased once more
pub record Bumps (target : ℕ) (w w' : Wear) : Type 0 where
  pub at : w'.worn target ≡ suc (w.worn target)
  pub others : (x : ℕ) → x ≢ target → w'.worn x ≡ w.worn x

bumped : (target x : ℕ) (w w' : Wear) → Bumps target w w' → (w.worn x ≤ w'.worn x) × (w'.worn x ≤ suc (w.worn x))
bumped target x w w' b = elim (cases_eq x target) [
  | inl here ↦ (let e : w'.worn x ≡ suc (w.worn x) = subst (λ z. w'.worn z ≡ suc (w.worn z)) (sym here) b.at in (omega (arith, e), omega (arith, e)))
  | inr there ↦ (let e = b.others x there in (omega (arith, e), omega (arith, e)))
]

-- an erase of any bank, if one more is allowed
pub spent_more : (banks : ℕ) (w w' : Wear) (more more' bank target : ℕ) → Bumps target w w' → suc (w.lost + more) ≤ w'.lost + more'
    → Spent banks w more bank → Spent banks w' more' bank
spent_more banks w w' more more' bank target b allowed s = record {
  rounds = s.rounds;
  low = λ x inside. let h = s.low x inside in let e = bumped target x w w' b in omega (arith, h, e.0);
  low_turn = λ x inside positive turn. let h = s.low_turn x inside positive turn in let e = bumped target x w w' b in omega (arith, h, e.0);
  high = λ x inside late. let h = s.high x inside late in let e = bumped target x w w' b in omega (arith, h, e.1, allowed);
  high_turn = λ x inside. let h = s.high_turn x inside in let e = bumped target x w w' b in omega (arith, h, e.1, allowed);
}

-- the next bank
pub next_cases : (banks bank : ℕ) → ((bank ≡ 0) × (next_bank banks bank ≡ banks - 1)) ⊎ ((bank ≢ 0) × (suc (next_bank banks bank) ≡ bank))
next_cases banks bank = elim (eqb_tells bank 0) [
  | inl first ↦ inl (first.1, ap (λ (b : Bool). if b then banks - 1 else bank - 1) first.0)
  | inr further ↦ inr (
    further.1,
    (
        let e : next_bank banks bank ≡ bank - 1 = ap (λ (b : Bool). if b then banks - 1 else bank - 1) further.0 in
        let ne = further.1 in omega (arith, e, ne)),
  )
]

pub next_inside : (banks bank : ℕ) → 2 ≤ banks → bank < banks → next_bank banks bank < banks
next_inside banks bank two inside = elim (next_cases banks bank) [
  | inl first ↦ omega (arith, first.1, two)
  | inr further ↦ omega (arith, further.1, inside)
]

pub next_other : (banks bank : ℕ) → 2 ≤ banks → bank < banks → next_bank banks bank ≢ bank
next_other banks bank two inside = λ same. elim (next_cases banks bank) [
  | inl first ↦ omega (arith, first.0, first.1, same, two)
  | inr further ↦ omega (arith, further.1, same)
]

-- an erase of the next bank, which is then in its turn
module _ (banks : ℕ) (w w' : Wear) (more bank : ℕ) (two : 2 ≤ banks) (inside : bank < banks) (b : Bumps (next_bank banks bank) w w') (kept : w'.lost ≡ w.lost) (s : Spent banks w more bank) where
  now : (x : ℕ) → x ≡ next_bank banks bank → w'.worn x ≡ suc (w.worn x)
  now x is = subst (λ z. w'.worn z ≡ suc (w.worn z)) (sym is) b.at

  -- from bank 0 to the last one
  spent_last : bank ≡ 0 → next_bank banks bank ≡ banks - 1 → Spent banks w' more (next_bank banks bank)
  spent_last zero last = record {
    rounds = s.rounds;
    low = λ x in_x. let h = s.low x in_x in let e = bumped (next_bank banks bank) x w w' b in omega (arith, h, e.0);
    low_turn = λ x in_x positive turn. let e = now x (omega (arith, in_x, turn, last)) in let h = s.low x in_x in omega (arith, e, h);
    high = λ x in_x late. elim late [
      | inl at_zero ↦ absurd (omega (arith, at_zero, last, two))
      | inr below ↦ (let e = b.others x (λ same. omega (arith, same, below)) in let h = s.high x in_x (inl zero) in omega (arith, h, e, kept))
    ];
    high_turn = λ x in_x. let h = s.high x in_x (inl zero) in let e = bumped (next_bank banks bank) x w w' b in omega (arith, h, e.1, kept);
  }

  -- from bank 1 to bank 0: the round is over
  spent_round : bank ≡ 1 → next_bank banks bank ≡ 0 → Spent banks w' more (next_bank banks bank)
  spent_round one zero = record {
    rounds = suc s.rounds;
    low = λ x in_x. elim (cases_eq x 0) [
      | inl is ↦ (let e = now x (is ∙ sym zero) in let h = s.low x in_x in omega (arith, e, h))
      | inr ne ↦ (let h = s.low_turn x in_x (omega (arith, one)) (omega (arith, one, ne)) in let e = bumped (next_bank banks bank) x w w' b in omega (arith, h, e.0))
    ];
    low_turn = λ x in_x positive turn. absurd (omega (arith, positive, zero));
    high = λ x in_x late. elim (cases_eq x 0) [
      | inl is ↦ (let h = s.high x in_x (inr (omega (arith, is, one))) in let e = bumped (next_bank banks bank) x w w' b in omega (arith, h, e.1, kept))
      | inr ne ↦ (let h = s.high_turn x in_x in let e = b.others x (λ same. ne (same ∙ zero)) in omega (arith, h, e, kept))
    ];
    high_turn = λ x in_x. let h = s.high_turn x in_x in let e = bumped (next_bank banks bank) x w w' b in omega (arith, h, e.1, kept);
  }

  spent_down : suc (next_bank banks bank) ≡ bank → next_bank banks bank ≢ 0 → Spent banks w' more (next_bank banks bank)
  spent_down down some = record {
    rounds = s.rounds;
    low = λ x in_x. let h = s.low x in_x in let e = bumped (next_bank banks bank) x w w' b in omega (arith, h, e.0);
    low_turn = λ x in_x positive turn. elim (cases_eq x (next_bank banks bank)) [
      | inl is ↦ (let e = now x is in let h = s.low x in_x in omega (arith, e, h))
      | inr ne ↦ (let h = s.low_turn x in_x (omega (arith, down)) (omega (arith, down, ne, turn)) in let e = bumped (next_bank banks bank) x w w' b in omega (arith, h, e.0))
    ];
    high = λ x in_x late. elim late [
      | inl zero ↦ absurd (some zero)
      | inr below ↦ (let h = s.high x in_x (inr (omega (arith, below, down))) in let e = b.others x (λ same. omega (arith, same, below)) in omega (arith, h, e, kept))
    ];
    high_turn = λ x in_x. elim (cases_eq x (next_bank banks bank)) [
      | inl is ↦ (let h = s.high x in_x (inr (omega (arith, is, down))) in let e = bumped (next_bank banks bank) x w w' b in omega (arith, h, e.1, kept))
      | inr ne ↦ (let h = s.high_turn x in_x in let e = b.others x ne in omega (arith, h, e, kept))
    ];
  }

  pub spent_next : Spent banks w' more (next_bank banks bank)
  spent_next = elim (next_cases banks bank) [
    | inl first ↦ spent_last first.0 first.1
    | inr further ↦ elim (cases_eq (next_bank banks bank) 0) [
      | inl zero ↦ spent_round (let d = further.1 in omega (arith, zero, d)) zero
      | inr some ↦ spent_down further.1 some
    ]
  ]
