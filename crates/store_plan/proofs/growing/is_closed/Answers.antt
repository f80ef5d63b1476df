use Rattle.std.proofs.Common.{◌≡◌, ℕ, ◌+◌, Bool, true, false, not, nat_eq, IsTrue, List, get_or, drop, refl, sym, ap, ◌∙◌, arith}
use Rattle.std.proofs.lemmas.Bool.{false≢true}
use Rattle.std.proofs.lemmas.List.{get_or-take, get_or-drop}
use Rattle.cell_store.specs.Layout.{part}
use Rattle.cell_store.specs.Twin.{is_live}
use Rattle.store_plan.proofs.growing.is_closed.Goals as goal

-- the gate is the first byte
gate : (x : List ℕ) (at : ℕ) → is_live (part at 34 x) ≡ nat_eq (get_or x at 0) 167
unfolding is_live
gate x at = ap (λ b. nat_eq b 167) (get_or-take 34 (drop at x) 0 0 (omega arith) ∙ (get_or-drop at x 0 0 ∙ (let e : at + 0 ≡ at = omega arith in ap (λ k. get_or x k 0) e)))

flips : (b live : Bool) → live ≡ b → (IsTrue (not b) → live ≡ false) × (live ≡ false → IsTrue (not b))
flips true live e = (λ t. absurd (false≢true t), λ f. absurd (false≢true (sym f ∙ e)))
flips false live e = (λ _. e, λ _. refl)

pub returns : goal.returns
returns c = flips (nat_eq (get_or c.args.image.now c.args.at 0) 167) (is_live (part c.args.at 34 c.args.image.now)) (gate c.args.image.now c.args.at)
