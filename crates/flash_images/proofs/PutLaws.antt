-- What the writes of a put say.
use Rattle.std.proofs.Common.{◌≡◌, ◌⊎◌, inl, inr, ℕ, Bool, true, false, List, [], ◌∷◌, refl, sym, ap, ◌∙◌, arith}
use Rattle.cell_store.specs.declared.copies.Side.{Side}
use Rattle.cell_store.specs.declared.copies.Side.TheVariants.{First, Second}
use Rattle.cell_store.specs.Twin.{mark, next, is_live}
use Rattle.cell_store.specs.Copies.{other, side_at, copy}
use Rattle.store_plan.specs.declared.planning.Write.{Write}
use Rattle.store_plan.specs.declared.planning.Plan.{Plan}
use Rattle.store_plan.specs.Plans.{PlansPut, WritesAt}
use Rattle.flash_images.specs.Images.{WritesPut}

-- a place is that of one copy
pub one_side : (i j : ℕ) (s t : Side) → side_at i s ≡ side_at j t → i ≡ j
one_side i j First First e = omega (arith, e)
one_side i j First Second e = absurd (omega (arith, e))
one_side i j Second First e = absurd (omega (arith, e))
one_side i j Second Second e = omega (arith, e)

-- a plan of a put is one of the put of that cell
pub writes_put : (plan : Plan) (x c : List ℕ) (i : ℕ) → PlansPut plan x i c → WritesPut plan i c
writes_put plan x c i p = record {
  side = other p.side;
  closes = closes_of (is_live (copy x i (other p.side))) refl;
  fills = record {
    mark = next (mark (copy x i p.side));
    few = omega arith;
    sized = p.sized;
    fills = p.gated.fills;
  };
  opens = p.gated.opens;
} where
  closes_of : (live : Bool) → is_live (copy x i (other p.side)) ≡ live → (plan.first.size ≡ 0) ⊎ WritesAt plan.first (side_at i (other p.side)) (0 ∷ [])
  closes_of true is = inr (p.gated.closes is)
  closes_of false is = inl (ap (λ (w : Write). w.size) (p.gated.closed is))

-- and of no other cell
pub writes_once : (plan : Plan) (i j : ℕ) (c d : List ℕ) → WritesPut plan i c → WritesPut plan j d → i ≡ j
writes_once plan i j c d p q = one_side i j p.side q.side (sym p.opens.place ∙ q.opens.place)
