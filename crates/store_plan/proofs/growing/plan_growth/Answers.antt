use Rattle.std.proofs.Common.{◌≡◌, ℕ, ◌+◌, List, [], ◌∷◌, refl, subst, ◌∙◌, arith}
use Rattle.std.specs.Int.{w16}
use Rattle.basics.proofs.CallerLemmas.{to_be_bytes-is}
use Rattle.cell_store.specs.Twin.{first_at}
use Rattle.store_plan.specs.declared.planning.Write.{Write}
use Rattle.store_plan.specs.Plans.{WritesAt}
use Rattle.store_plan.proofs.growing.plan_growth.Goals as goal

-- a write of the same bytes at the same place
same_write : (w : Write) (at to : ℕ) (old new : List ℕ) → at ≡ to → old ≡ new → WritesAt w at old → WritesAt w to new
same_write w at to old new place is p = subst (λ (b : List ℕ). WritesAt w to b) is (subst (λ n. WritesAt w n old) place p)

pub returns-clause-plans : goal.returns-clause-plans
returns-clause-plans c =
    let i = c.args.cell in
    let place : c.pair_place-at.result ≡ first_at i = c.pair_place-at.ensures in
    record {
      first = same_write c.write_of.result (c.pair_place-at.result + 1) (first_at i + 1) _ (0 ∷ c.args.payload.now) (omega (arith, place)) c.marked.ensures c.write_of.ensures.writes;
      second = same_write c.write_of-2.result c.pair_place-at.result (first_at i) (0xa7 ∷ []) (0xa7 ∷ []) place refl c.write_of-2.ensures.writes;
      third =
          subst (λ (b : List ℕ). WritesAt c.write_of-3.result 10 b) (c.to_be_bytes.ensures ∙ to_be_bytes-is w16 (i + 1)) c.write_of-3.ensures.writes;
      rests = record { first = c.write_of.ensures.rest; second = c.write_of-2.ensures.rest; third = c.write_of-3.ensures.rest };
    }
