use Rattle.std.proofs.Common.{◌≡◌, ◌+◌, false, subst, sym, arith}
use Rattle.cell_store.specs.Layout.{part}
use Rattle.cell_store.specs.Twin.{first_at, second_at, is_live}
use Rattle.store_plan.proofs.growing.may_grow.Goals as goal

pub returns-then-is_closed : goal.returns-then-is_closed
returns-then-is_closed c =
    let x = c.args.image.now in
    let n = c.args.cells in
    let first : c.pair_place-at.result ≡ first_at n = c.pair_place-at.ensures in
    let second : c.pair_place-at.result + 34 ≡ second_at n = omega (arith, first) in (
      λ dead. record {
        free = record {
          first = subst (λ k. is_live (part k 34 x) ≡ false) first (c.is_closed.ensures.0 c.if-is_closed.true);
          second = subst (λ k. is_live (part k 34 x) ≡ false) second (c.is_closed-then-is_closed.ensures.0 dead);
        };
        after = c.ends_erased.ensures.0 c.if-not-ends_erased.false;
      },
      λ may. c.is_closed-then-is_closed.ensures.1 (subst (λ k. is_live (part k 34 x) ≡ false) (sym second) may.free.second),
    )
