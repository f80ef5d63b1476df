use Rattle.std.proofs.Common.{arith, sym, ◌∙◌}
use Rattle.std.proofs.lemmas.Bool.{false≢true}
use Rattle.store_growing.proofs.looking.is_free.Goals as goal

pub returns-then-is_counted : goal.returns-then-is_counted
returns-then-is_counted c = (
  λ e. absurd (false≢true e),
  λ free. absurd (let u = free.uncounted in let counted = c.is_counted.ensures.0 c.if-is_counted.true in omega (arith, u, counted)),
)

pub returns-then-is_open : goal.returns-then-is_open
returns-then-is_open c = (
  λ e. absurd (false≢true e),
  λ free. absurd (false≢true (sym free.closed ∙ c.is_open.ensures.0 c.if-is_open.true)),
)
