use Rattle.std.proofs.Common.{◌≡◌, ◌+◌, suc, sym, ap, ◌∙◌, arith}
use Rattle.std.proofs.Common.{Some, ℕ}
use Rattle.seal_laws.specs.Writes.{point_at}
use Rattle.seal_store.proofs.StartWrites.{point_closed, point_opened}
use Rattle.seal_store.proofs.starting.point_moved.Goals as goal

pub returns-then-sizes-found : goal.returns-then-sizes-found
returns-then-sizes-found c =
    let found = c.args.found.now in
    sym (point_closed c.args.sizes found found.latest.deed.body c.requires.moved c.if-sizes-found.true)

pub returns : goal.returns
returns c =
    let found = c.args.found.now in
    ap (λ (n : ℕ). point_at found.home found.generation n (Some found.home_next) 1) (let e : found.home_next + 1 ≡ suc found.home_next = omega arith in e)
    ∙ sym (point_opened c.args.sizes found found.latest.deed.body c.requires.moved c.if-sizes-found.false)
