use Rattle.std.proofs.Common.{sym, subst}
use Rattle.freshness_routes.specs.declared.routes.Direction.{Direction}
use Rattle.freshness_store.proofs.CallerLemmas.{one_bound}
use Rattle.rathonsi_c.specs.Images.{IdIsHeld}
use Rattle.rathonsi_c.proofs.looking.is_duplicate.Goals as goal

pub returns-in-Some : goal.returns-in-Some
returns-in-Some c =
    let image = c.args.image.now in
    let cell = c.args.cell in
    let held = c.in-Some.held in (
      λ yes. record { id = held.id; direction = held.direction; bound = held.bound; held = c.in-Some.ensures.some; taken = c.id_is_held.ensures.0 yes },
      λ d.
          let one = one_bound c.args.bytes.now held.id d.id held.direction d.direction held.bound d.bound c.in-Some.ensures.some d.held in
          c.id_is_held.ensures.1
          (subst (λ i. IdIsHeld image cell cell i held.direction) (sym one.0) (subst (λ (w : Direction). IdIsHeld image cell cell d.id w) (sym one.1) d.taken)),
    )
