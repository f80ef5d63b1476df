use Rattle.std.proofs.Common.{◌∙◌, arith}
use Rattle.std.proofs.lemmas.List.{length-set}
use Rattle.rathonsi_c.proofs.OpeningLaws.{opens_next, rest_next}
use Rattle.rathonsi_c.proofs.opening.open_each.Goals as goal

pub loop-k-preserved : goal.loop-k-preserved
loop-k-preserved c =
    let routes = c.args.routes.now in
    let now = c.loop-k.routes in
    let k = c.loop-k.k in
    let new = c.rathonsi_route_open-status.new.route in
    let same = c.loop-k.invariant.count in
    record {
      count = length-set now k new ∙ same;
      opened = opens_next routes now c.args.image.now k _ new c.rathonsi_route_open-status.result (let t = c.loop-k-test.true in omega arith) (c.requires k (let t = c.loop-k-test.true in omega arith))
          c.loop-k.invariant.opened c.loop-k.invariant.rest c.rathonsi_route_open-status.ensures.answer c.rathonsi_route_open-status.ensures.opened;
      rest = rest_next routes now k new c.loop-k.invariant.rest;
    }
