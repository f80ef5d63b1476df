use Rattle.std.proofs.Common.{◌≡◌, subst, arith}
use Rattle.key_campaign.specs.Places.{ReadSoFar}
use Rattle.key_campaign.proofs.PlacesSoFar.{none_read, read_all}
use Rattle.key_campaign.proofs.places.read_places.Goals as goal

pub loop-place-init : goal.loop-place-init
loop-place-init g c = none_read (g.C.Cells.state c.args.cells.now).cells c.empty-places.result c.empty-places.ensures

pub returns-clause-places : goal.returns-clause-places
returns-clause-places g c =
    let cells = (g.C.Cells.state c.args.cells.now).cells in
    let whole : c.loop-place.place ≡ 256 = omega (arith, c.loop-place-test.false, c.loop-place.auto.place-end) in
    read_all cells c.loop-place.places c.requires (subst (λ n. ReadSoFar cells n c.loop-place.places) whole c.loop-place.invariant)
