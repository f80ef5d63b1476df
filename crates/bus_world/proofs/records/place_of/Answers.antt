use Rattle.std.proofs.Common.{subst}
use Rattle.bus_world.specs.Records.{UpTo}
use Rattle.bus_world.proofs.Searching.{up_to_latest, none_up_to, up_to_next}
use Rattle.bus_world.proofs.records.place_of.Goals as goal

pub loop-next-init : goal.loop-next-init
loop-next-init c = up_to_latest c.args.records.now c.args.id c.args.freshness c.args.latest c.requires.latest

pub loop-next-preserved-then-record-freshness-2 : goal.loop-next-preserved-then-record-freshness-2
loop-next-preserved-then-record-freshness-2 c =
    none_up_to c.args.records.now c.args.id c.args.freshness c.in-Some.place c.index-records-place.result c.requires.rises
    (subst (λ o. UpTo c.args.records.now c.args.id c.args.freshness o) c.in-Some.is c.loop-next.invariant) c.index-records-place.is c.if-record-freshness-2.true

pub loop-next-preserved : goal.loop-next-preserved
loop-next-preserved c =
    up_to_next c.args.records.now c.args.id c.args.freshness c.in-Some.place c.index-records-place.result c.earlier-next.result
    (subst (λ o. UpTo c.args.records.now c.args.id c.args.freshness o) c.in-Some.is c.loop-next.invariant) c.index-records-place.is c.if-record-freshness.false c.earlier-next.ensures
