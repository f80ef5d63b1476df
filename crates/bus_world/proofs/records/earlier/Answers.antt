use Rattle.bus_world.proofs.Searching.{far_link}
use Rattle.bus_world.proofs.records.earlier.Goals as goal

pub returns-else-records-links : goal.returns-else-records-links
returns-else-records-links c =
    far_link c.args.records.now c.args.place c.args.freshness c.index-records-place.result c.index-records-links.result c.in-Some.links c.requires.linked c.requires.rises c.requires.inside
    c.index-records-place.is c.in-Some.is c.index-records-links.is c.if-records-links.false
