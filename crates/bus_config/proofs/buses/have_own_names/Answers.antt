use Rattle.std.proofs.Common.{take, sym, ap, ◌∙◌}
use Rattle.bus_config.specs.Buses.{place_named}
use Rattle.bus_config.proofs.Again.{none_when, some_when}
use Rattle.bus_config.proofs.Named.{own_more, not_own, named_more}
use Rattle.bus_config.proofs.buses.have_own_names.Goals as goal

pub returns-then-is_some-clause-own : goal.returns-then-is_some-clause-own
returns-then-is_some-clause-own c =
    let found = some_when c.place_named.result (sym c.is_some.ensures ∙ c.if-is_some.true) in
    let node = c.index-nodes-place.result in
    let asked = c.place_named.ensures.value ∙ ap (λ name. place_named (take c.loop-place.place c.args.nodes.now) name) c.bytes.ensures.value in
    (λ h. cc, λ own. absurd (not_own c.args.nodes.now c.loop-place.place found.0 node c.loop-place-test.true (sym c.index-nodes-place.is) (sym asked ∙ found.1) own))

pub loop-place-preserved : goal.loop-place-preserved
loop-place-preserved c =
    let node = c.index-nodes-place.result in
    let asked = c.place_named.ensures.value ∙ ap (λ name. place_named (take c.loop-place.place c.args.nodes.now) name) c.bytes.ensures.value in
    let none = none_when c.place_named.result (sym c.is_some.ensures ∙ c.if-is_some.false) in (
      own_more c.args.nodes.now c.loop-place.place node c.loop-place-test.true (sym c.index-nodes-place.is) c.loop-place.invariant.0 (sym asked ∙ none),
      named_more c.args.nodes.now c.loop-place.place node c.loop-place-test.true (sym c.index-nodes-place.is) c.loop-place.invariant.1 c.bytes.ensures.named,
    )
