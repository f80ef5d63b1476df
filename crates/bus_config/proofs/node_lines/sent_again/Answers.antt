use Rattle.std.proofs.Common.{[], ◌≡◌, arith, ◌+◌, List, ℕ, take, drop, ap, sym, ◌∙◌, rules}
use Rattle.std.proofs.lemmas.List.{drop_all}
use Rattle.bus_config.specs.declared.node_lines.NodeLine.{NodeLine}
use Rattle.bus_config.specs.Buses.{ids_sent, ids_sent_by, again_after}
use Rattle.bus_config.proofs.Sending.{node_of_drop, node_of_take}
use Rattle.bus_config.proofs.Again.{again_in_part, again_behind, differ_from_none, none_when, some_when}
use Rattle.bus_config.proofs.node_lines.sent_again.Goals as goal

pub returns-then-is_some-clause-value : goal.returns-then-is_some-clause-value
returns-then-is_some-clause-value c =
    let nodes = c.args.nodes.now in
    let place = c.loop-place.place in
    let node = c.index-nodes-place.result in
    let before = ids_sent (take place nodes) in
    let mine = ids_sent_by node.config.routes in
    let rest = ids_sent (drop (place + 1) nodes) in
    let routes : c.as_slice.result.now ≡ node.config.routes = search rules in
    let answer : again_after before mine ≡ c.again_in-again.result = sym (c.again_in-again.ensures ∙ ap (λ rs. again_after before (ids_sent_by rs)) routes) in
    let found = some_when c.again_in-again.result (sym c.is_some.ensures ∙ c.if-is_some.true) in
    found.1
    ∙ sym (c.loop-place.invariant
    ∙ ap (λ (l : List ℕ). again_after before l) (node_of_drop nodes place node c.loop-place-test.true (sym c.index-nodes-place.is))
    ∙ again_in_part before mine rest found.0 (answer ∙ found.1))

pub loop-place-preserved : goal.loop-place-preserved
loop-place-preserved c =
    let nodes = c.args.nodes.now in
    let place = c.loop-place.place in
    let node = c.index-nodes-place.result in
    let before = ids_sent (take place nodes) in
    let mine = ids_sent_by node.config.routes in
    let rest = ids_sent (drop (place + 1) nodes) in
    let routes : c.as_slice.result.now ≡ node.config.routes = search rules in
    let answer : again_after before mine ≡ c.again_in-again.result = sym (c.again_in-again.ensures ∙ ap (λ rs. again_after before (ids_sent_by rs)) routes) in
    c.loop-place.invariant
    ∙ ap (λ (l : List ℕ). again_after before l) (node_of_drop nodes place node c.loop-place-test.true (sym c.index-nodes-place.is))
    ∙ again_behind before mine rest (answer ∙ none_when c.again_in-again.result (sym c.is_some.ensures ∙ c.if-is_some.false))
    ∙ ap (λ (l : List ℕ). again_after l rest) (sym (node_of_take nodes place node c.loop-place-test.true (sym c.index-nodes-place.is)))

pub returns-clause-once : goal.returns-clause-once
returns-clause-once c none =
    let nodes = c.args.nodes.now in
    let place = c.loop-place.place in
    differ_from_none [] (ids_sent nodes) (λ i j d before inside. absurd (omega (arith, inside)))
    (c.loop-place.invariant ∙ ap (λ (ns : List NodeLine). again_after (ids_sent (take place nodes)) (ids_sent ns)) (drop_all place nodes c.loop-place-test.false))
