use Rattle.std.proofs.Common.{◌++◌, ◌+◌, List, ℕ, take, drop, ap, refl, sym, ◌∙◌}
use Rattle.std.proofs.lemmas.List.{append_assoc}
use Rattle.bus_config.specs.Buses.{ids_sent, ids_sent_by, again_after}
use Rattle.bus_config.proofs.Sending.{is_sending, id_if, ids_of_take, ids_of_drop}
use Rattle.bus_config.proofs.Again.{again_step, again_found}
use Rattle.bus_config.proofs.node_lines.again_in.Goals as goal

pub returns-then-sends_again : goal.returns-then-sends_again
returns-then-sends_again c =
    let routes = c.args.routes.now in
    let place = c.loop-place.place in
    let route = c.index-routes-place.result in
    let before = ids_sent c.args.before.now ++ ids_sent_by (take place routes) in
    let mine = id_if (is_sending route) route in
    let rest = ids_sent_by (drop (place + 1) routes) in
    sym (c.loop-place.invariant
    ∙ ap (λ (l : List ℕ). again_after before l) (ids_of_drop routes place route c.loop-place-test.true ∙ ap (λ r. id_if (is_sending r) r ++ rest) (sym c.index-routes-place.is))
    ∙ again_found before mine rest (is_sending route) route.id (sym c.sends_again.ensures ∙ c.if-sends_again.true) refl)

pub loop-place-preserved : goal.loop-place-preserved
loop-place-preserved c =
    let routes = c.args.routes.now in
    let place = c.loop-place.place in
    let route = c.index-routes-place.result in
    let front = ids_sent c.args.before.now in
    let before = front ++ ids_sent_by (take place routes) in
    let mine = id_if (is_sending route) route in
    let rest = ids_sent_by (drop (place + 1) routes) in
    c.loop-place.invariant
    ∙ ap (λ (l : List ℕ). again_after before l) (ids_of_drop routes place route c.loop-place-test.true ∙ ap (λ r. id_if (is_sending r) r ++ rest) (sym c.index-routes-place.is))
    ∙ again_step before mine rest (is_sending route) route.id (sym c.sends_again.ensures ∙ c.if-sends_again.false) refl
    ∙ ap (λ (l : List ℕ). again_after l rest)
    (append_assoc front (ids_sent_by (take place routes)) mine
    ∙ ap (λ (l : List ℕ). front ++ l) (sym (ids_of_take routes place route c.loop-place-test.true ∙ ap (λ r. ids_sent_by (take place routes) ++ id_if (is_sending r) r) (sym c.index-routes-place.is))))
