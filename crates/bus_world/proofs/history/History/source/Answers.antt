use Rattle.std.specs.Prelude.{◌≡◌, None, Some, bytes_eq, map, find, option_map}
use Rattle.std.proofs.Common.{sym, ap, subst, ◌∙◌}
use Rattle.bus_world.specs.History.{line_of, has_values}
use Rattle.bus_world.specs.Records.{RisesByID}
use Rattle.bus_world.proofs.Searching.{source_found, source_lost, source_nowhere}
use Rattle.bus_world.proofs.history.History.source.Goals as goal

pub returns-in-None : goal.returns-in-None
returns-in-None c =
    let values = has_values c.args.id c.args.payload.now c.args.freshness in
    subst (λ s. None ≡ option_map (λ s. s.number) (find values s.lines)) c.self.view_is
    (subst (λ xs. None ≡ option_map (λ s. s.number) (find values (map line_of xs))) c.as_slice-records.ensures.value
    (sym (ap (option_map (λ s. s.number)) (source_nowhere c.as_slice-records.result.now c.args.id c.args.freshness c.args.payload.now c.in-None.ensures))))

pub returns-then-eq : goal.returns-then-eq
returns-then-eq c =
    let values = has_values c.args.id c.args.payload.now c.args.freshness in
    let r = c.index-records-place.result in
    let found = c.in-Some.ensures in
    let at = c.index-records-place.is in
    subst (λ s. Some r.number ≡ option_map (λ s. s.number) (find values s.lines)) c.self.view_is
    (subst (λ xs. Some r.number ≡ option_map (λ s. s.number) (find values (map line_of xs))) c.as_slice-records.ensures.value
    (sym (ap (option_map (λ s. s.number))
    (source_found c.as_slice-records.result.now c.in-Some.place c.args.id c.args.freshness c.args.payload.now r
    (subst RisesByID (sym c.as_slice-records.ensures.value) (c.self.invariant.rises c.if-not-self.false)) found.0 at
    (ap (λ y. y.id) at ∙ (found.1 r).0) (ap (λ y. y.freshness) at ∙ (found.1 r).1)
    (sym (subst (λ xs. c.eq.result ≡ bytes_eq xs c.args.payload.now) c.payload_of.ensures c.eq.ensures) ∙ c.if-eq.true)))))

pub returns-else-eq : goal.returns-else-eq
returns-else-eq c =
    let values = has_values c.args.id c.args.payload.now c.args.freshness in
    let r = c.index-records-place.result in
    let found = c.in-Some.ensures in
    let at = c.index-records-place.is in
    subst (λ s. None ≡ option_map (λ s. s.number) (find values s.lines)) c.self.view_is
    (subst (λ xs. None ≡ option_map (λ s. s.number) (find values (map line_of xs))) c.as_slice-records.ensures.value
    (sym (ap (option_map (λ s. s.number))
    (source_lost c.as_slice-records.result.now c.in-Some.place c.args.id c.args.freshness c.args.payload.now r
    (subst RisesByID (sym c.as_slice-records.ensures.value) (c.self.invariant.rises c.if-not-self.false)) found.0 at
    (ap (λ y. y.id) at ∙ (found.1 r).0) (ap (λ y. y.freshness) at ∙ (found.1 r).1)
    (sym (subst (λ xs. c.eq.result ≡ bytes_eq xs c.args.payload.now) c.payload_of.ensures c.eq.ensures) ∙ c.if-eq.false)))))
