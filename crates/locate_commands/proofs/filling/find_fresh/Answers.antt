use Rattle.std.proofs.Common.{◌≡◌, ℕ, List, ◌==◌, sym, ap, ◌∙◌, subst}
use Rattle.std.specs.Prelude.{position, slice_get, option_and_then, Option, Some, IfOk}
use Rattle.can_logs.specs.declared.map_lines.MapLine.{MapLine}
use Rattle.locate_commands.specs.Locating.{FoundIn, fresh_at, fresh_of_place}
use Rattle.locate_commands.proofs.filling.find_fresh.Goals as goal

pub returns-in-Some : goal.returns-in-Some
returns-in-Some c =
    let f : FoundIn = record { mapping = c.args.map.now; log = c.args.log.now; candidates = c.args.candidates } in
    let found : position (λ n. n == c.args.number) f.mapping.numbers ≡ Some c.in-Some.place =
    ap (position (λ n. n == c.args.number)) (sym c.numbers.ensures.value) ∙ sym c.place_of_number.ensures.exact ∙ c.in-Some.is in
    subst (λ (o : Option ℕ). IfOk c.fresh_at.result (λ fresh. fresh ≡ fresh_of_place f o)) (sym found)
    (subst (λ (ls : List MapLine). IfOk c.fresh_at.result (λ fresh. fresh ≡ option_and_then (fresh_at ls f.log f.candidates c.in-Some.place) (slice_get ls c.in-Some.place)))
    c.table.ensures c.fresh_at.ensures)

pub returns-in-None : goal.returns-in-None
returns-in-None c =
    let f : FoundIn = record { mapping = c.args.map.now; log = c.args.log.now; candidates = c.args.candidates } in
    sym (ap (fresh_of_place f) (ap (position (λ n. n == c.args.number)) (sym c.numbers.ensures.value) ∙ sym c.place_of_number.ensures.exact ∙ c.in-None.is))
