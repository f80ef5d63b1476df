use Rattle.std.proofs.Common.{◌≡◌, ℕ, List, ◌∙◌, subst}
use Rattle.std.specs.Prelude.{IfOk, IfErr}
use Rattle.can_logs.specs.MapFaults.{NoMapLines}
use Rattle.can_logs.specs.WatchMaps.{watch_map_of, IsMapOf}
use Rattle.locate_commands.specs.Locating.{zeroed}
use Rattle.locate_commands.proofs.run.zeroed_map.Goals as goal

pub returns-in-Ok-clause-ok : goal.returns-in-Ok-clause-ok
returns-in-Ok-clause-ok c =
    let text_is : c.as_slice.result.now ≡ zeroed c.args.text.now = c.as_slice.ensures.value ∙ c.in-Ok.ensures.text in
    subst (λ (t : List ℕ). IfOk c.map_that_fits.result (IsMapOf t)) text_is c.map_that_fits.ensures.ok

pub returns-in-Ok-clause-err : goal.returns-in-Ok-clause-err
returns-in-Ok-clause-err c =
    let text_is : c.as_slice.result.now ≡ zeroed c.args.text.now = c.as_slice.ensures.value ∙ c.in-Ok.ensures.text in
    subst (λ (t : List ℕ). IfErr c.map_that_fits.result (NoMapLines (watch_map_of t))) text_is c.map_that_fits.ensures.err
