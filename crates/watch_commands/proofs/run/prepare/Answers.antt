use Rattle.std.proofs.Common.{List, ℕ, subst, sym, refl, map, rules}
use Rattle.std.proofs.lemmas.Result.{err_from_is_err_and}
use Rattle.std.specs.Prelude.{string_bytes}
use Rattle.program_edge.specs.declared.input.InputFault.TheVariants as input
use Rattle.program_edge.proofs.CallerLemmas.{Lacks-whole}
use Rattle.can_logs.specs.LogRuns.{NamesInputs}
use Rattle.watch_commands.specs.WatchedMaps.{IsWatchedMap}
use Rattle.watch_commands.specs.OptionWords.{watch_options}
use Rattle.watch_commands.specs.Words.{AsksWatch}
use Rattle.watch_commands.specs.WatchRows.{ComesOnErrors, no_form, no_map}
use Rattle.watch_commands.proofs.WatchPhases.{Comes-no_map}
use Rattle.watch_commands.proofs.run.prepare.Goals as goal

pub returns-then-not-names_inputs : goal.returns-then-not-names_inputs
returns-then-not-names_inputs g c = λ log sink no_text.
    let other : ¬ NamesInputs (map string_bytes c.inputs_of.result.now) = search rules in
    subst (ComesOnErrors _ _) (sym c.fixed.ensures) (no_form (subst (λ (ws : List (List ℕ)). ¬ NamesInputs ws) c.inputs_of.ensures other) no_text refl refl refl)

pub returns-in_err-map : goal.returns-in_err-map
returns-in_err-map g c = λ log sink no_text.
    let p = err_from_is_err_and c.from_residual.result c.from_residual.ensures.1 in
    let asks : AsksWatch (map string_bytes c.args.words.now) = subst NamesInputs c.inputs_of.ensures (c.names_inputs.ensures.0 c.if-not-names_inputs.false) in
    rw (p.1, p.2) (Comes-no_map _ _ _ asks c.in_err-map.ensures refl refl)

pub returns-in-Ok : goal.returns-in-Ok
returns-in-Ok g c = λ log sink no_text.
    let words : List (List ℕ) = map string_bytes c.args.words.now in
    let asks : AsksWatch words = subst NamesInputs c.inputs_of.ensures (c.names_inputs.ensures.0 c.if-not-names_inputs.false) in
    let (text, whole, is_map) = c.in_ok-map.ensures in
    let is : IsWatchedMap (watch_options words) text c.of-task.result =
    subst (IsWatchedMap (watch_options words) text) (sym c.of-task.ensures) (is_map.0, is_map.1, c.of.ensures) in
    ((asks, (c.of-task.result, (text, whole, is), c.in-Ok.ensures.mapping)), c.in-Ok.ensures.before)

pub returns-in-Err : goal.returns-in-Err
returns-in-Err g c = λ log sink no_text.
    let asks : AsksWatch (map string_bytes c.args.words.now) = subst NamesInputs c.inputs_of.ensures (c.names_inputs.ensures.0 c.if-not-names_inputs.false) in
    let (text, whole, is) = c.in_ok-map.ensures in
    subst (ComesOnErrors _ _) (sym c.no_memory.ensures) (no_map input.Memory asks (Lacks-whole _ text whole) refl refl)
