use Rattle.std.proofs.Common.{subst, sym, refl, map, rules}
use Rattle.std.proofs.lemmas.Result.{err_from_is_err_and}
use Rattle.std.specs.Prelude.{string_bytes}
use Rattle.program_edge.specs.declared.input.InputFault.TheVariants as input
use Rattle.program_edge.proofs.CallerLemmas.{Lacks-whole}
use Rattle.can_logs.specs.LogRuns.{NamesInputs}
use Rattle.explain_commands.specs.ExplainRows.{ExplainOnErrors, no_form, no_map}
use Rattle.explain_commands.proofs.ExplainPhases.{Comes-no_map}
use Rattle.explain_commands.proofs.run.prepare.Goals as goal

pub returns-then-not-names_inputs : goal.returns-then-not-names_inputs
returns-then-not-names_inputs g c = λ log sink no_text.
    let other : ¬ NamesInputs (map string_bytes c.args.words.now) = search rules in
    subst (ExplainOnErrors _ _) (sym c.fixed.ensures) (no_form other no_text refl refl refl)

pub returns-in_err-map : goal.returns-in_err-map
returns-in_err-map g c = λ log sink no_text.
    let p = err_from_is_err_and c.from_residual.result c.from_residual.ensures.1 in
    let asks : NamesInputs (map string_bytes c.args.words.now) = c.names_inputs.ensures.0 c.if-not-names_inputs.false in
    rw (p.1, p.2) (Comes-no_map _ _ _ asks c.in_err-map.ensures refl refl)

pub returns-in-Ok : goal.returns-in-Ok
returns-in-Ok g c = λ log sink no_text.
    let asks : NamesInputs (map string_bytes c.args.words.now) = c.names_inputs.ensures.0 c.if-not-names_inputs.false in
    let (text, whole, is) = c.in_ok-map.ensures in
    ((asks, (c.in_ok-map.map, (text, whole, is), c.in-Ok.ensures.mapping)), c.in-Ok.ensures.before)

pub returns-in-Err : goal.returns-in-Err
returns-in-Err g c = λ log sink no_text.
    let asks : NamesInputs (map string_bytes c.args.words.now) = c.names_inputs.ensures.0 c.if-not-names_inputs.false in
    let (text, whole, is) = c.in_ok-map.ensures in
    subst (ExplainOnErrors _ _) (sym c.no_memory.ensures) (no_map input.Memory asks (Lacks-whole _ text whole) refl refl)
