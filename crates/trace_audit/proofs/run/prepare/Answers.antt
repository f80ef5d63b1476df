use Rattle.std.proofs.Common.{subst, sym, refl, inr, map, rules}
use Rattle.std.proofs.lemmas.Result.{err_from_is_err_and}
use Rattle.std.specs.Prelude.{string_bytes}
use Rattle.can_logs.specs.LogRuns.{NamesInputs}
use Rattle.program_edge.proofs.CallerLemmas.{Lacks-whole}
use Rattle.trace_audit.specs.Rows.{ComesInAudit, no_form, no_input, no_memory}
use Rattle.trace_audit.proofs.Phases.{Comes-no_map, few_lines}
use Rattle.trace_audit.proofs.run.prepare.Goals as goal

pub returns-then-not-names_inputs : goal.returns-then-not-names_inputs
returns-then-not-names_inputs g c =
    let other : ¬ NamesInputs (map string_bytes c.args.words.now) = search rules in
    subst (ComesInAudit _) (sym c.fixed.ensures) (no_form other refl refl)

pub returns-in_err-map : goal.returns-in_err-map
returns-in_err-map g c =
    let p = err_from_is_err_and c.from_residual.result c.from_residual.ensures.1 in
    rw (p.1, p.2) (Comes-no_map _ _ (c.names_inputs.ensures.0 c.if-not-names_inputs.false) c.in_err-map.ensures refl)

pub returns-in_err-log : goal.returns-in_err-log
returns-in_err-log g c =
    let p = err_from_is_err_and c.from_residual-in_err-log.result c.from_residual-in_err-log.ensures.1 in
    rw (p.1, p.2) (no_input c.in_err-log.field-0.0 (c.names_inputs.ensures.0 c.if-not-names_inputs.false)
    (inr (c.in_ok-map.map.items, c.in_ok-map.ensures, c.in_err-log.ensures.refused)))

pub of-requires : goal.of-requires
of-requires g c =
    let (text, whole, is) = c.in_ok-map.ensures in
    few_lines text c.in_ok-map.map.items is

pub returns-in-Err : goal.returns-in-Err
returns-in-Err g c =
    let (text, whole, is) = c.in_ok-map.ensures in
    subst (ComesInAudit _) (sym c.no_memory.ensures)
    (no_memory (c.names_inputs.ensures.0 c.if-not-names_inputs.false) (Lacks-whole _ text whole) (Lacks-whole _ c.in_ok-log.log.items c.in_ok-log.ensures.ok))
