use Rattle.std.proofs.Common.{map, rules, subst, sym, inl}
use Rattle.std.proofs.lemmas.Result.{err_from_is_err_and}
use Rattle.std.specs.Prelude.{string_bytes}
use Rattle.key_commands.specs.Rows.{ComesOfWords, NamesNone, no_memory, refused_words}
use Rattle.key_commands.proofs.Phases.{clap_refuses, refuses_value}
use Rattle.key_commands.proofs.run.prepare.Goals as goal

pub returns-in_default : goal.returns-in_default
returns-in_default c =
    let none : NamesNone (map string_bytes c.args.words.now) = search rules in
    subst (ComesOfWords _) (sym c.usage_refusal.ensures) (refused_words (inl none))

pub returns-in_err-matches : goal.returns-in_err-matches
returns-in_err-matches c =
    let p = err_from_is_err_and c.from_residual.result c.from_residual.ensures.1 in
    rw (p.1, p.2)
    (clap_refuses c.in-Some.subcommand (map string_bytes c.args.words.now) _ c.in-Some.ensures.found c.in_err-matches.ensures.refused)

pub returns-in-Ok-Err : goal.returns-in-Ok-Err
returns-in-Ok-Err c =
    refuses_value c.in-Some.subcommand (map string_bytes c.args.words.now) _ c.in-Ok-Err.bad c.value_refusal.result c.in-Some.ensures.found
    c.in_ok-matches.ensures.taken c.in_ok-matches.ensures.values (cc (c.in-Ok-Err.ensures, c.in-Ok-Err.field-0-is)) c.value_refusal.ensures

pub returns : goal.returns
returns c = subst (ComesOfWords _) (sym c.no_memory.ensures) (no_memory (c.in-Some.subcommand, c.in-Some.ensures.found))
