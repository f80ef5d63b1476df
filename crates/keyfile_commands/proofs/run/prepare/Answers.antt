use Rattle.std.proofs.Common.{◌≡◌, map, rules, subst, sym, refl, Some, None}
use Rattle.std.proofs.lemmas.Result.{err_from_is_err_and}
use Rattle.std.specs.Prelude.{string_bytes}
use Rattle.key_commands.specs.declared.subcommands.Subcommand.TheVariants as subcommand
use Rattle.keyfile_commands.specs.declared.calls.KeyCall.TheVariants.{Make, Read, Confirm, Bootmac}
use Rattle.keyfile_commands.specs.Calls.{call_of}
use Rattle.keyfile_commands.specs.Values.{make_values, read_values, confirm_values}
use Rattle.keyfile_commands.specs.Rows.{ComesOfKeyFiles, no_form}
use Rattle.keyfile_commands.proofs.Phases.{of_first, of_second, of_image, task_made}
use Rattle.keyfile_commands.proofs.run.prepare.Goals as goal

pub returns-in_default : goal.returns-in_default
returns-in_default g c =
    let none : call_of (map string_bytes c.args.words.now) ≡ None = search rules in
    subst (ComesOfKeyFiles _) (sym c.fixed.ensures) (no_form none refl refl)

pub returns-in_err-key : goal.returns-in_err-key
returns-in_err-key g c =
    let p = err_from_is_err_and c.from_residual.result c.from_residual.ensures.1 in
    rw (p.1, p.2) (of_first _ c.in-Some.call _ (sym c.in-Some.ensures) c.in_err-key.ensures refl)

pub returns-in_err-auth-in-Make : goal.returns-in_err-auth-in-Make
returns-in_err-auth-in-Make g c =
    let call_is : call_of (map string_bytes c.args.words.now) ≡ Some Make = cc (c.in-Some.ensures, c.in-Make.is) in
    let p = err_from_is_err_and c.from_residual-in_err-auth-in-Make.result c.from_residual-in_err-auth-in-Make.ensures.1 in
    rw (p.1, p.2) (of_second _ _ (call_is, (c.in_ok-key.key, c.in_ok-key.ensures)) c.in_err-auth-in-Make.ensures)

pub returns-in_err-image-in-Bootmac : goal.returns-in_err-image-in-Bootmac
returns-in_err-image-in-Bootmac g c =
    let call_is : call_of (map string_bytes c.args.words.now) ≡ Some Bootmac = cc (c.in-Some.ensures, c.in-Bootmac.is) in
    let p = err_from_is_err_and c.from_residual-in_err-image-in-Bootmac.result c.from_residual-in_err-image-in-Bootmac.ensures.1 in
    rw (p.1, p.2) (of_image _ _ (call_is, (c.in_ok-key.key, c.in_ok-key.ensures)) c.in_err-image-in-Bootmac.ensures)

pub returns-in_ok-auth-in-Make : goal.returns-in_ok-auth-in-Make
returns-in_ok-auth-in-Make g c =
    let call_is : call_of (map string_bytes c.args.words.now) ≡ Some Make = cc (c.in-Some.ensures, c.in-Make.is) in
    task_made _ subcommand.Make (make_values (map string_bytes c.args.words.now) c.in_ok-key.key c.in_ok-auth-in-Make.auth) c.make_words.result _ (λ e. cc e)
    (Make, call_is, (c.in_ok-key.key, c.in_ok-auth-in-Make.auth, c.in_ok-key.ensures, c.in_ok-auth-in-Make.ensures, refl)) c.make_words.ensures c.task_over.ensures

pub returns-in-Read : goal.returns-in-Read
returns-in-Read g c =
    let call_is : call_of (map string_bytes c.args.words.now) ≡ Some Read = cc (c.in-Some.ensures, c.in-Read.is) in
    task_made _ subcommand.Read (read_values (map string_bytes c.args.words.now) c.in_ok-key.key) c.read_words.result _ (λ e. cc e)
    (Read, call_is, (c.in_ok-key.key, c.in_ok-key.ensures, refl, refl)) c.read_words.ensures c.task_over-in-Read.ensures

pub returns-in-Confirm : goal.returns-in-Confirm
returns-in-Confirm g c =
    let call_is : call_of (map string_bytes c.args.words.now) ≡ Some Confirm = cc (c.in-Some.ensures, c.in-Confirm.is) in
    task_made _ subcommand.Confirm (confirm_values (map string_bytes c.args.words.now) c.in_ok-key.key) c.confirm_words.result _ (λ e. cc e)
    (Confirm, call_is, (c.in_ok-key.key, c.in_ok-key.ensures, refl, refl)) c.confirm_words.ensures c.task_over-in-Confirm.ensures
