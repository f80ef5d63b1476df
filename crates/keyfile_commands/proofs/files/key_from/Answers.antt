use Rattle.std.proofs.lemmas.Result.{err_from_is_err_and}
use Rattle.std.proofs.Common.{◌≡◌, ◌∙◌, None, subst, sym, ap, rules}
use Rattle.keyfile_commands.specs.KeyFiles.{key_file_of}
use Rattle.keyfile_commands.specs.Steps.{LacksKey, no_key_read, no_key_in}
use Rattle.keyfile_commands.proofs.files.key_from.Goals as goal

pub returns-in_err-bytes : goal.returns-in_err-bytes
returns-in_err-bytes g c =
    let p = err_from_is_err_and c.from_residual.result c.from_residual.ensures.1 in
    rw (p.1, p.2) (no_key_read c.in_err-bytes.field-0.0 c.in_err-bytes.ensures.refused)

pub returns-in_default : goal.returns-in_default
returns-in_default g c =
    let none : key_file_of c.as_slice.result.now ≡ None = search rules in
    subst (LacksKey _) (sym c.fixed.ensures)
    (no_key_in (c.in_ok-bytes.bytes.items, c.in_ok-bytes.ensures.ok, ap key_file_of (sym c.as_slice.ensures.value) ∙ none))
