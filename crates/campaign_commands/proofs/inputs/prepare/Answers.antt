use Rattle.std.proofs.Common.{sym, subst, ◌∙◌, refl}
use Rattle.std.specs.Prelude.{string_bytes}
use Rattle.std.proofs.lemmas.List.{length-map}
use Rattle.std.proofs.lemmas.Result.{err_from_is_err_and}
use Rattle.campaign_commands.specs.Steps.{ComesOfScript, not_two, no_script}
use Rattle.campaign_commands.proofs.Ending.{prepares_read}
use Rattle.campaign_commands.proofs.inputs.prepare.Goals as goal

pub returns-then-words-ne2 : goal.returns-then-words-ne2
returns-then-words-ne2 g c =
    subst (ComesOfScript _) (sym c.usage_refusal.ensures)
    (not_two (λ two. c.if-words-ne2.true (sym (length-map c.args.words.now string_bytes) ∙ two)) refl)

pub returns-in_err-input : goal.returns-in_err-input
returns-in_err-input g c =
    let p = err_from_is_err_and c.from_residual.result c.from_residual.ensures.1 in
    rw (p.1, p.2) (no_script c.in_err-input.field-0.0 (length-map c.args.words.now string_bytes ∙ c.if-words-ne2.false, c.in_err-input.ensures.refused))

pub returns : goal.returns
returns g c =
    prepares_read _ c.in_ok-input.input.items c.commands_in.result (length-map c.args.words.now string_bytes ∙ c.if-words-ne2.false) c.in_ok-input.ensures.ok
    (rw (← c.as_slice.ensures.value) c.commands_in.ensures)
