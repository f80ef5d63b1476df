use Rattle.std.proofs.Common.{sym, ap, ◌∙◌, ◌++◌, ◌∷◌, [], arith}
use Rattle.std.specs.Prelude.{codes}
use Rattle.std.proofs.lemmas.Fmt.{decimal_digit}
use Rattle.program_edge.specs.Rows.{row_of}
use Rattle.derive_commands.proofs.run.unit_refusal.Goals as goal

pub returns : goal.returns
returns c = c.fixed.ensures ∙ ap (λ d. row_of 3 (codes "value " ++ (d ++ 10 ∷ []))) (sym (decimal_digit 2 (omega arith)))
