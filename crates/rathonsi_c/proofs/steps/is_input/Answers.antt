use Rattle.std.proofs.Common.{sym, ◌∙◌}
use Rattle.std.specs.Cmp.Lexicographic.{same_text, bytes_decides}
use Rattle.rathonsi_c.proofs.steps.is_input.Goals as goal

pub returns : goal.returns
returns c =
    let wanted = c.input_of-wanted.ensures in (
      λ yes. record {
        freshness_is = c.if-input-freshness.false;
        size_is = c.if-input-wanted.false ∙ wanted.size_is;
        bytes_are = same_text _ _ (sym yes ∙ c.eq.ensures) ∙ wanted.bytes_are;
      },
      λ is. c.eq.ensures ∙ (bytes_decides _ _).1 (is.bytes_are ∙ sym wanted.bytes_are),
    )
