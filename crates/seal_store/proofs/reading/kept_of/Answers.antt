use Rattle.std.proofs.Common.{true, if◌then◌else◌, sym, ap, ◌∙◌}
use Rattle.seal_parts.specs.declared.PartClass.TheVariants.{Blanks}
use Rattle.seal_parts.specs.declared.UnitKind.TheVariants.{Guard, SecondGuard, Confirm}
use Rattle.seal_parts.specs.declared.UnitAnswer.{UnitAnswer}
use Rattle.seal_laws.specs.Writes.{reads_mark, line_read, may_be_begun}
use Rattle.seal_store.proofs.reading.kept_of.Goals as goal

pub returns : goal.returns
returns c = λ answers is confirm last.
    let line = c.line_in.ensures ∙ ap line_read (sym is) in
    let begun = c.is_begun.ensures (answers Guard) (answers SecondGuard) ∙ ap (λ (a : UnitAnswer). may_be_begun Blanks (answers Guard) (answers SecondGuard) a) (sym is) in
    let confirmed = c.is_confirmed.ensures ∙ (ap (λ (a : UnitAnswer). if reads_mark a then true else reads_mark c.args.last.now) (sym confirm)
    ∙ ap (λ (a : UnitAnswer). if reads_mark (answers Confirm) then true else reads_mark a) (sym last)) in
    let closed = c.is_mark.ensures ∙ ap reads_mark (sym last) in
    λ i. record { line = line i; is_begun = begun i; is_confirmed = confirmed i; is_closed = closed i }
