-- The bytes that the line makes are those that were read.
use Rattle.std.proofs.Common.{◌≡◌, List, ℕ, None, length, ap, sym, subst, ◌∙◌, length-take-le, arith}
use Rattle.std.proofs.lemmas.Option.{none-some, same_Some}
use Rattle.std.specs.Cmp.Lexicographic.{same_text, other_text}
use Rattle.std.specs.Prelude.{MatchOption}
use Rattle.flash_places.specs.Places.{Looks}
use Rattle.flash_lines.specs.Lines.{line_bytes, HoldsLine, HoldsNoLine}
use Rattle.flash_lines.proofs.Looking.{line_is_seen, none_is_seen, rebuilt}
use Rattle.flash_lines.proofs.lines.read_line.Goals as goal

pub returns-in_err-line-clause-reads : goal.returns-in_err-line-clause-reads
returns-in_err-line-clause-reads c =
    subst (λ o. MatchOption o (HoldsNoLine c.args.bytes.now) (HoldsLine c.args.bytes.now)) (sym c.from_residual.ensures)
    (λ line h. none-some line (c.in_err-line.ensures.whole line h))

pub returns-in_err-line-clause-looks : goal.returns-in_err-line-clause-looks
returns-in_err-line-clause-looks c p q reads =
    subst (λ o. Looks p o q) (sym c.from_residual.ensures)
    (none_is_seen p q c.args.bytes.now reads (λ line h. none-some line (c.in_err-line.ensures.whole line h)))

pub returns-then-eq-clause-looks : goal.returns-then-eq-clause-looks
returns-then-eq-clause-looks c p q reads =
    let holds : HoldsLine c.args.bytes.now c.in_ok-line.line = record {
      is_line = c.in_ok-line.ensures.line;
      told = c.told_parts-told.result;
      sized = (omega arith, (omega arith, (omega arith, omega arith)));
      bytes_are = sym (same_text _ _ c.if-eq.ensures) ∙ c.line_bytes.ensures ∙ ap (λ n. line_bytes n c.told_parts-told.result c.in_ok-line.line) (length-take-le _ _ c.requires.most);
    } in
    line_is_seen p q c.args.bytes.now c.in_ok-line.line reads holds

pub returns-else-eq-clause-reads : goal.returns-else-eq-clause-reads
returns-else-eq-clause-reads c line h =
    let is : c.in_ok-line.line ≡ line = same_Some _ _ (c.in_ok-line.ensures.whole line h) in
    let whole : HoldsLine c.args.bytes.now c.in_ok-line.line = subst (HoldsLine c.args.bytes.now) (sym is) h in
    other_text _ _ c.if-eq.ensures
    (c.line_bytes.ensures ∙ ap (λ n. line_bytes n c.told_parts-told.result c.in_ok-line.line) (length-take-le _ _ c.requires.most)
    ∙ rebuilt c.args.bytes.now c.in_ok-line.line c.told_parts-told.result whole c.told_parts-told.ensures)

pub returns-else-eq-clause-looks : goal.returns-else-eq-clause-looks
returns-else-eq-clause-looks c p q reads = none_is_seen p q c.args.bytes.now reads (returns-else-eq-clause-reads c)
