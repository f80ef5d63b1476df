use Rattle.std.proofs.Common.{◌≡◌, ◌∙◌, sym, true, arith}
use Rattle.std.proofs.lemmas.Str.{IsUtf8-from_ascii}
use Rattle.std.proofs.lemmas.Fmt.{IsAscii-from_digits}
use Rattle.text_lines.specs.Forms.{is_number}
use Rattle.text_lines.proofs.Numbers.{IsNumeral-is_number, no_error, value_holds, parse_refused, number_form-large}
use Rattle.text_lines.proofs.forms.number.Goals as goal

pub returns-in_err-ok : goal.returns-in_err-ok
returns-in_err-ok c =
    let word = c.args.word.now in
    let is : is_number word ≡ true = sym c.is_number.ensures ∙ c.if-not-is_number.false in
    absurd (no_error c.from_utf8.result _ _ c.in_err-ok.ensures.value c.from_utf8.ensures.cases (λ e q. q.0 (IsUtf8-from_ascii word (IsAscii-from_digits word (IsNumeral-is_number word is).1))))

pub returns-in_err-value-clause-value : goal.returns-in_err-value-clause-value
returns-in_err-value-clause-value c =
    let word = c.args.word.now in
    let is : is_number word ≡ true = sym c.is_number.ensures ∙ c.if-not-is_number.false in
    let text = value_holds c.from_utf8.result _ _ c.in_ok-ok.field-0 c.in_ok-ok.ensures.value c.from_utf8.ensures.cases in
    let parsed = rw text.0 at c.parse.ensures.value.0 in
    c.from_residual-in_err-value.ensures
    ∙ sym (number_form-large c.args.least c.args.most word is (omega arith) (parse_refused word c.parse.result c.in_err-value.ensures.value parsed))
