use Rattle.std.proofs.Common.{◌≡◌, ◌≤◌, ℕ, List, true, false, length, map, sym, ap, ◌∙◌, refl, subst, arith}
use Rattle.std.proofs.lemmas.Result.{IfOk-at_ok}
use Rattle.text_lines.specs.Lines.{words_of, is_skipped}
use Rattle.text_lines.specs.Readings.{nth_word}
use Rattle.text_lines.specs.Spans.{word_at}
use Rattle.endpoint_commands.specs.declared.rules.FrameRule.{FrameRule}
use Rattle.endpoint_commands.specs.declared.asking.Asked.TheVariants.{Nothing, Other}
use Rattle.endpoint_commands.specs.Asking.{asked_of_words}
use Rattle.endpoint_commands.specs.States.{EndpointState, AnswersWords, AnswersNext}
use Rattle.endpoint_commands.proofs.Answered.{asks_nothing, asks_other}
use Rattle.endpoint_commands.proofs.KeptLine.{asked_long, asked_skipped, asked_words, kept_as, first_short}
use Rattle.endpoint_commands.proofs.endpoint.Endpoint.answer_line.Goals as goal

pub returns-then-line-gt-LINE_LIMIT : goal.returns-then-line-gt-LINE_LIMIT
returns-then-line-gt-LINE_LIMIT g c =
    let e = c.self.inside in
    let line : List ℕ = c.args.line.now in
    let old : EndpointState = record { rules = e.rules.items; node = e.node; counts = e.counts; text = e.text.items } in
    subst (λ (s : EndpointState). AnswersNext s c.args.number line (record old { counts = c.count.new.self }) false) c.self.view_is
    (kept_as old c.args.number line Other old.node old.text c.count.new.self false (asked_long old.rules line (omega arith))
    (asks_other old.rules c.args.number (words_of line) old.node old.node old.text old.text old.counts c.count.new.self false Other refl refl refl c.count.ensures refl))

pub returns-then-is_skipped : goal.returns-then-is_skipped
returns-then-is_skipped g c =
    let e = c.self.inside in
    let line : List ℕ = c.args.line.now in
    let old : EndpointState = record { rules = e.rules.items; node = e.node; counts = e.counts; text = e.text.items } in
    let put : map (word_at line) c.put_words.new.spans.items ≡ words_of line =
    IfOk-at_ok (λ _. map (word_at line) c.put_words.new.spans.items ≡ words_of line) c.unwrap.ensures c.put_words.ensures.words in
    let words_are : c.of-words.result ≡ words_of line = c.of-words.ensures ∙ ap (map (word_at line)) c.as_slice.ensures.value ∙ put in
    let skipped : is_skipped (words_of line) ≡ true = ap is_skipped (sym words_are) ∙ sym c.is_skipped.ensures ∙ c.if-is_skipped.true in
    let few : length line ≤ 4096 = omega arith in
    subst (λ (s : EndpointState). AnswersNext s c.args.number line old false) c.self.view_is
    (kept_as old c.args.number line Nothing old.node old.text old.counts false (asked_skipped old.rules line few skipped)
    (asks_nothing old.rules c.args.number (words_of line) old.node old.node old.text old.text old.counts old.counts false Nothing refl refl refl refl refl))

pub answer_words-requires-clause-time : goal.answer_words-requires-clause-time
answer_words-requires-clause-time g c =
    let line : List ℕ = c.args.line.now in
    let few : length line ≤ 4096 = omega arith in
    subst (λ (words : List (List ℕ)). length (nth_word words 1) ≤ 4096) (sym c.of-words.ensures)
    (let short = first_short line c.as_slice.result.now in omega (arith, short, few))

pub returns : goal.returns
returns g c =
    let e = c.self.inside in
    let line : List ℕ = c.args.line.now in
    let old : EndpointState = record { rules = e.rules.items; node = e.node; counts = e.counts; text = e.text.items } in
    let put : map (word_at line) c.put_words.new.spans.items ≡ words_of line =
    IfOk-at_ok (λ _. map (word_at line) c.put_words.new.spans.items ≡ words_of line) c.unwrap.ensures c.put_words.ensures.words in
    let words_are : c.of-words.result ≡ words_of line = c.of-words.ensures ∙ ap (map (word_at line)) c.as_slice.ensures.value ∙ put in
    let kept : is_skipped (words_of line) ≡ false = ap is_skipped (sym words_are) ∙ sym c.is_skipped.ensures ∙ c.if-is_skipped.false in
    let few : length line ≤ 4096 = omega arith in
    let answers : AnswersWords old.rules c.args.number (words_of line) (asked_of_words old.rules (words_of line)) old.node c.answer_words.new.node old.text c.answer_words.new.text.items old.counts
    c.answer_words.new.counts c.answer_words.result =
    subst (λ (rules : List FrameRule). AnswersWords rules c.args.number (words_of line) (asked_of_words rules (words_of line)) old.node c.answer_words.new.node old.text c.answer_words.new.text.items
    old.counts c.answer_words.new.counts c.answer_words.result) c.as_slice-2.ensures.value
    (subst (λ (words : List (List ℕ)). AnswersWords c.as_slice-2.result.now c.args.number words (asked_of_words c.as_slice-2.result.now words) old.node c.answer_words.new.node old.text
    c.answer_words.new.text.items old.counts c.answer_words.new.counts c.answer_words.result) words_are c.answer_words.ensures.answers) in
    subst (λ (s : EndpointState). AnswersNext s c.args.number line (record old { node = c.answer_words.new.node; counts = c.answer_words.new.counts; text = c.answer_words.new.text.items }) c.answer_words.result) c.self.view_is
    (kept_as old c.args.number line (asked_of_words old.rules (words_of line)) c.answer_words.new.node c.answer_words.new.text.items c.answer_words.new.counts c.answer_words.result (asked_words old.rules line few kept)
    answers)
