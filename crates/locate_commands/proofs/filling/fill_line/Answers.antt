use Rattle.std.proofs.Common.{◌≡◌, ◌++◌, ◌&&◌, ℕ, List, Bool, true, false, map, sym, ap, ◌∙◌}
use Rattle.std.specs.Prelude.{Option, None, Some}
use Rattle.text_lines.specs.Lines.{words_of}
use Rattle.text_lines.specs.Spans.{word_at}
use Rattle.text_lines.specs.Texts.{line}
use Rattle.locate_commands.specs.Locating.{fresh_by, asks_fresh, filled_line}
use Rattle.locate_commands.proofs.LinesAhead.{not_asking, asking, settled_not_asking, settled_asking, and_all, and_none}
use Rattle.locate_commands.proofs.filling.fill_line.Goals as goal

pub returns-then-not-asks_fresh-clause-text : goal.returns-then-not-asks_fresh-clause-text
returns-then-not-asks_fresh-clause-text c =
    let own : List ℕ = c.args.own.now in
    let words_are : c.of-words.result ≡ words_of own = c.of-words.ensures ∙ ap (map (word_at own)) c.as_slice.ensures.value ∙ c.in_ok-put_words.ensures.words in
    let asks : asks_fresh (words_of own) ≡ false = ap asks_fresh (sym words_are) ∙ sym c.asks_fresh.ensures ∙ c.if-not-asks_fresh.true in
    c.in_ok-push_line.ensures
    ∙ ap (λ (t : List ℕ). c.args.filled.now.text.items ++ line t) (sym (not_asking (fresh_by c.args.finder.now c.args.number) own asks))

pub returns-then-not-asks_fresh-clause-settled : goal.returns-then-not-asks_fresh-clause-settled
returns-then-not-asks_fresh-clause-settled c =
    let own : List ℕ = c.args.own.now in
    let words_are : c.of-words.result ≡ words_of own = c.of-words.ensures ∙ ap (map (word_at own)) c.as_slice.ensures.value ∙ c.in_ok-put_words.ensures.words in
    let asks : asks_fresh (words_of own) ≡ false = ap asks_fresh (sym words_are) ∙ sym c.asks_fresh.ensures ∙ c.if-not-asks_fresh.true in
    let settled : Bool = c.args.filled.now.is_settled in
    sym (ap (λ (b : Bool). settled && b) (settled_not_asking (fresh_by c.args.finder.now) c.args.number own asks) ∙ and_all settled)

pub returns-in_ok-push_filled-in-Some-clause-text : goal.returns-in_ok-push_filled-in-Some-clause-text
returns-in_ok-push_filled-in-Some-clause-text c =
    let own : List ℕ = c.args.own.now in
    let counter : ℕ = c.in-Some.counter in
    let words_are : c.of-words.result ≡ words_of own = c.of-words.ensures ∙ ap (map (word_at own)) c.as_slice.ensures.value ∙ c.in_ok-put_words.ensures.words in
    let asks : asks_fresh (words_of own) ≡ true = ap asks_fresh (sym words_are) ∙ sym c.asks_fresh.ensures ∙ c.if-not-asks_fresh.false in
    let found : fresh_by c.args.finder.now c.args.number ≡ Some counter = sym c.in_ok-counter.ensures ∙ c.in-Some.is in
    c.in_ok-push_filled-in-Some.ensures
    ∙ ap (λ (t : List ℕ). c.args.filled.now.text.items ++ line t) (sym (asking counter own asks))
    ∙ ap (λ (o : Option ℕ). c.args.filled.now.text.items ++ line (filled_line o own)) (sym found)

pub returns-in_ok-push_filled-in-Some-clause-settled : goal.returns-in_ok-push_filled-in-Some-clause-settled
returns-in_ok-push_filled-in-Some-clause-settled c =
    let own : List ℕ = c.args.own.now in
    let words_are : c.of-words.result ≡ words_of own = c.of-words.ensures ∙ ap (map (word_at own)) c.as_slice.ensures.value ∙ c.in_ok-put_words.ensures.words in
    let asks : asks_fresh (words_of own) ≡ true = ap asks_fresh (sym words_are) ∙ sym c.asks_fresh.ensures ∙ c.if-not-asks_fresh.false in
    let found : fresh_by c.args.finder.now c.args.number ≡ Some c.in-Some.counter = sym c.in_ok-counter.ensures ∙ c.in-Some.is in
    let settled : Bool = c.args.filled.now.is_settled in
    sym (ap (λ (b : Bool). settled && b) (settled_asking (fresh_by c.args.finder.now) c.args.number own (Some c.in-Some.counter) asks found) ∙ and_all settled)

pub returns-in_ok-push_line-in-None-clause-text : goal.returns-in_ok-push_line-in-None-clause-text
returns-in_ok-push_line-in-None-clause-text c =
    let found : fresh_by c.args.finder.now c.args.number ≡ None = sym c.in_ok-counter.ensures ∙ c.in-None.is in
    c.in_ok-push_line-in-None.ensures ∙ ap (λ (o : Option ℕ). c.args.filled.now.text.items ++ line (filled_line o c.args.own.now)) (sym found)

pub returns-in_ok-push_line-in-None-clause-settled : goal.returns-in_ok-push_line-in-None-clause-settled
returns-in_ok-push_line-in-None-clause-settled c =
    let own : List ℕ = c.args.own.now in
    let words_are : c.of-words.result ≡ words_of own = c.of-words.ensures ∙ ap (map (word_at own)) c.as_slice.ensures.value ∙ c.in_ok-put_words.ensures.words in
    let asks : asks_fresh (words_of own) ≡ true = ap asks_fresh (sym words_are) ∙ sym c.asks_fresh.ensures ∙ c.if-not-asks_fresh.false in
    let found : fresh_by c.args.finder.now c.args.number ≡ None = sym c.in_ok-counter.ensures ∙ c.in-None.is in
    let settled : Bool = c.args.filled.now.is_settled in
    sym (ap (λ (b : Bool). settled && b) (settled_asking (fresh_by c.args.finder.now) c.args.number own None asks found) ∙ and_none settled)
