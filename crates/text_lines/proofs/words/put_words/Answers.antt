use Rattle.std.proofs.Common.{◌≡◌, ◌-◌, ℕ, List, take, drop, sym, ap, ◌∙◌, arith, take_all}
use Rattle.text_lines.specs.Lines.{words_of}
use Rattle.text_lines.specs.Places.{texts_of}
use Rattle.text_lines.proofs.Unplaced.{texts_of_pieces_at, texts_of-placed_words_of}
use Rattle.text_lines.proofs.words.put_words.Goals as goal

pub returns-clause-words : goal.returns-clause-words
returns-clause-words c =
    let line : List ℕ = c.args.line.now in
    let put = c.in_ok-put_line.ensures in
    let end : ℕ = c.in_ok-put_line.field-0 in
    let whole : take (end - 0) (drop 0 line) ≡ line = take_all (end - 0) line (omega (arith, put.end, c.requires.one)) in
    sym (texts_of_pieces_at line c.put_line.new.spans.items) ∙ ap texts_of put.exact
    ∙ texts_of-placed_words_of (record { at = 0; bytes = take (end - 0) (drop 0 line) }) ∙ ap words_of whole
