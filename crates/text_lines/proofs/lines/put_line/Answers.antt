use Rattle.std.proofs.Common.{◌≡◌, ◌+◌, ◌-◌, ◌≤◌, List, [], ◌++◌, length, take, drop, map, refl, sym, ◌∙◌, ap, subst, arith}
use Rattle.std.proofs.lemmas.List.Elements.{All-nil}
use Rattle.text_lines.specs.declared.span.Span.{Span}
use Rattle.text_lines.specs.Lines.{is_line_feed, ends_word, without_return}
use Rattle.text_lines.specs.Spans.{piece_at}
use Rattle.text_lines.proofs.Cuts.{words_between}
use Rattle.text_lines.proofs.Rows.{words_between-content}
use Rattle.text_lines.proofs.Stops.{line_end_of, content_of, first_from, first_from-is, line_ends_here, line_goes_on, line_from_next, word_within, last_word, word_ends}
use Rattle.text_lines.proofs.lines.put_line.Goals as goal

pub loop-spans-init : goal.loop-spans-init
loop-spans-init c =
    let text = c.args.text.now in
    let start = c.args.start in
    let none : c.clear.new.self.items ≡ [] = c.clear.ensures.items in
    record {
      whole = ap (λ (l : List Span). map (piece_at text) l ++ words_between text start (content_of text start)) none;
      line = first_from is_line_feed text start (line_end_of text start) (omega arith) refl;
      word = first_from ends_word text start c.word_end-stop.result (omega arith) c.word_end-stop.ensures.exact;
      behind = omega arith;
      inside = rw none (All-nil (λ (span : Span). span.at + span.len ≤ length text));
      short = omega arith;
      few = omega (arith, c.clear.ensures.len);
      room = omega (arith, c.clear.ensures.capacity);
    }

pub loop-spans-preserved : goal.loop-spans-preserved
loop-spans-preserved c =
    let text = c.args.text.now in
    let start = c.args.start in
    let at = c.loop-spans.at in
    let stop = c.loop-spans.stop in
    let so_far = c.loop-spans.invariant in
    let goes = c.is_line_end.ensures.no (cc) in
    let put = c.in_ok-put_word.ensures in
    record {
      whole = word_within text start at stop (line_end_of text start) (content_of text start) _ _ (words_between text start (content_of text start))
          so_far.word so_far.line goes.0 goes.1 so_far.behind refl put.word put.none so_far.whole;
      line = line_from_next text at stop (line_end_of text start) so_far.word.behind (line_goes_on text at stop (line_end_of text start) so_far.word so_far.line goes.0 goes.1) so_far.line;
      word = first_from ends_word text (stop + 1) c.word_end-stop-in-loop-spans.result (omega (arith, goes.0)) c.word_end-stop-in-loop-spans.ensures.exact;
      behind = omega (arith, so_far.behind, so_far.word.behind);
      inside = word_ends (length text) at stop _ _ put.word put.none so_far.word.inside so_far.inside;
      short = so_far.short;
      few = omega (arith, put.few, so_far.few, so_far.word.behind);
      room = omega (arith, put.capacity, so_far.room);
    }

pub returns-clause-end : goal.returns-clause-end
returns-clause-end c =
    let text = c.args.text.now in
    let so_far = c.loop-spans.invariant in
    let ended = line_ends_here text c.loop-spans.at c.loop-spans.stop so_far.word (c.is_line_end.ensures.yes (cc)) in
    first_from-is is_line_feed text c.loop-spans.at c.loop-spans.stop ended ∙ sym (first_from-is is_line_feed text c.loop-spans.at (line_end_of text c.args.start) so_far.line)

pub returns-clause-exact : goal.returns-clause-exact
returns-clause-exact c =
    let text = c.args.text.now in
    let start = c.args.start in
    let at = c.loop-spans.at in
    let stop = c.loop-spans.stop in
    let content = c.content_end.result in
    let so_far = c.loop-spans.invariant in
    let put = c.in_ok-put_word-2.ensures in
    let e : content ≡ content_of text start =
    c.content_end.ensures.exact ∙ ap (λ m. start + length (without_return (take (m - start) (drop start text)))) (returns-clause-end c) in
    last_word text at stop content _ _ (words_between text start content) so_far.word c.content_end.ensures.inside put.word put.none
    (subst (λ m. map (piece_at text) c.loop-spans.spans.items ++ words_between text at m ≡ words_between text start m) (sym e) so_far.whole)
    ∙ words_between-content text start stop content c.content_end.ensures.exact c.content_end.ensures.inside

pub returns-clause-inside : goal.returns-clause-inside
returns-clause-inside c =
    let put = c.in_ok-put_word-2.ensures in
    let inside = c.loop-spans.invariant.word.inside in
    word_ends (length c.args.text.now) c.loop-spans.at c.content_end.result _ _ put.word put.none (omega (arith, c.content_end.ensures.inside, inside)) c.loop-spans.invariant.inside
