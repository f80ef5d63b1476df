use Rattle.std.proofs.Common.{◌≡◌, ◌+◌, ◌-◌, ◌<◌, ◌≤◌, ◌++◌, ◌&&◌, Bool, ℕ, List, length, take, drop, sym, ap, ◌∙◌, subst, arith, take_all, append-nil, append_assoc}
use Rattle.std.specs.Prelude.{Option}
use Rattle.std.specs.List.{position_or_len}
use Rattle.std.proofs.lemmas.List.{length-drop}
use Rattle.text_lines.specs.Lines.{is_line_feed}
use Rattle.text_lines.specs.Texts.{line}
use Rattle.line_stream.specs.Pieces.{log_lines}
use Rattle.line_stream.proofs.CallerLemmas.{HasNoFeed, no_feed-front}
use Rattle.locate_commands.specs.Locating.{fresh_by, filled_line, filled_from, is_settled, are_settled}
use Rattle.locate_commands.proofs.LinesAhead.{filled_ahead, settled_ahead, filled_end, settled_end, drop_on, and_once, and_all}
use Rattle.locate_commands.proofs.filling.fill.Goals as goal

pub fill_line-requires-clause-one : goal.fill_line-requires-clause-one
fill_line-requires-clause-one c =
    let at : ℕ = c.loop-at.at in
    let n : ℕ = c.until_feed-end.result in
    let rest : List ℕ = drop at c.args.text.now in
    let whole : take (length c.args.text.now - at) rest ≡ rest = take_all (length c.args.text.now - at) rest (omega (arith, length-drop at c.args.text.now)) in
    let exact : n ≡ position_or_len is_line_feed rest = c.until_feed-end.ensures.exact ∙ ap (position_or_len is_line_feed) whole in
    subst (λ k. HasNoFeed (take k rest)) (let e : n ≡ at + n - at = omega arith in e) (no_feed-front rest n exact (omega (arith, c.until_feed-end.ensures.within, ap length whole)))

pub loop-at-preserved : goal.loop-at-preserved
loop-at-preserved c =
    let at : ℕ = c.loop-at.at in
    let n : ℕ = c.until_feed-end.result in
    let number : ℕ = c.loop-at.number in
    let text : List ℕ = c.args.text.now in
    let rest : List ℕ = drop at text in
    let value : ℕ → Option ℕ = fresh_by c.args.finder.now in
    let out : List ℕ = c.loop-at.filled.text.items in
    let settled : Bool = c.loop-at.filled.is_settled in
    let whole : take (length text - at) rest ≡ rest = take_all (length text - at) rest (omega (arith, length-drop at text)) in
    let exact : n ≡ position_or_len is_line_feed rest = c.until_feed-end.ensures.exact ∙ ap (position_or_len is_line_feed) whole in
    let within : n ≤ length rest = omega (arith, c.until_feed-end.ensures.within, ap length whole) in
    let some : 0 < length rest = omega (arith, length-drop at text, c.loop-at-test.true) in
    let cut : at + n - at ≡ n = omega arith in
    let new_is : c.fill_line.new.filled.text.items ≡ out ++ line (filled_line (value number) (take n rest)) =
    c.in_ok-fill_line.ensures.text ∙ ap (λ k. out ++ line (filled_line (value number) (take k rest))) cut in
    let new_settled : c.fill_line.new.filled.is_settled ≡ (settled && is_settled value number (take n rest)) =
    c.in_ok-fill_line.ensures.settled ∙ ap (λ k. settled && is_settled value number (take k rest)) cut in
    let behind : drop (n + 1) rest ≡ drop (at + (n + 1)) text = drop_on at (n + 1) text in
    record {
      number_is = omega (arith, c.loop-at.invariant.number_is);
      text_is = c.loop-at.invariant.text_is
          ∙ ap (λ (t : List ℕ). out ++ t) (filled_ahead value number rest n exact within some)
          ∙ sym (append_assoc out (line (filled_line (value number) (take n rest))) (filled_from value (number + 1) (log_lines (drop (n + 1) rest))))
          ∙ ap (λ (t : List ℕ). t ++ filled_from value (number + 1) (log_lines (drop (n + 1) rest))) (sym new_is)
          ∙ ap (λ (t : List ℕ). c.fill_line.new.filled.text.items ++ filled_from value (number + 1) (log_lines t)) behind;
      settled_is = c.loop-at.invariant.settled_is
          ∙ ap (λ (b : Bool). settled && b) (settled_ahead value number rest n exact within)
          ∙ and_once settled (is_settled value number (take n rest)) (are_settled value (number + 1) (log_lines (drop (n + 1) rest)))
          ∙ ap (λ (b : Bool). b && are_settled value (number + 1) (log_lines (drop (n + 1) rest))) (sym new_settled)
          ∙ ap (λ (t : List ℕ). c.fill_line.new.filled.is_settled && are_settled value (number + 1) (log_lines t)) behind;
    }

pub returns-clause-text : goal.returns-clause-text
returns-clause-text c =
    sym (c.loop-at.invariant.text_is
    ∙ ap (λ (t : List ℕ). c.loop-at.filled.text.items ++ t)
    (filled_end (fresh_by c.args.finder.now) c.loop-at.number c.loop-at.at c.args.text.now (omega (arith, c.loop-at-test.false)))
    ∙ append-nil c.loop-at.filled.text.items)

pub returns-clause-settled : goal.returns-clause-settled
returns-clause-settled c =
    sym (c.loop-at.invariant.settled_is
    ∙ ap (λ (b : Bool). c.loop-at.filled.is_settled && b)
    (settled_end (fresh_by c.args.finder.now) c.loop-at.number c.loop-at.at c.args.text.now (omega (arith, c.loop-at-test.false)))
    ∙ and_all c.loop-at.filled.is_settled)
