use Rattle.std.proofs.Common.{◌≡◌, ◌+◌, ◌-◌, ◌≤◌, ◌++◌, ◌∷◌, [], ℕ, List, length, take, drop, sym, ap, ◌∙◌, subst, arith, take_all, append-nil, append_assoc, length-append}
use Rattle.std.specs.Prelude.{filter_map, Option}
use Rattle.std.specs.List.{position_or_len}
use Rattle.std.proofs.lemmas.List.{length-drop, take-append-le}
use Rattle.text_lines.specs.Lines.{is_line_feed}
use Rattle.line_stream.specs.Pieces.{log_lines}
use Rattle.line_stream.proofs.CallerLemmas.{HasNoFeed, no_feed-front}
use Rattle.locate_commands.specs.Locating.{heard_in, as_list}
use Rattle.locate_commands.proofs.LinesAhead.{heard_ahead, heard_end, empty_heard, one_heard, few_heard, drop_on}
use Rattle.locate_commands.proofs.frames.FirstFrames.of.Goals as goal
use Rattle.locate_commands.proofs.frames.FirstFrames.of.Goals.{then-loop-at-test+else-len-lt-FEW, else-loop-at-test}

pub frame_heard-requires-clause-one : goal.frame_heard-requires-clause-one
frame_heard-requires-clause-one c =
    let at : ℕ = c.loop-at.at in
    let n : ℕ = c.until_feed-end.result in
    let rest : List ℕ = drop at c.args.log.now in
    let whole : take (length c.args.log.now - at) rest ≡ rest = take_all (length c.args.log.now - at) rest (omega (arith, length-drop at c.args.log.now)) in
    let exact : n ≡ position_or_len is_line_feed rest = c.until_feed-end.ensures.exact ∙ ap (position_or_len is_line_feed) whole in
    subst (λ k. HasNoFeed (take k rest)) (let e : n ≡ at + n - at = omega arith in e) (no_feed-front rest n exact (omega (arith, c.until_feed-end.ensures.within, ap length whole)))

pub loop-at-preserved : goal.loop-at-preserved
loop-at-preserved c =
    let at : ℕ = c.loop-at.at in
    let n : ℕ = c.until_feed-end.result in
    let log : List ℕ = c.args.log.now in
    let rest : List ℕ = drop at log in
    let heard = heard_in c.args.map.now c.args.place in
    let frames : List (List ℕ) = c.loop-at.frames.items in
    let behind : List (List ℕ) = filter_map heard (log_lines (drop (n + 1) rest)) in
    let whole : take (length log - at) rest ≡ rest = take_all (length log - at) rest (omega (arith, length-drop at log)) in
    let exact : n ≡ position_or_len is_line_feed rest = c.until_feed-end.ensures.exact ∙ ap (position_or_len is_line_feed) whole in
    let within : n ≤ length rest = omega (arith, c.until_feed-end.ensures.within, ap length whole) in
    let frame_is : c.in_ok-heard.heard ≡ heard (take n rest) = c.in_ok-heard.ensures ∙ ap (λ k. heard (take k rest)) (let e : at + n - at ≡ n = omega arith in e) in
    let new_is : c.note.new.frames.items ≡ frames ++ as_list (heard (take n rest)) =
    c.in_ok-note.ensures ∙ ap (λ (o : Option (List ℕ)). frames ++ as_list o) frame_is in
    record {
      few = omega (arith, c.if-len-lt-FEW.true, c.len.ensures, ap length new_is, length-append frames (as_list (heard (take n rest))), few_heard (heard (take n rest)));
      all = c.loop-at.invariant.all
          ∙ ap (λ (t : List (List ℕ)). frames ++ t) (heard_ahead rest n exact heard (empty_heard c.args.map.now c.args.place) within)
          ∙ sym (append_assoc frames (filter_map heard (take n rest ∷ [])) behind)
          ∙ ap (λ (t : List (List ℕ)). (frames ++ t) ++ behind) (one_heard heard (take n rest))
          ∙ ap (λ (t : List (List ℕ)). t ++ behind) (sym new_is)
          ∙ ap (λ (t : List ℕ). c.note.new.frames.items ++ filter_map heard (log_lines t)) (drop_on at (n + 1) log);
    }

pub returns : goal.returns
returns c =
    let log : List ℕ = c.args.log.now in
    let heard = heard_in c.args.map.now c.args.place in
    let frames : List (List ℕ) = c.loop-at.frames.items in
    let left : List (List ℕ) = filter_map heard (log_lines (drop c.loop-at.at log)) in
    elim c.loop-at-test.branch [
      | then-loop-at-test+else-len-lt-FEW w ↦
          let full : 16 ≤ length frames = omega (arith, w.if-len-lt-FEW.false, w.len.ensures) in
          sym (ap (take 16) c.loop-at.invariant.all ∙ take-append-le 16 frames left full ∙ take_all 16 frames c.loop-at.invariant.few)
      | else-loop-at-test w ↦
          sym (ap (take 16) (c.loop-at.invariant.all
          ∙ ap (λ (t : List (List ℕ)). frames ++ t) (heard_end heard (empty_heard c.args.map.now c.args.place) c.loop-at.at log (omega (arith, w.loop-at-test.false)))
          ∙ append-nil frames) ∙ take_all 16 frames c.loop-at.invariant.few)
    ]
