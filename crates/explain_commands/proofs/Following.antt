-- The state goes on by a line.
use Rattle.std.proofs.Common.{◌≡◌, ℕ, zero, suc, ◌+◌, ◌<◌, ◌≤◌, Bool, true, false, List, [], ◌∷◌, ◌++◌, length, take, refl, sym, ◌∙◌, ap, subst, arith, append-nil, append_assoc, inl, inr, length-append}
use Rattle.std.specs.Prelude.{if◌then◌else◌, nat_lt, ◌||◌, fold, filter_map, reverse, Option, None, Some, slice_get, option_map, unwrap_or, Ok}
use Rattle.std.proofs.lemmas.Bool.{cases_lt}
use Rattle.std.proofs.lemmas.Bool.Decides.{nat_tests}
use Rattle.std.proofs.lemmas.Grind.{flat_map-append}
use Rattle.std.proofs.lemmas.List.{reverse-append}
use Rattle.std.proofs.lemmas.List.Elements.{filter_map-append}
use Rattle.std.proofs.lemmas.List.Folds.{list_any-append}
use Rattle.std.proofs.lemmas.List.Sums.{fold-append}
use Rattle.std.proofs.lemmas.Option.{slice_get_within}
use Rattle.bus_port.specs.Sink.{SinkState}
use Rattle.can_logs.specs.declared.map_lines.MapLine.{MapLine}
use Rattle.can_logs.specs.declared.frames.LogFrame.{LogFrame}
use Rattle.can_logs.specs.Findings.{first_counters, channel_of}
use Rattle.can_logs.specs.Frames.{log_frame_of}
use Rattle.can_logs.specs.MapLines.{place_of_frame}
use Rattle.line_stream.specs.Pieces.{line_limit, in_64_bits}
use Rattle.line_stream.proofs.CallerLemmas.{kept_whole, kept_long}
use Rattle.text_lines.specs.Lines.{words_of}
use Rattle.line_stream.specs.Streams.{kept_of, TakesNext}
use Rattle.can_logs.specs.WatchMaps.{NumberedMap}
use Rattle.explain_commands.specs.declared.recent.Accepted.{Accepted}
use Rattle.explain_commands.specs.declared.answers.LineAnswer.{LineAnswer}
use Rattle.explain_commands.specs.declared.answers.LineAnswer.TheVariants as answer
use Rattle.explain_commands.specs.Explaining.{Known, answer_line, answer_words, accepted_of, is_failure, accepted_in, recent_of, next_counters, counters_after, known_after, with_answer, answers_to, said_of, explained_lines, some_failed, have_risen, status_by, explain_status, answer_by, frame_at, answer_line_at, answer_at, answer_frame}
use Rattle.explain_commands.specs.Trials.{accepted_freshness}
use Rattle.explain_commands.specs.Reasons.{Failing}
use Rattle.explain_commands.specs.ExplainStates.{ExplainState, known_by, IsPlacedAnswer, after_answer, IsFreshExplainer, end_explained, ExplainerAtSink, ExplainsLine}

-- ---- the answers to one more line

answered_more : (mapping : NumberedMap) (lines : List (List ℕ)) (bytes : List ℕ) → answers_to mapping (lines ++ bytes ∷ []) ≡ with_answer mapping (answers_to mapping lines) bytes
unfolding answers_to
answered_more mapping lines bytes = fold-append (with_answer mapping) [] lines (bytes ∷ [])

-- each line has one answer
one_each : (mapping : NumberedMap) (before : List LineAnswer) (lines : List (List ℕ)) → length (fold (with_answer mapping) before lines) ≡ length before + length lines
one_each mapping before [] = omega arith
one_each mapping before (l ∷ lines) =
    let next : LineAnswer = answer_line (known_after mapping before) (in_64_bits (length before + 1)) l in
    omega (arith, one_each mapping (before ++ next ∷ []) lines, length-append before (next ∷ []))

length-answers_to : (mapping : NumberedMap) (lines : List (List ℕ)) → length (answers_to mapping lines) ≡ length lines
unfolding answers_to
length-answers_to mapping lines = omega (arith, one_each mapping [] lines)

-- ---- what is known after one more answer

accepted_more : (answers : List LineAnswer) (a : LineAnswer) → accepted_in (answers ++ a ∷ []) ≡ accepted_in answers ++ filter_map accepted_of (a ∷ [])
accepted_more answers a = filter_map-append accepted_of answers (a ∷ [])

-- what was taken is taken once
take_again : {A : Type 0} (n : ℕ) (xs : List A) → take n (take n xs) ≡ take n xs
take_again zero xs = refl
take_again (suc n) [] = refl
take_again {A} (suc n) (x ∷ xs) = ap (λ (l : List A). x ∷ l) (take_again n xs)

take_less : {A : Type 0} (n : ℕ) (xs : List A) → take n (take (suc n) xs) ≡ take n xs
take_less zero xs = refl
take_less (suc n) [] = refl
take_less {A} (suc n) (x ∷ xs) = ap (λ (l : List A). x ∷ l) (take_less n xs)

one_taken : {A : Type 0} (n : ℕ) (x : A) (xs : List A) → take n (x ∷ take n xs) ≡ take n (x ∷ xs)
one_taken zero x xs = refl
one_taken {A} (suc n) x xs = ap (λ (l : List A). x ∷ l) (take_less n xs)

module _ (mapping : NumberedMap) (s : ExplainState) (answers : List LineAnswer) where
  counters_step : (a : LineAnswer) → s.counters ≡ counters_after mapping answers → (after_answer s a).counters ≡ counters_after mapping (answers ++ a ∷ [])
  counters_step answer.Silent is =
      is ∙ ap (fold next_counters (first_counters mapping.lines)) (sym (accepted_more answers answer.Silent ∙ append-nil (accepted_in answers)))
  counters_step (answer.Accepted a) is =
      ap (λ cs. next_counters cs a) is
      ∙ sym (ap (fold next_counters (first_counters mapping.lines)) (accepted_more answers (answer.Accepted a))
      ∙ fold-append next_counters (first_counters mapping.lines) (accepted_in answers) (a ∷ []))
  counters_step (answer.Failed number place e) is =
      is ∙ ap (fold next_counters (first_counters mapping.lines)) (sym (accepted_more answers (answer.Failed number place e) ∙ append-nil (accepted_in answers)))

  recent_step : (a : LineAnswer) → s.recent ≡ recent_of answers → (after_answer s a).recent ≡ recent_of (answers ++ a ∷ [])
  recent_step answer.Silent is =
      is ∙ ap (λ (kept : List Accepted). take 65536 (reverse kept)) (sym (accepted_more answers answer.Silent ∙ append-nil (accepted_in answers)))
  recent_step (answer.Accepted a) is =
      ap (λ (kept : List Accepted). take 65536 (a ∷ kept)) is
      ∙ one_taken 65536 a (reverse (accepted_in answers))
      ∙ sym (ap (λ (kept : List Accepted). take 65536 (reverse kept)) (accepted_more answers (answer.Accepted a))
      ∙ ap (take 65536) (reverse-append (accepted_in answers) (a ∷ [])))
  recent_step (answer.Failed number place e) is =
      is ∙ ap (λ (kept : List Accepted). take 65536 (reverse kept)) (sym (accepted_more answers (answer.Failed number place e) ∙ append-nil (accepted_in answers)))

  or_none : (b : Bool) → b ≡ (b || (false || false))
  or_none true = refl
  or_none false = refl

  or_some : (b : Bool) → true ≡ (b || (true || false))
  or_some true = refl
  or_some false = refl

  failed_step : (a : LineAnswer) → s.failed ≡ some_failed answers → (after_answer s a).failed ≡ some_failed (answers ++ a ∷ [])
  failed_step answer.Silent is =
      is ∙ or_none (some_failed answers) ∙ sym (list_any-append is_failure answers (answer.Silent ∷ []))
  failed_step (answer.Accepted a) is =
      is ∙ or_none (some_failed answers) ∙ sym (list_any-append is_failure answers (answer.Accepted a ∷ []))
  failed_step (answer.Failed number place e) is =
      or_some (some_failed answers) ∙ sym (list_any-append is_failure answers (answer.Failed number place e ∷ []))

text_step : (s : ExplainState) (a : LineAnswer) → (after_answer s a).text ≡ s.text ++ explained_lines s.mapping (a ∷ [])
text_step s answer.Silent = sym (append-nil s.text)
text_step s (answer.Accepted a) = sym (append-nil s.text)
text_step s (answer.Failed number place e) = ap (λ t. s.text ++ t) (sym (append-nil (said_of s.mapping (answer.Failed number place e))))

pub same_mapping : (s : ExplainState) (a : LineAnswer) → (after_answer s a).mapping ≡ s.mapping
same_mapping s answer.Silent = refl
same_mapping s (answer.Accepted a) = refl
same_mapping s (answer.Failed number place e) = refl

-- ---- places

placed_by : (f : Failing) (number n : ℕ) → f.place < n → (o : Option ℕ) → IsPlacedAnswer n (answer_by f number o)
placed_by f number n inside None = inside
placed_by f number n inside (Some v) = inside

module _ (known : Known) (number : ℕ) (bytes : List ℕ) where
  placed_entry : (place : ℕ) (o : Option MapLine) → slice_get known.mapping.lines place ≡ o
      → IsPlacedAnswer (length known.mapping.lines) (unwrap_or (option_map (answer_line_at known number bytes place) o) answer.Silent)
  placed_entry place None is = tt
  placed_entry place (Some entry) is =
      let f : Failing = frame_at known place bytes entry in
      placed_by f number (length known.mapping.lines) (slice_get_within known.mapping.lines place entry is) (accepted_freshness f.receiver f.bytes)

  placed_at : (o : Option ℕ) → IsPlacedAnswer (length known.mapping.lines) (answer_at known number bytes o)
  placed_at None = tt
  placed_at (Some place) = placed_entry place (slice_get known.mapping.lines place) refl

placed_frame : (known : Known) (number : ℕ) (words : List (List ℕ)) (o : Option LogFrame) → IsPlacedAnswer (length known.mapping.lines) (answer_frame known number words o)
placed_frame known number words None = tt
placed_frame known number words (Some frame) = placed_at known number frame.bytes (place_of_frame known.mapping.lines frame.can (channel_of words))

-- an answer speaks of a line of the map
pub placed_words : (known : Known) (number : ℕ) (words : List (List ℕ)) → IsPlacedAnswer (length known.mapping.lines) (answer_words known number words)
unfolding answer_words
placed_words known number words = placed_frame known number words (log_frame_of words)

-- ---- a line

long_test : (n m : ℕ) → n < m → nat_lt n m ≡ true
long_test n m less = grind (arith, nat_tests)

-- the answer to a line as far as it is kept is the answer to it
answer_kept-whole : (known : Known) (number : ℕ) (line rest : List ℕ) → line ≡ take (line_limit + 1) rest → answer_line known number line ≡ answer_line known number rest
answer_kept-whole known number line rest is = elim (cases_lt line_limit (length line)) [
  | inl long ↦
      let far : line_limit < length rest = kept_long line_limit rest (subst (λ l. line_limit < length l) is long) in
      ap (λ b. if b then answer.Silent else answer_words known number (words_of line)) (long_test line_limit (length line) long)
      ∙ sym (ap (λ b. if b then answer.Silent else answer_words known number (words_of rest)) (long_test line_limit (length rest) far))
  | inr few ↦
      let whole : line ≡ rest = is ∙ kept_whole line_limit rest (subst (λ l. length l ≤ line_limit) is few) in
      ap (answer_line known number) whole
]

-- ---- the state

-- what an explainer knows after these lines, apart from its text
pub record KnowsAnswers (mapping : NumberedMap) (lines : List (List ℕ)) (s : ExplainState) : Type 0 where
  pub same : s.mapping ≡ mapping
  pub counters_are : s.counters ≡ counters_after mapping (answers_to mapping lines)
  pub recent_are : s.recent ≡ recent_of (answers_to mapping lines)
  pub failed_is : s.failed ≡ some_failed (answers_to mapping lines)

-- before the log
pub KnowsAnswers-none : (s : ExplainState) → IsFreshExplainer s → KnowsAnswers s.mapping [] s
unfolding answers_to
KnowsAnswers-none s fresh = record { same = refl; counters_are = fresh.0; recent_are = fresh.1; failed_is = fresh.2 }

-- a new text is begun
pub KnowsAnswers-text : (mapping : NumberedMap) (lines : List (List ℕ)) (s : ExplainState) → KnowsAnswers mapping lines s → KnowsAnswers mapping lines (record s { text = [] })
KnowsAnswers-text mapping lines s e = record { same = e.same; counters_are = e.counters_are; recent_are = e.recent_are; failed_is = e.failed_is }

-- the status is that of the answers
pub end_explained_is : (mapping : NumberedMap) (lines : List (List ℕ)) (s : ExplainState) → KnowsAnswers mapping lines s → end_explained s ≡ explain_status mapping (answers_to mapping lines)
end_explained_is mapping lines s e =
    ap (λ b. status_by b (have_risen s.mapping s.counters)) e.failed_is
    ∙ ap (λ cs. status_by (some_failed (answers_to mapping lines)) (have_risen s.mapping cs)) e.counters_are
    ∙ ap (λ (m : NumberedMap). status_by (some_failed (answers_to mapping lines)) (have_risen m (counters_after mapping (answers_to mapping lines)))) e.same

module _ (mapping : NumberedMap) (lines : List (List ℕ)) (s : ExplainState) (line : List ℕ) (e : KnowsAnswers mapping lines s) where
  abbrev answer_next : LineAnswer
  answer_next = answer_line (known_by s) (in_64_bits (length lines + 1)) (kept_of line)

  -- one more line has one more answer
  pub answers_next : answers_to mapping (lines ++ line ∷ []) ≡ answers_to mapping lines ++ answer_next ∷ []
  answers_next =
      let answers : List LineAnswer = answers_to mapping lines in
      let known_is : known_by s ≡ known_after mapping answers =
      ap (λ (m : NumberedMap). record { mapping = m; counters = s.counters; recent = s.recent }) e.same
      ∙ ap (λ cs. record { mapping = mapping; counters = cs; recent = s.recent }) e.counters_are
      ∙ ap (λ (kept : List Accepted). record { mapping = mapping; counters = counters_after mapping answers; recent = kept }) e.recent_are in
      let a_is : answer_next ≡ answer_line (known_after mapping answers) (in_64_bits (length answers + 1)) line =
      answer_kept-whole (known_by s) (in_64_bits (length lines + 1)) (kept_of line) line refl
      ∙ ap (λ (k : Known). answer_line k (in_64_bits (length lines + 1)) line) known_is
      ∙ ap (λ n. answer_line (known_after mapping answers) (in_64_bits (n + 1)) line) (sym (length-answers_to mapping lines)) in
      answered_more mapping lines line ∙ ap (λ (x : LineAnswer). answers ++ x ∷ []) (sym a_is)

  pub KnowsAnswers-more : KnowsAnswers mapping (lines ++ line ∷ []) (after_answer s answer_next)
  KnowsAnswers-more =
      let answers : List LineAnswer = answers_to mapping lines in
      let a : LineAnswer = answer_next in
      record {
        same = same_mapping s a ∙ e.same;
        counters_are = counters_step mapping s answers a e.counters_are ∙ ap (counters_after mapping) (sym answers_next);
        recent_are = recent_step mapping s answers a e.recent_are ∙ ap recent_of (sym answers_next);
        failed_is = failed_step mapping s answers a e.failed_is ∙ ap some_failed (sym answers_next);
      }

-- the lines of a piece: what they add to the answers is the text, and nothing is printed
pub record WithinPiece (mapping : NumberedMap) (first : List (List ℕ)) (sink : SinkState) (lines : List (List ℕ)) (p : ExplainerAtSink) : Type 0 where
  pub explained : KnowsAnswers mapping lines p.explainer
  pub still : p.sink ≡ sink
  pub more : List LineAnswer
  pub answers_are : answers_to mapping lines ≡ answers_to mapping first ++ more
  pub text_is : p.explainer.text ≡ explained_lines mapping more

module _ (mapping : NumberedMap) (first : List (List ℕ)) (sink : SinkState) where
  pub WithinPiece-none : (p : ExplainerAtSink) → KnowsAnswers mapping first p.explainer → p.explainer.text ≡ [] → p.sink ≡ sink → WithinPiece mapping first sink first p
  WithinPiece-none p e none still = record { explained = e; still = still; more = []; answers_are = sym (append-nil (answers_to mapping first)); text_is = none }

  pub WithinPiece-more : (lines : List (List ℕ)) (p : ExplainerAtSink) (line : List ℕ) (q : ExplainerAtSink) → WithinPiece mapping first sink lines p → TakesNext ExplainsLine (length lines) p line q (Ok tt)
      → WithinPiece mapping first sink (lines ++ line ∷ []) q
  WithinPiece-more lines p line q w taken =
      let a : LineAnswer = answer_line (known_by p.explainer) (in_64_bits (length lines + 1)) (kept_of line) in
      subst (WithinPiece mapping first sink (lines ++ line ∷ [])) (sym taken)
      (record {
        explained = KnowsAnswers-more mapping lines p.explainer line w.explained;
        still = w.still;
        more = w.more ++ a ∷ [];
        answers_are = answers_next mapping lines p.explainer line w.explained ∙ ap (λ (before : List LineAnswer). before ++ a ∷ []) w.answers_are
            ∙ append_assoc (answers_to mapping first) w.more (a ∷ []);
        text_is = text_step p.explainer a ∙ ap (λ (m : NumberedMap). p.explainer.text ++ explained_lines m (a ∷ [])) w.explained.same
            ∙ ap (λ t. t ++ explained_lines mapping (a ∷ [])) w.text_is ∙ sym (flat_map-append (said_of mapping) w.more (a ∷ []));
      })
