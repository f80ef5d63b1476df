-- Of two frames that the same line of the map accepts, the later has the greater freshness.
use Rattle.std.proofs.Common.{◌≡◌, ℕ, ◌+◌, ◌<◌, ◌==◌, Bool, true, false, List, [], ◌∷◌, length, map, set, refl, sym, ap, ◌∙◌, subst, arith, get_or-set_same, get_or-set_other}
use Rattle.std.specs.Prelude.{nat_lt, if◌then◌else◌, fold, slice_get, slice_index, IfSome, Option, None, Some, option_map, unwrap_or}
use Rattle.std.proofs.lemmas.Bool.Decides.{nat_tests}
use Rattle.std.proofs.lemmas.List.{map-append, length-set, length-map}
use Rattle.std.proofs.lemmas.Option.{slice_get_within}
use Rattle.secoc_words.specs.Counting.{Acceptance, KeepsCounters, AcceptedRise, last_accepted}
use Rattle.secoc_words.specs.Counting as counting
use Rattle.secoc_words.proofs.CallerLemmas.{KeepsCounters-rise}
use Rattle.text_lines.specs.Lines.{words_of}
use Rattle.can_logs.specs.declared.map_lines.MapLine.{MapLine}
use Rattle.can_logs.specs.declared.frames.LogFrame.{LogFrame}
use Rattle.can_logs.specs.Frames.{log_frame_of}
use Rattle.can_logs.specs.MapLines.{place_of_frame}
use Rattle.can_logs.specs.Findings.{channel_of, first_counters}
use Rattle.line_stream.specs.Pieces.{line_limit, in_64_bits}
use Rattle.can_logs.specs.WatchMaps.{NumberedMap}
use Rattle.explain_commands.specs.declared.answers.LineAnswer.{LineAnswer}
use Rattle.explain_commands.specs.declared.answers.LineAnswer.TheVariants as answer
use Rattle.explain_commands.specs.Trials.{accepted_freshness}
use Rattle.explain_commands.specs.Reasons.{Failing}
use Rattle.explain_commands.specs.Explaining.{Known, answer_by, frame_at, answer_line_at, answer_at, answer_frame, answer_words, answer_line, answer_accepts, accepted_in, next_counters, counters_after, known_after, with_answer, answers_to}
use Rattle.explain_commands.proofs.Accepting.{accepted_above}

-- ---- the counters

put_at : (cs : List ℕ) (p v place : ℕ) (b : Bool) → (p == place) ≡ b → place < length cs → slice_index (set cs p v) place ≡ (if b then v else slice_index cs place)
put_at cs p v place true e inside =
    let same : p ≡ place = grind (arith, nat_tests, e) in
    subst (λ (q : ℕ). slice_index (set cs q v) place ≡ v) (sym same) (get_or-set_same cs place v 0 inside)
put_at cs p v place false e inside =
    get_or-set_other cs p place v 0 (λ (same : place ≡ p). absurd (grind (arith, nat_tests, e, same)))

-- the counter of a line is the freshness that was accepted last
counters_are : (answers : List LineAnswer) (cs : List ℕ) (place : ℕ) → place < length cs
    → slice_index (fold next_counters cs (accepted_in answers)) place ≡ last_accepted place (slice_index cs place) (map answer_accepts answers)
counters_are [] cs place inside = refl
counters_are (answer.Silent ∷ answers) cs place inside = counters_are answers cs place inside
counters_are (answer.Failed number p e ∷ answers) cs place inside = counters_are answers cs place inside
counters_are (answer.Accepted a ∷ answers) cs place inside =
    counters_are answers (set cs a.place a.freshness) place (omega (arith, inside, length-set cs a.place a.freshness))
    ∙ ap (λ (c : ℕ). last_accepted place c (map answer_accepts answers)) (put_at cs a.place a.freshness place (a.place == place) refl inside)

-- ---- an accepted freshness is above the counter of its place

abbrev IsAbove : Known → LineAnswer → Type 0
IsAbove known a = IfSome (answer_accepts a) (λ x. (x.receiver < length known.mapping.lines) × (slice_index known.counters x.receiver < x.freshness))

above_by : (known : Known) (number : ℕ) (f : Failing) → f.place < length known.mapping.lines → f.receiver.counter ≡ slice_index known.counters f.place
    → (o : Option ℕ) → accepted_freshness f.receiver f.bytes ≡ o → IsAbove known (answer_by f number o)
above_by known number f inside counter None is = tt
above_by known number f inside counter (Some v) is = (inside, omega (arith, counter, accepted_above f.receiver f.bytes v is))

module _ (known : Known) (number : ℕ) (bytes : List ℕ) where
  above_entry : (place : ℕ) (o : Option MapLine) → slice_get known.mapping.lines place ≡ o
      → IsAbove known (unwrap_or (option_map (answer_line_at known number bytes place) o) answer.Silent)
  above_entry place None is = tt
  above_entry place (Some entry) is =
      let f : Failing = frame_at known place bytes entry in
      above_by known number f (slice_get_within known.mapping.lines place entry is) refl (accepted_freshness f.receiver f.bytes) refl

  above_at : (o : Option ℕ) → IsAbove known (answer_at known number bytes o)
  above_at None = tt
  above_at (Some place) = above_entry place (slice_get known.mapping.lines place) refl

above_frame : (known : Known) (number : ℕ) (words : List (List ℕ)) (o : Option LogFrame) → IsAbove known (answer_frame known number words o)
above_frame known number words None = tt
above_frame known number words (Some frame) = above_at known number frame.bytes (place_of_frame known.mapping.lines frame.can (channel_of words))

above_words : (known : Known) (number : ℕ) (words : List (List ℕ)) → IsAbove known (answer_words known number words)
unfolding answer_words
above_words known number words = above_frame known number words (log_frame_of words)

above_if : (known : Known) (number : ℕ) (bytes : List ℕ) (b : Bool) → IsAbove known (if b then answer.Silent else answer_words known number (words_of bytes))
above_if known number bytes true = tt
above_if known number bytes false = above_words known number (words_of bytes)

-- ---- each line of the map keeps its counter

abbrev KeptBy : NumberedMap → List LineAnswer → Type 0
KeptBy mapping answers = KeepsCounters (slice_index (first_counters mapping.lines)) (map answer_accepts answers)

over_last : (mapping : NumberedMap) (answers : List LineAnswer) (o : Option Acceptance)
    → IfSome o (λ x. (x.receiver < length mapping.lines) × (slice_index (counters_after mapping answers) x.receiver < x.freshness))
    → IfSome o (λ x. last_accepted x.receiver (slice_index (first_counters mapping.lines) x.receiver) (map answer_accepts answers) < x.freshness)
over_last mapping answers None h = tt
over_last mapping answers (Some x) h =
    let inside : x.receiver < length (first_counters mapping.lines) = omega (arith, h.0, length-map mapping.lines (λ (l : MapLine). l.counter)) in
    omega (arith, h.1, counters_are answers (first_counters mapping.lines) x.receiver inside)

kept_one : (mapping : NumberedMap) (answers : List LineAnswer) (bytes : List ℕ) → KeptBy mapping answers → KeptBy mapping (with_answer mapping answers bytes)
kept_one mapping answers bytes so_far =
    let known : Known = known_after mapping answers in
    let number : ℕ = in_64_bits (length answers + 1) in
    let a : LineAnswer = answer_line known number bytes in
    subst (KeepsCounters (slice_index (first_counters mapping.lines))) (sym (map-append answer_accepts answers (a ∷ [])))
    (counting.more (map answer_accepts answers) (answer_accepts a) so_far (over_last mapping answers (answer_accepts a) (above_if known number bytes (nat_lt line_limit (length bytes)))))

kept_all : (mapping : NumberedMap) (before : List LineAnswer) (lines : List (List ℕ)) → KeptBy mapping before → KeptBy mapping (fold (with_answer mapping) before lines)
kept_all mapping before [] so_far = so_far
kept_all mapping before (l ∷ lines) so_far = kept_all mapping (with_answer mapping before l) lines (kept_one mapping before l so_far)

pub answers_rise : (mapping : NumberedMap) (lines : List (List ℕ)) → AcceptedRise (map answer_accepts (answers_to mapping lines))
unfolding answers_to
answers_rise mapping lines =
    KeepsCounters-rise (slice_index (first_counters mapping.lines)) (map answer_accepts (fold (with_answer mapping) [] lines)) (kept_all mapping [] lines counting.none)
