-- The state goes on by a line.
use Rattle.std.proofs.Common.{◌≡◌, ℕ, zero, suc, ◌+◌, ◌<◌, ◌≤◌, ◌==◌, ◌&&◌, Bool, true, false, List, [], ◌∷◌, ◌++◌, length, map, take, set, refl, sym, ◌∙◌, ap, subst, arith, append-nil, append_assoc, inl, inr, length-append, get_or-set_same, get_or-set_other, length-set}
use Rattle.std.specs.Prelude.{if◌then◌else◌, nat_lt, slice_index, slice_get, filter, Option, None, Some, IfSome}
use Rattle.std.specs.List.{flat_map, list_all, range_with_len}
use Rattle.std.proofs.lemmas.Bool.Decides.{nat_tests}
use Rattle.std.proofs.lemmas.Grind.{flat_map-append}
use Rattle.std.proofs.lemmas.List.{map-append, length-map, get_or-replicate, length-replicate}
use Rattle.std.proofs.lemmas.List.Folds.{flat_map-map, list_all-map}
use Rattle.std.proofs.lemmas.Option.{slice_get_within}
use Rattle.std.proofs.lemmas.List.Elements.{filter-append}
use Rattle.basics.specs.FaultCount.{counted}
use Rattle.secured_pdu.specs.Verdict.{Accepted, FreshnessFailure, VerificationFailure}
use Rattle.text_lines.specs.Lines.{TextLine, words_of, is_skipped}
use Rattle.secoc_words.specs.Counting.{Acceptance, last_accepted, next_counter}
use Rattle.can_logs.specs.declared.map_lines.MapLine.{MapLine}
use Rattle.can_logs.specs.declared.frames.OtherLine.TheVariants as kind
use Rattle.can_logs.specs.declared.findings.FrameTally.{FrameTally}
use Rattle.can_logs.specs.declared.findings.FrameTally.TheVariants as tally
use Rattle.watch_commands.specs.declared.counts.WatchCounts.{WatchCounts}
use Rattle.watch_commands.specs.declared.counts.LineCounts.{LineCounts}
use Rattle.watch_commands.specs.declared.times.HeardTimes.{HeardTimes}
use Rattle.watch_commands.specs.declared.times.LogClock.{LogClock}
use Rattle.watch_commands.specs.declared.times.Silence.{Silence}
use Rattle.watch_commands.specs.Limits.{limits_in}
use Rattle.watch_commands.specs.Times.{time_by, time_found, no_times, clock_of, times_of}
use Rattle.watch_commands.specs.WatchedMaps.{WatchedMap}
use Rattle.can_logs.specs.Findings.{Finding, other, too_short, verdict, tally_of, finding_accepts, first_counters, counter_of_place, AuditsLine, is_accepted_tally}
use Rattle.can_logs.proofs.CallerLemmas.{AuditsLine-same}
use Rattle.line_stream.proofs.CallerLemmas.{kept_whole, kept_long}
use Rattle.line_stream.specs.Pieces.{line_limit, in_64_bits}
use Rattle.watch_commands.specs.Watching.{Found, stamped, findings_of, WatchesLine, none, more, told_text, found_text}
use Rattle.watch_commands.specs.Stamps.{stamp_of}
use Rattle.watch_commands.proofs.Stamping.{findings_more, stamped_kept}
use Rattle.watch_commands.proofs.Silencing.{FewFound, no_found, one_found, clock_more, told_kept, get_replicated, length-heard, times_one, silence_is}
use Rattle.watch_commands.specs.WatchTotals.{is_failed_tally, is_accepted_at, is_failed_at, is_other_of, is_unmapped_line, is_other_frame, is_malformed_line, counted_of, counts_of, counts_text, total_line_at, map_places, line_over_at, log_over, totals_text_of, passes_at, log_passes, status_of}
use Rattle.watch_commands.specs.LogTotals.{totals_of, totals_text, watch_status}
use Rattle.line_stream.specs.Streams.{kept_of}
use Rattle.watch_commands.specs.Silences.{no_silence}
use Rattle.watch_commands.proofs.Calm.{calm, totals_calm, status_calm, places_same}
use Rattle.watch_commands.specs.States.{wants_times, time_wanted, WatchState, IsFreshWatch, Watched, JudgesLine, WatchesNext, IsPlaced, tally_found, counts_as, counts_after, accepted_place, failed_place, raised_at, totals_in, end_text, end_status, time_told, clock_after, times_after, heard_after, silence_at}

-- ---- counting

count_one : (b : Bool) (n m : ℕ) → m ≡ (if b then 1 else 0) → (if b then counted (in_64_bits n) else in_64_bits n) ≡ in_64_bits (n + m)
count_one true n m is = omega (arith, is)
count_one false n m is = ap in_64_bits (omega (arith, is))

one_passes : (test : Finding → Bool) (f : Finding) (b : Bool) → test f ≡ b → length (filter test (f ∷ [])) ≡ (if b then 1 else 0)
one_passes test f true is = rw is refl
one_passes test f false is = rw is refl

-- one more finding counts as it does
counts_one : (test : Finding → Bool) (passes : FrameTally → Bool) (same : (f : Finding) → test f ≡ passes (tally_of f)) (findings : List Finding) (f : Finding)
    → counts_as passes (Some (tally_of f)) (in_64_bits (length (filter test findings))) ≡ in_64_bits (length (filter test (findings ++ f ∷ [])))
counts_one test passes same findings f =
    count_one (passes (tally_of f)) (length (filter test findings)) (length (filter test (f ∷ []))) (one_passes test f (passes (tally_of f)) (same f))
    ∙ ap in_64_bits (sym (length-append (filter test findings) (filter test (f ∷ [])))
    ∙ ap length (sym (filter-append test findings (f ∷ []))))

-- what is found of a line is one finding at most
pub data AtMostOne : List Finding → Type 0 where
  no_finding : AtMostOne []
  one_finding : (f : Finding) → AtMostOne (f ∷ [])

at_most_one : (mapping : List MapLine) (c : ℕ → ℕ) (number : ℕ) (bytes : List ℕ) (found : List Finding) → WatchesLine mapping c number bytes found → AtMostOne found
at_most_one mapping c number bytes found (inl (long, is)) = subst AtMostOne (sym is) (one_finding (other kind.Malformed))
at_most_one mapping c number bytes found (inr (inl (few, skipped, is))) = subst AtMostOne (sym is) no_finding
at_most_one mapping c number bytes found (inr (inr (few, kept, (f, is, finds)))) = subst AtMostOne (sym is) (one_finding f)

few_stamped : (line : List ℕ) (found : List Finding) → AtMostOne found → FewFound (stamped line found)
few_stamped line _ no_finding = no_found
few_stamped line _ (one_finding f) = one_found (record { finding = f; stamp = stamp_of (words_of line) })

-- what is kept of a line of the map after one more line of the log
times_more : (place : ℕ) (so_far : List Found) (line : List ℕ) (found : List Finding) (times : List HeardTimes) → AtMostOne found → place < length times
    → slice_get times place ≡ Some (times_of place so_far)
    → slice_get (times_after (accepted_place (tally_found found)) (time_told (stamped line found)) (clock_after (time_told (stamped line found)) (clock_of so_far)) times) place
    ≡ Some (times_of place (so_far ++ stamped line found))
times_more place so_far line _ times no_finding inside is = is ∙ ap (λ (fs : List Found). Some (times_of place fs)) (sym (append-nil so_far))
times_more place so_far line _ times (one_finding f) inside is =
    let one : Found = record { finding = f; stamp = stamp_of (words_of line) } in
    ap (λ (c : LogClock). slice_get (times_after (accepted_place (Some (tally_of f))) (time_found one) c times) place) (clock_more so_far (one ∷ []) (one_found one))
    ∙ times_one place so_far one times inside is

counts_found : (test : Finding → Bool) (passes : FrameTally → Bool) (same : (f : Finding) → test f ≡ passes (tally_of f)) (findings found : List Finding) → AtMostOne found
    → counts_as passes (tally_found found) (in_64_bits (length (filter test findings))) ≡ in_64_bits (length (filter test (findings ++ found)))
counts_found test passes same findings _ no_finding = ap (λ (fs : List Finding). in_64_bits (length (filter test fs))) (sym (append-nil findings))
counts_found test passes same findings _ (one_finding f) = counts_one test passes same findings f

-- one more line is counted as it counts
counted_found : (passes : FrameTally → Bool) (findings found : List Finding) → AtMostOne found
    → counts_as passes (tally_found found) (counted_of passes findings) ≡ counted_of passes (findings ++ found)
counted_found passes findings found few = counts_found (λ f. passes (tally_of f)) passes (λ f. refl) findings found few

-- the five numbers after what is found of one more line
counts_after_found : (findings found : List Finding) → AtMostOne found → counts_after (tally_found found) (counts_of findings) ≡ counts_of (findings ++ found)
counts_after_found findings found few =
    rw (counted_found is_accepted_tally findings found few)
    (rw (counted_found is_failed_tally findings found few)
    (rw (counted_found (is_other_of is_unmapped_line) findings found few)
    (rw (counted_found (is_other_of is_other_frame) findings found few)
    (rw (counted_found (is_other_of is_malformed_line) findings found few) refl))))

-- ---- the numbers of the map's lines

raised_place : (ns : List ℕ) (place q : ℕ) (b : Bool) → (place == q) ≡ b → place < length ns
    → slice_index (set ns place (counted (slice_index ns place))) q ≡ (if b then counted (slice_index ns q) else slice_index ns q)
raised_place ns place q true e inside =
    let same : place ≡ q = grind (arith, nat_tests, e) in
    subst (λ k. slice_index (set ns place (counted (slice_index ns place))) k ≡ counted (slice_index ns k)) same
    (get_or-set_same ns place (counted (slice_index ns place)) 0 inside)
raised_place ns place q false e inside =
    get_or-set_other ns place q (counted (slice_index ns place)) 0 (λ (same : q ≡ place). absurd (grind (arith, nat_tests, e, same)))

-- the number at a place after one more line
accepted_at_place : (counts : Option FrameTally) (ns : List ℕ) (q : ℕ) → IfSome counts (IsPlaced (length ns))
    → slice_index (raised_at (accepted_place counts) ns) q ≡ counts_as (is_accepted_at q) counts (slice_index ns q)
accepted_at_place None ns q placed = refl
accepted_at_place (Some (tally.Other k)) ns q placed = refl
accepted_at_place (Some (tally.Accepted place)) ns q placed = raised_place ns place q (place == q) refl placed
accepted_at_place (Some (tally.Failed place)) ns q placed = refl

failed_at_place : (counts : Option FrameTally) (ns : List ℕ) (q : ℕ) → IfSome counts (IsPlaced (length ns))
    → slice_index (raised_at (failed_place counts) ns) q ≡ counts_as (is_failed_at q) counts (slice_index ns q)
failed_at_place None ns q placed = refl
failed_at_place (Some (tally.Other k)) ns q placed = refl
failed_at_place (Some (tally.Accepted place)) ns q placed = refl
failed_at_place (Some (tally.Failed place)) ns q placed = raised_place ns place q (place == q) refl placed

-- what a line counts as is at a place of the map
placed_line : (mapping : List MapLine) (c : ℕ → ℕ) (l : TextLine) (f : Finding) → AuditsLine mapping c l f → IsPlaced (length mapping) (tally_of f)
placed_line mapping c l (other k) h = tt
placed_line mapping c l (too_short n p can) (m, mapped, number_is, place_is, can_is, short) =
    subst (λ k. k < length mapping) (sym place_is) (slice_get_within mapping m.place m.entry mapped.3)
placed_line mapping c l (verdict n p can (Accepted payload v)) (m, mapped, number_is, place_is, can_is, long, judged) =
    subst (λ k. k < length mapping) (sym place_is) (slice_get_within mapping m.place m.entry mapped.3)
placed_line mapping c l (verdict n p can FreshnessFailure) (m, mapped, number_is, place_is, can_is, long, judged) =
    subst (λ k. k < length mapping) (sym place_is) (slice_get_within mapping m.place m.entry mapped.3)
placed_line mapping c l (verdict n p can VerificationFailure) (m, mapped, number_is, place_is, can_is, long, judged) =
    subst (λ k. k < length mapping) (sym place_is) (slice_get_within mapping m.place m.entry mapped.3)

placed_found : (mapping : List MapLine) (c : ℕ → ℕ) (number : ℕ) (bytes : List ℕ) (found : List Finding) → WatchesLine mapping c number bytes found
    → IfSome (tally_found found) (IsPlaced (length mapping))
placed_found mapping c number bytes found (inl (long, is)) = subst (λ (fs : List Finding). IfSome (tally_found fs) (IsPlaced (length mapping))) (sym is) tt
placed_found mapping c number bytes found (inr (inl (few, skipped, is))) = subst (λ (fs : List Finding). IfSome (tally_found fs) (IsPlaced (length mapping))) (sym is) tt
placed_found mapping c number bytes found (inr (inr (few, kept, (f, is, finds)))) =
    subst (λ (fs : List Finding). IfSome (tally_found fs) (IsPlaced (length mapping))) (sym is)
    (placed_line mapping c (record { number = number; words = words_of bytes }) f finds)

-- a line counts as something at a place of the map
pub JudgesLine-placed : (old judged : WatchState) (number : ℕ) (line : List ℕ) (counts : Option FrameTally) (time : Option ℕ) → JudgesLine old number line judged counts time
    → IfSome counts (IsPlaced (length old.mapping.lines))
JudgesLine-placed old judged number line counts time (found, finds, judged_is, as_many, counts_is, time_is, counters) =
    subst (λ (t : Option FrameTally). IfSome t (IsPlaced (length old.mapping.lines))) (sym counts_is)
    (placed_found old.mapping.lines (slice_index old.counters) number line found finds)

-- ---- the counters

last_append : (r c : ℕ) (xs ys : List (Option Acceptance)) → last_accepted r c (xs ++ ys) ≡ last_accepted r (last_accepted r c xs) ys
last_append r c [] ys = refl
last_append r c (x ∷ xs) ys = last_append r (next_counter r c x) xs ys

counter_behind_found : (mapping : List MapLine) (findings found : List Finding) (place : ℕ)
    → counter_of_place mapping (findings ++ found) place ≡ last_accepted place (counter_of_place mapping findings place) (map finding_accepts found)
counter_behind_found mapping findings found place =
    let first : ℕ = slice_index (first_counters mapping) place in
    ap (last_accepted place first) (map-append finding_accepts findings found)
    ∙ last_append place first (map finding_accepts findings) (map finding_accepts found)

-- ---- the end of a line

-- what is found depends on the counters of the map's lines alone
WatchesLine-same : (mapping : List MapLine) (f g : ℕ → ℕ) (number : ℕ) (bytes : List ℕ) (found : List Finding) → ((place : ℕ) → place < length mapping → f place ≡ g place)
    → WatchesLine mapping f number bytes found → WatchesLine mapping g number bytes found
WatchesLine-same mapping f g number bytes found same (inl long) = inl long
WatchesLine-same mapping f g number bytes found same (inr (inl skipped)) = inr (inl skipped)
WatchesLine-same mapping f g number bytes found same (inr (inr (few, kept, (finding, is, finds)))) =
    inr (inr (few, kept, (finding, is, AuditsLine-same mapping f g (record { number = number; words = words_of bytes }) finding same finds)))

-- what is found of a line as far as it is kept is what is found of it
WatchesLine-kept : (mapping : List MapLine) (c : ℕ → ℕ) (number : ℕ) (line rest : List ℕ) (found : List Finding) → line ≡ take (line_limit + 1) rest
    → WatchesLine mapping c number line found → WatchesLine mapping c number rest found
WatchesLine-kept mapping c number line rest found is (inl (long, found_is)) =
    inl (kept_long line_limit rest (subst (λ l. line_limit < length l) is long), found_is)
WatchesLine-kept mapping c number line rest found is (inr (inl (few, skipped, found_is))) =
    let whole : line ≡ rest = is ∙ kept_whole line_limit rest (subst (λ l. length l ≤ line_limit) is few) in
    subst (λ l. WatchesLine mapping c number l found) whole (inr (inl (few, skipped, found_is)))
WatchesLine-kept mapping c number line rest found is (inr (inr (few, kept, finds))) =
    let whole : line ≡ rest = is ∙ kept_whole line_limit rest (subst (λ l. length l ≤ line_limit) is few) in
    subst (λ l. WatchesLine mapping c number l found) whole (inr (inr (few, kept, finds)))

-- ---- what is found of one line

JudgesLine-text : (s : WatchState) → s ≡ record s { counters = s.counters; text = s.text ++ [] }
JudgesLine-text s = ap (λ t. record s { text = t }) (sym (append-nil s.text))

none_wanted : (b : Bool) (time : Option ℕ) → time ≡ None → (if b then time else None) ≡ None
none_wanted true time is = is
none_wanted false time is = refl

pub JudgesLine-long : (s : WatchState) (number : ℕ) (line : List ℕ) → line_limit < length line → JudgesLine s number line s (Some (tally.Other kind.Malformed)) None
JudgesLine-long s number line long = (
  other kind.Malformed ∷ [],
  inl (long, refl),
  JudgesLine-text s,
  refl,
  refl,
  sym (none_wanted (wants_times s.mapping) None refl),
  λ place inside. refl,
)

pub JudgesLine-skipped : (s : WatchState) (number : ℕ) (line : List ℕ) → length line ≤ line_limit → is_skipped (words_of line) ≡ true → JudgesLine s number line s None None
JudgesLine-skipped s number line few skipped =
    ([], inr (inl (few, skipped, refl)), JudgesLine-text s, refl, refl, sym (none_wanted (wants_times s.mapping) None refl), λ place inside. refl)

pub JudgesLine-found : (s : WatchState) (number : ℕ) (line counters text : List ℕ) (counts : FrameTally) (time : Option ℕ) (finding : Finding) → length line ≤ line_limit → is_skipped (words_of line) ≡ false
    → AuditsLine s.mapping.lines (slice_index s.counters) (record { number = number; words = words_of line }) finding
    → counts ≡ tally_of finding → time ≡ time_wanted s.mapping (time_by counts (stamp_of (words_of line))) → length counters ≡ length s.counters
    → ((place : ℕ) → place < length s.counters → slice_index counters place ≡ next_counter place (slice_index s.counters place) (finding_accepts finding))
    → text ≡ s.text ++ told_text s.mapping.options (record { finding = finding; stamp = stamp_of (words_of line) })
    → JudgesLine s number line (record s { counters = counters; text = text }) (Some counts) time
JudgesLine-found s number line counters text counts time finding few kept finds counts_is time_is as_many after text_is = (
  finding ∷ [],
  inr (inr (few, kept, (finding, refl, finds))),
  ap (λ t. record s { counters = counters; text = t }) (text_is ∙ ap (λ t. s.text ++ t) (sym (append-nil (told_text s.mapping.options (record { finding = finding; stamp = stamp_of (words_of line) }))))),
  as_many,
  ap Some counts_is,
  time_is ∙ ap (λ (t : FrameTally). time_wanted s.mapping (time_by t (stamp_of (words_of line)))) counts_is,
  after,
)

-- a line that was judged and counted was taken
pub WatchesNext-judged : (old judged : WatchState) (number : ℕ) (line : List ℕ) (counts : Option FrameTally) (time : Option ℕ) → JudgesLine old number line judged counts time
    → WatchesNext old number line (heard_after counts time (record judged {
      accepted = raised_at (accepted_place counts) judged.accepted;
      failed = raised_at (failed_place counts) judged.failed;
      counts = counts_after counts judged.counts;
    }))
WatchesNext-judged old judged number line counts time (found, finds, judged_is, as_many, counts_is, time_is, counters) = record {
  findings = found;
  finds = finds;
  counters = judged.counters;
  as_many = as_many;
  counters_are = counters;
  new_is = ap (λ (s : WatchState). record {
    mapping = s.mapping;
    counters = judged.counters;
    accepted = raised_at (accepted_place counts) s.accepted;
    failed = raised_at (failed_place counts) s.failed;
    counts = counts_after counts s.counts;
    clock = clock_after time s.clock;
    times = times_after (accepted_place counts) time (clock_after time s.clock) s.times;
    text = s.text;
  }) judged_is ∙ ap (λ (t : Option FrameTally). record old {
    counters = judged.counters;
    accepted = raised_at (accepted_place t) old.accepted;
    failed = raised_at (failed_place t) old.failed;
    counts = counts_after t old.counts;
    clock = clock_after time old.clock;
    times = times_after (accepted_place t) time (clock_after time old.clock) old.times;
    text = old.text ++ found_text old.mapping (stamped line found);
  }) counts_is ∙ ap (λ (m : Option ℕ). record old {
    counters = judged.counters;
    accepted = raised_at (accepted_place (tally_found found)) old.accepted;
    failed = raised_at (failed_place (tally_found found)) old.failed;
    counts = counts_after (tally_found found) old.counts;
    clock = clock_after m old.clock;
    times = times_after (accepted_place (tally_found found)) m (clock_after m old.clock) old.times;
    text = old.text ++ found_text old.mapping (stamped line found);
  }) time_is;
}

-- ---- the lines so far

-- before the log
pub Watched-none : (state : WatchState) → IsFreshWatch state → Watched state [] []
Watched-none state fresh = record {
  finds = none;
  as_many = ap length fresh.counters_are ∙ length-map state.mapping.lines (λ (l : MapLine). l.counter);
  accepted_many = ap length fresh.accepted_are ∙ length-replicate (length state.mapping.lines) 0;
  failed_many = ap length fresh.failed_are ∙ length-replicate (length state.mapping.lines) 0;
  counters_are = λ place inside. ap (λ cs. slice_index cs place) fresh.counters_are;
  accepted_are = λ place inside. ap (λ ns. slice_index ns place) fresh.accepted_are ∙ get_or-replicate (length state.mapping.lines) place 0 0 inside;
  failed_are = λ place inside. ap (λ ns. slice_index ns place) fresh.failed_are ∙ get_or-replicate (length state.mapping.lines) place 0 0 inside;
  counts_are = fresh.counts_are;
  clock_is = λ wanted. fresh.clock_is;
  times_many = ap length fresh.times_are ∙ length-replicate (length state.mapping.lines) no_times;
  times_are = λ wanted place inside. ap (λ (ts : List HeardTimes). slice_get ts place) fresh.times_are ∙ get_replicated (length state.mapping.lines) place no_times inside;
}

-- the text of a state is apart from what was found
pub Watched-text : (state : WatchState) (text : List ℕ) (lines : List (List ℕ)) (findings : List Found) → Watched state lines findings → Watched (record state { text = text }) lines findings
Watched-text state text lines findings w = record {
  finds = w.finds;
  as_many = w.as_many;
  accepted_many = w.accepted_many;
  failed_many = w.failed_many;
  counters_are = w.counters_are;
  accepted_are = w.accepted_are;
  failed_are = w.failed_are;
  counts_are = w.counts_are;
  clock_is = w.clock_is;
  times_many = w.times_many;
  times_are = w.times_are;
}

length-raised : (place : Option ℕ) (ns : List ℕ) → length (raised_at place ns) ≡ length ns
length-raised None ns = refl
length-raised (Some place) ns = length-set ns place (counted (slice_index ns place))

-- one more line was taken
pub Watched-more : (old new : WatchState) (lines : List (List ℕ)) (so_far : List Found) (line : List ℕ) → Watched old lines so_far
    → (next : WatchesNext old (in_64_bits (length lines + 1)) (kept_of line) new) → Watched new (lines ++ line ∷ []) (so_far ++ stamped line next.findings)
Watched-more old new lines so_far line w next =
    let mapping : List MapLine = old.mapping.lines in
    let found : List Finding = next.findings in
    let findings : List Finding = findings_of so_far in
    let number : ℕ = in_64_bits (length lines + 1) in
    let all_are : findings_of (so_far ++ stamped line found) ≡ findings ++ found = findings_more so_far line found in
    let c : ℕ → ℕ = counter_of_place mapping findings in
    let here : WatchesLine mapping c number line found =
    WatchesLine-kept mapping c number (kept_of line) line found refl (WatchesLine-same mapping (slice_index old.counters) c number (kept_of line) found w.counters_are next.finds) in
    let few : AtMostOne found = at_most_one mapping c number line found here in
    let counts : Option FrameTally = tally_found found in
    let placed : IfSome counts (IsPlaced (length mapping)) = placed_found mapping (slice_index old.counters) number (kept_of line) found next.finds in
    let counted_as : (passes : FrameTally → Bool) (count : ℕ) → count ≡ counted_of passes findings → counts_as passes counts count ≡ counted_of passes (findings_of (so_far ++ stamped line found)) =
    λ passes count is. ap (counts_as passes counts) is ∙ counted_found passes findings found few ∙ ap (λ (fs : List Finding). counted_of passes fs) (sym all_are) in
    let more_found : List Found = stamped line found in
    let told : time_told (stamped (kept_of line) found) ≡ time_told more_found = told_kept mapping (slice_index old.counters) number (kept_of line) line found refl next.finds in
    let time : Option ℕ = time_wanted old.mapping (time_told (stamped (kept_of line) found)) in
    let time_is : wants_times old.mapping ≡ true → time ≡ time_told more_found =
    λ wanted. ap (λ (b : Bool). if b then time_told (stamped (kept_of line) found) else None) wanted ∙ told in
    subst (λ (s : WatchState). Watched s (lines ++ line ∷ []) (so_far ++ stamped line found)) (sym next.new_is)
    (record {
      finds = more lines so_far line found w.finds here;
      as_many = next.as_many ∙ w.as_many;
      accepted_many = length-raised (accepted_place counts) old.accepted ∙ w.accepted_many;
      failed_many = length-raised (failed_place counts) old.failed ∙ w.failed_many;
      counters_are = λ place inside.
          next.counters_are place (omega (arith, inside, w.as_many)) ∙ ap (λ n. last_accepted place n (map finding_accepts found)) (w.counters_are place inside)
          ∙ sym (counter_behind_found mapping findings found place) ∙ ap (λ (fs : List Finding). counter_of_place mapping fs place) (sym all_are);
      accepted_are = λ place inside.
          accepted_at_place counts old.accepted place (subst (λ n. IfSome counts (IsPlaced n)) (sym w.accepted_many) placed)
          ∙ counted_as (is_accepted_at place) (slice_index old.accepted place) (w.accepted_are place inside);
      failed_are = λ place inside.
          failed_at_place counts old.failed place (subst (λ n. IfSome counts (IsPlaced n)) (sym w.failed_many) placed)
          ∙ counted_as (is_failed_at place) (slice_index old.failed place) (w.failed_are place inside);
      counts_are = ap (counts_after counts) w.counts_are ∙ counts_after_found findings found few ∙ ap (λ (fs : List Finding). counts_of fs) (sym all_are);
      clock_is = λ wanted.
          ap (λ (m : Option ℕ). clock_after m old.clock) (time_is wanted) ∙ ap (clock_after (time_told more_found)) (w.clock_is wanted)
          ∙ clock_more so_far more_found (few_stamped line found few);
      times_many = length-heard (accepted_place counts) time (clock_after time old.clock) old.times ∙ w.times_many;
      times_are = λ wanted place inside.
          ap (λ (m : Option ℕ). slice_get (times_after (accepted_place counts) m (clock_after m old.clock) old.times) place) (time_is wanted)
          ∙ ap (λ (c : LogClock). slice_get (times_after (accepted_place counts) (time_told more_found) (clock_after (time_told more_found) c) old.times) place) (w.clock_is wanted)
          ∙ times_more place so_far line found old.times few (omega (arith, inside, w.times_many)) (w.times_are wanted place inside);
    })

-- the lines after these findings: what more was found is the text
pub record WatchedMore (mapping : WatchedMap) (first : List Found) (lines : List (List ℕ)) (state : WatchState) : Type 0 where
  pub same : state.mapping ≡ mapping
  pub found : List Found
  pub watched : Watched state lines (first ++ found)
  pub text_is : state.text ≡ found_text mapping found

module _ (mapping : WatchedMap) (first : List Found) where
  pub WatchedMore-none : (lines : List (List ℕ)) (state : WatchState) → state.mapping ≡ mapping → Watched state lines first → state.text ≡ [] → WatchedMore mapping first lines state
  WatchedMore-none lines state same w no_text = record { same = same; found = []; watched = subst (Watched state lines) (sym (append-nil first)) w; text_is = no_text }

  pub WatchedMore-more : (lines : List (List ℕ)) (old : WatchState) (line : List ℕ) (new : WatchState) → WatchedMore mapping first lines old
      → WatchesNext old (in_64_bits (length lines + 1)) (kept_of line) new → WatchedMore mapping first (lines ++ line ∷ []) new
  WatchedMore-more lines old line new w next =
      let found : List Found = stamped line next.findings in
      record {
        same = ap (λ (s : WatchState). s.mapping) next.new_is ∙ w.same;
        found = w.found ++ found;
        watched = subst (Watched new (lines ++ line ∷ [])) (append_assoc first w.found found) (Watched-more old new lines (first ++ w.found) line w.watched next);
        text_is = ap (λ (s : WatchState). s.text) next.new_is
            ∙ ap (λ (t : List ℕ). old.text ++ t) (stamped_kept old.mapping (slice_index old.counters) (in_64_bits (length lines + 1)) (kept_of line) line next.findings refl next.finds)
            ∙ ap (λ (m : WatchedMap). old.text ++ found_text m found) w.same ∙ ap (λ t. t ++ found_text mapping found) w.text_is
            ∙ sym (flat_map-append (told_text mapping.options) w.found found);
      }

-- ---- the end of a log

-- texts and tests of all lines of a map depend on the numbers of these lines alone
module _ (mapping : WatchedMap) (one two : ℕ → LineCounts) (same : (place : ℕ) → place < length mapping.lines → one place ≡ two place) where
  same_places : {X : Type 0} (f : ℕ → LineCounts → X) → map (λ place. f place (one place)) (map_places mapping) ≡ map (λ place. f place (two place)) (map_places mapping)
  same_places f =
      places_same (λ place. f place (one place)) (λ place. f place (two place)) 0 (length mapping.lines) (length mapping.lines) (omega arith)
      (λ place inside. ap (f place) (same place inside))

  same_texts : (f : ℕ → LineCounts → List ℕ) → flat_map (λ place. f place (one place)) (map_places mapping) ≡ flat_map (λ place. f place (two place)) (map_places mapping)
  same_texts f =
      sym (flat_map-map (λ (t : List ℕ). t) (λ place. f place (one place)) (map_places mapping))
      ∙ ap (flat_map (λ (t : List ℕ). t)) (same_places f)
      ∙ flat_map-map (λ (t : List ℕ). t) (λ place. f place (two place)) (map_places mapping)

  same_tests : (f : ℕ → LineCounts → Bool) → list_all (λ place. f place (one place)) (map_places mapping) ≡ list_all (λ place. f place (two place)) (map_places mapping)
  same_tests f =
      sym (list_all-map (λ (b : Bool). b) (λ place. f place (one place)) (map_places mapping))
      ∙ ap (list_all (λ (b : Bool). b)) (same_places f)
      ∙ list_all-map (λ (b : Bool). b) (λ place. f place (two place)) (map_places mapping)

  totals_same : (counts : WatchCounts) → totals_text_of mapping one counts ≡ totals_text_of mapping two counts
  totals_same counts =
      let said : List ℕ = counts_text mapping.options.json counts in
      let over : List ℕ = log_over mapping.options counts in
      let overs : List ℕ = flat_map (line_over_at mapping one) (map_places mapping) in
      let totals : List ℕ = flat_map (total_line_at mapping two) (map_places mapping) in
      ap (λ (t : List ℕ). t ++ said ++ overs ++ over) (same_texts (λ place n. total_line_at mapping (λ _. n) place))
      ∙ ap (λ (t : List ℕ). totals ++ said ++ t ++ over) (same_texts (λ place n. line_over_at mapping (λ _. n) place))

  status_same : (counts : WatchCounts) → status_of mapping one counts ≡ status_of mapping two counts
  status_same counts =
      ap (λ (b : Bool). if nat_lt 0 counts.failed then 1 else if (b && nat_lt 0 (length mapping.lines)) && log_passes (limits_in mapping.options) counts then 0 else 3)
      (same_tests (λ place n. passes_at mapping (λ _. n) place))

-- the numbers of a line of the map are those of what was found
abbrev line_numbers_of : ℕ → ℕ → ℕ → ℕ → Silence → LineCounts
line_numbers_of number accepted failed last silence = record { number = number; accepted = accepted; failed = failed; last = last; silence = silence }

module _ (state : WatchState) (lines : List (List ℕ)) (findings : List Found) (w : Watched state lines findings) where
  abbrev mapping : WatchedMap
  mapping = state.mapping

  abbrev counts : WatchCounts
  counts = counts_of (findings_of findings)

  -- but for its silence
  numbers_are : (silence : Silence) (place : ℕ) → place < length mapping.lines
      → line_numbers_of (slice_index mapping.numbers place) (slice_index state.accepted place) (slice_index state.failed place) (slice_index state.counters place) silence
      ≡ record (totals_of mapping findings place) { silence = silence }
  numbers_are silence place inside =
      let number : ℕ = slice_index mapping.numbers place in
      ap (λ (n : ℕ). line_numbers_of number n (slice_index state.failed place) (slice_index state.counters place) silence) (w.accepted_are place inside)
      ∙ ap (λ (n : ℕ). line_numbers_of number (counted_of (is_accepted_at place) (findings_of findings)) n (slice_index state.counters place) silence) (w.failed_are place inside)
      ∙ ap (λ (n : ℕ). line_numbers_of number (counted_of (is_accepted_at place) (findings_of findings)) (counted_of (is_failed_at place) (findings_of findings)) n silence) (w.counters_are place inside)

  totals_are : wants_times mapping ≡ true → (place : ℕ) → place < length mapping.lines → totals_in state place ≡ totals_of mapping findings place
  totals_are wanted place inside =
      numbers_are (silence_at state place) place inside
      ∙ ap (λ (s : Silence). record (totals_of mapping findings place) { silence = s }) (silence_is place findings state.clock state.times (w.clock_is wanted) (w.times_are wanted place inside))

  end_text_by : (wants : Bool) → wants_times mapping ≡ wants → totals_text_of mapping (totals_in state) counts ≡ totals_text_of mapping (totals_of mapping findings) counts
  end_text_by true is = totals_same mapping (totals_in state) (totals_of mapping findings) (totals_are is) counts
  end_text_by false is =
      totals_calm mapping is (totals_in state) counts
      ∙ totals_same mapping (λ place. calm (totals_in state place)) (λ place. calm (totals_of mapping findings place)) (numbers_are no_silence) counts
      ∙ sym (totals_calm mapping is (totals_of mapping findings) counts)

  end_status_by : (wants : Bool) → wants_times mapping ≡ wants → status_of mapping (totals_in state) counts ≡ status_of mapping (totals_of mapping findings) counts
  end_status_by true is = status_same mapping (totals_in state) (totals_of mapping findings) (totals_are is) counts
  end_status_by false is =
      status_calm mapping is (totals_in state) counts
      ∙ status_same mapping (λ place. calm (totals_in state place)) (λ place. calm (totals_of mapping findings place)) (numbers_are no_silence) counts
      ∙ sym (status_calm mapping is (totals_of mapping findings) counts)

  -- the text at the end of a log is that of what was found, and so is the status
  pub end_text_is : end_text state ≡ totals_text mapping findings
  end_text_is = ap (λ (counts : WatchCounts). totals_text_of mapping (totals_in state) counts) w.counts_are ∙ end_text_by (wants_times mapping) refl

  pub end_status_is : end_status state ≡ watch_status mapping findings
  end_status_is = ap (λ (counts : WatchCounts). status_of mapping (totals_in state) counts) w.counts_are ∙ end_status_by (wants_times mapping) refl
