-- The moments of a log go on by a line, and so does the longest silence of a line of the map.
use Rattle.std.proofs.Common.{◌≡◌, ◌≢◌, ℕ, ◌+◌, ◌<◌, ◌≤◌, ◌==◌, ◌&&◌, Bool, true, false, List, [], ◌∷◌, ◌++◌, length, map, take, set, refl, sym, ◌∙◌, ap, subst, arith, inl, inr, append-nil, append_assoc, get_or-set_same, get_or-set_other, length-set}
use Rattle.std.specs.Prelude.{if◌then◌else◌, max, replicate, slice_get, Option, None, Some, is_some, unwrap_or}
use Rattle.std.specs.List.{fold}
use Rattle.std.proofs.lemmas.Bool.Decides.{nat_tests}
use Rattle.std.proofs.lemmas.List.{map-append, get_or-replicate, length-replicate}
use Rattle.std.proofs.lemmas.Option.{slice_get-get_or}
use Rattle.can_logs.specs.declared.map_lines.MapLine.{MapLine}
use Rattle.can_logs.specs.declared.findings.FrameTally.{FrameTally}
use Rattle.can_logs.specs.declared.findings.FrameTally.TheVariants as tally
use Rattle.can_logs.specs.Findings.{Finding, tally_of}
use Rattle.line_stream.specs.Pieces.{line_limit}
use Rattle.line_stream.proofs.CallerLemmas.{kept_whole}
use Rattle.watch_commands.specs.declared.times.HeardTimes.{HeardTimes}
use Rattle.watch_commands.specs.declared.times.LogClock.{LogClock}
use Rattle.watch_commands.specs.declared.times.Silence.{Silence}
use Rattle.watch_commands.specs.Silences.{no_silence, longer}
use Rattle.watch_commands.specs.Watching.{Found, stamped, WatchesLine}
use Rattle.watch_commands.specs.WatchTotals.{is_accepted_at}
use Rattle.watch_commands.specs.Times.{time_found, first_time, begin_of, moment_after, moment_of, heard_now, heard_from, last_of, between, longest, silence_in, silence_of, no_times, heard, clock_of, times_of}
use Rattle.watch_commands.specs.States.{accepted_place, time_told, clock_after, heard_at, times_after, silence_until}

abbrev silent_from : ℕ → ℕ → Silence
silent_from from to = record { from = from; to = to }

-- a fold over one more
fold_more : {A B : Type 0} (f : A → B → A) (a : A) (xs : List B) (x : B) → fold f a (xs ++ x ∷ []) ≡ f (fold f a xs) x
fold_more f a [] x = refl
fold_more f a (y ∷ ys) x = fold_more f (f a y) ys x

pub begin_more : (found : List Found) (f : Found) → begin_of (found ++ f ∷ []) ≡ first_time (begin_of found) (time_found f)
begin_more found f =
    ap (fold first_time None) (map-append time_found found (f ∷ [])) ∙ fold_more first_time None (map time_found found) (time_found f)

pub moment_more : (found : List Found) (f : Found) → moment_of (found ++ f ∷ []) ≡ moment_after (moment_of found) (time_found f)
moment_more found f =
    ap (fold moment_after None) (map-append time_found found (f ∷ [])) ∙ fold_more moment_after None (map time_found found) (time_found f)

-- the moments at which a line was heard, with one more line of the log
heard_more_from : (place : ℕ) (start : Option ℕ) (found : List Found) (f : Found)
    → heard_from place start (found ++ f ∷ []) ≡ heard_from place start found ++ heard_now place f (moment_after (fold moment_after start (map time_found found)) (time_found f))
heard_more_from place start [] f = append-nil (heard_now place f (moment_after start (time_found f)))
heard_more_from place start (g ∷ found) f =
    let next : Option ℕ = moment_after start (time_found g) in
    ap (λ (ms : List ℕ). heard_now place g next ++ ms) (heard_more_from place next found f)
    ∙ sym (append_assoc (heard_now place g next) (heard_from place next found) (heard_now place f (moment_after (fold moment_after next (map time_found found)) (time_found f))))

pub heard_more : (place : ℕ) (found : List Found) (f : Found)
    → heard_from place None (found ++ f ∷ []) ≡ heard_from place None found ++ heard_now place f (moment_of (found ++ f ∷ []))
heard_more place found f =
    heard_more_from place None found f ∙ ap (λ (m : Option ℕ). heard_from place None found ++ heard_now place f m) (sym (moment_more found f))

-- the last of one more, and the pairs
last_more : (ms : List ℕ) (m : ℕ) → last_of (ms ++ m ∷ []) ≡ Some m
last_more [] m = refl
last_more (n ∷ ns) m = ap (λ (o : Option ℕ). Some (unwrap_or o n)) (last_more ns m)

between_more : (before : ℕ) (ms : List ℕ) (m : ℕ)
    → between before (ms ++ m ∷ []) ≡ between before ms ++ silent_from (unwrap_or (last_of ms) before) m ∷ []
between_more before [] m = refl
between_more before (n ∷ ns) m =
    ap (λ (ps : List Silence). silent_from before n ∷ ps) (between_more n ns m)

-- the longest silence with one more moment, and what is kept of a line that is heard once more
pub longest_more : (begin : ℕ) (ms : List ℕ) (m : ℕ)
    → longest begin (ms ++ m ∷ []) ≡ longer (longest begin ms) (silent_from (unwrap_or (last_of ms) begin) m)
longest_more begin ms m =
    ap (fold longer no_silence) (between_more begin ms m)
    ∙ fold_more longer no_silence (between begin ms) (silent_from (unwrap_or (last_of ms) begin) m)

-- ---- what is kept of the moments

-- what is found of a line, with its time, is one finding at most
pub data FewFound : List Found → Type 0 where
  no_found : FewFound []
  one_found : (f : Found) → FewFound (f ∷ [])

abbrev clock_with : Option ℕ → Option ℕ → LogClock
clock_with begin moment = record { begin = begin; moment = moment }

abbrev times_with : Option ℕ → Silence → HeardTimes
times_with last silence = record { last = last; longest = silence }

seen_nothing : (o : Option ℕ) → first_time o None ≡ o
seen_nothing None = refl
seen_nothing (Some begin) = refl

pub clock_more : (found more : List Found) → FewFound more → clock_after (time_told more) (clock_of found) ≡ clock_of (found ++ more)
clock_more found _ no_found =
    ap (λ (o : Option ℕ). clock_with o (moment_of found)) (seen_nothing (begin_of found)) ∙ ap (λ (fs : List Found). clock_of fs) (sym (append-nil found))
clock_more found _ (one_found f) =
    ap (λ (o : Option ℕ). clock_with o (moment_after (moment_of found) (time_found f))) (sym (begin_more found f))
    ∙ ap (clock_with (begin_of (found ++ f ∷ []))) (sym (moment_more found f))

-- a line that is too long has no time, however much of it is kept
pub told_kept : (mapping : List MapLine) (counter : ℕ → ℕ) (number : ℕ) (line rest : List ℕ) (findings : List Finding) → line ≡ take (line_limit + 1) rest
    → WatchesLine mapping counter number line findings → time_told (stamped line findings) ≡ time_told (stamped rest findings)
told_kept mapping counter number line rest findings is (inl (long, are)) =
    subst (λ (fs : List Finding). time_told (stamped line fs) ≡ time_told (stamped rest fs)) (sym are) refl
told_kept mapping counter number line rest findings is (inr (inl (few, skipped, are))) =
    subst (λ (fs : List Finding). time_told (stamped line fs) ≡ time_told (stamped rest fs)) (sym are) refl
told_kept mapping counter number line rest findings is (inr (inr (few, kept, finds))) =
    ap (λ (l : List ℕ). time_told (stamped l findings)) (is ∙ kept_whole line_limit rest (subst (λ (l : List ℕ). length l ≤ line_limit) is few))

pub get_replicated : {X : Type 0} (n place : ℕ) (x : X) → place < n → slice_get (replicate n x) place ≡ Some x
get_replicated n place x inside =
    slice_get-get_or (replicate n x) place x (subst (λ m. place < m) (sym (length-replicate n x)) inside) ∙ ap Some (get_or-replicate n place x x inside)

-- ---- a line that isn't heard before the first time

begin_stays : (b : ℕ) (ts : List (Option ℕ)) → fold first_time (Some b) ts ≡ Some b
begin_stays b [] = refl
begin_stays b (t ∷ ts) = begin_stays b ts

none_heard_at : (place : ℕ) (f : Found) (found : List Found) (time : Option ℕ) → time_found f ≡ time → fold first_time (time_found f) (map time_found found) ≡ None
    → (begin_of found ≡ None → heard_from place None found ≡ []) → heard_from place None (f ∷ found) ≡ []
none_heard_at place f found None is none rest =
    ap (λ (o : Option ℕ). heard_now place f (moment_after None o) ++ heard_from place (moment_after None o) found) is
    ∙ rest (ap (λ (o : Option ℕ). fold first_time o (map time_found found)) (sym is) ∙ none)
none_heard_at place f found (Some b) is none rest =
    absurd (let e : Some b ≡ None = sym (begin_stays b (map time_found found)) ∙ ap (λ (o : Option ℕ). fold first_time o (map time_found found)) (sym is) ∙ none in cc)

none_heard : (place : ℕ) (found : List Found) → begin_of found ≡ None → heard_from place None found ≡ []
none_heard place [] none = refl
none_heard place (f ∷ found) none = none_heard_at place f found (time_found f) refl none (none_heard place found)

-- the longest silence so far begins where the log does, also with one more line
begin_kept_at : (place : ℕ) (found : List Found) (f : Found) (begin : Option ℕ) → begin_of found ≡ begin
    → longest (unwrap_or (begin_of found) 0) (heard_from place None found) ≡ longest (unwrap_or (begin_of (found ++ f ∷ [])) 0) (heard_from place None found)
begin_kept_at place found f None is =
    let none : heard_from place None found ≡ [] = none_heard place found is in
    ap (λ (ms : List ℕ). longest (unwrap_or (begin_of found) 0) ms) none ∙ ap (λ (ms : List ℕ). longest (unwrap_or (begin_of (found ++ f ∷ [])) 0) ms) (sym none)
begin_kept_at place found f (Some b) is =
    let more : begin_of (found ++ f ∷ []) ≡ Some b = begin_more found f ∙ ap (λ (o : Option ℕ). first_time o (time_found f)) is in
    ap (λ (o : Option ℕ). longest (unwrap_or o 0) (heard_from place None found)) (is ∙ sym more)

begin_kept : (place : ℕ) (found : List Found) (f : Found)
    → longest (unwrap_or (begin_of found) 0) (heard_from place None found) ≡ longest (unwrap_or (begin_of (found ++ f ∷ [])) 0) (heard_from place None found)
begin_kept place found f = begin_kept_at place found f (begin_of found) refl

-- ---- what is kept of a line of the map, with one more line of the log

-- it isn't heard
still : (place : ℕ) (found : List Found) (f : Found) → heard_now place f (moment_of (found ++ f ∷ [])) ≡ [] → times_of place (found ++ f ∷ []) ≡ times_of place found
still place found f silent =
    let begin : ℕ = unwrap_or (begin_of (found ++ f ∷ [])) 0 in
    let moments : List ℕ = heard_from place None found in
    let same : heard_from place None (found ++ f ∷ []) ≡ moments = heard_more place found f ∙ ap (λ (ms : List ℕ). moments ++ ms) silent ∙ append-nil moments in
    ap (λ (ms : List ℕ). times_with (last_of ms) (longest begin ms)) same ∙ ap (times_with (last_of moments)) (sym (begin_kept place found f))

-- it is heard
once_more : (place : ℕ) (found : List Found) (f : Found) (begin moment : ℕ) → begin_of (found ++ f ∷ []) ≡ Some begin → moment_of (found ++ f ∷ []) ≡ Some moment
    → heard_now place f (Some moment) ≡ moment ∷ [] → times_of place (found ++ f ∷ []) ≡ heard begin moment (times_of place found)
once_more place found f begin moment begin_is moment_is now_is =
    let moments : List ℕ = heard_from place None found in
    let all : List ℕ = moments ++ moment ∷ [] in
    let are : heard_from place None (found ++ f ∷ []) ≡ all =
    heard_more place found f ∙ ap (λ (o : Option ℕ). moments ++ heard_now place f o) moment_is ∙ ap (λ (ms : List ℕ). moments ++ ms) now_is in
    let before : longest begin moments ≡ longest (unwrap_or (begin_of found) 0) moments =
    ap (λ (o : Option ℕ). longest (unwrap_or o 0) moments) (sym begin_is) ∙ sym (begin_kept place found f) in
    ap (λ (ms : List ℕ). times_with (last_of ms) (longest (unwrap_or (begin_of (found ++ f ∷ [])) 0) ms)) are
    ∙ ap (λ (o : Option ℕ). times_with (last_of all) (longest (unwrap_or o 0) all)) begin_is
    ∙ ap (λ (o : Option ℕ). times_with o (longest begin all)) (last_more moments moment)
    ∙ ap (times_with (Some moment)) (longest_more begin moments moment)
    ∙ ap (λ (s : Silence). times_with (Some moment) (longer s (silent_from (unwrap_or (last_of moments) begin) moment))) before

-- with a time the log has begun, and has a moment
begun : (o : Option ℕ) (time : ℕ) → (b : ℕ) × (first_time o (Some time) ≡ Some b)
begun None time = (time, refl)
begun (Some b) time = (b, refl)

reached : (o : Option ℕ) (time : ℕ) → (m : ℕ) × (moment_after o (Some time) ≡ Some m)
reached None time = (time, refl)
reached (Some now) time = (max now time, refl)

-- whether a line is heard
not_heard : (place : ℕ) (f : Found) (moment : Option ℕ) → (is_accepted_at place (tally_of f.finding) && is_some (time_found f)) ≡ false → heard_now place f moment ≡ []
not_heard place f None silent = refl
not_heard place f (Some moment) silent = ap (λ (b : Bool). if b then moment ∷ [] else []) silent

is_heard_now : (place : ℕ) (f : Found) (moment : ℕ) → (is_accepted_at place (tally_of f.finding) && is_some (time_found f)) ≡ true → heard_now place f (Some moment) ≡ moment ∷ []
is_heard_now place f moment is = ap (λ (b : Bool). if b then moment ∷ [] else []) is

and_true : (b : Bool) → (b && true) ≡ b
and_true true = refl
and_true false = refl

and_false : (b : Bool) → (b && false) ≡ false
and_false true = refl
and_false false = refl

-- the times of another line stay
other_stays : (times : List HeardTimes) (at place : ℕ) (t : HeardTimes) → place ≢ at → place < length times → slice_get (set times at t) place ≡ slice_get times place
other_stays times at place t apart inside =
    slice_get-get_or (set times at t) place no_times (subst (λ n. place < n) (sym (length-set times at t)) inside)
    ∙ ap Some (get_or-set_other times at place t no_times apart) ∙ sym (slice_get-get_or times place no_times inside)

set_there : (times : List HeardTimes) (place : ℕ) (t : HeardTimes) → place < length times → slice_get (set times place t) place ≡ Some t
set_there times place t inside =
    slice_get-get_or (set times place t) place no_times (subst (λ n. place < n) (sym (length-set times place t)) inside)
    ∙ ap Some (get_or-set_same times place t no_times inside)

-- a frame with a time is accepted for the line at a place, or for another
times_at : (place at : ℕ) (found : List Found) (f : Found) (times : List HeardTimes) (begin moment : ℕ) (same : Bool) → (at == place) ≡ same → place < length times
    → slice_get times place ≡ Some (times_of place found) → begin_of (found ++ f ∷ []) ≡ Some begin → moment_of (found ++ f ∷ []) ≡ Some moment
    → (is_accepted_at place (tally_of f.finding) && is_some (time_found f)) ≡ (at == place)
    → slice_get (set times at (heard begin moment (unwrap_or (slice_get times at) no_times))) place ≡ Some (times_of place (found ++ f ∷ []))
times_at place at found f times begin moment true e inside is begin_is moment_is told =
    let here : at ≡ place = grind (arith, nat_tests, e) in
    ap (λ k. slice_get (set times k (heard begin moment (unwrap_or (slice_get times k) no_times))) place) here
    ∙ set_there times place (heard begin moment (unwrap_or (slice_get times place) no_times)) inside
    ∙ ap (λ (o : Option HeardTimes). Some (heard begin moment (unwrap_or o no_times))) is
    ∙ ap Some (sym (once_more place found f begin moment begin_is moment_is (is_heard_now place f moment (told ∙ e))))
times_at place at found f times begin moment false e inside is begin_is moment_is told =
    other_stays times at place (heard begin moment (unwrap_or (slice_get times at) no_times)) (λ (same : place ≡ at). absurd (grind (arith, nat_tests, e, same))) inside
    ∙ is ∙ ap Some (sym (still place found f (not_heard place f (moment_of (found ++ f ∷ [])) (told ∙ e))))

times_by : (place : ℕ) (found : List Found) (f : Found) (times : List HeardTimes) (counts : FrameTally) (time : Option ℕ) → tally_of f.finding ≡ counts → time_found f ≡ time
    → place < length times → slice_get times place ≡ Some (times_of place found)
    → slice_get (times_after (accepted_place (Some counts)) time (clock_of (found ++ f ∷ [])) times) place ≡ Some (times_of place (found ++ f ∷ []))
times_by place found f times (tally.Other k) time counts_is time_is inside is =
    is ∙ ap Some (sym (still place found f (not_heard place f (moment_of (found ++ f ∷ [])) (ap (λ (t : FrameTally). is_accepted_at place t && is_some (time_found f)) counts_is))))
times_by place found f times (tally.Failed at) time counts_is time_is inside is =
    is ∙ ap Some (sym (still place found f (not_heard place f (moment_of (found ++ f ∷ [])) (ap (λ (t : FrameTally). is_accepted_at place t && is_some (time_found f)) counts_is))))
times_by place found f times (tally.Accepted at) None counts_is time_is inside is =
    let silent : (is_accepted_at place (tally_of f.finding) && is_some (time_found f)) ≡ false =
    ap (λ (o : Option ℕ). is_accepted_at place (tally_of f.finding) && is_some o) time_is ∙ and_false (is_accepted_at place (tally_of f.finding)) in
    is ∙ ap Some (sym (still place found f (not_heard place f (moment_of (found ++ f ∷ [])) silent)))
times_by place found f times (tally.Accepted at) (Some time) counts_is time_is inside is =
    let (begin, begins) = begun (begin_of found) time in
    let (moment, reaches) = reached (moment_of found) time in
    let begin_is : begin_of (found ++ f ∷ []) ≡ Some begin = begin_more found f ∙ ap (first_time (begin_of found)) time_is ∙ begins in
    let moment_is : moment_of (found ++ f ∷ []) ≡ Some moment = moment_more found f ∙ ap (moment_after (moment_of found)) time_is ∙ reaches in
    let told : (is_accepted_at place (tally_of f.finding) && is_some (time_found f)) ≡ (at == place) =
    ap (λ (t : FrameTally). is_accepted_at place t && is_some (time_found f)) counts_is ∙ ap (λ (o : Option ℕ). (at == place) && is_some o) time_is ∙ and_true (at == place) in
    ap (λ (o : Option ℕ). slice_get (heard_at at o (moment_of (found ++ f ∷ [])) times) place) begin_is
    ∙ ap (λ (o : Option ℕ). slice_get (heard_at at (Some begin) o times) place) moment_is
    ∙ times_at place at found f times begin moment (at == place) refl inside is begin_is moment_is told

pub times_one : (place : ℕ) (found : List Found) (f : Found) (times : List HeardTimes) → place < length times → slice_get times place ≡ Some (times_of place found)
    → slice_get (times_after (accepted_place (Some (tally_of f.finding))) (time_found f) (clock_of (found ++ f ∷ [])) times) place ≡ Some (times_of place (found ++ f ∷ []))
times_one place found f times inside is = times_by place found f times (tally_of f.finding) (time_found f) refl refl inside is

heard_length : (place : ℕ) (begin moment : Option ℕ) (times : List HeardTimes) → length (heard_at place begin moment times) ≡ length times
heard_length place (Some begin) (Some moment) times = length-set times place (heard begin moment (unwrap_or (slice_get times place) no_times))
heard_length place (Some begin) None times = refl
heard_length place None moment times = refl

pub length-heard : (place time : Option ℕ) (clock : LogClock) (times : List HeardTimes) → length (times_after place time clock times) ≡ length times
length-heard None time clock times = refl
length-heard (Some place) None clock times = refl
length-heard (Some place) (Some time) clock times = heard_length place clock.begin clock.moment times

-- ---- the longest silence, if the log ends here

silence_by : (place : ℕ) (found : List Found) (begin moment : Option ℕ) → begin_of found ≡ begin
    → silence_until begin moment (times_of place found) ≡ silence_in (heard_from place None found) begin moment
silence_by place found (Some begin) (Some moment) is =
    let moments : List ℕ = heard_from place None found in
    ap (λ (o : Option ℕ). longer (longest (unwrap_or o 0) moments) (silent_from (unwrap_or (last_of moments) begin) moment)) is ∙ sym (longest_more begin moments moment)
silence_by place found (Some begin) None is = refl
silence_by place found None moment is = refl

pub silence_is : (place : ℕ) (found : List Found) (clock : LogClock) (times : List HeardTimes) → clock ≡ clock_of found → slice_get times place ≡ Some (times_of place found)
    → silence_until clock.begin clock.moment (unwrap_or (slice_get times place) no_times) ≡ silence_of place found
silence_is place found clock times clock_is times_are =
    ap (λ (c : LogClock). silence_until c.begin c.moment (unwrap_or (slice_get times place) no_times)) clock_is
    ∙ ap (λ (o : Option HeardTimes). silence_until (begin_of found) (moment_of found) (unwrap_or o no_times)) times_are
    ∙ silence_by place found (begin_of found) (moment_of found) refl
