-- The freshness that is accepted rises from line to line
use Rattle.std.proofs.Common.{ℕ, ◌<◌, List, [], ◌∷◌, map, sym, subst}
use Rattle.std.specs.Prelude.{IfSome}
use Rattle.std.proofs.lemmas.List.{map-append}
use Rattle.secoc_words.specs.Counting.{KeepsCounters, AcceptedRise}
use Rattle.secoc_words.specs.Counting as counting
use Rattle.secoc_words.proofs.CallerLemmas.{KeepsCounters-rise}
use Rattle.pdu_collection.specs.declared.pair_lines.Head.{Head}
use Rattle.pdu_collection.specs.declared.pair_lines.Entry.{Entry}
use Rattle.pdu_collection.specs.declared.pair_lines.Entry.TheVariants.{Authentic, Cryptographic, Secured}
use Rattle.secured_pdu.specs.Verdict.{Accepted, FreshnessFailure, VerificationFailure}
use Rattle.pdu_collection.specs.Joining.{Kind, authentic, cryptographic, Arrival}
use Rattle.pdu_collection.specs.Answering.{Said, bad_length, waits, judged, made, said_accepts, counter_behind_lines, SaysOf, Says, SaysEach, none, more}

above_of : (head : Head) (before : List Arrival) (c : ℕ) (kind : Kind) (pdu : List ℕ) (s : Said) → SaysOf head before c kind pdu s
    → IfSome (said_accepts s) (λ a. c < a.freshness)
above_of head before c kind pdu bad_length h = tt
above_of head before c kind pdu waits h = tt
above_of head before c kind pdu (judged (Accepted payload v)) (right, (joined, next, verdict)) = verdict.0.above
above_of head before c kind pdu (judged FreshnessFailure) h = tt
above_of head before c kind pdu (judged VerificationFailure) h = tt
above_of head before c kind pdu (made payload part) h = absurd h

-- what is accepted is above the counter
above : (head : Head) (before : List Arrival) (c : ℕ) (entry : Entry) (s : Said) → Says head before c entry s
    → IfSome (said_accepts s) (λ a. c < a.freshness)
above head before c (Authentic pdu) s h = above_of head before c authentic pdu s h
above head before c (Cryptographic pdu) s h = above_of head before c cryptographic pdu s h
above head before c (Secured freshness payload) bad_length h = tt
above head before c (Secured freshness payload) (made p part) h = tt
above head before c (Secured freshness payload) waits h = absurd h
above head before c (Secured freshness payload) (judged outcome) h = absurd h

-- the one receiver keeps its counter
of_receiver : (head : Head) (said : List Said) (s : Said) → IfSome (said_accepts s) (λ a. counter_behind_lines head said < a.freshness)
    → IfSome (said_accepts s) (λ a. counting.last_accepted a.receiver head.counter (map said_accepts said) < a.freshness)
of_receiver head said bad_length h = tt
of_receiver head said waits h = tt
of_receiver head said (judged (Accepted payload v)) h = h
of_receiver head said (judged FreshnessFailure) h = tt
of_receiver head said (judged VerificationFailure) h = tt
of_receiver head said (made payload part) h = tt

keeps : (head : Head) (entries : List Entry) (arrivals : List Arrival) (said : List Said) → SaysEach head entries arrivals said
    → KeepsCounters (λ _. head.counter) (map said_accepts said)
keeps head entries arrivals said none = counting.none
keeps head entries arrivals said (more before came so_far entry s each says) =
    subst (KeepsCounters (λ _. head.counter)) (sym (map-append said_accepts so_far (s ∷ [])))
    (counting.more (map said_accepts so_far) (said_accepts s) (keeps head before came so_far each)
    (of_receiver head so_far s (above head came (counter_behind_lines head so_far) entry s says)))

pub all_rise : (head : Head) (entries : List Entry) (arrivals : List Arrival) (said : List Said) → SaysEach head entries arrivals said
    → AcceptedRise (map said_accepts said)
all_rise head entries arrivals said each =
    KeepsCounters-rise (λ _. head.counter) (map said_accepts said) (keeps head entries arrivals said each)
