-- What is noted of one line, put together.
use Rattle.std.proofs.Common.{◌≡◌, ℕ, arith, ◌<◌, ◌==◌, Bool, true, false, List, ◌++◌, length, refl, sym, ap, ◌∙◌, subst, inl, inr, append-nil, append_assoc, set, length-set, get_or-set_same, get_or-set_other}
use Rattle.std.specs.Prelude.{slice_index, if◌then◌else◌, None, Some, Result, Ok, Err, IfOk}
use Rattle.std.specs.List.{slice_get}
use Rattle.std.proofs.lemmas.Bool.Decides.{nat_tests}
use Rattle.secured_pdu.specs.Verdict.{Outcome, Accepted, FreshnessFailure, VerificationFailure}
use Rattle.secoc_words.specs.Counting.{counter_behind, accepted_by, next_counter}
use Rattle.text_lines.specs.Lines.{TextLine}
use Rattle.secoc_words.specs.Texts.{outcome_text, bad_length_text}
use Rattle.can_logs.specs.declared.map_lines.MapLine.{MapLine}
use Rattle.can_logs.specs.declared.frames.LogFrame.{LogFrame}
use Rattle.can_logs.specs.declared.frames.OtherLine.{OtherLine}
use Rattle.can_logs.specs.declared.findings.FrameTally.{FrameTally}
use Rattle.can_logs.specs.declared.findings.FrameTally.TheVariants as tally
use Rattle.can_logs.specs.MapLines.{row_head, place_of_frame}
use Rattle.can_logs.specs.Frames.{log_frame_of, other_line_of}
use Rattle.can_logs.specs.Findings.{other, too_short, verdict, front_text, channel_of, Mapped, IsUnmapped}
use Rattle.can_logs.specs.FindingSteps.{AddsDataVerdict, AddsFinding}

put_counter : (counters : List ℕ) (place p v : ℕ) (b : Bool) → (place == p) ≡ b → place < length counters
    → slice_index (set counters place v) p ≡ (if b then v else slice_index counters p)
put_counter counters place p v true e inside =
    let same : place ≡ p = grind (arith, nat_tests, e) in
    subst (λ k. slice_index (set counters place v) k ≡ v) same (get_or-set_same counters place v 0 inside)
put_counter counters place p v false e inside =
    get_or-set_other counters place p v 0 (λ (same : p ≡ place). absurd (grind (arith, nat_tests, e, same)))

keep : (counters : List ℕ) (place p v : ℕ) (b : Bool) → (place == p) ≡ b → v ≡ slice_index counters place
    → (if b then v else slice_index counters p) ≡ slice_index counters p
keep counters place p v true e h =
    let same : place ≡ p = grind (arith, nat_tests, e) in
    h ∙ ap (λ k. slice_index counters k) same
keep counters place p v false e h = refl

-- the counter that a verdict leaves at its place
noted : (counters : List ℕ) (place p v : ℕ) (outcome : Outcome) → place < length counters → v ≡ counter_behind (slice_index counters place) outcome
    → slice_index (set counters place v) p ≡ next_counter p (slice_index counters p) (accepted_by place outcome)
noted counters place p v (Accepted payload freshness) inside is =
    put_counter counters place p v (place == p) refl inside ∙ ap (λ k. if place == p then k else slice_index counters p) is
noted counters place p v FreshnessFailure inside is =
    put_counter counters place p v (place == p) refl inside ∙ keep counters place p v (place == p) refl is
noted counters place p v VerificationFailure inside is =
    put_counter counters place p v (place == p) refl inside ∙ keep counters place p v (place == p) refl is

-- nothing is said of a line that the map has no line for
pub AddsFinding-other : (mapping : List MapLine) (counters : List ℕ) (l : TextLine) (text : List ℕ) (k : OtherLine) → IsUnmapped mapping l.words
    → k ≡ other_line_of l.words → AddsFinding mapping counters counters l text text (tally.Other k)
AddsFinding-other mapping counters l text k unmapped is = (other k, (unmapped, is), sym (append-nil text), refl, refl, λ p inside. refl)

pub Unmapped-none : (mapping : List MapLine) (words : List (List ℕ)) → log_frame_of words ≡ None → IsUnmapped mapping words
Unmapped-none mapping words none = λ frame some. cc

pub Unmapped-place : (mapping : List MapLine) (words : List (List ℕ)) (frame : LogFrame) → log_frame_of words ≡ Some frame
    → place_of_frame mapping frame.can (channel_of words) ≡ None → IsUnmapped mapping words
Unmapped-place mapping words frame is none = λ frame' some.
    let same : frame ≡ frame' = cc in
    subst (λ (f : LogFrame). place_of_frame mapping f.can (channel_of words) ≡ None) same none

-- a mapped line
pub AddsFinding-mapped : (mapping : List MapLine) (counters : List ℕ) (l : TextLine) (frame : LogFrame) (place : ℕ) (entry : MapLine) (v : ℕ) (before front after : List ℕ) (counts : FrameTally)
    → log_frame_of l.words ≡ Some frame → place_of_frame mapping frame.can (channel_of l.words) ≡ Some place → slice_get mapping place ≡ Some entry → place < length counters
    → front ≡ before ++ front_text l.number (row_head entry) → AddsDataVerdict entry place (slice_index counters place) v frame.bytes front after counts
    → AddsFinding mapping counters (set counters place v) l before after counts
AddsFinding-mapped mapping counters l frame place entry v before front after counts frame_is place_is entry_is inside front_is (inl (short, same, after_is, counts_as)) =
    let m : Mapped = record { place = place; entry = entry; bytes = frame.bytes } in (
      too_short l.number place (row_head entry),
      (m, (frame, frame_is, place_is, entry_is, refl), refl, refl, refl, short),
      after_is ∙ ap (λ t. t ++ bad_length_text) front_is ∙ append_assoc before (front_text l.number (row_head entry)) bad_length_text,
      counts_as,
      length-set counters place v,
      λ p within. put_counter counters place p v (place == p) refl inside ∙ keep counters place p v (place == p) refl same,
    )
AddsFinding-mapped mapping counters l frame place entry v before front after counts frame_is place_is entry_is inside front_is (inr (long, (outcome, judged, after_is, new_is, counts_as))) =
    let m : Mapped = record { place = place; entry = entry; bytes = frame.bytes } in (
      verdict l.number place (row_head entry) outcome,
      (m, (frame, frame_is, place_is, entry_is, refl), refl, refl, refl, long, judged),
      after_is ∙ ap (λ t. t ++ outcome_text outcome) front_is ∙ append_assoc before (front_text l.number (row_head entry)) (outcome_text outcome),
      counts_as,
      length-set counters place v,
      λ p within. noted counters place p v outcome inside new_is,
    )

-- what holds of a value gives what follows from it
pub if_ok_weaker : {T E : Type 0} {P Q : T → Type 0} (result : Result T E) → ((value : T) → P value → Q value) → IfOk result P → IfOk result Q
if_ok_weaker (Ok value) gives holds = gives value holds
if_ok_weaker (Err e) gives holds = tt
