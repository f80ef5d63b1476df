-- A receiver accepts the frames that a freshness fits
use Rattle.std.proofs.Common.{◌≡◌, ℕ, ◌+◌, ◌-◌, ◌≤◌, ◌&&◌, Bool, true, false, List, ◌∷◌, refl, ◌∙◌, ap, arith}
use Rattle.std.specs.Prelude.{if◌then◌else◌, nat_le, Option, None, Some}
use Rattle.std.proofs.lemmas.Bool.{and_parts}
use Rattle.std.proofs.lemmas.Bool.Decides.{nat_tests}
use Rattle.explain_commands.specs.declared.trials.Comparison.{Comparison}
use Rattle.explain_commands.specs.declared.trials.Comparison.TheVariants as compared
use Rattle.explain_commands.specs.declared.trials.Making.TheVariants as making
use Rattle.explain_commands.specs.declared.trials.KnownReceiver.{KnownReceiver}
use Rattle.explain_commands.specs.Trials.{tag_by, has_room, has_low, low_carried, tag_trial, trial_with, candidate, agrees, accepted_candidate, accepted_freshness}
use Rattle.explain_commands.proofs.CallerLemmas.{found_within}
use Rattle.locate_commands.specs.Locating.{knowing, accepted_count, fits, AcceptsFrames}

-- the tests of a try that agrees
tests_passed : (room low : Bool) (t : Comparison) → agrees (if room && low then t else compared.Skipped) ≡ true
    → (room ≡ true) × (low ≡ true) × (agrees t ≡ true)
tests_passed true true t is = (refl, refl, is)
tests_passed true false t is = absurd (cc is)
tests_passed false low t is = absurd (cc is)

-- a freshness just above the counter is the first that is tried
next_candidate : (v window low : ℕ) → 1 ≤ v → 1 ≤ window → has_low low v ≡ true → candidate (v - 1) window low ≡ Some v
next_candidate v window low some wide is = found_within (has_low low) (v - 1 + 1) 0 v window (omega (arith, some)) (omega (arith, wide)) refl is

accepted_by : (room : Bool) (r : KnownReceiver) (bytes : List ℕ) (o : Option ℕ) (v : ℕ) → room ≡ true → o ≡ Some v → agrees (tag_trial making.Standard r bytes v) ≡ true
    → (if room then accepted_candidate r bytes o else None) ≡ Some v
accepted_by room r bytes o v is found passes = rw (is, found, passes) refl

-- a counter doesn't change a try with a freshness that is given
other_counter : (r : KnownReceiver) (n : ℕ) (bytes : List ℕ) (v : ℕ) → tag_trial making.Standard (knowing n r) bytes v ≡ tag_trial making.Standard r bytes v
unfolding tag_by
other_counter r n bytes v = refl

first_accepted : (r : KnownReceiver) (first : List ℕ) (v : ℕ) → 1 ≤ v → 1 ≤ r.window → agrees (trial_with r first v) ≡ true
    → accepted_freshness (knowing (v - 1) r) first ≡ Some v
unfolding trial_with accepted_freshness
first_accepted r first v some wide is =
    let passed = tests_passed (has_room r.size first) (has_low (low_carried r first) v) (tag_trial making.Standard r first v) is in
    accepted_by (has_room r.size first) (knowing (v - 1) r) first (candidate (v - 1) r.window (low_carried r first)) v passed.0
    (next_candidate v r.window (low_carried r first) some wide passed.1) (ap agrees (other_counter r (v - 1) first v) ∙ passed.2)

at_least : (n m : ℕ) → nat_le n m ≡ true → n ≤ m
at_least n m is = grind (arith, nat_tests, is)

pub fits_accepted : (r : KnownReceiver) (first : List ℕ) (rest : List (List ℕ)) (v : ℕ) → 1 ≤ v → 1 ≤ r.window
    → fits r (first ∷ rest) v ≡ true → AcceptsFrames r first rest v
fits_accepted r first rest v some wide is =
    let parts = and_parts (agrees (trial_with r first v)) (nat_le 2 (accepted_count r v rest)) is in
    record {
      accepts_first = first_accepted r first v some wide parts.0;
      accepts_two = at_least 2 (accepted_count r v rest) parts.1;
    }
