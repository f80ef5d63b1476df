-- The definitions of what stands behind the answers of a log, tried on written-out maps and lines
use Rattle.std.proofs.Common.{◌≡◌, ℕ, ◌+◌, Bool, true, false, List, [], ◌∷◌, refl}
use Rattle.std.specs.Prelude.{codes, Option, None, Some}
use Rattle.secured_pdu.specs.Verdict.{Accepted, VerificationFailure}
use Rattle.can_logs.specs.declared.map_lines.MapLine.{MapLine}
use Rattle.can_logs.specs.declared.frames.OtherLine.TheVariants as kind
use Rattle.can_logs.specs.Frames.{unheard_kind, is_dataless_word}
use Rattle.watch_commands.specs.declared.options.WatchOptions.{WatchOptions}
use Rattle.watch_commands.specs.Limits.{no_limits, share_of}
use Rattle.watch_commands.specs.WatchedMaps.{WatchedMap}
use Rattle.can_logs.specs.Findings.{Finding, other, too_short, verdict}
use Rattle.can_logs.specs.Seconds.{seconds_form}
use Rattle.watch_commands.specs.Times.{silence_of}
use Rattle.watch_commands.specs.Watching.{Found, findings_of}
use Rattle.watch_commands.specs.WatchTotals.{counts_of}
use Rattle.watch_commands.specs.LogTotals.{totals_of, watch_status}

-- ---- the lines that no line of a map judges

the_greatest_of_11_bits : unheard_kind (codes "7ff") ≡ kind.Unmapped
the_greatest_of_11_bits = refl

more_than_11_bits : unheard_kind (codes "800") ≡ kind.Malformed
more_than_11_bits = refl

the_greatest_of_29_bits : unheard_kind (codes "1fffffff") ≡ kind.Unmapped
the_greatest_of_29_bits = refl

an_error_frame : unheard_kind (codes "20000004") ≡ kind.OtherFrame
an_error_frame = refl

more_than_an_error_frame : unheard_kind (codes "40000000") ≡ kind.Malformed
more_than_an_error_frame = refl

a_remote_frame : is_dataless_word (codes "123#R8") ≡ true
a_remote_frame = refl

a_frame_of_can_xl : is_dataless_word (codes "00123#81:00:00000000#1122") ≡ true
a_frame_of_can_xl = refl

four_digits : is_dataless_word (codes "1234#R") ≡ false
four_digits = refl

no_number_sign : is_dataless_word (codes "00123") ≡ false
no_number_sign = refl

-- ---- the totals

-- at a time of 1 to 9 seconds
at_second : ℕ → Finding → Found
at_second digit finding = record { finding = finding; stamp = record { time = 40 ∷ (48 + digit) ∷ 41 ∷ []; channel = codes "can0" } }

entry : Bool → MapLine
entry optional = record {
  can = codes "123";
  id = 0x6bc1;
  key = [];
  counter = 10;
  size = 6;
  window = 16;
  channel = None;
  optional = optional;
  every = None;
  silent = None;
  name = None;
}

-- two lines, at 3 and 5 of the map's text
no_options : WatchOptions
no_options = record { quiet = false; json = false; time = false; strict = false; limits = no_limits }

mapping : Bool → Bool → WatchedMap
mapping first second = record { lines = entry first ∷ entry second ∷ []; numbers = 3 ∷ 5 ∷ []; options = no_options }

-- freshness 12 and 15 for the first line, a failure, a frame that is too short, and a remote frame
found : List Found
found =
    at_second 1 (verdict 1 0 (codes "123") (Accepted [] 12)) ∷ at_second 1 (other kind.OtherFrame)
    ∷ at_second 1 (verdict 3 0 (codes "123") VerificationFailure) ∷ at_second 1 (too_short 4 1 (codes "123"))
    ∷ at_second 1 (verdict 5 0 (codes "123") (Accepted [] 15)) ∷ []

the_last_freshness : (totals_of (mapping false false) found 0).last ≡ 15
unfolding mapping found entry no_options at_second
the_last_freshness = refl

none_for_the_second : (totals_of (mapping false false) found 1).last ≡ 10
unfolding mapping found entry no_options at_second
none_for_the_second = refl

the_five_numbers : counts_of (findings_of found) ≡ record { accepted = 2; failed = 2; unmapped = 0; other_frames = 1; malformed = 0 }
unfolding found at_second
the_five_numbers = refl

-- ---- the status

accepted : Found
accepted = at_second 1 (verdict 1 0 (codes "123") (Accepted [] 12))

a_silent_line : watch_status (mapping false false) (accepted ∷ []) ≡ 3
unfolding mapping accepted entry no_options at_second
a_silent_line = refl

an_optional_line : watch_status (mapping false true) (accepted ∷ []) ≡ 0
unfolding mapping accepted entry no_options at_second
an_optional_line = refl

a_failure_comes_first : watch_status (mapping false false) found ≡ 1
unfolding mapping found entry no_options at_second
a_failure_comes_first = refl

no_lines : watch_status (record { lines = []; numbers = []; options = no_options }) [] ≡ 3
no_lines = refl

-- ---- limits

-- freshness 11, 13 and 14 were missed
strictly : Option ℕ → Option ℕ → WatchedMap
strictly missed share = record (mapping false true) {
  options = record no_options { strict = true; limits = record no_limits { missed = missed; missed_share = share } };
}

good : List Found
good = accepted ∷ at_second 1 (verdict 5 0 (codes "123") (Accepted [] 15)) ∷ []

missed_by_three : watch_status (strictly (Some 3) None) good ≡ 0
unfolding strictly mapping good accepted entry no_options at_second seconds_form
missed_by_three = refl

more_than_two : watch_status (strictly (Some 2) None) good ≡ 3
unfolding strictly mapping good accepted entry no_options at_second seconds_form
more_than_two = refl

strict_without_a_limit : watch_status (strictly None None) good ≡ 3
unfolding strictly mapping good accepted entry no_options at_second seconds_form
strict_without_a_limit = refl

-- three of five
at_60_percent : watch_status (strictly None (Some 60)) good ≡ 0
unfolding strictly mapping good accepted entry no_options at_second seconds_form
at_60_percent = refl

at_59_percent : watch_status (strictly None (Some 59)) good ≡ 3
unfolding strictly mapping good accepted entry no_options at_second seconds_form
at_59_percent = refl

a_malformed_line : watch_status (strictly (Some 3) None) (at_second 1 (other kind.Malformed) ∷ good) ≡ 3
unfolding strictly mapping good accepted entry no_options at_second seconds_form
a_malformed_line = refl

-- ---- silence

-- accepted in second 2, and then the log goes on to second 5 without the first line
died : List Found
died = at_second 1 (other kind.Unmapped) ∷ at_second 2 (verdict 2 0 (codes "123") (Accepted [] 11)) ∷ at_second 5 (other kind.Unmapped) ∷ at_second 9 (other kind.Malformed) ∷ []

it_was_silent : silence_of 0 died ≡ record { from = 2000000; to = 5000000 }
unfolding died at_second seconds_form
it_was_silent = refl

-- one that began at its first frame, and one that another line's frames don't end
it_began_late : silence_of 0 (at_second 1 (other kind.OtherFrame) ∷ at_second 3 (verdict 2 0 (codes "123") (Accepted [] 11)) ∷ at_second 4 (other kind.Unmapped) ∷ []) ≡ record { from = 1000000; to = 3000000 }
unfolding at_second seconds_form
it_began_late = refl

never_heard : silence_of 1 died ≡ record { from = 1000000; to = 5000000 }
unfolding died at_second seconds_form
never_heard = refl

-- times that fall back stand still
falls_back : silence_of 0 (at_second 5 (verdict 1 0 (codes "123") (Accepted [] 11)) ∷ at_second 1 (other kind.Unmapped) ∷ at_second 6 (other kind.Unmapped) ∷ []) ≡ record { from = 5000000; to = 6000000 }
unfolding at_second seconds_form
falls_back = refl

-- a line's own silence, or five of its periods; its silence of 3 seconds reaches 3 seconds
timing : Option ℕ → Option ℕ → WatchedMap
timing silent every = record { lines = record (entry false) { silent = silent; every = every } ∷ []; numbers = 3 ∷ []; options = no_options }

as_long_as_it_says : watch_status (timing (Some 3000000) (Some 9000000)) died ≡ 3
unfolding timing died entry no_options at_second seconds_form
as_long_as_it_says = refl

shorter_than_it_says : watch_status (timing (Some 3000001) (Some 1)) died ≡ 0
unfolding timing died entry no_options at_second seconds_form
shorter_than_it_says = refl

five_periods : watch_status (timing None (Some 600000)) died ≡ 3
unfolding timing died entry no_options at_second seconds_form
five_periods = refl

shares_are_rounded_up : (share_of 1 3 ≡ 34) × (share_of 0 0 ≡ 0) × (share_of 1 1000 ≡ 1)
shares_are_rounded_up = (refl, refl, refl)
