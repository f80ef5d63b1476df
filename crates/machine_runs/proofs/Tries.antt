-- The definitions at values that anyone can work out.
use Rattle.std.specs.Prelude.{◌≡◌, ℕ, ◌+◌, List, [], ◌∷◌, Bool, ◌==◌}
use Rattle.std.proofs.Common.{refl, lit≤, inl}
use Rattle.machine_runs.specs.Run.{Moment, Run, commands_in, lines_in, seen_as, made_of}
use Rattle.machine_runs.specs.Members.{MemberSteps, of_member}
use Rattle.machine_runs.specs.Faults.{FailsWithin, QuietUntilArmed}
use Rattle.machine_runs.specs.Past.{AddsTo}

-- a sum: each command is a number to add, and the line is the new sum
abbrev Adds_up : ℕ → ℕ → ℕ → ℕ → Type 0
Adds_up sum number line after = (line ≡ sum + number) × (after ≡ sum + number)

abbrev adding : ℕ → ℕ → Moment ℕ ℕ ℕ
adding number sum = record { command = number; line = sum; after = sum }

three_and_four_are_a_run : Run Adds_up 0 (adding 3 3 ∷ adding 4 7 ∷ []) 7
three_and_four_are_a_run = ((refl, refl), ((refl, refl), refl))

a_run_is_from_its_start : Run Adds_up 1 (adding 3 3 ∷ []) 3 → ⊥
a_run_is_from_its_start run = cc

a_run_is_to_its_end : Run Adds_up 0 (adding 3 3 ∷ []) 4 → ⊥
a_run_is_to_its_end run = cc

what_was_told : lines_in (adding 3 3 ∷ adding 4 7 ∷ []) ≡ 3 ∷ 7 ∷ []
what_was_told = refl

what_was_asked : commands_in (adding 3 3 ∷ adding 4 7 ∷ []) ≡ 3 ∷ 4 ∷ []
what_was_asked = refl

doubled : seen_as (λ n. n + n) (λ s. s + s) (adding 3 3 ∷ []) ≡ record { command = 6; line = 3; after = 6 } ∷ []
doubled = refl

-- a step of 3 is a step of 2 and one of 1
two_and_one : made_of (λ start m. adding 2 (start + 2) ∷ adding 1 (start + 3) ∷ []) 0 (adding 3 3 ∷ adding 3 6 ∷ [])
    ≡ adding 2 2 ∷ adding 1 3 ∷ adding 2 5 ∷ adding 1 6 ∷ []
two_and_one = refl

-- two sums: a command is the place of a sum, and the number to add
abbrev Asked : Type 0
Asked = ℕ × ℕ

abbrev asking : Asked → ℕ → List ℕ → Moment Asked ℕ (List ℕ)
asking asked line sums = record { command = asked; line = line; after = sums }

the_second_sum : of_member (λ sums. sums) (λ asked. asked.0) (λ sums asked. asked.1) 9 1 (0 ∷ 0 ∷ [])
    (asking (1, 5) 5 (0 ∷ 5 ∷ []) ∷ asking (0, 2) 2 (2 ∷ 5 ∷ []) ∷ asking (1, 1) 6 (2 ∷ 6 ∷ []) ∷ [])
    ≡ adding 5 5 ∷ adding 1 6 ∷ []
the_second_sum = refl

one_sum_steps : MemberSteps Adds_up (2 ∷ 5 ∷ []) 1 1 6 (2 ∷ 6 ∷ [])
one_sum_steps = record { before = 5; after = 6; was = refl; step = (refl, refl); others = refl }

-- the line 0 tells a failure, and the command 0 arms one
abbrev is_0 : ℕ → Bool
is_0 n = n == 0

abbrev told : ℕ → ℕ → ℕ → Moment ℕ ℕ ℕ
told command line count = record { command = command; line = line; after = count }

one_failure_is_within_a_rise_of_one : FailsWithin is_0 (λ count. count) 0 (told 5 1 0 ∷ told 5 0 1 ∷ []) 1
one_failure_is_within_a_rise_of_one = record { later = lit≤ tt; within = inl (lit≤ tt) }

a_failure_after_arming_may_come : QuietUntilArmed is_0 is_0 (told 5 1 0 ∷ told 0 1 0 ∷ told 5 0 1 ∷ [])
a_failure_after_arming_may_come = λ _. (refl, λ armed. absurd (cc armed))

a_failure_before_arming_is_no_quiet_run : QuietUntilArmed is_0 is_0 (told 5 0 1 ∷ told 0 1 1 ∷ []) → ⊥
a_failure_before_arming_is_no_quiet_run quiet = cc ((quiet refl).0)

-- each moment adds its line
each_line_is_added : AddsTo (λ past m part. part ≡ m.line ∷ []) (9 ∷ []) (adding 3 3 ∷ adding 4 7 ∷ []) (9 ∷ 3 ∷ 7 ∷ [])
each_line_is_added = (3 ∷ [], refl, (7 ∷ [], refl, refl))
