-- The definitions at values that anyone can work out.
use Rattle.std.specs.Prelude.{◌≡◌, ℕ, ◌+◌, List, [], ◌∷◌, ◌++◌, Some, Ok, Err}
use Rattle.std.proofs.Common.{refl, ap, lit<, inl, arith}
use Rattle.std.proofs.lemmas.Option.{same_Some}
use Rattle.bus_port.specs.Sink.{SinkState, Appended}
use Rattle.machine_runs.specs.Run.{Moment}
use Rattle.run_driver.specs.Printed.{texts, Printed}
use Rattle.run_driver.specs.Counted.{Counted}
use Rattle.run_driver.specs.declared.printing.Unwritten.TheVariants.{SinkFailed, Memory}

-- a sum: each command is a number to add, and the line is the new sum
abbrev Adds_up : ℕ → ℕ → ℕ → ℕ → Type 0
Adds_up sum number line after = (line ≡ sum + number) × (after ≡ sum + number)

abbrev adding : ℕ → ℕ → Moment ℕ ℕ ℕ
adding number sum = record { command = number; line = sum; after = sum }

-- the number and the line, and a line feed, which is 10
abbrev text : ℕ → ℕ → List ℕ
text number line = number ∷ line ∷ 10 ∷ []

abbrev sink : List ℕ → ℕ → SinkState
sink held faults = record { told = Some held; faults = faults }

numbers_begin_at_1 : texts text 1 (3 ∷ 7 ∷ []) ≡ 1 ∷ 3 ∷ 10 ∷ 2 ∷ 7 ∷ 10 ∷ []
numbers_begin_at_1 = refl

appended : (bytes : List ℕ) (faults : ℕ) → Appended (sink [] 0) (sink bytes faults) bytes
appended bytes faults = record {
  grown = λ held told. ap (λ h. Some (h ++ bytes)) (same_Some [] held told);
  later = omega arith;
}

all_is_printed : Printed Adds_up text 0 7 (sink [] 0) (sink (1 ∷ 3 ∷ 10 ∷ 2 ∷ 7 ∷ 10 ∷ []) 0) (3 ∷ 4 ∷ []) (Ok tt)
all_is_printed = record {
  moments = adding 3 3 ∷ adding 4 7 ∷ [];
  run = ((refl, refl), ((refl, refl), refl));
  first = refl;
  holds = (refl, (refl, appended (1 ∷ 3 ∷ 10 ∷ 2 ∷ 7 ∷ 10 ∷ []) 0));
}

-- the third command was not done
a_front_of_the_second_line_is_printed : Printed Adds_up text 0 7 (sink [] 0) (sink (1 ∷ 3 ∷ 10 ∷ 2 ∷ []) 1) (3 ∷ 4 ∷ 5 ∷ []) (Err SinkFailed)
a_front_of_the_second_line_is_printed = record {
  moments = adding 3 3 ∷ adding 4 7 ∷ [];
  run = ((refl, refl), ((refl, refl), refl));
  first = refl;
  holds = record {
    front = adding 3 3 ∷ [];
    last = adding 4 7;
    all = refl;
    written = (inl (lit< tt), 1, lit< tt, appended (1 ∷ 3 ∷ 10 ∷ 2 ∷ []) 1);
  };
}

the_first_line_alone_is_printed : Printed Adds_up text 0 7 (sink [] 0) (sink (1 ∷ 3 ∷ 10 ∷ []) 0) (3 ∷ 4 ∷ 5 ∷ []) (Err Memory)
the_first_line_alone_is_printed = record {
  moments = adding 3 3 ∷ adding 4 7 ∷ [];
  run = ((refl, refl), ((refl, refl), refl));
  first = refl;
  holds = record {
    front = adding 3 3 ∷ [];
    last = adding 4 7;
    all = refl;
    written = (refl, appended (1 ∷ 3 ∷ 10 ∷ []) 0);
  };
}

-- the sum of all lines
lines_are_counted : Counted Adds_up (λ total line. total + line) 0 7 100 110 (3 ∷ 4 ∷ [])
lines_are_counted = record {
  moments = adding 3 3 ∷ adding 4 7 ∷ [];
  run = ((refl, refl), ((refl, refl), refl));
  first = refl;
  holds = (refl, refl);
}
