-- The status of a program that writes the lines of a run
use Rattle.std.specs.Prelude.{ℕ, Result, Ok, Err}
use Rattle.run_driver.specs.declared.printing.Unwritten.{Unwritten}
use Rattle.run_driver.specs.declared.printing.Unwritten.TheVariants.{SinkFailed, Memory}

-- the status of a run whose lines were all written, or not
abbrev pub unwritten_status : Result (Unit {0}) Unwritten → ℕ
unwritten_status (Ok _) = 0
unwritten_status (Err SinkFailed) = 6
unwritten_status (Err Memory) = 7
