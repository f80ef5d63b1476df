use Rattle.can_logs.proofs.faults.fault_line.Goals as goal

pub returns-in_ok-format-in-Count : goal.returns-in_ok-format-in-Count
returns-in_ok-format-in-Count c = rw c.in-Count.is c.in_ok-format-in-Count.ensures.ok

pub returns-in_ok-format-in-TooMany : goal.returns-in_ok-format-in-TooMany
returns-in_ok-format-in-TooMany c = rw c.in-TooMany.is c.in_ok-format-in-TooMany.ensures.ok
