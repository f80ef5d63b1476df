use Rattle.bus_store_commands.proofs.MakeCuts.{zeros_found_blank, zeros_hold_none}
use Rattle.bus_store_commands.proofs.laws.zeros_are_blank_and_hold_no_cells.Goals as goal

pub returns-clause-blank : goal.returns-clause-blank
returns-clause-blank c = zeros_found_blank

pub returns-clause-none : goal.returns-clause-none
returns-clause-none c = zeros_hold_none
