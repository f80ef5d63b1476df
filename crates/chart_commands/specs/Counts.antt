-- What a line is counted for
use Rattle.std.specs.Prelude.{Bool}
use Rattle.bus_machine.specs.declared.lines.Line.{Line}
use Rattle.bus_machine.specs.Tells.{tells_sent, tells_accepted, tells_failed_verdict, tells_keyed, tells_up}
use Rattle.bus_machine.specs.Tells.{tells_refused}
use Rattle.chart_commands.specs.declared.counting.CountedKind.{CountedKind}
use Rattle.chart_commands.specs.declared.counting.CountedKind.TheVariants.{Sent, Accepted, Failures, Keyed, Cuts, Refused}

abbrev pub is_counted : CountedKind → Line → Bool
is_counted Sent = tells_sent
is_counted Accepted = tells_accepted
is_counted Failures = tells_failed_verdict
is_counted Keyed = tells_keyed
is_counted Cuts = tells_up
is_counted Refused = tells_refused
