-- What a line tells.
use Rattle.std.specs.Prelude.{Bool, true, false}
use Rattle.bus_machine.specs.declared.lines.Line.{Line}
use Rattle.bus_machine.specs.declared.lines.Line.TheVariants.{Sent, Accepted, FreshnessFailure, VerificationFailure}
use Rattle.bus_machine.specs.declared.lines.Line.TheVariants.{Keyed, Up, Refused}

abbrev pub tells_sent : Line → Bool
tells_sent (Sent id freshness pdu) = true
tells_sent _ = false

abbrev pub tells_accepted : Line → Bool
tells_accepted (Accepted id freshness payload source) = true
tells_accepted _ = false

-- a freshness or a verification that failed
abbrev pub tells_failed_verdict : Line → Bool
tells_failed_verdict FreshnessFailure = true
tells_failed_verdict VerificationFailure = true
tells_failed_verdict _ = false

abbrev pub tells_keyed : Line → Bool
tells_keyed (Keyed slot) = true
tells_keyed _ = false

-- a node is up again after a power cut; a cut that is refused isn't one
abbrev pub tells_up : Line → Bool
tells_up Up = true
tells_up _ = false

abbrev pub tells_refused : Line → Bool
tells_refused (Refused refusal) = true
tells_refused _ = false
