use Rattle.std.proofs.Common.{arith}
use Rattle.slot_commands.proofs.Finds.{checked_text, lengths_same}
use Rattle.slot_commands.proofs.checking.findings_text.Goals as goal

pub returns-clause-checked : goal.returns-clause-checked
returns-clause-checked c =
    let new = c.push_findings.new.text in
    let old = c.args.text in
    checked_text _ _ _ c.args.found _ old.items _ new.items _ c.requires.found c.requires.head c.in_ok-push_layout.ensures.pushed
    c.in_ok-push_findings.ensures.found
    (lengths_same c.len.result c.len-head.result new.items old.items (omega (arith, c.len.ensures, new.ok.0)) (omega (arith, c.len-head.ensures, old.ok.0)))
