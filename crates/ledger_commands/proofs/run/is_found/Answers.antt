use Rattle.std.proofs.Common.{sym, ap, ◌∙◌}
use Rattle.std.specs.Prelude.{is_some}
use Rattle.ledger_commands.specs.LedgerRows.{is_found}
use Rattle.ledger_commands.proofs.EntryLines.{some_told}
use Rattle.ledger_commands.proofs.run.is_found.Goals as goal

pub returns-in-Show : goal.returns-in-Show
returns-in-Show c =
    c.is_some.ensures ∙ ap is_some c.show.ensures ∙ some_told _ ∙ sym (ap (λ asked. is_found asked c.args.ledger.now.campaign.entries) c.in-Show.is)
