use Rattle.std.proofs.Common.{◌≡◌, ◌++◌, sym, subst}
use Rattle.std.specs.Prelude.{OnOk}
use Rattle.text_lines.specs.Written.{written}
use Rattle.key_campaign.specs.declared.lines.LedgerLine.TheVariants.{Shown}
use Rattle.campaign_commands.specs.LedgerTexts.{ledger_words}
use Rattle.ledger_commands.specs.LedgerRows.{task_text}
use Rattle.ledger_commands.proofs.run.push_answer.Goals as goal

pub returns-in-Show : goal.returns-in-Show
returns-in-Show c =
    subst (λ asked. OnOk c.push_shown.result (c.push_shown.new.text.items ≡ c.args.text.now.items ++ task_text asked c.args.ledger.now.campaign.entries)) (sym c.in-Show.is)
    (subst (λ told. OnOk c.push_shown.result (c.push_shown.new.text.items ≡ c.args.text.now.items ++ written (ledger_words (Shown told)))) c.show.ensures c.push_shown.ensures)
