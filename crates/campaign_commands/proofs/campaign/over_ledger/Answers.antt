use Rattle.std.proofs.Common.{ap, subst, ◌∙◌}
use Rattle.cell_store.specs.Cells.{CellsState}
use Rattle.run_driver.specs.Printed.{Printed}
use Rattle.key_campaign.specs.State.{LedgerState}
use Rattle.campaign_commands.specs.LedgerTexts.{ledger_line_text}
use Rattle.campaign_commands.specs.Turns.{LedgerTurn}
use Rattle.campaign_commands.specs.Headline.{RanCampaign}
use Rattle.campaign_commands.specs.Steps.{first_done}
use Rattle.campaign_commands.proofs.OneRun.{ledger_stays}
use Rattle.campaign_commands.proofs.campaign.over_ledger.Goals as goal

pub returns : goal.returns
returns g c = λ before opened.
    let ran : RanCampaign before (g.D.Disk.state c.release-2.result) c.args.commands.now (g.K.Sink.state c.args.sink.now)
    (g.K.Sink.state c.print_run-printed.new.sink) c.print_run-printed.result = record {
      start = c.args.ledger;
      now = c.print_run-printed.new.machine.ledger;
      opened = opened;
      printed = subst (λ (start : LedgerState). Printed LedgerTurn ledger_line_text start c.print_run-printed.new.machine.ledger (g.K.Sink.state c.args.sink.now)
          (g.K.Sink.state c.print_run-printed.new.sink) c.args.commands.now c.print_run-printed.result) c.of-station.ensures c.print_run-printed.ensures.printed;
      disk = c.release-2.ensures ∙ ap (λ (s : CellsState). s.disk) c.release.ensures;
    } in
    first_done c.print_run-printed.result (record {
      ran = ran;
      status_is = c.status_of_run.ensures;
      stay = ledger_stays before _ _ _ _ _ ran;
      one_run = c.campaigns_are_runs.ensures before _ _ _ _ _ ran;
    })
