use Rattle.std.proofs.Common.{◌≡◌, ℕ, true, sym, ap, subst, ◌∙◌}
use Rattle.cell_store.specs.Cells.{CellsState}
use Rattle.key_campaign.specs.Campaign.{Campaign}
use Rattle.run_driver.specs.PrintedUntil.{PrintedUntil}
use Rattle.adopt_commands.specs.AdoptRows.{adopts_into, first_keeper}
use Rattle.adopt_commands.specs.Adoptions.{EndsAdopting, adopt_status}
use Rattle.adopt_commands.specs.AdoptTurns.{KeeperState, AdoptTurn, adopt_text, is_last_adoption}
use Rattle.adopt_commands.proofs.AdoptEnds.{ends_adopting, keeper_is}
use Rattle.adopt_commands.proofs.adopting.adopt_in.Goals as goal

pub returns : goal.returns
returns g c = λ before may opened stood.
    let printed = c.print_run_until_last-printed in
    let left : KeeperState = record {
      ledger = printed.new.machine.ledger;
      strict = printed.new.machine.strict;
      refused = printed.new.machine.refused;
    } in
    let start : KeeperState = record { ledger = c.of-keeper.result.ledger; strict = c.of-keeper.result.strict; refused = c.of-keeper.result.refused } in
    let is : start ≡ first_keeper c.args.ledger c.args.strict =
    keeper_is _ _ _ _ _ _ c.of-keeper.ensures.ledger c.of-keeper.ensures.strict c.of-keeper.ensures.none in
    let up : c.args.ledger.campaign.up ≡ true = ap (λ (k : Campaign). k.up) opened.up in
    let run = subst (λ (s : KeeperState). PrintedUntil AdoptTurn adopt_text is_last_adoption s left (g.K.Sink.state c.args.sink.now) (g.K.Sink.state printed.new.sink)
    c.args.entries.now printed.result) is printed.ensures.printed in
    let status : c.status_of_adoptions-status.result ≡ adopt_status left.refused printed.result =
    c.status_of_adoptions-status.ensures ∙ ap (λ b. adopt_status b printed.result) c.has_refused.ensures in
    let ends = ends_adopting (first_keeper c.args.ledger c.args.strict) left c.args.entries.now (g.K.Sink.state c.args.sink.now) (g.K.Sink.state printed.new.sink)
    opened.sound up c.requires.are printed.result run in
    adopts_into (record {
      opened = c.args.ledger;
      left = left;
      opens = opened;
      stood = stood;
      ends = subst (λ (n : ℕ). EndsAdopting (first_keeper c.args.ledger c.args.strict) c.args.entries.now left
          (record { before = g.K.Sink.state c.args.sink.now; after = g.K.Sink.state printed.new.sink; status = n })) (sym status) ends;
      handed_back = c.release-2.ensures ∙ ap (λ (s : CellsState). s.disk) c.release.ensures;
    })
