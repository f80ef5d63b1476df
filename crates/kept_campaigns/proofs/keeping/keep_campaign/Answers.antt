use Rattle.std.proofs.Common.{◌≡◌, ◌∙◌, ◌<◌, ◌++◌, ℕ, List, [], ◌∷◌, length, map, refl, sym, ap, arith, rules}
use Rattle.std.specs.Prelude.{Option, None, Some, string_bytes}
use Rattle.std.proofs.lemmas.List.{append-nil}
use Rattle.cut_disk.specs.State.{DiskState}
use Rattle.program_edge.specs.NamedSources.{word_source, missing_source}
use Rattle.kept_campaigns.specs.KeptCampaigns.{unkept, kept_on, unopened}
use Rattle.kept_campaigns.proofs.LedgerLaws.{makes_opened, one_opened}
use Rattle.kept_campaigns.proofs.keeping.keep_campaign.Goals as goal

pub look_at_ledger-requires : goal.look_at_ledger-requires
look_at_ledger-requires g c =
    one_opened g.P.Opened.Disk.state _ _ _ _ (map string_bytes c.args.words.now) c.in-Ok.disks.items c.requires c.two_words.ensures.second
    c.in-Ok.ensures.named

pub returns-in_default-clause-makes : goal.returns-in_default-clause-makes
returns-in_default-clause-makes g c = ([], c.in_default.ensures.unopened ∙ sym (append-nil _), c.in_default.ensures.unmade ∙ sym (append-nil _))

pub returns-in-Err-clause-makes : goal.returns-in-Err-clause-makes
returns-in-Err-clause-makes g c = makes_opened _ _ _ _ _ _ _ c.in-Ok.ensures.named (search rules)

pub returns-clause-makes : goal.returns-clause-makes
returns-clause-makes g c = makes_opened _ _ _ _ _ _ _ c.in-Ok.ensures.named (search rules)

pub returns-in_default-clause-keeps : goal.returns-in_default-clause-keeps
returns-in_default-clause-keeps g c =
    unopened refl (record { sources = refl; disks = c.in_default.ensures.unopened }) (ap missing_source c.new-missing.ensures)
    c.new.ensures.items refl

pub returns-in-Err-clause-keeps : goal.returns-in-Err-clause-keeps
returns-in-Err-clause-keeps g c =
    unkept (map g.P.Opened.Disk.state c.in-Ok.disks.items) c.in-Err.fault (rw c.two_words.ensures.second at c.in-Ok.ensures.named) c.in-Err.ensures.refused refl
    (ap missing_source c.new-missing-in-Err.ensures) (record { row = _; comes = c.unkept_refusal.ensures; told = c.tell_refusal-status.ensures })

pub returns-clause-keeps : goal.returns-clause-keeps
returns-clause-keeps g c =
    let source = word_source g.O.Opened.Source.state g.I.Source.state in
    kept_on (map g.P.Opened.Disk.state c.in-Ok.disks.items) c.look_at_ledger.new.disks (rw c.two_words.ensures.second at c.in-Ok.ensures.named)
    c.in_default-look_at_ledger.ensures.looked
    (record {
      source = record { before = source c.open_word-script.result; after = source c.run_campaign-status.new.script };
      named = rw c.two_words.ensures.first at c.open_word-script.ensures.named;
      opened_once = rw c.two_words.ensures.first at c.open_word-script.ensures.left;
      left_is = refl;
      has = (c.run_campaign-status.ensures.promises, c.run_campaign-status.ensures.campaigned);
    })
