-- What each row of the table says
use Rattle.std.specs.Prelude.{◌≡◌, ◌≢◌, ◌⊎◌, List, []}
use Rattle.std.proofs.Common.{refl, ap, arith, inl, inr}
use Rattle.program_edge.specs.Input.{input_limit, input_fault_status}
use Rattle.program_edge.specs.Rows.{Row, memory_row}
use Rattle.program_edge.proofs.CallerLemmas.{Offers-is, SourceTells, SourceTells-unread, SourceTells-lacks, SourceTells-whole}
use Rattle.program_edge.specs.Endings.{Ending, PrintsWhole}
use Rattle.cut_disk.specs.State.{DiskState}
use Rattle.key_campaign.specs.declared.commands.LedgerCommand.{LedgerCommand}
use Rattle.campaign_commands.specs.Rows.{CampaignInputs, CampaignDisks, HasCommands, OffersCommands, OverFirst}
use Rattle.campaign_commands.specs.Rows.{ComesBefore, no_form, no_commands, bad_line, too_few, too_small, no_ledger, no_memory_to_open}
use Rattle.campaign_commands.specs.Campaigns.{RefusesDisk, ServesLedger, DoneNone}
use Rattle.campaign_commands.proofs.Opened.{lacks_leaves, lacks_none, lacks_because, serves_or_lacks}
use Rattle.campaign_commands.proofs.Told.{same_commands_told, few_or_first, first_or_small, over_both}

-- what holds of the first disk in one way holds in another
pub over_first : {d : CampaignDisks} {P Q : DiskState → DiskState → Type 0} → OverFirst d P → ((before after : DiskState) → P before after → Q before after) → OverFirst d Q
over_first over more = record {
  first = over.first;
  later = over.later;
  rest = over.rest;
  was = over.was;
  now = over.now;
  holds = more over.first over.later over.holds;
}

-- ---- the rows

module _ {same : Type 0} {i : CampaignInputs} {d : CampaignDisks} where
  -- no row has the status 0 or 6
  pub row_status : (row : Row) → ComesBefore same i d row → (row.status ≢ 0) × (row.status ≢ 6)
  row_status row comes = grind arith

  -- what is left of the disks
  pub row_unused : (row : Row) → ComesBefore same i d row → (row.status ≡ 2) ⊎ (row.status ≡ 4) ⊎ (row.status ≡ 5) ⊎ (row.status ≡ 8) ⊎ (row.status ≡ 9) → same
  row_unused row comes low = grind arith

  pub row_leaves : (row : Row) → ComesBefore same i d row → DoneNone same d
  row_leaves row (no_form none unread as_before) = inl as_before
  row_leaves row (no_commands fault of as_before) = inl as_before
  row_leaves row (bad_line fault bad as_before) = inl as_before
  row_leaves row (too_few commands has as_before empty) = inl as_before
  row_leaves row (too_small commands has as_before small) = inl as_before
  row_leaves row (no_ledger commands cause text has told over) = inr (over_first over (λ before after lacks. lacks_none before after cause text told lacks))
  row_leaves row (no_memory_to_open commands has over) = inr (over_first over (λ before after left. left.0))

  -- ---- what must come

  -- what a row says of the script
  pub row_tells : (row : Row) → ComesBefore same i d row → SourceTells input_limit i.script row.status
  row_tells row comes = grind (arith, SourceTells-unread, SourceTells-lacks, SourceTells-whole)

  -- commands that are offered, over a disk that serves a ledger
  pub row_serves : (row : Row) (offered : List LedgerCommand) → ComesBefore same i d row → OffersCommands i offered → OverFirst d ServesLedger
      → (row.status ≡ 0) ⊎ (row.status ≡ 7)
  row_serves row offered (no_form none unread as_before) offers serves = absurd (none offers.two)
  row_serves row offered (no_commands other lacks as_before) offers serves = inr (ap input_fault_status (Offers-is i.script offers.text other offers.offers lacks.1))
  row_serves row offered (bad_line other bad as_before) offers serves = absurd (same_commands_told i other offered bad offers)
  row_serves row offered (too_few commands has as_before empty) offers serves = absurd (few_or_first d serves empty)
  row_serves row offered (too_small commands has as_before less) offers serves =
      absurd (first_or_small d (over_first serves (λ before after of. of.0.room)) (inr (over_first less (λ before after of. of.0))))
  row_serves row offered (no_ledger commands cause text has told over) offers serves =
      absurd (over_both d _ _ ⊥ over serves (λ before after lacks of. serves_or_lacks before after cause text told of lacks))
  row_serves row offered (no_memory_to_open commands has over) offers serves = inr refl

-- ---- what was printed

module _ {same : Type 0} {i : CampaignInputs} {d : CampaignDisks} (e : Ending) where
  pub row_7 : (row : Row) → ComesBefore same i d row → row.status ≡ 7 → PrintsWhole e row.text → ComesBefore same i d memory_row × PrintsWhole e []
  row_7 row comes is well = grind arith

  pub row_10 : (row : Row) → ComesBefore same i d row → row.status ≡ 10 → PrintsWhole e row.text → (commands : List LedgerCommand) × HasCommands i commands × OverFirst d (RefusesDisk e)
  row_10 row (no_ledger commands cause text has told over) is well = (commands, has, over_first over (λ before after lacks. record { cause = cause; text = text; text_is = told; printed = well; because = lacks_because before after cause text told lacks; leaves = lacks_leaves before after cause text told lacks }))
  row_10 row comes is well = absurd (grind arith)
