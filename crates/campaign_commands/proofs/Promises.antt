-- What a campaign promises that ends in a row of the table, or did its first commands
use Rattle.std.specs.Prelude.{◌≡◌, ◌⊎◌, ℕ, ◌<◌, ◌≤◌, List, [], drop, length, Result, Ok, Err}
use Rattle.std.proofs.Common.{refl, ◌∙◌, subst, arith, inl, inr}
use Rattle.bus_port.specs.Sink.{SinkState}
use Rattle.program_edge.specs.Endings.{Ending, EndsInRow, PrintsWhole, PrintsFront, SinkFailed, CountsWriteFault}
use Rattle.program_edge.specs.Input.{input_limit}
use Rattle.program_edge.proofs.CallerLemmas.{Offers-is, SourceTells, SourceTells-whole, SourceTells-fault, SourceTells-long}
use Rattle.program_edge.proofs.CallerLemmas.{EndsInRow-at, EndsInRow-front, EndsInRow-rose, EndsInRow-only, EndsInRow-may, EndsInRow-done}
use Rattle.run_driver.specs.declared.printing.Unwritten.{Unwritten}
use Rattle.run_driver.specs.declared.printing.Unwritten.TheVariants as unwritten
use Rattle.run_driver.specs.Printed.{Written}
use Rattle.run_driver.specs.Statuses.{unwritten_status}
use Rattle.machine_runs.specs.Run.{Moment}
use Rattle.key_campaign.specs.declared.commands.LedgerCommand.{LedgerCommand}
use Rattle.key_campaign.specs.declared.lines.LedgerLine.{LedgerLine}
use Rattle.key_campaign.specs.State.{LedgerState}
use Rattle.campaign_commands.specs.LedgerTexts.{ledger_line_text}
use Rattle.campaign_commands.specs.declared.opening.NoLedgerCause.{NoLedgerCause}
use Rattle.campaign_commands.specs.Opening.{ledger_size}
use Rattle.campaign_commands.specs.Rows.{CampaignInputs, CampaignDisks, AreTwo, HasCommands, OverFirst, DoneCampaign, ComesBefore, EndsCampaign, in_row, campaigned}
use Rattle.campaign_commands.specs.Campaigns.{RanTo, TellsNoLedger, DoneNone, RunsCampaign}
use Rattle.campaign_commands.proofs.Opened.{opened_or_none, lacks_room}
use Rattle.campaign_commands.proofs.Told.{same_commands_told, bad_or_good, few_or_first, first_or_small, over_both}
use Rattle.campaign_commands.proofs.RowFacts.{over_first, row_7, row_10, row_status, row_unused, row_leaves, row_tells, row_serves}

-- ---- if it ended in a row

module _ {same : Type 0} {i : CampaignInputs} {d : CampaignDisks} {e : Ending} where
  ended_unused : EndsInRow (ComesBefore same i d) e → (e.status ≡ 2) ⊎ (e.status ≡ 4) ⊎ (e.status ≡ 5) ⊎ (e.status ≡ 8) ⊎ (e.status ≡ 9) → same
  ended_unused ends low = elim ends.told [
    | inl (status_is, well) ↦
        row_unused ends.row ends.comes
        (subst (λ (n : ℕ). (n ≡ 2) ⊎ (n ≡ 4) ⊎ (n ≡ 5) ⊎ (n ≡ 8) ⊎ (n ≡ 9)) status_is low)
    | inr (six, rose, part) ↦ absurd (let no : ⊥ = omega (arith, low, six) in no)
  ]

  ended_early : EndsInRow (ComesBefore same i d) e → (e.status ≡ 6) ⊎ (e.status ≡ 7) → (PrintsFront (ComesBefore same i d) e ⊎ PrintsWhole e []) × DoneNone same d
  ended_early ends (inl six) = (inl (EndsInRow-front ends (λ row comes. (row_status row comes).1) six).1, row_leaves ends.row ends.comes)
  ended_early ends (inr seven) = (inr (EndsInRow-at ends 7 refl (row_7 e) seven).1, row_leaves ends.row ends.comes)

  promises_in_row : drop 1 d.after ≡ drop 1 d.before → length d.after ≡ length d.before → EndsInRow (ComesBefore same i d) e → RunsCampaign same i d e
  promises_in_row further as_many ends = record {
    further = further;
    as_many = as_many;
    disks_unused = ended_unused ends;
    done = EndsInRow-at ends 0 refl (λ row comes zero well. absurd ((row_status row comes).0 zero));
    usage_told = EndsInRow-at ends 2 refl (λ row comes is well. grind arith);
    usage_only = λ not. EndsInRow-only ends 2 (λ row comes. grind arith);
    refused = EndsInRow-at ends 4 refl (λ row comes is well. grind arith);
    refused_only = λ fault bad. EndsInRow-may ends 4 (λ row comes. grind (arith, Offers-is, bad_or_good));
    read_fault = EndsInRow-at ends 5 refl (λ row comes is well. grind arith);
    read_fault_only = λ rose. EndsInRow-only ends 5 (λ row comes. SourceTells-fault input_limit i.script row.status (row_tells row comes) rose);
    write_fault = λ six. let front = EndsInRow-front ends (λ row comes. (row_status row comes).1) six in (front.0, inl front.1);
    write_fault_only = EndsInRow-rose ends;
    no_memory = λ seven. inl (EndsInRow-at ends 7 refl (row_7 e) seven);
    early_ends = λ either. inr (ended_early ends either);
    too_long = EndsInRow-at ends 8 refl (λ row comes is well. grind arith);
    too_long_only = λ more. EndsInRow-only ends 8 (λ row comes. SourceTells-long input_limit i.script row.status (row_tells row comes) more);
    disks_refused = EndsInRow-at ends 9 refl (λ row comes is well. grind (arith, over_first));
    disks_refused_only = λ commands offers small. EndsInRow-may ends 9 (λ row comes. grind (arith, Offers-is, same_commands_told, first_or_small, over_first, lacks_room));
    store_refused = EndsInRow-at ends 10 refl (row_10 e);
    store_refused_only = λ commands cause offers none. EndsInRow-may ends 10 (λ row comes. grind (arith, Offers-is, same_commands_told, few_or_first, first_or_small, over_first));
    complete = λ commands offers serves well. EndsInRow-done ends well 0 (λ row comes. row_serves row commands comes offers serves);
  }

-- ---- if its first commands were done

-- if the sink failed, and if it didn't
written_rose : (moments : List (Moment LedgerCommand LedgerLine LedgerState)) (before after : SinkState) (commands : List LedgerCommand) (result : Result (Unit {0}) Unwritten)
    → Written ledger_line_text before after commands result moments → before.faults < after.faults → unwritten_status result ≡ 6
written_rose moments before after commands (Ok done) written rose = absurd (let no : ⊥ = omega (arith, written.1.0, rose) in no)
written_rose moments before after commands (Err unwritten.SinkFailed) written rose = refl
written_rose moments before after commands (Err unwritten.Memory) written rose = absurd (let no : ⊥ = omega (arith, written.written.0, rose) in no)

module _ {i : CampaignInputs} {d : CampaignDisks} {e : Ending} (commands : List LedgerCommand) (has : HasCommands i commands) where
  module _ (result : Result (Unit {0}) Unwritten) (over : OverFirst d (DoneCampaign commands e result)) where
    status_is : e.status ≡ unwritten_status result
    status_is = over.holds.status_is

    others : drop 1 d.after ≡ drop 1 d.before
    others = rw (over.was, over.now) refl

    none_lost : length d.after ≡ length d.before
    none_lost = rw (over.was, over.now) refl

    rose_is_six : CountsWriteFault e → e.status ≡ 6
    rose_is_six rose = status_is ∙ written_rose over.holds.ran.printed.moments e.before e.after commands result over.holds.ran.printed.holds rose

    two : {A : Type 0} → ¬ AreTwo i.words → A
    two not = absurd (not has.two)

    room : OverFirst d (λ before after. ledger_size ≤ before.size)
    room = over_first over (λ before after ran. ran.ran.opened.room)

    no_small : {A : Type 0} → (d.before ≡ []) ⊎ OverFirst d (λ before after. before.size < ledger_size) → A
    no_small small = absurd (first_or_small d room small)

    no_lack : {A : Type 0} (cause : NoLedgerCause) → OverFirst d (TellsNoLedger cause) → A
    no_lack cause none = absurd (over_both d _ _ ⊥ over none (λ before after ran lacks. opened_or_none before after ran.ran.start cause ran.ran.opened lacks))

  done_0 : (result : Result (Unit {0}) Unwritten) → OverFirst d (DoneCampaign commands e result) → e.status ≡ 0 → RanTo i d e (Ok tt)
  done_0 (Ok tt) over zero = (commands, has, over)
  done_0 (Err unwritten.SinkFailed) over zero = absurd (omega (arith, zero, over.holds.status_is))
  done_0 (Err unwritten.Memory) over zero = absurd (omega (arith, zero, over.holds.status_is))

  done_6 : (result : Result (Unit {0}) Unwritten) → OverFirst d (DoneCampaign commands e result) → e.status ≡ 6
      → SinkFailed e × RanTo i d e (Err unwritten.SinkFailed)
  done_6 (Ok _) over six = absurd (omega (arith, six, over.holds.status_is))
  done_6 (Err unwritten.SinkFailed) over six = (over.holds.ran.printed.holds.written.0, (commands, has, over))
  done_6 (Err unwritten.Memory) over six = absurd (omega (arith, six, over.holds.status_is))

  done_7 : (result : Result (Unit {0}) Unwritten) → OverFirst d (DoneCampaign commands e result) → e.status ≡ 7 → RanTo i d e (Err unwritten.Memory)
  done_7 (Ok _) over seven = absurd (omega (arith, seven, over.holds.status_is))
  done_7 (Err unwritten.SinkFailed) over seven = absurd (omega (arith, seven, over.holds.status_is))
  done_7 (Err unwritten.Memory) over seven = (commands, has, over)

  one_of_three : (result : Result (Unit {0}) Unwritten) → OverFirst d (DoneCampaign commands e result) → (e.status ≡ 0) ⊎ (e.status ≡ 6) ⊎ (e.status ≡ 7)
  one_of_three (Ok _) over = inl over.holds.status_is
  one_of_three (Err unwritten.SinkFailed) over = inr (inl over.holds.status_is)
  one_of_three (Err unwritten.Memory) over = inr (inr over.holds.status_is)

  module _ (result : Result (Unit {0}) Unwritten) (over : OverFirst d (DoneCampaign commands e result)) where
    among : (e.status ≡ 0) ⊎ (e.status ≡ 6) ⊎ (e.status ≡ 7)
    among = one_of_three result over

    script_tells : SourceTells input_limit i.script e.status
    script_tells = SourceTells-whole input_limit i.script e.status has.text has.whole

    early : (e.status ≡ 6) ⊎ (e.status ≡ 7) → (cause : Unwritten) × RanTo i d e (Err cause)
    early (inl six) = (unwritten.SinkFailed, (done_6 result over six).1)
    early (inr seven) = (unwritten.Memory, done_7 result over seven)

    completes : ¬ SinkFailed e → (e.status ≡ 0) ⊎ (e.status ≡ 7)
    completes well = elim among [
      | inl zero ↦ inl zero
      | inr (inl six) ↦ absurd (well (done_6 result over six).0)
      | inr (inr seven) ↦ inr seven
    ]

    promises_of : (same : Type 0) → RunsCampaign same i d e
    promises_of same = record {
      further = others result over;
      as_many = none_lost result over;
      disks_unused = λ low. absurd (omega (arith, low, among));
      done = done_0 result over;
      usage_told = λ st. absurd (omega (arith, st, among));
      usage_only = two result over;
      refused = λ st. absurd (omega (arith, st, among));
      refused_only = λ fault bad. absurd (bad_or_good i fault commands bad has);
      read_fault = λ st. absurd (omega (arith, st, among));
      read_fault_only = λ rose. inl (SourceTells-fault input_limit i.script e.status script_tells rose);
      write_fault = λ six. let failed = done_6 result over six in (failed.0, inr failed.1);
      write_fault_only = rose_is_six result over;
      no_memory = λ seven. inr (done_7 result over seven);
      early_ends = λ either. inl (early either);
      too_long = λ st. absurd (omega (arith, st, among));
      too_long_only = λ more. inl (SourceTells-long input_limit i.script e.status script_tells more);
      disks_refused = λ st. absurd (omega (arith, st, among));
      disks_refused_only = λ offered offers small. no_small result over small;
      store_refused = λ st. absurd (omega (arith, st, among));
      store_refused_only = λ offered cause offers none. no_lack result over cause none;
      complete = λ offered offers serves. completes;
    }

-- ---- both

pub RunsCampaign-ends : (same : Type 0) (i : CampaignInputs) (d : CampaignDisks) (e : Ending) → drop 1 d.after ≡ drop 1 d.before
    → length d.after ≡ length d.before → EndsCampaign same i d e → RunsCampaign same i d e
RunsCampaign-ends same i d e further as_many (in_row ends) = promises_in_row further as_many ends
RunsCampaign-ends same i d e further as_many (campaigned commands result has over) = promises_of commands has result over same
