-- The phases of a campaign, put together
use Rattle.std.proofs.Common.{◌≡◌, ◌≤◌, ℕ, List, ◌∷◌, get_or, refl, inl, inr, ap, sym, subst, ◌∙◌, arith}
use Rattle.std.specs.Prelude.{◌⊎◌, drop, length, Some, Result, Ok, Err, Vec}
use Rattle.std.specs.declared.alloc.Global.{Global}
use Rattle.program_edge.specs.declared.input.InputFault.TheVariants as input
use Rattle.cell_store.specs.declared.faults.StoreFault.TheVariants as store
use Rattle.program_edge.specs.Rows.{Row, row_of, memory_row}
use Rattle.program_edge.specs.Inputs.{ReadsWhole}
use Rattle.program_edge.proofs.CallerLemmas.{Lacks-whole, EndsInRow-more}
use Rattle.program_edge.specs.Endings.{Ending}
use Rattle.cut_disk.specs.State.{DiskState}
use Rattle.key_campaign.specs.declared.commands.LedgerCommand.{LedgerCommand}
use Rattle.campaign_commands.specs.declared.opening.NoLedgerCause.{NoLedgerCause}
use Rattle.campaign_commands.specs.declared.opening.NoLedgerCause.TheVariants.{Store, BadEntry}
use Rattle.campaign_commands.specs.Opening.{LacksLedger, ledger_size}
use Rattle.campaign_commands.specs.Rows.{CampaignInputs, CampaignDisks, AreTwo, HasCommands, no_ledger_text, ComesBefore, no_form, no_commands, bad_line, too_few, too_small, no_ledger, no_memory_to_open, EndsCampaign, in_row, campaigned}
use Rattle.campaign_commands.specs.Steps.{HasScriptCommands, ComesOfScript, not_two, no_script, script_refused, PreparesCampaign, IsNoLedgerRow, ComesOfDisk, disk_too_small, disk_without, disk_unopened, HasDisk, LacksDisk, no_disk, small_disk, DoesOnDisk, not_opened, first_done, DoesCampaign, disk_wanting, on_first}
use Rattle.campaign_commands.proofs.Opened.{lacks_none, small_of_none, unopened_leaves}

-- ---- the script

pub prepares_read : (i : CampaignInputs) (text : List ℕ) (result : Result (Vec LedgerCommand Global) Row) → AreTwo i.words → ReadsWhole i.script text
    → HasScriptCommands text result → PreparesCampaign i result
prepares_read i text (Ok commands) two whole is = (record { two = two; text = text; whole = whole; commands_are = is.0 }, is.1)
prepares_read i text (Err row) two whole (inl (fault, is, row_is)) =
    subst (ComesOfScript i) (sym row_is) (script_refused fault (record { two = two; text = text; whole = whole; fault_is = is }))
prepares_read i text (Err row) two whole (inr memory) =
    subst (ComesOfScript i) (sym memory) (no_script input.Memory (two, Lacks-whole i.script text whole))

-- its rows are of the table
pub script_comes : (same : Type 0) (i : CampaignInputs) (d : CampaignDisks) (row : Row) → same → ComesOfScript i row → ComesBefore same i d row
script_comes same i d row as_before (not_two not unread) = no_form not unread as_before
script_comes same i d row as_before (no_script fault lacks) = no_commands fault lacks as_before
script_comes same i d row as_before (script_refused fault bad) = bad_line fault bad as_before

-- ---- the disk

row_of_cause : (before after : DiskState) (cause : NoLedgerCause) (row : Row) → LacksLedger before after cause
    → ((text : List ℕ) × (no_ledger_text cause ≡ Some text) × (row ≡ row_of 10 text)) ⊎ (row ≡ memory_row)
    → ((text : List ℕ) × (no_ledger_text cause ≡ Some text)) → after.faults ≡ before.faults → ComesOfDisk before after row
row_of_cause before after cause row lacks (inl (text, is, row_is)) some calm = subst (ComesOfDisk before after) (sym row_is) (disk_without cause text is lacks)
row_of_cause before after cause row lacks (inr memory) some calm =
    subst (ComesOfDisk before after) (sym memory) (disk_unopened (lacks_none before after cause some.0 some.1 lacks, calm))

pub comes_of_disk : (before after : DiskState) (cause : NoLedgerCause) (row : Row) → LacksLedger before after cause → IsNoLedgerRow cause row → ComesOfDisk before after row
comes_of_disk before after (Store store.TooSmall) row lacks is =
    subst (ComesOfDisk before after) (sym is) (disk_too_small (small_of_none before after lacks) lacks.cause.1)
comes_of_disk before after (Store store.Memory) row lacks is = subst (ComesOfDisk before after) (sym is) (disk_unopened (unopened_leaves before after lacks, lacks.cause.0))
comes_of_disk before after (Store store.DiskFailed) row lacks is = subst (ComesOfDisk before after) (sym is) (disk_without (Store store.DiskFailed) _ refl lacks)
comes_of_disk before after (Store store.NotFormatted) row lacks is = subst (ComesOfDisk before after) (sym is) (disk_without (Store store.NotFormatted) _ refl lacks)
comes_of_disk before after (Store (store.Damaged i)) row lacks is = row_of_cause before after (Store (store.Damaged i)) row lacks is (_, refl) lacks.cause.0
comes_of_disk before after (BadEntry bad) row lacks is = row_of_cause before after (BadEntry bad) row lacks is (_, refl) lacks.reads.faults

-- ---- both phases

-- a row of the first disk, which is large enough, is one of the table
row_on_first : (same : Type 0) (i : CampaignInputs) (d : CampaignDisks) (commands : List LedgerCommand) (before after : DiskState) (rest : List DiskState)
    → HasCommands i commands → d.before ≡ before ∷ rest → d.after ≡ after ∷ rest → ledger_size ≤ before.size
    → (row : Row) → ComesOfDisk before after row → ComesBefore same i d row
row_on_first same i d commands before after rest has was now room row (disk_too_small less unchanged) = absurd (let no : ⊥ = omega (arith, less, room) in no)
row_on_first same i d commands before after rest has was now room row (disk_without cause text is lacks) =
    no_ledger commands cause text has is (record { first = before; later = after; rest = rest; was = was; now = now; holds = lacks })
row_on_first same i d commands before after rest has was now room row (disk_unopened leaves) =
    no_memory_to_open commands has (record { first = before; later = after; rest = rest; was = was; now = now; holds = leaves })

on_disk_ends : (same : Type 0) (i : CampaignInputs) (d : CampaignDisks) (e : Ending) (commands : List LedgerCommand) (before after : DiskState) (rest : List DiskState)
    → HasCommands i commands → d.before ≡ before ∷ rest → d.after ≡ after ∷ rest → ledger_size ≤ before.size
    → DoesOnDisk commands before after e → EndsCampaign same i d e
on_disk_ends same i d e commands before after rest has was now room (not_opened ends) =
    in_row (EndsInRow-more (row_on_first same i d commands before after rest has was now room) ends)
on_disk_ends same i d e commands before after rest has was now room (first_done result done) =
    campaigned commands result has (record { first = before; later = after; rest = rest; was = was; now = now; holds = done })

-- the first disk is the one that was looked at
room_of : (disks : List DiskState) (first : DiskState) (rest : List DiskState) → HasDisk disks → disks ≡ first ∷ rest → ledger_size ≤ first.size
room_of disks first rest has is =
    subst (λ (s : DiskState). ledger_size ≤ s.size) (ap (λ (ds : List DiskState). get_or ds 0 first) (sym has.are ∙ is)) has.room

-- if a disk is missing or too small, the row is of the table
lacks_comes : (same : Type 0) (i : CampaignInputs) (d : CampaignDisks) (commands : List LedgerCommand) → HasCommands i commands → same → d.after ≡ d.before
    → (row : Row) → LacksDisk d.before row → ComesBefore same i d row
lacks_comes same i d commands has as_before unchanged row (no_disk empty) = too_few commands has as_before empty
lacks_comes same i d commands has as_before unchanged row (small_disk first rest is less) =
    too_small commands has as_before (record { first = first; later = first; rest = rest; was = is; now = unchanged ∙ is; holds = (less, refl) })

pub campaign_ends : (same : Type 0) (i : CampaignInputs) (d : CampaignDisks) (e : Ending) (commands : List LedgerCommand) → HasCommands i commands
    → DoesCampaign same commands d e → EndsCampaign same i d e
campaign_ends same i d e commands has (disk_wanting as_before unchanged ends) =
    in_row (EndsInRow-more (lacks_comes same i d commands has as_before unchanged) ends)
campaign_ends same i d e commands has (on_first disk over) =
    on_disk_ends same i d e commands over.first over.later over.rest has over.was over.now (room_of d.before over.first over.rest disk over.was) over.holds

pub campaign_further : (same : Type 0) (d : CampaignDisks) (e : Ending) (commands : List LedgerCommand) → DoesCampaign same commands d e → drop 1 d.after ≡ drop 1 d.before
campaign_further same d e commands (disk_wanting as_before unchanged ends) = ap (λ (l : List DiskState). drop 1 l) unchanged
campaign_further same d e commands (on_first disk over) = rw (over.was, over.now) refl

pub campaign_as_many : (same : Type 0) (d : CampaignDisks) (e : Ending) (commands : List LedgerCommand) → DoesCampaign same commands d e → length d.after ≡ length d.before
campaign_as_many same d e commands (disk_wanting as_before unchanged ends) = ap (λ (l : List DiskState). length l) unchanged
campaign_as_many same d e commands (on_first disk over) = rw (over.was, over.now) refl
