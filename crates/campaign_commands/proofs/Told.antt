-- What contradicts itself among inputs and disks
use Rattle.std.specs.Prelude.{◌≡◌, ◌⊎◌, ◌<◌, ◌≤◌, List, [], ◌∷◌, Result, Ok, Err}
use Rattle.std.proofs.Common.{sym, ap, ◌∙◌, subst, arith, inl, inr}
use Rattle.text_lines.specs.Readings.{Fault}
use Rattle.program_edge.proofs.CallerLemmas.{Offers-whole}
use Rattle.cut_disk.specs.State.{DiskState}
use Rattle.key_campaign.specs.declared.commands.LedgerCommand.{LedgerCommand}
use Rattle.campaign_commands.specs.CommandForms.{campaign_of}
use Rattle.campaign_commands.specs.Opening.{ledger_size}
use Rattle.campaign_commands.specs.Rows.{CampaignInputs, CampaignDisks, HasBadLine, HasCommands, OffersCommands, OffersBadLine, OverFirst}

ok_or_err : (r : Result (List LedgerCommand) Fault) (commands : List LedgerCommand) (fault : Fault) → r ≡ Ok commands → r ≡ Err fault → ⊥
ok_or_err r commands fault ok err = cc

pub bad_or_good : (i : CampaignInputs) (fault : Fault) (commands : List LedgerCommand) → OffersBadLine i fault → HasCommands i commands → ⊥
bad_or_good i fault commands bad has =
    ok_or_err (campaign_of bad.text) commands fault
    (sym (ap campaign_of (Offers-whole i.script bad.text has.text bad.offers has.whole)) ∙ has.commands_are) bad.fault_is

pub same_commands_told : (i : CampaignInputs) (fault : Fault) (commands : List LedgerCommand) → HasBadLine i fault → OffersCommands i commands → ⊥
same_commands_told i fault commands bad offers =
    ok_or_err (campaign_of offers.text) commands fault offers.commands_are
    (sym (ap campaign_of (Offers-whole i.script offers.text bad.text offers.offers bad.whole)) ∙ bad.fault_is)

-- ---- the first disk

pub few_or_first : (d : CampaignDisks) {P : DiskState → DiskState → Type 0} → OverFirst d P → d.before ≡ [] → ⊥
few_or_first d over empty = let no : over.first ∷ over.rest ≡ [] = sym over.was ∙ empty in cc

same_first : (a b : DiskState) (xs ys : List DiskState) → a ∷ xs ≡ b ∷ ys → a ≡ b
same_first a b xs ys same = cc

-- what holds of the first disk in two ways holds in both
pub over_both : (d : CampaignDisks) (P Q : DiskState → DiskState → Type 0) (A : Type 0) → OverFirst d P → OverFirst d Q
    → ((before after : DiskState) → P before after → Q before after → A) → A
over_both d P Q A one two both =
    let first : two.first ≡ one.first = same_first two.first one.first two.rest one.rest (sym two.was ∙ one.was) in
    let later : two.later ≡ one.later = same_first two.later one.later two.rest one.rest (sym two.now ∙ one.now) in
    both one.first one.later one.holds
    (subst (λ (s : DiskState). Q s one.later) first (subst (λ (s : DiskState). Q two.first s) later two.holds))

pub first_or_small : (d : CampaignDisks) → OverFirst d (λ before after. ledger_size ≤ before.size)
    → (d.before ≡ []) ⊎ OverFirst d (λ before after. before.size < ledger_size) → ⊥
first_or_small d room (inl empty) = few_or_first d room empty
first_or_small d room (inr small) = over_both d _ _ ⊥ room small (λ before after enough less. omega (arith, enough, less))
