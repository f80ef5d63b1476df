-- What the requests of a run build, and which engine allows them
use Rattle.std.specs.Prelude.{Bool, List, [], ◌∷◌, All}
use Rattle.std.proofs.Common.{refl}
use Rattle.std.proofs.lemmas.List.Elements.{All-nil, All-cons}
use Rattle.key_slots.specs.declared.memory.Slot.{Slot}
use Rattle.key_slots.specs.Slots.{slot_at}
use Rattle.key_slots.proofs.CallerLemmas.{IsSlot-slot_at}
use Rattle.memory_update.proofs.CallerLemmas.{Allows-Builds, IsBlock-key_in}
use Rattle.basics.specs.Blocks.{IsBlock}
use Rattle.std.proofs.Common.{subst}
use Rattle.machine_runs.specs.Run.{Run}
use Rattle.key_campaign.specs.declared.commands.LedgerCommand.{LedgerCommand}
use Rattle.key_campaign.specs.declared.commands.LedgerCommand.TheVariants as command
use Rattle.key_campaign.specs.declared.lines.LedgerLine.{LedgerLine}
use Rattle.key_campaign.specs.declared.lines.LedgerLine.TheVariants as line
use Rattle.key_campaign.specs.Campaign.{Campaign}
use Rattle.key_campaign.specs.Steps.{update_for, LedgerStep}
use Rattle.key_campaign.specs.Claims.{LedgerMoment, BuildsItsUpdate, IsAllowedIn}

builds_step : (c : Campaign) (cmd : LedgerCommand) (told : LedgerLine) (after : Campaign) → LedgerStep c cmd told after → BuildsItsUpdate cmd told
builds_step c (command.Issue i) (line.Issued counter request) after step = step.builds
builds_step c _ _ after step = tt

allowed_step : (slots : List Slot) (good : Bool) (c : Campaign) (cmd : LedgerCommand) (told : LedgerLine) (after : Campaign) → LedgerStep c cmd told after → IsAllowedIn slots good cmd told
allowed_step slots good c (command.Issue i) (line.Issued counter request) after step = λ are key below head.
    let is_key : IsBlock i.authkey = subst IsBlock key (IsBlock-key_in (slot_at slots i.auth) (IsSlot-slot_at slots i.auth are.slots_are)) in
    Allows-Builds slots good i.uid request i.authkey (update_for i counter) is_key step.builds key head refl step.makes.is_unit.1 below
allowed_step slots good c _ _ after step = tt

pub Builds-run : (start : Campaign) (ms : List LedgerMoment) (last : Campaign) → Run LedgerStep start ms last → All (λ m. BuildsItsUpdate m.command m.line) ms
Builds-run start [] last run = All-nil _
Builds-run start (m ∷ ms) last run =
    let P : LedgerMoment → Type 0 = λ n. BuildsItsUpdate n.command n.line in
    All-cons P m ms (builds_step start m.command m.line m.after run.0) (Builds-run m.after ms last run.1)

pub Allowed-run : (slots : List Slot) (good : Bool) (start : Campaign) (ms : List LedgerMoment) (last : Campaign) → Run LedgerStep start ms last → All (λ m. IsAllowedIn slots good m.command m.line) ms
Allowed-run slots good start [] last run = All-nil _
Allowed-run slots good start (m ∷ ms) last run =
    let P : LedgerMoment → Type 0 = λ n. IsAllowedIn slots good n.command n.line in
    All-cons P m ms (allowed_step slots good start m.command m.line m.after run.0) (Allowed-run slots good m.after ms last run.1)
