-- A campaign for whose disk or example there is no memory
use Rattle.std.specs.Prelude.{◌≡◌, ◌≢◌, ℕ, List, [], ◌∷◌, None}
use Rattle.std.proofs.Common.{refl}
use Rattle.bus_port.specs.Sink.{SinkState}
use Rattle.bus_port.specs.Source.{SourceState}
use Rattle.cut_disk.specs.State.{DiskState}
use Rattle.program_edge.specs.declared.input.InputFault.TheVariants as input
use Rattle.program_edge.proofs.CallerLemmas.{Lacks-unread, EndsInRow-memory}
use Rattle.program_edge.specs.NamedSources.{second_of_two}
use Rattle.program_edge.specs.Endings.{Ending}
use Rattle.campaign_commands.specs.Rows.{CampaignInputs, CampaignDisks, AreTwo, ComesBefore, no_commands, EndsCampaign, in_row}
use Rattle.campaign_commands.specs.Examples.{Campaigns}
use Rattle.campaign_commands.proofs.Promises.{RunsCampaign-ends}

-- words of which the second of two is one are two
pub are_two : (words : List (List ℕ)) → second_of_two words ≢ None → AreTwo words
are_two [] some = absurd (some refl)
are_two (a ∷ []) some = absurd (some refl)
are_two (a ∷ b ∷ []) some = refl
are_two (a ∷ b ∷ c ∷ words) some = absurd (some refl)

-- all that a campaign of two words promises, over sources and disks that nothing was done to
pub wants_memory : (words : List (List ℕ)) (script : SourceState) (disks : List DiskState) (sink : SinkState)
    → AreTwo words → Campaigns (record { words = words; script = record { before = script; after = script } })
    (record { before = disks; after = disks }) (record { before = sink; after = sink; status = 7 })
wants_memory words script disks sink two =
    let i : CampaignInputs = record { words = words; script = record { before = script; after = script } } in
    let d : CampaignDisks = record { before = disks; after = disks } in
    let e : Ending = record { before = sink; after = sink; status = 7 } in
    let ends : EndsCampaign (d.after ≡ d.before) i d e =
    in_row (EndsInRow-memory (ComesBefore (d.after ≡ d.before) i d) sink (no_commands input.Memory (two, Lacks-unread i.script refl) refl)) in
    (RunsCampaign-ends (d.after ≡ d.before) i d e refl refl ends, ends)
