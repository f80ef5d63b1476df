-- The campaign of the example
use Rattle.std.proofs.Common.{◌≡◌, ◌≤◌, List, [], ◌∷◌, length, refl, arith}
use Rattle.std.specs.Prelude.{Some}
use Rattle.bus_port.specs.Sink.{SinkState}
use Rattle.bus_port.specs.Source.{SourceState}
use Rattle.cut_disk.specs.State.{DiskState}
use Rattle.program_edge.specs.Input.{input_limit}
use Rattle.program_edge.proofs.CallerLemmas.{Offers-clean}
use Rattle.campaign_commands.specs.declared.example.TheConstants.{EXAMPLE}
use Rattle.campaign_commands.specs.Rows.{CampaignInputs, CampaignDisks}
use Rattle.campaign_commands.specs.Examples.{Campaigns, IsExampleCampaign, zero_disk}
use Rattle.campaign_commands.proofs.WantsMemory.{wants_memory}

pub short_script : length EXAMPLE.now ≤ input_limit
short_script = let size : length EXAMPLE.now ≡ 499 = refl in omega (arith, size)

-- there was no memory for its disk
pub no_example : (sink : SinkState) → (i : CampaignInputs) × (d : CampaignDisks) × IsExampleCampaign i d
    × Campaigns i d (record { before = sink; after = sink; status = 7 })
no_example sink =
    let script : SourceState = record { told = Some EXAMPLE.now; taken = 0; faults = 0 } in
    let disks : List DiskState = zero_disk 65536 ∷ [] in (
      record { words = [] ∷ [] ∷ []; script = record { before = script; after = script } },
      record { before = disks; after = disks },
      record { two = refl; script = Offers-clean (record { before = script; after = script }) EXAMPLE.now refl short_script refl; disk = refl },
      wants_memory ([] ∷ [] ∷ []) script disks sink refl,
    )
