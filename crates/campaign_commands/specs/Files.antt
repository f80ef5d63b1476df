-- What the words of a campaign name
use Rattle.std.specs.Prelude.{◌≡◌, ◌<◌, ℕ, List, [], length}
use Rattle.bus_port.specs.Source.{SourceState}
use Rattle.cut_disk.specs.State.{DiskState}
use Rattle.program_edge.specs.NamedSources.{missing_source, first_of_two, second_of_two, OverNamed}
use Rattle.program_edge.specs.Endings.{Ending}
use Rattle.file_disk.specs.NamedDisks.{DisksAreNamed, OpenedByWords, OpensNothing}
use Rattle.campaign_commands.specs.Rows.{CampaignInputs, CampaignDisks, AreTwo}
use Rattle.campaign_commands.specs.Examples.{Campaigns, IsExampleCampaign}

-- All that a campaign promises was had over the script that the first of two words names, and the one disk that the
-- second opens, which tells its bytes, none of them loose: all that is promised over such a disk, too. Of other words
-- it was had over a script that is missing, and no disk. They were left as those that are handed back. Each of two
-- words was opened once, and no other.
pub record CampaignsOver (opens : List ℕ → SourceState → Type 0) (opens_disk : List ℕ → DiskState → Type 0)
    (o : OpenedByWords) (words : List (List ℕ)) (script_after : SourceState) (disks_after : List DiskState)
    (e : Ending) : Type 0 where
  pub disks : List DiskState
  pub disk_named : DisksAreNamed opens_disk o.disks_before o.disks_after (second_of_two words) disks
  pub over_script : OverNamed opens o.before o.after (first_of_two words) script_after (λ script. Campaigns
      (record { words = words; script = script }) (record { before = disks; after = disks_after }) e)

-- There was no memory for the disk of two words: nothing was opened. All that a campaign promises was had, over a
-- script that is missing, and no disk.
pub record WantsLedgerDisk (o : OpenedByWords) (words : List (List ℕ)) (script_after : SourceState)
    (disks_after : List DiskState) (e : Ending) : Type 0 where
  pub two : AreTwo words
  pub status_is : e.status ≡ 7
  pub unopened : OpensNothing o
  pub script_unopened : script_after ≡ missing_source 0
  pub disk_unopened : disks_after ≡ []
  pub runs : Campaigns
      (record { words = words; script = record { before = missing_source 0; after = missing_source 0 } })
      (record { before = []; after = [] }) e

-- what comes of the arguments
pub data CampaignOfWords (opens : List ℕ → SourceState → Type 0) (opens_disk : List ℕ → DiskState → Type 0)
    (o : OpenedByWords) (words : List (List ℕ)) (script_after : SourceState) (disks_after : List DiskState)
    (e : Ending) : Type 0 where
  -- there are none: all that a campaign promises, over the example's script and a blank disk, and nothing is opened
  ran_example : length words ≡ 0 → OpensNothing o
      → (i : CampaignInputs) × (d : CampaignDisks) × IsExampleCampaign i d × Campaigns i d e
      → CampaignOfWords opens opens_disk o words script_after disks_after e
  ran_words : 0 < length words → CampaignsOver opens opens_disk o words script_after disks_after e
      → CampaignOfWords opens opens_disk o words script_after disks_after e
  wanted_disk : WantsLedgerDisk o words script_after disks_after e
      → CampaignOfWords opens opens_disk o words script_after disks_after e
