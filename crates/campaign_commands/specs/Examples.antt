-- What the example of a campaign is run over (own)
use Rattle.std.specs.Prelude.{◌≡◌, ℕ, [], ◌∷◌, replicate}
use Rattle.cut_disk.specs.State.{DiskState}
use Rattle.cut_disk.specs.Memory.{fresh, disk_of}
use Rattle.program_edge.specs.Inputs.{Offers}
use Rattle.program_edge.specs.Endings.{Ending}
use Rattle.campaign_commands.specs.declared.example.TheConstants.{EXAMPLE}
use Rattle.campaign_commands.specs.Rows.{CampaignInputs, CampaignDisks, AreTwo, EndsCampaign}
use Rattle.campaign_commands.specs.Campaigns.{RunsCampaign}

-- all that a campaign promises
abbrev pub Campaigns : CampaignInputs → CampaignDisks → Ending → Type 0
Campaigns i d e = RunsCampaign (d.after ≡ d.before) i d e × EndsCampaign (d.after ≡ d.before) i d e

-- a disk of so many zero bytes, none of them loose, on which nothing is armed and nothing has failed
unfoldable pub zero_disk : ℕ → DiskState
zero_disk size = disk_of (fresh (replicate size 0))

-- a campaign of the example: of two arguments, over a source that tells its script, and one disk of 65,536 zero bytes
pub record IsExampleCampaign (i : CampaignInputs) (d : CampaignDisks) : Type 0 where
  pub two : AreTwo i.words
  pub script : Offers i.script EXAMPLE.now
  pub disk : d.before ≡ zero_disk 65536 ∷ []
