-- What `campaign --keep F DISK` promises
use Rattle.std.specs.Prelude.{◌≡◌, ℕ, List, [], ◌∷◌, codes, map, Vec}
use Rattle.std.specs.declared.alloc.Global.{Global}
use Rattle.bus_port.specs.Source.{SourceState}
use Rattle.cut_disk.specs.State.{DiskState}
use Rattle.file_disk.specs.NamedDisks.{DisksAreNamed, OpenedByWords, OpensNothing}
use Rattle.program_edge.specs.NamedSources.{missing_source, first_of_two, second_of_two, OverNamed}
use Rattle.program_edge.specs.Endings.{Ending, EndsInRow}
use Rattle.program_edge.specs.Inputs.{Reading}
use Rattle.campaign_commands.specs.Rows.{AreTwo, EndsCampaign}
use Rattle.campaign_commands.specs.Campaigns.{RunsCampaign}
use Rattle.kept_campaigns.specs.declared.looking.UnkeptLedger.{UnkeptLedger}
use Rattle.kept_campaigns.specs.LedgerLooks.{LedgerLooked, LedgerUnkept, unkept_row}

-- the arguments are `--keep` and these two, of the script and of the disk
abbrev pub KeepsCampaign : List (List ℕ) → List (List ℕ) → Type 0
KeepsCampaign words plain = (words ≡ codes "--keep" ∷ plain) × AreTwo plain

-- all that a campaign of two arguments promises, over this script, and the disks from these on
abbrev pub CampaignsFrom : {D : Type 0} → (D → DiskState) → Vec D Global → Vec D Global → List (List ℕ) → Ending
    → Reading → Type 0
CampaignsFrom state seen left plain e script =
    RunsCampaign (left ≡ seen) (record { words = plain; script = script })
    (record { before = map state seen.items; after = map state left.items }) e
    × EndsCampaign (left ≡ seen) (record { words = plain; script = script })
    (record { before = map state seen.items; after = map state left.items }) e

-- What comes of them. The disk was opened, once, and looked at. It is refused: it was only read, no source was opened,
-- and the row that says why is printed. Or all that a campaign of the two arguments promises was had over the script and
-- the disk as it was read. Or there was no memory for the disk: nothing was opened, and nothing is printed.
pub data CampaignKept {D : Type 0} (state : D → DiskState) (opens : List ℕ → SourceState → Type 0)
    (opens_disk : List ℕ → DiskState → Type 0) (o : OpenedByWords) (plain : List (List ℕ)) (script_after : SourceState)
    (left : Vec D Global) (e : Ending) : Type 0 where
  unkept : (disks : List DiskState) (fault : UnkeptLedger)
      → DisksAreNamed opens_disk o.disks_before o.disks_after (second_of_two plain) disks
      → LedgerUnkept disks (map state left.items) fault → o.after ≡ o.before → script_after ≡ missing_source 0
      → EndsInRow (λ row. row ≡ unkept_row fault) e → CampaignKept state opens opens_disk o plain script_after left e
  kept_on : (disks : List DiskState) (seen : Vec D Global)
      → DisksAreNamed opens_disk o.disks_before o.disks_after (second_of_two plain) disks
      → LedgerLooked disks (map state seen.items)
      → OverNamed opens o.before o.after (first_of_two plain) script_after (CampaignsFrom state seen left plain e)
      → CampaignKept state opens opens_disk o plain script_after left e
  unopened : e.status ≡ 7 → OpensNothing o → script_after ≡ missing_source 0 → left.items ≡ [] → e.after ≡ e.before
      → CampaignKept state opens opens_disk o plain script_after left e
