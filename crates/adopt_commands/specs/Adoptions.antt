-- What came of entries that a ledger was to take over, one after another
use Rattle.std.specs.Prelude.{◌≡◌, ℕ, ◌*◌, ◌<◌, Bool, true, false, ◌||◌, All, List, [], ◌∷◌, ◌++◌, length, take}
use Rattle.std.specs.Prelude.{Result, Ok, Err, ◌⊎◌, if◌then◌else◌}
use Rattle.std.specs.List.{flat_map, list_any}
use Rattle.bus_port.specs.Fault.{Rose}
use Rattle.bus_port.specs.Sink.{Appended}
use Rattle.cut_disk.specs.Calls.{Runs}
use Rattle.program_edge.specs.Endings.{Ending, PrintsWhole}
use Rattle.run_driver.specs.declared.last_line.Stop.{Stop}
use Rattle.run_driver.specs.declared.last_line.Stop.TheVariants as stop
use Rattle.run_driver.specs.declared.printing.Unwritten.TheVariants as unwritten
use Rattle.key_campaign.specs.declared.adoption.Adoption.{Adoption}
use Rattle.key_campaign.specs.declared.entries.LedgerEntry.{LedgerEntry}
use Rattle.key_campaign.specs.declared.entries.PendingEntry.{PendingEntry}
use Rattle.key_campaign.specs.declared.faults.LedgerFault.{LedgerFault}
use Rattle.key_campaign.specs.Campaign.{Campaign, SoundLedger, failed_change}
use Rattle.key_campaign.specs.Claims.{KeepsEntries}
use Rattle.key_campaign.specs.Steps.{PowersLedger}
use Rattle.key_campaign.specs.Adopting.{MakesAdopt, AdoptStep}
use Rattle.key_campaign.specs.State.{FitsLedger}
use Rattle.adopt_commands.specs.declared.lines.AdoptLine.{AdoptLine}
use Rattle.adopt_commands.specs.declared.lines.AdoptLine.TheVariants.{Failed}
use Rattle.adopt_commands.specs.AdoptTurns.{KeeperState, adopt_text, adopt_line, is_last_adoption, is_refused}

-- each entry was answered with its line, and this is the ledger after them
pub data AdoptsEach : Campaign → List LedgerEntry → List AdoptLine → Campaign → Type 0 where
  no_entries : (c : Campaign) → AdoptsEach c [] [] c
  one_adopted : (c mid after : Campaign) (entry : LedgerEntry) (entries : List LedgerEntry)
      (result : Result Adoption LedgerFault) (lines : List AdoptLine) → AdoptStep c entry result mid
      → AdoptsEach mid entries lines after → AdoptsEach c (entry ∷ entries) (adopt_line entry result ∷ lines) after

-- no line says that the disk failed
abbrev pub NoneLast : List AdoptLine → Type 0
NoneLast lines = All (λ told. is_last_adoption told ≡ false) lines

abbrev pub adopt_texts : List AdoptLine → List ℕ
adopt_texts lines = flat_map (λ told. adopt_text 0 told) lines

-- These entries were answered so, in at most six calls of the disk an entry on the whole, and none found it failing. No
-- entry went and no counter fell, and a disk that fitted the ledger fits it.
pub record AllAdopted (before : KeeperState) (entries : List LedgerEntry) (lines : List AdoptLine)
    (after : KeeperState) : Type 0 where
  pub answers : AdoptsEach before.ledger.campaign entries lines after.ledger.campaign
  pub none_failed : NoneLast lines
  pub strict_is : after.strict ≡ before.strict
  pub refused_is : after.refused ≡ (before.refused || list_any (is_refused before.strict) lines)
  pub keeps : KeepsEntries before.ledger.campaign after.ledger.campaign
  pub up : after.ledger.campaign.up ≡ true
  pub sound : SoundLedger after.ledger.campaign
  pub layout : after.ledger.store.layout ≡ before.ledger.store.layout
  pub runs : Runs [] (6 * length entries) before.ledger.store.disk after.ledger.store.disk
  pub calm : after.ledger.store.disk.faults ≡ before.ledger.store.disk.faults
  pub fits : FitsLedger before.ledger → FitsLedger after.ledger

-- These entries were answered so, and none found the disk failing. Then it failed as this one was put: it is pending,
-- so that after the next power-up it is there whole or not at all. No entry went and no counter fell then.
pub record LastNotPut (before : KeeperState) (entries : List LedgerEntry) (lines : List AdoptLine) (entry : LedgerEntry)
    (after : KeeperState) : Type 0 where
  pub mid : KeeperState
  pub earlier : AllAdopted before entries lines mid
  pub change : PendingEntry
  pub makes : MakesAdopt mid.ledger.campaign entry change
  pub failed : after.ledger.campaign ≡ failed_change change mid.ledger.campaign
  pub keeps : (powered : Campaign) → PowersLedger after.ledger.campaign powered
      → KeepsEntries before.ledger.campaign powered
  pub layout : after.ledger.store.layout ≡ before.ledger.store.layout
  pub runs : Runs [] 6 mid.ledger.store.disk after.ledger.store.disk
  pub rose : Rose mid.ledger.store.disk.faults after.ledger.store.disk.faults
  pub fits : FitsLedger before.ledger → FitsLedger after.ledger

-- the status by whether an entry was refused, and how printing ended
abbrev pub adopt_status : Bool → Result (Unit {0}) Stop → ℕ
adopt_status refused (Ok _) = if refused then 1 else 0
adopt_status refused (Err stop.Last) = 10
adopt_status refused (Err (stop.Unprinted unwritten.SinkFailed)) = 6
adopt_status refused (Err (stop.Unprinted unwritten.Memory)) = 7

-- what was written of the texts: those of these lines whole, and of the next a proper prefix at 6, or nothing at 7
abbrev pub WritesBefore : Ending → List AdoptLine → AdoptLine → Type 0
WritesBefore e lines told =
    ((e.status ≡ 6) × Rose e.before.faults e.after.faults
    × ((n : ℕ) × (n < length (adopt_text 0 told))
    × Appended e.before e.after (adopt_texts lines ++ take n (adopt_text 0 told))))
    ⊎ ((e.status ≡ 7) × PrintsWhole e (adopt_texts lines))

-- how taking over these entries ends
pub data EndsAdopting (before : KeeperState) (entries : List LedgerEntry) (after : KeeperState)
    (e : Ending) : Type 0 where
  all_adopted : (lines : List AdoptLine) → e.status ≡ (if after.refused then 1 else 0)
      → AllAdopted before entries lines after → PrintsWhole e (adopt_texts lines)
      → EndsAdopting before entries after e
  not_put : (first : List LedgerEntry) (entry : LedgerEntry) (rest : List LedgerEntry) (lines : List AdoptLine)
      → e.status ≡ 10 → entries ≡ first ++ entry ∷ rest → LastNotPut before first lines entry after
      → PrintsWhole e (adopt_texts lines ++ adopt_text 0 Failed) → EndsAdopting before entries after e
  cut_short : (first : List LedgerEntry) (entry : LedgerEntry) (rest : List LedgerEntry) (lines : List AdoptLine)
      (told : AdoptLine) → entries ≡ first ++ entry ∷ rest
      → AllAdopted before (first ++ entry ∷ []) (lines ++ told ∷ []) after → WritesBefore e lines told
      → EndsAdopting before entries after e
  cut_and_not_put : (first : List LedgerEntry) (entry : LedgerEntry) (rest : List LedgerEntry) (lines : List AdoptLine)
      → entries ≡ first ++ entry ∷ rest → LastNotPut before first lines entry after → WritesBefore e lines Failed
      → EndsAdopting before entries after e
