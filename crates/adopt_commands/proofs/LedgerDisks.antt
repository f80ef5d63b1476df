-- A disk that gives no ledger: the rows that say so, and when they come
use Rattle.std.proofs.Common.{◌≡◌, ◌⊎◌, ◌∙◌, ℕ, ◌<◌, Bool, true, false, List, [], length, refl, sym, ap, subst, inl, inr, arith}
use Rattle.std.specs.Prelude.{Option, None, Some}
use Rattle.std.proofs.lemmas.List.{length-map, length-replicate}
use Rattle.std.proofs.lemmas.Option.{same_Some}
use Rattle.std.proofs.lemmas.Bool.{false≢true}
use Rattle.cut_disk.specs.State.{DiskState, Told}
use Rattle.cut_disk.specs.Images.{Image, firm}
use Rattle.cut_disk.specs.Calls.{Rose}
use Rattle.cut_disk.proofs.CallerLemmas.{image_of_firm}
use Rattle.cell_store.specs.declared.faults.StoreFault.{StoreFault}
use Rattle.cell_store.specs.declared.faults.StoreFault.TheVariants as store
use Rattle.cell_store.specs.Store.{HasHeader, Stands, FirstDamaged, store_size}
use Rattle.cell_store.proofs.CallerLemmas.{header-not_blank, stands-whole, stands_once}
use Rattle.program_edge.specs.Rows.{Row, memory_row}
use Rattle.key_campaign.specs.declared.entries.LedgerEntry.{LedgerEntry}
use Rattle.key_campaign.specs.Entries.{place_count, no_entries, AreLedgerEntries}
use Rattle.key_campaign.specs.Campaign.{powered_ledger}
use Rattle.key_campaign.specs.Cell.{place_cell, ledger_cells, FirstBadEntry}
use Rattle.key_campaign.specs.State.{LedgerState}
use Rattle.key_campaign.proofs.CallerLemmas.{none_bad}
use Rattle.campaign_commands.specs.declared.opening.NoLedgerCause.{NoLedgerCause}
use Rattle.campaign_commands.specs.declared.opening.NoLedgerCause.TheVariants.{Store, BadEntry}
use Rattle.campaign_commands.specs.Opening.{ledger_layout, ledger_size, HasNoHeader, StandsForEntries, LedgerOpened, IsNoLedger, LacksLedger, HasLedger, HasEntries}
use Rattle.campaign_commands.specs.Campaigns.{CountsNone, TellsNoLedger}
use Rattle.ledger_commands.specs.LedgerBytes.{bad_entry_row}
use Rattle.ledger_commands.specs.StoreRows.{IsStoreRow, disk_failed_row}
use Rattle.adopt_commands.specs.AdoptRows.{IsLedgerRow, LacksAsked, RefusesLedger, IsNotBlank}
use Rattle.adopt_commands.specs.StandingLedgers.{NoneStands, LacksStanding}
use Rattle.adopt_commands.specs.AdoptRuns.{StandsForLater, KeepsLedgers}
use Rattle.adopt_commands.proofs.AdoptLaws.{keeps_same}
use Rattle.adopt_commands.proofs.Taken.{headed}

-- ---- the rows

abbrev pub IsDiskStatus : ℕ → Type 0
IsDiskStatus n = (n ≡ 9) ⊎ (n ≡ 10) ⊎ (n ≡ 7)

status_of : {row other : Row} → row ≡ other → row.status ≡ other.status
status_of is = ap (λ (r : Row). r.status) is

or_memory : (row other : Row) → (row ≡ other) ⊎ (row ≡ memory_row) → other.status ≡ 9 → IsDiskStatus row.status
or_memory row other (inl is) nine = inl (status_of is ∙ nine)
or_memory row other (inr memory) nine = inr (inr (status_of memory))

store_status : (fault : StoreFault) (row : Row) → IsStoreRow fault row → IsDiskStatus row.status
store_status fault row is = grind (arith, status_of, or_memory)

cause_status : (cause : NoLedgerCause) (row : Row) → IsLedgerRow cause row → IsDiskStatus row.status
cause_status (Store fault) row is = store_status fault row is
cause_status (BadEntry bad) row is = or_memory row (bad_entry_row bad) is refl

pub disk_status : (may : Bool) (old new : DiskState) (row : Row) → RefusesLedger may old new row → IsDiskStatus row.status
disk_status may old new row (cause, lacks, is) = cause_status cause row is

-- 7 is out of memory
memory_at_7 : (row other : Row) → (row ≡ other) ⊎ (row ≡ memory_row) → other.status ≡ 9 → row.status ≡ 7 → row ≡ memory_row
memory_at_7 row other row_2 nine seven = grind (arith, status_of)

store_7 : (fault : StoreFault) (row : Row) → IsStoreRow fault row → row.status ≡ 7 → row ≡ memory_row
store_7 fault row is seven = grind (arith, status_of, memory_at_7)

cause_7 : (cause : NoLedgerCause) (row : Row) → IsLedgerRow cause row → row.status ≡ 7 → row ≡ memory_row
cause_7 (Store fault) row is seven = store_7 fault row is seven
cause_7 (BadEntry bad) row is seven = memory_at_7 row (bad_entry_row bad) is refl seven

pub disk_7 : (may : Bool) (old new : DiskState) (row : Row) → RefusesLedger may old new row → row.status ≡ 7 → row.text ≡ []
disk_7 may old new row (cause, lacks, is) seven = ap (λ (r : Row). r.text) (cause_7 cause row is seven)

-- 10 is a disk that failed
not_10 : (row other : Row) → (row ≡ other) ⊎ (row ≡ memory_row) → other.status ≡ 9 → row.status ≡ 10 → ⊥
not_10 row other (inl is) nine ten = omega (arith, ten, nine, status_of is)
not_10 row other (inr memory) nine ten = omega (arith, ten, status_of memory)

cause_10 : (cause : NoLedgerCause) (row : Row) → IsLedgerRow cause row → row.status ≡ 10 → (cause ≡ Store store.DiskFailed) × (row ≡ disk_failed_row)
cause_10 cause row is ten = grind (arith, status_of, not_10)

failed_rose : (may : Bool) (old new : DiskState) → LacksAsked may old new (Store store.DiskFailed) → Rose old.faults new.faults
failed_rose true old new lacks = lacks.cause
failed_rose false old new lacks = lacks.why

pub disk_10 : (may : Bool) (old new : DiskState) (row : Row) → RefusesLedger may old new row → row.status ≡ 10 → Rose old.faults new.faults × (row ≡ disk_failed_row)
disk_10 may old new row (cause, lacks, is) ten =
    let failed = cause_10 cause row is ten in
    (failed_rose may old new (subst (LacksAsked may old new) failed.0 lacks), failed.1)

-- a disk whose count didn't rise comes to 9 or 7
pub disk_calm : (may : Bool) (old new : DiskState) (row : Row) → RefusesLedger may old new row → CountsNone old new → (row.status ≡ 9) ⊎ (row.status ≡ 7)
disk_calm may old new row refuses calm = by_status (disk_status may old new row refuses)
  where
    by_status : IsDiskStatus row.status → (row.status ≡ 9) ⊎ (row.status ≡ 7)
    by_status (inl nine) = inl nine
    by_status (inr (inl ten)) = absurd (calm (disk_10 may old new row refuses ten).0)
    by_status (inr (inr seven)) = inr seven

-- a disk whose count rose comes to 10
store_counted : (old new : DiskState) (fault : StoreFault) (row : Row) → LacksLedger old new (Store fault) → IsStoreRow fault row → old.faults < new.faults
    → row.status ≡ 10
store_counted old new fault row lacks is counts = grind (arith, status_of)

standing_counted : (old new : DiskState) (cause : NoLedgerCause) (row : Row) → LacksStanding old new cause → IsLedgerRow cause row → old.faults < new.faults
    → row.status ≡ 10
standing_counted old new cause row lacks is counts = grind (arith, status_of)

pub disk_counted : (may : Bool) (old new : DiskState) (row : Row) → RefusesLedger may old new row → old.faults < new.faults → row.status ≡ 10
disk_counted true old new row (Store fault, lacks, is) counts = store_counted old new fault row lacks is counts
disk_counted true old new row (BadEntry bad, lacks, is) counts = (let same = lacks.reads.faults in absurd (omega (arith, counts, same)))
disk_counted false old new row (cause, lacks, is) counts = standing_counted old new cause row lacks is counts

-- ---- what is left of the disk

pub kept_ledgers : (old new : DiskState) → ((t : Told) → old.told ≡ Some t → (HasNoHeader t.bytes → ⊥) → new.told ≡ old.told) → KeepsLedgers old new
kept_ledgers old new kept x places told holds t now y image =
    let same = kept (firm x) told (headed x places holds.stands) in
    let t_is : t ≡ firm x = same_Some t (firm x) (sym now ∙ same ∙ told) in
    let y_is : y ≡ x = image_of_firm (subst (λ (s : Told). Image s y) t_is image) in
    subst (StandsForLater places) (sym y_is) (record { later = places; stands = holds.stands; keeps = keeps_same (powered_ledger places) })

pub disk_keeps : (may : Bool) (old new : DiskState) (row : Row) → RefusesLedger may old new row → KeepsLedgers old new
disk_keeps true old new row (Store fault, lacks, is) = kept_ledgers old new lacks.kept
disk_keeps true old new row (BadEntry bad, lacks, is) = kept_ledgers old new (λ t told not. lacks.reads.told)
disk_keeps false old new row (cause, lacks, is) = kept_ledgers old new (λ t told not. lacks.kept)

-- if none may be made its bytes stay
pub disk_stays : (may : Bool) (old new : DiskState) (row : Row) → may ≡ false → RefusesLedger may old new row → new.told ≡ old.told
disk_stays true old new row none refuses = absurd (false≢true (sym none))
disk_stays false old new row none (cause, lacks, is) = lacks.kept

-- ---- bytes of a ledger, or of none

size_of_none : length (ledger_cells no_entries) ≡ place_count
unfolding no_entries
size_of_none = length-map no_entries place_cell ∙ length-replicate {A = Option LedgerEntry} place_count None

size_of : (places : List (Option LedgerEntry)) → length places ≡ place_count → length (ledger_cells places) ≡ place_count
size_of places count = length-map places place_cell ∙ count

pub blank_head : (x : List ℕ) (n : ℕ) → HasHeader ledger_layout n x → HasNoHeader x → ⊥
blank_head x n head blank = header-not_blank ledger_layout n (sym head ∙ blank)

module _ (x : List ℕ) (places : List (Option LedgerEntry)) (count : length places ≡ place_count) (are : AreLedgerEntries places) (stands : StandsForEntries x places) where
  has_head : HasHeader ledger_layout place_count x
  has_head = subst (λ n. HasHeader ledger_layout n x) (size_of places count) stands.head

  none_damaged : (cell : ℕ) → FirstDamaged ledger_layout x place_count cell → ⊥
  none_damaged cell first = stands-whole ledger_layout x (ledger_cells places) place_count cell stands (size_of places count) first

  none_is_bad : (cells : List (List ℕ)) (bad : ℕ) → Stands ledger_layout x cells → FirstBadEntry cells bad → ⊥
  none_is_bad cells bad also first =
      none_bad (ledger_cells places) places (record { entries_are = are; cells_are = refl }) bad
      (subst (λ (c : List (List ℕ)). FirstBadEntry c bad) (stands_once ledger_layout x cells (ledger_cells places) also stands) first)

  is_a_ledger : (cause : NoLedgerCause) → IsNoLedger x cause → ⊥
  is_a_ledger (Store store.NotFormatted) none = none.1 has_head
  is_a_ledger (Store (store.Damaged cell)) none = none_damaged cell none.1
  is_a_ledger (Store store.DiskFailed) none = none
  is_a_ledger (Store store.TooSmall) none = none
  is_a_ledger (Store store.Memory) none = none
  is_a_ledger (BadEntry bad) (cells, number, also, first) = none_is_bad cells bad also first

not_blank : (x : List ℕ) (cause : NoLedgerCause) → IsNoLedger x cause → HasNoHeader x → ⊥
not_blank x (Store store.NotFormatted) none blank = none.0 blank
not_blank x (Store (store.Damaged cell)) none blank = blank_head x place_count none.0 blank
not_blank x (Store store.DiskFailed) none blank = none
not_blank x (Store store.TooSmall) none blank = none
not_blank x (Store store.Memory) none blank = none
not_blank x (BadEntry bad) (cells, number, also, first) blank = blank_head x (length cells) also.head blank

-- a disk that tells bytes of no ledger doesn't open one
pub not_opened_of_none : (old new : DiskState) (l : LedgerState) (cause : NoLedgerCause) → LedgerOpened old l → TellsNoLedger cause old new → ⊥
not_opened_of_none old new l cause opened tells =
    let stands = (opened.starts tells.now tells.told).1 (not_blank tells.now.bytes cause tells.none) in
    is_a_ledger tells.now.bytes l.campaign.entries opened.sound.count opened.sound.entries_are stands cause tells.none

-- ---- a disk that is offered with a ledger, and didn't fail, is refused for memory alone

store_offered : (old new : DiskState) (fault : StoreFault) (row : Row) → LacksLedger old new (Store fault) → IsStoreRow fault row → HasLedger old → CountsNone old new
    → row.status ≡ 7
store_offered old new store.TooSmall row lacks is has calm =
    let small : old.size < ledger_size = subst (λ n. old.size < store_size ledger_layout n) size_of_none lacks.cause.0 in
    let room = has.room in
    absurd (omega (arith, small, room))
store_offered old new store.Memory row lacks is has calm = status_of is
store_offered old new store.DiskFailed row lacks is has calm = absurd (calm lacks.cause)
store_offered old new store.NotFormatted row lacks is has calm =
    let none = lacks.cause.1 has.now has.told in
    absurd (elim has.is [
      | inl blank ↦ none.0 blank
      | inr held ↦ none.1 (subst (λ n. HasHeader ledger_layout n has.now.bytes) (sym size_of_none) (has_head has.now.bytes held.entries held.count held.are held.stands))
    ])
store_offered old new (store.Damaged cell) row lacks is has calm =
    let none = lacks.cause.1 has.now has.told in
    absurd (elim has.is [
      | inl blank ↦ blank_head has.now.bytes (length (ledger_cells no_entries)) none.0 blank
      | inr held ↦ none_damaged has.now.bytes held.entries held.count held.are held.stands cell (subst (λ n. FirstDamaged ledger_layout has.now.bytes n cell) size_of_none none.1)
    ])

-- bytes of a ledger, that aren't blank, stand for one
stands_or_not : (old : DiskState) (cause : NoLedgerCause) → (has : HasLedger old) → IsNotBlank old → NoneStands has.now.bytes cause → ⊥
stands_or_not old cause has not none = elim has.is [
  | inl blank ↦ not has.now has.told blank
  | inr held ↦ by_cause held cause none
]
  where
    by_cause : HasEntries has.now.bytes → (cause : NoLedgerCause) → NoneStands has.now.bytes cause → ⊥
    by_cause held (Store store.NotFormatted) none = none (has_head has.now.bytes held.entries held.count held.are held.stands)
    by_cause held (Store (store.Damaged cell)) none = none_damaged has.now.bytes held.entries held.count held.are held.stands cell none.1
    by_cause held (BadEntry bad) (cells, number, also, first) =
        none_is_bad has.now.bytes held.entries held.count held.are held.stands cells bad also first
    by_cause held (Store store.DiskFailed) none = none
    by_cause held (Store store.TooSmall) none = none
    by_cause held (Store store.Memory) none = none

standing_offered : (old new : DiskState) (cause : NoLedgerCause) (row : Row) → LacksStanding old new cause → IsLedgerRow cause row → (has : HasLedger old) → IsNotBlank old
    → CountsNone old new → row.status ≡ 7
standing_offered old new (Store store.TooSmall) row lacks is has not calm = (let small = lacks.why.0 in let room = has.room in absurd (omega (arith, small, room)))
standing_offered old new (Store store.Memory) row lacks is has not calm = status_of is
standing_offered old new (Store store.DiskFailed) row lacks is has not calm = absurd (calm lacks.why)
standing_offered old new (Store store.NotFormatted) row lacks is has not calm =
    absurd (stands_or_not old (Store store.NotFormatted) has not (lacks.why.1 has.now has.told))
standing_offered old new (Store (store.Damaged cell)) row lacks is has not calm =
    absurd (stands_or_not old (Store (store.Damaged cell)) has not (lacks.why.1 has.now has.told))
standing_offered old new (BadEntry bad) row lacks is has not calm = absurd (stands_or_not old (BadEntry bad) has not (lacks.why.1 has.now has.told))

pub disk_offered : (may : Bool) (old new : DiskState) (row : Row) → RefusesLedger may old new row → HasLedger old → (may ≡ false → IsNotBlank old) → CountsNone old new
    → row.status ≡ 7
disk_offered false old new row (cause, lacks, is) has not calm = standing_offered old new cause row lacks is has (not refl) calm
disk_offered true old new row (Store fault, lacks, is) has not calm = store_offered old new fault row lacks is has calm
disk_offered true old new row (BadEntry bad, lacks, is) has not calm =
    let none = lacks.bytes has.now has.told in
    absurd (elim has.is [
      | inl blank ↦ none.0 blank
      | inr held ↦ is_a_ledger has.now.bytes held.entries held.count held.are held.stands (BadEntry bad) none.1
    ])
