-- A ledger that stands on a disk, which is only read, and why none does
use Rattle.std.proofs.Common.{◌≡◌, ◌∙◌, ℕ, ◌≤◌, List, [], length, refl, sym, ap, subst, arith}
use Rattle.cut_disk.specs.State.{DiskState}
use Rattle.cut_disk.specs.Images.{firm}
use Rattle.cut_disk.specs.Calls.{Runs}
use Rattle.cut_disk.proofs.CallerLemmas.{runs_none, runs_more}
use Rattle.cell_store.specs.declared.kinds.Kind.TheVariants.{Twin}
use Rattle.cell_store.specs.declared.faults.StoreFault.{StoreFault}
use Rattle.cell_store.specs.declared.faults.StoreFault.TheVariants as store
use Rattle.cell_store.specs.Attaching.{Attached, NotAttached}
use Rattle.cell_store.specs.Cells.{CellsState, Settled}
use Rattle.cell_store.specs.ReadOrder.{reads, reads_to}
use Rattle.cell_store.specs.Store.{Stands}
use Rattle.store_keeping.proofs.CallerLemmas.{tells_kept}
use Rattle.store_keeping.specs.DiskTurns.{OpenedDisk}
use Rattle.key_campaign.specs.Entries.{place_count}
use Rattle.key_campaign.specs.Campaign.{powered_ledger, SoundLedger}
use Rattle.key_campaign.specs.Cell.{HoldEntries, FirstBadEntry}
use Rattle.key_campaign.specs.State.{LedgerState, keeping_of, FitsLedger}
use Rattle.campaign_commands.specs.declared.opening.NoLedgerCause.TheVariants.{Store, BadEntry}
use Rattle.campaign_commands.specs.Opening.{ledger_layout, calls_to_open, LedgerOpened}
use Rattle.adopt_commands.specs.AdoptRows.{IsNotBlank}
use Rattle.adopt_commands.specs.StandingLedgers.{LacksStanding}
use Rattle.adopt_commands.proofs.LedgerDisks.{blank_head}

abbrev all_reads : ℕ
all_reads = reads Twin place_count

few_reads : all_reads ≤ calls_to_open
few_reads = omega (arith)

module _ (before : DiskState) (s : CellsState) (attached : Attached ledger_layout all_reads place_count before s) where
  pub attached_not_blank : IsNotBlank before
  attached_not_blank = λ t told. blank_head t.bytes (length s.cells) (attached.stands t told).head

  few_calls : Runs [] calls_to_open before s.disk
  few_calls = runs_more calls_to_open few_reads attached.as_before.runs

  pub opens_standing : (l : LedgerState) → l.campaign ≡ powered_ledger l.campaign.entries → SoundLedger l.campaign → HoldEntries s.cells l.campaign.entries
      → l.store ≡ s → (Settled s → FitsLedger l) → LedgerOpened before l
  opens_standing l up sound hold same fits = record {
    up = up;
    sound = sound;
    room = attached.room;
    laid_out = ap (λ (c : CellsState). c.layout) same ∙ attached.laid_out;
    opened = subst (λ (c : CellsState). OpenedDisk calls_to_open before c.disk) (sym same)
        (record { runs = few_calls; grows = attached.grows; faults = attached.as_before.faults });
    starts = λ t told. (
      λ blank. absurd (attached_not_blank t told blank),
      λ not. subst (λ (c : List (List ℕ)). Stands ledger_layout t.bytes c) hold.cells_are (attached.stands t told),
    );
    tells = λ tells.
        let settled = attached.settled tells.bytes tells.told in
        tells_kept (keeping_of l.campaign) l.store (fits settled) (firm settled.bytes) (ap (λ (c : CellsState). c.disk.told) same ∙ settled.told);
  }

  pub stands_badly : (bad : ℕ) → FirstBadEntry s.cells bad → LacksStanding before s.disk (BadEntry bad)
  stands_badly bad first = record {
    room = λ other. attached.room;
    runs = few_calls;
    kept = attached.as_before.told;
    why = (attached.as_before.faults, λ t told. (s.cells, attached.count, attached.stands t told, first));
  }

-- a store that isn't attached
pub not_attached : (before after : DiskState) (fault : StoreFault) → NotAttached ledger_layout all_reads (reads_to Twin place_count) place_count before after fault
    → LacksStanding before after (Store fault)
not_attached before after store.TooSmall (small, same) = record {
  room = λ other. absurd (other refl);
  runs = subst (Runs [] calls_to_open before) (sym same) (runs_more calls_to_open (omega (arith)) (runs_none before));
  kept = ap (λ (d : DiskState). d.told) same;
  why = (small, same);
}
not_attached before after store.Memory (room, same) = record {
  room = λ other. room;
  runs = subst (Runs [] calls_to_open before) (sym same) (runs_more calls_to_open (omega (arith)) (runs_none before));
  kept = ap (λ (d : DiskState). d.told) same;
  why = ap (λ (d : DiskState). d.faults) same;
}
not_attached before after store.DiskFailed unread = record {
  room = λ other. unread.room;
  runs = runs_more calls_to_open few_reads unread.leaves.runs;
  kept = unread.leaves.told;
  why = unread.leaves.rose;
}
not_attached before after store.NotFormatted unread = record {
  room = λ other. unread.room;
  runs = runs_more calls_to_open (omega (arith)) unread.leaves.runs;
  kept = unread.leaves.told;
  why = (unread.leaves.faults, unread.finds);
}
not_attached before after (store.Damaged i) unread = record {
  room = λ other. unread.room;
  runs = runs_more calls_to_open (omega (arith, few_reads)) unread.leaves.runs;
  kept = unread.leaves.told;
  why = (unread.leaves.faults, unread.finds);
}
