-- What taking over entries leaves of the disk whose ledger was opened
use Rattle.std.proofs.Common.{◌≡◌, ◌∙◌, ℕ, ◌+◌, ◌*◌, ◌≤◌, Bool, true, List, [], length, sym, ap, subst, inl, inr, arith}
use Rattle.std.specs.Prelude.{Option, None, Some, option_map}
use Rattle.std.proofs.lemmas.Option.{same_Some}
use Rattle.cut_disk.specs.State.{DiskState, Told}
use Rattle.cut_disk.specs.Images.{EachImage, firm}
use Rattle.cut_disk.specs.Calls.{Rose, Runs}
use Rattle.cut_disk.proofs.CallerLemmas.{runs_join, runs_more}
use Rattle.cell_store.specs.declared.kinds.Layout.{Layout}
use Rattle.cell_store.specs.Store.{Stands}
use Rattle.cell_store.proofs.CallerLemmas.{header-not_blank}
use Rattle.store_keeping.proofs.CallerLemmas.{fits_store, only_kept}
use Rattle.key_campaign.specs.declared.entries.LedgerEntry.{LedgerEntry}
use Rattle.key_campaign.specs.declared.entries.PendingEntry.{PendingEntry}
use Rattle.key_campaign.specs.Entries.{with_change}
use Rattle.key_campaign.specs.Campaign.{Campaign, SoundLedger, powered_ledger}
use Rattle.key_campaign.specs.Claims.{KeepsEntries}
use Rattle.key_campaign.specs.Adopting.{MakesAdopt}
use Rattle.key_campaign.specs.Cell.{ledger_cells}
use Rattle.key_campaign.specs.State.{LedgerState, keeping_of, FitsLedger}
use Rattle.campaign_commands.specs.Opening.{ledger_layout, calls_to_open, HasNoHeader, StandsForEntries, TellsFirm, LedgerOpened}
use Rattle.ledger_commands.specs.LedgerBytes.{HoldsLedger}
use Rattle.ledger_commands.proofs.CallerLemmas.{one_holds}
use Rattle.adopt_commands.specs.declared.lines.AdoptLine.{AdoptLine}
use Rattle.adopt_commands.specs.AdoptTurns.{KeeperState}
use Rattle.adopt_commands.specs.Adoptions.{AdoptsEach, AllAdopted, LastNotPut}
use Rattle.adopt_commands.specs.AdoptRows.{first_keeper}
use Rattle.adopt_commands.specs.AdoptRuns.{most_to_adopt, TookAll, StoppedAt, StandsWithChange, KeepsLedgers}

-- ---- a ledger that is up

powered_is : (entries : List (Option LedgerEntry)) (up : Bool) (pending : Option PendingEntry) → up ≡ true → pending ≡ None
    → ◌≡◌ {A = Campaign} (record { entries = entries; up = up; pending = pending }) (powered_ledger entries)
powered_is entries up pending is none = cc

powered : (c : Campaign) → SoundLedger c → c.up ≡ true → c ≡ powered_ledger c.entries
powered c sound up = powered_is c.entries c.up c.pending up (sound.settled up)

-- bytes of a ledger don't begin with zeros
pub headed : (x : List ℕ) (places : List (Option LedgerEntry)) → StandsForEntries x places → HasNoHeader x → ⊥
headed x places stands blank = header-not_blank ledger_layout (length (ledger_cells places)) (sym stands.head ∙ blank)

six_more : (n m : ℕ) → (n + 6 * m) + 6 ≤ n + 6 * (m + 1)
six_more n m = omega arith

module _ (old : DiskState) (strict : Bool) (opened : LedgerState) (opens : LedgerOpened old opened) where
  abbrev start : KeeperState
  start = first_keeper opened strict

  abbrev places : List (Option LedgerEntry)
  places = opened.campaign.entries

  fits_first : TellsFirm old → FitsLedger opened
  fits_first tells = fits_store (keeping_of opened.campaign) opened.store (opens.tells tells)

  -- if the disk told the bytes of a ledger, it is this one
  first_is : (x : List ℕ) (held : List (Option LedgerEntry)) → old.told ≡ Some (firm x) → HoldsLedger x held → held ≡ places
  first_is x held told holds =
      one_holds x held places holds (record {
        count = opens.sound.count;
        are = opens.sound.entries_are;
        stands = (opens.starts (firm x) told).1 (headed x held holds.stands);
      })

  -- ---- all were answered

  module _ (entries : List LedgerEntry) (lines : List AdoptLine) (left : KeeperState) (all : AllAdopted start entries lines left) where
    abbrev last : List (Option LedgerEntry)
    last = left.ledger.campaign.entries

    last_is : left.ledger.campaign ≡ powered_ledger last
    last_is = powered left.ledger.campaign all.sound all.up

    answers_are : AdoptsEach (powered_ledger places) entries lines (powered_ledger last)
    answers_are =
        subst (λ (c : Campaign). AdoptsEach (powered_ledger places) entries lines c) last_is
        (subst (λ (c : Campaign). AdoptsEach c entries lines left.ledger.campaign) opens.up all.answers)

    keeps_are : KeepsEntries (powered_ledger places) (powered_ledger last)
    keeps_are = subst (λ (c : Campaign). KeepsEntries (powered_ledger places) c) last_is all.keeps

    calm_is : left.ledger.store.disk.faults ≡ old.faults
    calm_is = all.calm ∙ opens.opened.faults

    runs_are : Runs [] (most_to_adopt (length entries)) old left.ledger.store.disk
    runs_are = runs_join opens.opened.runs all.runs

    images_are : TellsFirm old → EachImage left.ledger.store.disk.told (λ x. StandsForEntries x last)
    images_are tells t told x image =
        let found = (all.fits (fits_first tells) t told).images x image in
        let none : (keeping_of left.ledger.campaign).pending ≡ None =
        ap (λ (p : Option PendingEntry). option_map (λ (change : PendingEntry). ledger_cells (with_change change last)) p) (all.sound.settled all.up) in
        subst (λ (c : List (List ℕ)). Stands ledger_layout x c) (only_kept (keeping_of left.ledger.campaign) found.cells none found.kept)
        (subst (λ (l : Layout). Stands l x found.cells) (all.layout ∙ opens.laid_out) found.stands)

    module _ (new : DiskState) (back : new ≡ left.ledger.store.disk) where
      told_back : (t : Told) → new.told ≡ Some t → left.ledger.store.disk.told ≡ Some t
      told_back t told = ap (λ (d : DiskState). d.told) (sym back) ∙ told

      pub took_all : TookAll entries lines old new
      took_all = record {
        first = places;
        last = last;
        starts = opens.starts;
        answers = answers_are;
        none_failed = all.none_failed;
        keeps = keeps_are;
        calm = ap (λ (d : DiskState). d.faults) back ∙ calm_is;
        runs = subst (λ (d : DiskState). Runs [] (most_to_adopt (length entries)) old d) (sym back) runs_are;
        images = λ tells t told x image. images_are tells t (told_back t told) x image;
      }

      pub all_keeps : KeepsLedgers old new
      all_keeps x held told holds t now y image = record {
        later = last;
        stands = images_are (record { bytes = x; told = told }) t (told_back t now) y image;
        keeps = subst (λ (ps : List (Option LedgerEntry)). KeepsEntries (powered_ledger ps) (powered_ledger last)) (sym (first_is x held told holds)) keeps_are;
      }

  -- ---- the disk failed as one was put

  module _ (entries : List LedgerEntry) (lines : List AdoptLine) (entry : LedgerEntry) (left : KeeperState) (stopped : LastNotPut start entries lines entry left)
      (new : DiskState) (back : new ≡ left.ledger.store.disk) where
    abbrev mid : KeeperState
    mid = stopped.mid

    abbrev before : List (Option LedgerEntry)
    before = stopped.mid.ledger.campaign.entries

    mid_is : stopped.mid.ledger.campaign ≡ powered_ledger before
    mid_is = last_is entries lines stopped.mid stopped.earlier

    entries_is : left.ledger.campaign.entries ≡ before
    entries_is = ap (λ (c : Campaign). c.entries) stopped.failed

    pending_is : left.ledger.campaign.pending ≡ Some stopped.change
    pending_is = ap (λ (c : Campaign). c.pending) stopped.failed

    with_it : KeepsEntries (powered_ledger places) (powered_ledger (with_change stopped.change before))
    with_it =
        stopped.keeps (powered_ledger (with_change stopped.change before))
        (inr (stopped.change, pending_is, ap (λ (es : List (Option LedgerEntry)). powered_ledger (with_change stopped.change es)) (sym entries_is)))

    stopped_images : TellsFirm old → EachImage new.told (StandsWithChange before stopped.change)
    stopped_images tells t told x image =
        let found = (stopped.fits (fits_first tells) t (ap (λ (d : DiskState). d.told) (sym back) ∙ told)).images x image in
        let stands = subst (λ (l : Layout). Stands l x found.cells) (stopped.layout ∙ opens.laid_out) found.stands in
        elim found.kept [
          | inl same ↦ inl (subst (λ (c : List (List ℕ)). Stands ledger_layout x c) (same ∙ ap ledger_cells entries_is) stands)
          | inr pending ↦
              let made : (List (List ℕ)) = ledger_cells (with_change stopped.change left.ledger.campaign.entries) in
              let is : made ≡ found.cells =
              same_Some made found.cells
              (sym (ap (λ (p : Option PendingEntry). option_map (λ (change : PendingEntry). ledger_cells (with_change change left.ledger.campaign.entries)) p) pending_is)
              ∙ pending) in
              inr (subst (λ (c : List (List ℕ)). Stands ledger_layout x c)
              (sym is ∙ ap (λ (es : List (Option LedgerEntry)). ledger_cells (with_change stopped.change es)) entries_is) stands)
        ]

    pub stopped_at : StoppedAt entries lines entry old new
    stopped_at = record {
      first = places;
      last = before;
      starts = opens.starts;
      answers = answers_are entries lines stopped.mid stopped.earlier;
      none_failed = stopped.earlier.none_failed;
      change = stopped.change;
      makes = subst (λ (c : Campaign). MakesAdopt c entry stopped.change) mid_is stopped.makes;
      keeps = keeps_are entries lines stopped.mid stopped.earlier;
      keeps_too = with_it;
      rose = subst (λ (n : ℕ). Rose n new.faults) (calm_is entries lines stopped.mid stopped.earlier)
          (subst (λ (d : DiskState). Rose stopped.mid.ledger.store.disk.faults d.faults) (sym back) stopped.rose);
      runs = subst (λ (d : DiskState). Runs [] (most_to_adopt (length entries + 1)) old d) (sym back)
          (runs_more (most_to_adopt (length entries + 1)) (six_more calls_to_open (length entries))
          (runs_join (runs_are entries lines stopped.mid stopped.earlier) stopped.runs));
      images = stopped_images;
    }

    pub stopped_keeps : KeepsLedgers old new
    stopped_keeps x held told holds t now y image =
        let same = sym (first_is x held told holds) in
        elim (stopped_images (record { bytes = x; told = told }) t now y image) [
          | inl stands ↦ record {
            later = before;
            stands = stands;
            keeps = subst (λ (ps : List (Option LedgerEntry)). KeepsEntries (powered_ledger ps) (powered_ledger before)) same
                (keeps_are entries lines stopped.mid stopped.earlier);
          }
          | inr stands ↦ record {
            later = with_change stopped.change before;
            stands = stands;
            keeps = subst (λ (ps : List (Option LedgerEntry)). KeepsEntries (powered_ledger ps) (powered_ledger (with_change stopped.change before))) same with_it;
          }
        ]
