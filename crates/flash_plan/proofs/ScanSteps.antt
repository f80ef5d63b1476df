-- From one bank to the next, and what comes after the last one.
use Rattle.std.proofs.Common.{◌≡◌, ◌<◌, ◌≤◌, Bool, true, false, ℕ, suc, Some, None, List, get_or, refl, sym, ap, subst}
use Rattle.flash_places.specs.Places.{Flash, SameFlash}
use Rattle.flash_laws.specs.Logs.{CellList}
use Rattle.flash_laws.specs.Lives.{FlashLayout, FlashStage, off, found, ready, cuts, was_found, next_bank}
use Rattle.flash_log.specs.declared.reading.LogEnd.{LogEnd}
use Rattle.flash_log.specs.declared.scanning.FoundLog.{FoundLog}
use Rattle.flash_log.specs.declared.scanning.Best.{Best}
use Rattle.flash_log.specs.declared.scanning.Best.TheVariants.{NoLog, One, Tie}
use Rattle.flash_log.specs.Going.{machine, Goes}
use Rattle.flash_log.specs.Taking.{ReadsBankPart, last_generation}
use Rattle.flash_log.specs.Scanned.{FreeBest, NoLaterHeads, judged, is_newest}
use Rattle.flash_log.proofs.CallerLemmas.{goes_none, goes_one, scanned_none, scanned_stays, scanned_new, scanned_part, scanned_off, scan_found, scan_none, scan_tie, free_same, free_judged, goes_on}
use Rattle.flash_plan.specs.declared.plans.PlanEnd.TheVariants.{NoStore, Exhausted}
use Rattle.flash_plan.specs.declared.plans.PlanStep.TheVariants.{Heading, Erasing, Ready, Ended}
use Rattle.flash_plan.specs.Standing.{BankPlaces, BeforeBank, WithinBank, ReadsBank, ReachesStep}

-- ---- a bank was read

module _ (n bank : ℕ) (first f : Flash) (best : Best) (latest : List ℕ) (cells scratch : CellList) where
  pub takes_none : WithinBank n bank first f best latest cells (ReadsBank n None scratch) → BeforeBank n (suc bank) first f best latest cells
  takes_none w = record {
    scanned = scanned_none n bank first w.before f best cells scratch w.scanned w.others w.reads.log;
    free = free_same n bank w.scanned.read w.before f cells w.others best w.scanned.is w.free;
    heads = w.heads;
  }

  module _ (log : LogEnd) (better : Best) (newest : Bool) (is : better ≡ judged best bank log) (is_new : newest ≡ is_newest best log)
      (w : WithinBank n bank first f best latest cells (ReadsBank n (Some log) scratch)) where
    better_free : FreeBest f better
    better_free = subst (λ (b : Best). FreeBest f b) (sym is)
        (free_judged n bank w.scanned.read w.before f cells w.others log w.reads.free best w.scanned.is w.free)

    pub takes_not : newest ≡ false → BeforeBank n (suc bank) first f better latest cells
    takes_not older = record {
      scanned = scanned_stays n bank first w.before f best cells scratch w.scanned w.others (Some log) log better refl is w.reads.log newest is_new older;
      free = better_free;
      heads = w.heads;
    }

    pub takes_it : newest ≡ true → (now : CellList) → now ≡ scratch → BeforeBank n (suc bank) first f better latest now
    takes_it later now same = record {
      scanned = scanned_new n bank first w.before f best cells scratch w.scanned w.others (Some log) log better refl is w.reads.log newest is_new later now same;
      free = better_free;
      heads = w.heads;
    }

-- ---- what comes next

module _ (l : FlashLayout) (first f : Flash) (best : Best) (latest : List ℕ) (cells scratch : CellList) where
  pub next_heading : (bank : ℕ) → BeforeBank l.cells bank first f best latest cells
      → ReachesStep l best latest cells scratch (machine first off) f (Heading bank)
  next_heading bank b = record {
    at = machine first off;
    goes = goes_none l (machine first off);
    stands = record { first = first; is = refl; reads = b };
  }

-- all banks were read
module _ (l : FlashLayout) (count : ℕ) (first f : Flash) (latest : List ℕ) (cells scratch : CellList) (all : count ≡ l.banks) where
  pub ends_none : BeforeBank l.cells count first f NoLog latest cells → ReachesStep l NoLog latest cells scratch (machine first off) f (Ended NoStore)
  ends_none b = record {
    at = machine first off;
    goes = goes_none l (machine first off);
    stands = record { first = first; is = refl; reads = scan_none l count first f cells all b.scanned };
  }

  pub ends_tie : (t : ℕ) → BeforeBank l.cells count first f (Tie t) latest cells → ReachesStep l (Tie t) latest cells scratch (machine first off) f (Ended NoStore)
  ends_tie t b = record {
    at = machine first off;
    goes = goes_none l (machine first off);
    stands = record { first = first; is = refl; reads = scan_tie l count first f cells all t b.scanned };
  }

  module _ (log : FoundLog) (b : BeforeBank l.cells count first f (One log) latest cells) where
    is_found : Goes l (machine first off) (machine f (found log.bank log.generation cells log.next))
    is_found = scan_found l count first f cells all log b.scanned

    pub ends_last : log.generation ≡ last_generation → ReachesStep l (One log) latest cells scratch (machine first off) f (Ended Exhausted)
    ends_last last = record {
      at = machine f (found log.bank log.generation cells log.next);
      goes = is_found;
      stands = record { bank = log.bank; next = log.next; is = ap (λ g. machine f (found log.bank g cells log.next)) last };
    }

    pub ends_found : ReachesStep l (One log) latest cells scratch (machine first off) f (Erasing log.bank log.generation)
    ends_found = record {
      at = machine f (found log.bank log.generation cells log.next);
      goes = is_found;
      stands = record { stage = found log.bank log.generation cells log.next; is = refl; up = was_found log.next refl };
    }

    pub ends_ready : 2 ≤ l.banks → log.bank < l.banks → log.is_free ≡ true → get_or latest (next_bank l.banks log.bank) 0 < last_generation
        → get_or latest (next_bank l.banks log.bank) 0 < log.generation
        → ReachesStep l (One log) latest cells scratch (machine first off) f (Ready log.bank log.generation log.next)
    ends_ready two inside free was_read older = record {
      at = machine f (ready log.bank log.generation cells log.next);
      goes = goes_on l l.banks log cells first f latest is_found refl two inside (b.free free)
          (subst (λ c. NoLaterHeads f c latest) all b.heads) was_read older;
      stands = record { is = refl; rest = b.free free };
    }

-- ---- the power may go while banks are read

pub before_off : (l : FlashLayout) (n bank : ℕ) (first f : Flash) (best : Best) (latest : List ℕ) (cells : CellList) → BeforeBank n bank first f best latest cells
    → Goes l (machine first off) (machine f off)
before_off l n bank first f best latest cells b = scanned_off l n bank first f best cells b.scanned

pub within_off : (l : FlashLayout) (n bank : ℕ) (first f : Flash) (best : Best) (latest : List ℕ) (cells : CellList) (R : BankPlaces → BankPlaces → Type 0)
    → (w : WithinBank n bank first f best latest cells R) → ReadsBankPart (w.before bank) (f bank) → Goes l (machine first off) (machine f off)
within_off l n bank first f best latest cells R w part = scanned_part n bank first w.before f best cells cells w.scanned w.others l part

-- it may go between two operations
pub same_off : (l : FlashLayout) (f g : Flash) (stage : FlashStage) → SameFlash f g → Goes l (machine f stage) (machine g off)
same_off l f g stage same = goes_one l cuts _ _ (λ old new e. e, tt) (record { same = same; now = refl })
