-- A look at what a first format left, as the code has it
use Rattle.std.specs.Prelude.{◌≡◌, ◌⊎◌, ◌↔◌, ℕ, ◌+◌, ◌≤◌, Bool, true, false, IsTrue, Option, Some, None, List, get_or, Result, Ok, Err, OnOk, IfOk, IfErr}
use Rattle.std.proofs.Common.{refl, sym, ap, ◌∙◌, subst, arith, inl, inr}
use Rattle.std.proofs.lemmas.Bool.{false≢true}
use Rattle.cut_disk.specs.State.{DiskState, Told}
use Rattle.cut_disk.specs.Calls.{AsBefore}
use Rattle.cut_disk.proofs.CallerLemmas.{runs_more, as_before_more}
use Rattle.cell_store.specs.declared.kinds.Kind.{Kind}
use Rattle.cell_store.specs.declared.kinds.Kind.TheVariants.{Twin, Log}
use Rattle.cell_store.specs.declared.kinds.Version.{Version}
use Rattle.cell_store.specs.Layout.{base}
use Rattle.cell_store.specs.ReadOrder.{reads}
use Rattle.cell_store.specs.Store.{fresh_cells}
use Rattle.store_growing.specs.StoreHeaders.{HeaderStands}
use Rattle.disk_looks.specs.declared.looks.Seen.TheVariants.{Neither}
use Rattle.disk_looks.specs.declared.looks.LookFault.{LookFault}
use Rattle.disk_looks.specs.declared.looks.LookFault.TheVariants as look_fault
use Rattle.disk_looks.specs.Looks.{LooksAs, FailsLook, seen_neither}
use Rattle.bus_config.specs.Buses.{NamedBus}
use Rattle.bus_world.specs.TakingUp.{new_cells}
use Rattle.kept_starts.specs.declared.first.KeepFault.{KeepFault}
use Rattle.kept_starts.specs.declared.first.KeepFault.TheVariants as keep
use Rattle.kept_starts.specs.Unfinished.{IsUnfinishedFormat, IsBegunFrom}
use Rattle.kept_starts.specs.LookedAt.{cells_in_bus, config_in_bus, cells_calls, KeepsTold, KeepsOlder, TellsUnfinished, FailsToKeepWithin}
use Rattle.kept_starts.proofs.UnfinishedLaws.{told_unfinished}
use Rattle.kept_starts.proofs.OlderLaws.{SeesTold, told_begun}

pub neither_headless : (kind : Kind) (version : Version) (n : ℕ) (x : List ℕ) → LooksAs kind version n x Neither → HeaderStands x None
neither_headless kind version n x (seen_neither none not) = none

one_read : (kind : Kind) (n : ℕ) → 1 ≤ reads kind n
one_read Twin n = omega arith
one_read Log n = omega arith

module _ (bus : NamedBus) (disk after : DiskState) where
  pub one_look : AsBefore 1 disk after → AsBefore (cells_calls bus) disk after
  one_look look = as_before_more (cells_calls bus) (one_read bus.kind (cells_in_bus bus)) look

  pub one_failed : FailsLook 1 disk after look_fault.DiskFailed → FailsToKeepWithin (cells_calls bus) bus disk after keep.DiskFailed
  one_failed f = record { runs = runs_more (cells_calls bus) (one_read bus.kind (cells_in_bus bus)) f.runs; told = f.told; cause = f.cause }

  pub one_memory : FailsLook 1 disk after look_fault.Memory → FailsToKeepWithin (cells_calls bus) bus disk after keep.Memory
  one_memory f = record { runs = runs_more (cells_calls bus) (one_read bus.kind (cells_in_bus bus)) f.runs; told = f.told; cause = f.cause }

  module _ (kind : Kind) (version : Version) (cells : List (List ℕ)) (kind_is : kind ≡ bus.kind) (version_is : version ≡ bus.version)
      (cells_are : cells ≡ new_cells (config_in_bus bus)) (says : Bool)
      (test : (t : Told) → disk.told ≡ Some t → IsTrue says ↔ IsUnfinishedFormat kind version cells t.bytes) where
    of_bus : (t : Told) → disk.told ≡ Some t → IsTrue says ↔ IsUnfinishedFormat bus.kind bus.version (new_cells (config_in_bus bus)) t.bytes
    of_bus t tells =
        subst (λ (k : Kind). IsTrue says ↔ IsUnfinishedFormat k bus.version (new_cells (config_in_bus bus)) t.bytes) kind_is
        (subst (λ (v : Version). IsTrue says ↔ IsUnfinishedFormat kind v (new_cells (config_in_bus bus)) t.bytes) version_is
        (subst (λ (c : List (List ℕ)). IsTrue says ↔ IsUnfinishedFormat kind version c t.bytes) cells_are (test t tells)))

    pub begun_told : says ≡ true → TellsUnfinished bus disk
    begun_told on t tells = (of_bus t tells).0 on

    pub unbegun_fails : says ≡ false → SeesTold bus disk Neither → AsBefore 1 disk after
        → FailsToKeepWithin (cells_calls bus) bus disk after keep.NotFormatted
    unbegun_fails off sees look = record {
      runs = (one_look look).runs;
      told = look.told;
      cause = (look.faults, λ t tells. inl (sees t tells, λ u. false≢true (sym off ∙ (of_bus t tells).1 u)));
    }

-- bytes without a header, beside a new store
pub begun_unfinished : (kind : Kind) (version : Version) (cells : List (List ℕ)) (y : List ℕ) (old : Option Told) (r : Result Bool LookFault)
    → ((k : ℕ) → get_or y (base version + 32 + k) 0 ≡ get_or (fresh_cells kind cells) k 0) → ((t : Told) → old ≡ Some t → HeaderStands t.bytes None)
    → IfOk r (λ is. (t : Told) → old ≡ Some t → IsTrue is ↔ IsBegunFrom (base version + 32) y t.bytes)
    → IfOk r (λ is. (t : Told) → old ≡ Some t → IsTrue is ↔ IsUnfinishedFormat kind version cells t.bytes)
begun_unfinished kind version cells y old (Ok says) new headless test = λ t tells. told_unfinished kind version cells y t.bytes new (headless t tells) says (test t tells)
begun_unfinished kind version cells y old (Err fault) new headless test = tt

-- what a start keeps then
pub begun_keeps : (bus : NamedBus) (disk : DiskState) (r : Result (Unit {0}) KeepFault) → OnOk r (TellsUnfinished bus disk) → OnOk r (KeepsTold bus disk)
begun_keeps bus disk (Ok u) begun = (told_begun bus disk begun).0
begun_keeps bus disk (Err fault) begun = tt

pub begun_keeps_older : (bus : NamedBus) (disk : DiskState) (r : Result (Unit {0}) KeepFault) → OnOk r (TellsUnfinished bus disk) → OnOk r (KeepsOlder bus disk)
begun_keeps_older bus disk (Ok u) begun = (told_begun bus disk begun).1
begun_keeps_older bus disk (Err fault) begun = tt
