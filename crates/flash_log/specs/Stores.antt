-- A store in memory, beside the machine.
use Rattle.std.specs.Prelude.{◌≡◌, ◌+◌, ◌^◌, ◌<◌, ◌⊎◌, ℕ, true, false, List, length, set}
use Rattle.flash_places.specs.declared.FlashLine.TheVariants.{Head}
use Rattle.basics.specs.FaultCount.{Rose}
use Rattle.flash_places.specs.Places.{FlashPlace, Flash, SameFlash, blank_place, whole_place}
use Rattle.flash_places.specs.State.{FlashState}
use Rattle.flash_laws.specs.Logs.{CellList}
use Rattle.flash_laws.specs.Lives.{FlashLayout, FlashMachine, FlashStage, Scans, off, found, ready, puts, cuts_put, next_bank}
use Rattle.flash_log.specs.declared.store.FlashLog.{FlashLog}
use Rattle.flash_log.specs.Taking.{last_generation}
use Rattle.flash_log.specs.Going.{machine, layout_on, Goes, GoesAndDoes, BlankFrom}

abbrev pub stage_of : FlashLog → CellList → FlashStage
stage_of s cells = ready s.bank s.generation cells s.next

-- a bank of this flash has a place for the head, one for each of n cells, and one more
pub record FitsFlash (n : ℕ) (d : FlashState) : Type 0 where
  pub few : n < 2 ^ 16
  pub room : n + 1 < d.places

-- this store of n cells is one of this flash
pub record IsStoreOf (s : FlashLog) (n : ℕ) (d : FlashState) : Type 0 where
  pub fits : FitsFlash n d
  pub inside : s.bank < d.banks
  pub free : s.is_ready ≡ true → BlankFrom d.flash s.bank s.next

-- the log that was found has the last generation
pub record FindsLast (l : FlashLayout) (f g : Flash) : Type 0 where
  pub bank : ℕ
  pub cells : CellList
  pub next : ℕ
  pub goes : Goes l (machine f off) (machine g (found bank last_generation cells next))

-- a bank's first place is blank, or holds the head of an older log, and that stays
abbrev pub HasOlderHead : FlashPlace → ℕ → Type 0
HasOlderHead p generation =
    ((p ≡ blank_place) × (0 < generation)) ⊎ ((g : ℕ) × ((p ≡ whole_place (Head g)) × (g < generation)))

-- a start need not copy this log: all behind it is blank, and the next bank has at most an older head
pub record MayGoOn (l : FlashLayout) (f : Flash) (bank generation next : ℕ) : Type 0 where
  pub free : BlankFrom f bank next
  pub older : HasOlderHead (f (next_bank l.banks bank) 0) generation

-- One scan has found a log. If the store may go on in it, it does, and nothing but the scan is done to the flash.
pub record GoesOnIfFree (l : FlashLayout) (f g : Flash) (s : FlashLog) (cells : CellList) : Type 0 where
  pub bank : ℕ
  pub generation : ℕ
  pub next : ℕ
  pub between : Flash
  pub scanned : Scans l (machine f off) (machine between (found bank generation cells next))
  pub goes_on : MayGoOn l between bank generation next
      → SameFlash between g × (stage_of s cells ≡ ready bank generation cells next)

abbrev pub PutsIn : FlashLayout → ℕ → List ℕ → FlashMachine → FlashMachine → Type 0
PutsIn l cell payload a b = GoesAndDoes l (puts cell payload) a b

-- the put wasn't begun, or the power went within it
abbrev pub CutsPutIn : FlashLayout → ℕ → List ℕ → FlashMachine → FlashMachine → Type 0
CutsPutIn l cell payload a b = Goes l a b ⊎ GoesAndDoes l (cuts_put cell payload) a b

-- a store in memory with its cells, and the flash below it
pub record StoreOnFlash : Type 0 where
  pub store : FlashLog
  pub cells : CellList
  pub device : FlashState

-- what a put of these bytes at this cell leaves if it answers Ok
pub record PutsOnFlash (cell : ℕ) (payload : List ℕ) (old new : StoreOnFlash) : Type 0 where
  pub count : new.device.faults ≡ old.device.faults
  pub made : new.cells ≡ set old.cells cell payload
  pub puts : PutsIn (layout_on old.device (length old.cells)) cell payload
      (machine old.device.flash (stage_of old.store old.cells))
      (machine new.device.flash (stage_of new.store new.cells))
  pub stays : new.store.is_ready ≡ true

-- what it leaves if an operation of the flash failed
pub record FailsPutOnFlash (cell : ℕ) (payload : List ℕ) (old new : StoreOnFlash) : Type 0 where
  pub failed : Rose old.device.faults new.device.faults
  pub cut : CutsPutIn (layout_on old.device (length old.cells)) cell payload
      (machine old.device.flash (stage_of old.store old.cells)) (machine new.device.flash off)
  pub broken : new.store.is_ready ≡ false
