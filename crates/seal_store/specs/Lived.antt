-- The lives of a store since it was first made.
use Rattle.std.specs.Prelude.{◌≡◌, ℕ, List, length}
use Rattle.seal_parts.specs.declared.PartClass.TheVariants.{Blanks}
use Rattle.seal_parts.specs.State.{PartState}
use Rattle.seal_laws.specs.declared.SealSizes.{SealSizes}
use Rattle.seal_laws.specs.Lives.{SealMachine, SealEvent, SealLives, FormattedSeal}
use Rattle.seal_store.specs.declared.SealStore.{SealStore}
use Rattle.seal_store.specs.Store.{off_at, machine_at}

-- a first store was made, and these lives since have led here
pub record HasLived (s : SealSizes) (a : SealMachine) : Type 0 where
  pub cells : List (List ℕ)
  pub first : SealMachine
  pub events : List SealEvent
  pub formatted : FormattedSeal Blanks s cells first
  pub lives : SealLives Blanks s events first a

-- a part that has a store
pub record HasSealStore (part : PartState) (s : SealSizes) : Type 0 where
  pub class : part.class ≡ Blanks
  pub banks : s.log.banks ≡ part.banks
  pub places : s.log.places ≡ part.places
  pub lived : HasLived s (off_at part.flash)

-- a store that was started on a part, and its cells
pub record StandsOn (part : PartState) (store : SealStore) (cells : List (List ℕ)) : Type 0 where
  pub class : part.class ≡ Blanks
  pub banks : store.sizes.log.banks ≡ part.banks
  pub places : store.sizes.log.places ≡ part.places
  pub alike : length cells ≡ store.sizes.log.cells
  pub lived : HasLived store.sizes (machine_at part.flash store cells)
