-- A format whose last operation, the program of its head, was cut.
use Rattle.std.specs.Prelude.{◌≡◌, ◌⊎◌, None, List}
use Rattle.flash_places.specs.Places.{Flash, SameButAt}
use Rattle.flash_laws.specs.Logs.{CellList}
use Rattle.flash_laws.specs.Lives.{FlashLayout, FlashMachine, FlashDeed, FlashLives, FlashFormatted, off}

-- The flash is as formatted with these cells, but for the head of bank 0: it has its content or none, and need not be
-- firm.
pub record CutFormatted (l : FlashLayout) (cells : CellList) (a : FlashMachine) : Type 0 where
  pub whole : Flash
  pub formatted : FlashFormatted l cells (record { flash = whole; stage = off })
  pub left : ((a.flash 0 0).content ≡ (whole 0 0).content) ⊎ ((a.flash 0 0).content ≡ None)
  pub same : SameButAt 0 0 whole a.flash
  pub is_off : a.stage ≡ off

-- some lives lead to this machine from a whole format with these cells
pub record LivesFormatted (l : FlashLayout) (cells : CellList) (b : FlashMachine) : Type 0 where
  pub start : FlashMachine
  pub formatted : FlashFormatted l cells start
  pub deeds : List FlashDeed
  pub lives : FlashLives l deeds start b
