-- How often the lives of a caller erase a bank, and which of its reports fails a plan.
use Rattle.std.specs.Prelude.{◌≡◌, ◌+◌, ◌/◌, ℕ, Option, List, [], ◌∷◌, ◌++◌}
use Rattle.flash_lines.specs.Lines.{line_length}
use Rattle.flash_plan.specs.declared.plans.WaitingPut.{WaitingPut}
use Rattle.flash_plan.specs.Plans.{operation_of}
use Rattle.flash_plan.specs.Wear.{puts_to_bank, erases_by}
use Rattle.flash_calls.specs.Numbers.{plan_in}
use Rattle.flash_calls.specs.Operations.{FailsBy}
use Rattle.flash_calls.specs.CallLives.{FlashSizes, CallState, CallDeed, performs, takes_put, starts, is_cut}
use Rattle.flash_calls.specs.CallLives.{DoesCall, CallLives, PerformsNext}

-- how many erases a deed begins: they count, done or not
abbrev pub erases_in : CallDeed → CallState → ℕ
erases_in (performs put outcome bytes) a = erases_by (operation_of (plan_in a.numbers) a.cells)
erases_in (takes_put cell payload) a = 0
erases_in starts a = 0
erases_in (is_cut put) a = erases_by (operation_of (plan_in a.numbers) a.cells)

-- these lives, and how many erases are begun in them
abbrev pub LivesErasing : FlashSizes → List CallDeed → ℕ → CallState → CallState → Type 0
LivesErasing s [] erases a c = (c ≡ a) × (erases ≡ 0)
LivesErasing s (deed ∷ deeds) erases a c = (b : CallState) × ((later : ℕ)
    × (DoesCall s deed a b × ((erases ≡ erases_in deed a + later) × LivesErasing s deeds later b c)))

-- how often a deed begins anew
abbrev pub starts_by : CallDeed → ℕ
starts_by (performs put outcome bytes) = 0
starts_by (takes_put cell payload) = 0
starts_by starts = 1
starts_by (is_cut put) = 1

abbrev pub starts_in : List CallDeed → ℕ
starts_in [] = 0
starts_in (deed ∷ deeds) = starts_by deed + starts_in deeds

-- how many puts a bank takes
abbrev pub bank_puts : FlashSizes → ℕ
bank_puts s = puts_to_bank (s.bank_size / line_length s.unit) s.cells

-- Since the last start a report said of the operation that came next that it failed: its outcome is none of that
-- operation's own.
pub record ReportsFailure (s : FlashSizes) (deeds : List CallDeed) (a : CallState) : Type 0 where
  pub earlier : List CallDeed
  pub put : Option WaitingPut
  pub outcome : ℕ
  pub bytes : List ℕ
  pub later : List CallDeed
  pub split : deeds ≡ earlier ++ performs put outcome bytes ∷ later
  pub since : starts_in later ≡ 0
  pub before : CallState
  pub lives : CallLives s earlier a before
  pub after : CallState
  pub performed : PerformsNext put outcome bytes before after
  pub fails : FailsBy performed.comes.operation outcome
