-- What the calls of the store on flash answer.
use Rattle.std.specs.Prelude.{ℤ, ◌≡◌, ◌≢◌, ◌⊎◌, ℕ, ◌<◌, Option, Some, None, List, length}
use Rattle.cell_store.specs.declared.kinds.Version.TheVariants.{One}
use Rattle.cell_store.specs.Layout.{twin_layout}
use Rattle.cell_store.specs.Store.{HasHeader}
use Rattle.store_plan.specs.declared.planning.Plan.{Plan}
use Rattle.store_plan.specs.Plans.{IsEmptyPlan}
use Rattle.flash_plan.specs.Plans.{IsIdle, IsFullAt}
use Rattle.flash_calls.specs.declared.calls.FlashRefusal.{FlashRefusal}
use Rattle.flash_calls.specs.declared.calls.FlashRefusal.TheVariants.{BadLength, BadValue, NoStore, Busy}
use Rattle.flash_calls.specs.declared.calls.FlashRefusal.TheVariants.{Exhausted, Failed}
use Rattle.flash_calls.specs.declared.numbers.FlashNumbers.{FlashNumbers}
use Rattle.flash_calls.specs.Numbers.{plan_in}
use Rattle.flash_calls.specs.Operations.{IsCallOf, FitsPart}
use Rattle.flash_calls.specs.Calls.{refusal_of}
use Rattle.flash_images.specs.Images.{WritesPut}
use Rattle.rathonsi_c.specs.declared.TheConstants.{OK, BAD_LENGTH, BAD_VALUE, NO_STORE, DAMAGED, BUSY, EXHAUSTED}
use Rattle.rathonsi_c.specs.declared.TheConstants.{FAILED}
use Rattle.rathonsi_c.specs.Causes.{IfCause, IsDone}
use Rattle.rathonsi_c.specs.Stores.{IsSize, HasDamage}

-- the status of a refusal
abbrev pub flash_status : FlashRefusal → ℤ
flash_status BadLength = BAD_LENGTH
flash_status BadValue = BAD_VALUE
flash_status NoStore = NO_STORE
flash_status Busy = BUSY
flash_status Exhausted = EXHAUSTED
flash_status Failed = FAILED

-- the status of a plan: why it has ended, or OK
abbrev pub flash_end_status : Option FlashRefusal → ℤ
flash_end_status None = OK
flash_end_status (Some refusal) = flash_status refusal

-- what `rathonsi_flash_begin` answers
abbrev pub FlashBeginAnswers : ℕ → ℕ → ℕ → ℕ → ℤ → Type 0
FlashBeginAnswers unit banks bank_size n status = IfCause (¬ FitsPart unit banks bank_size n) BAD_VALUE IsDone status

-- what `rathonsi_flash_take` answers
abbrev pub FlashTakeAnswers : ℕ → ℕ → ℕ → ℕ → List ℕ → ℤ → Type 0
FlashTakeAnswers unit banks bank_size n image status =
    IfCause (¬ IsSize n (length image)) BAD_LENGTH
    (IfCause (¬ HasHeader (twin_layout One) n image) NO_STORE
    (IfCause (HasDamage image) DAMAGED
    (IfCause (¬ FitsPart unit banks bank_size n) BAD_VALUE IsDone))) status

-- what `rathonsi_flash_next` answers, with n cells
abbrev pub FlashNextAnswers : ℕ → FlashNumbers → ℤ → Type 0
FlashNextAnswers n flash status =
    IfCause (¬ IsCallOf n flash) BAD_VALUE (λ s. s ≡ flash_end_status (refusal_of (plan_in flash).step)) status

-- what `rathonsi_flash_did` answers, with n cells and m in scratch
abbrev pub FlashDidAnswers : ℕ → ℕ → FlashNumbers → ℤ → Type 0
FlashDidAnswers n m flash status =
    IfCause (m ≢ n) BAD_LENGTH (IfCause (¬ IsCallOf n flash) BAD_VALUE IsDone) status

-- the plan is empty, or puts one of n cells
abbrev pub TakesPlan : ℕ → Plan → Type 0
TakesPlan n plan = IsEmptyPlan plan ⊎ ((i : ℕ) × ((c : List ℕ) × ((i < n) × WritesPut plan i c)))

-- what `rathonsi_flash_put` answers
abbrev pub FlashPutAnswers : ℕ → Plan → FlashNumbers → ℤ → Type 0
FlashPutAnswers n plan flash status =
    IfCause (¬ IsCallOf n flash) BAD_VALUE
    (IfCause (¬ TakesPlan n plan) BAD_VALUE
    (IfCause (¬ IsIdle (plan_in flash)) BUSY
    (IfCause ((¬ IsEmptyPlan plan) × IsFullAt flash.places (plan_in flash).step) EXHAUSTED IsDone))) status

-- what `rathonsi_flash_image` answers, with n cells and an image of so many bytes
abbrev pub FlashImageAnswers : ℕ → ℕ → FlashNumbers → ℤ → Type 0
FlashImageAnswers n size flash status =
    IfCause (¬ IsSize n size) BAD_LENGTH
    (IfCause (¬ IsCallOf n flash) BAD_VALUE (IfCause (¬ IsIdle (plan_in flash)) BUSY IsDone)) status
