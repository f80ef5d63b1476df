-- How often the lives of a caller erase, and what fails a plan.
use Rattle.std.proofs.Common.{◌≡◌, ◌⊎◌, ◌↔◌, inl, inr, ℕ, suc, ◌+◌, ◌-◌, ◌*◌, ◌/◌, ◌≤◌, Option, Some, None, List, [], ◌∷◌, length, refl, sym, ap, subst, ◌∙◌, arith}
use Rattle.std.proofs.Math.Nat.{add-mul, suc-mul}
use Rattle.std.proofs.lemmas.Bool.{cases_lt}
use Rattle.std.proofs.lemmas.List.{length-append}
use Rattle.flash_laws.specs.Logs.{CellList}
use Rattle.flash_laws.specs.Lives.{FlashLayout, FlashMachine, off}
use Rattle.flash_lines.specs.Lines.{line_length}
use Rattle.flash_places.specs.Places.{Flash}
use Rattle.flash_log.specs.Going.{machine}
use Rattle.flash_log.specs.declared.scanning.Best.{Best}
use Rattle.flash_plan.specs.declared.plans.WaitingPut.{WaitingPut}
use Rattle.flash_plan.specs.declared.plans.PlanEnd.TheVariants.{Failed as end_failed}
use Rattle.flash_plan.specs.declared.plans.PlanStep.{PlanStep}
use Rattle.flash_plan.specs.declared.plans.PlanStep.TheVariants.{Heading, Copied, Puts, Free, Erasing, Copying, Ready, Clearing, Filling, Ended}
use Rattle.flash_plan.specs.declared.plans.FlashPlan.{FlashPlan}
use Rattle.flash_plan.specs.declared.operations.FlashOutcome.{FlashOutcome}
use Rattle.flash_plan.specs.declared.operations.FlashOutcome.TheVariants.{Answered, Done, Failed}
use Rattle.flash_plan.specs.Plans.{IsIdleStep, ReadsAt, SkipsOlder, step_operation, operation_of, put_in, put_left}
use Rattle.flash_plan.specs.Standing.{StepAt}
use Rattle.flash_plan.specs.Turns.{deed_in}
use Rattle.flash_plan.specs.Wear.{puts_to_bank, erases_by, erase_credit}
use Rattle.flash_plan.proofs.CallerLemmas.{erase_paid, if_some}
use Rattle.flash_calls.specs.Numbers.{plan_in}
use Rattle.flash_calls.specs.CallLives.{FlashSizes, sizes_layout, CallState, CallDeed, performs, takes_put, starts, is_cut, CallBegun, TakesPut, DoesCall, CallLives, PerformsNext, program_outcome, call_puts, puts_made}
use Rattle.flash_calls.specs.CallWear.{erases_in, LivesErasing, starts_by, starts_in, bank_puts, ReportsFailure}
use Rattle.flash_calls.specs.Operations.{FailsBy}
use Rattle.flash_calls.proofs.LifeLaws.{StandsIn, begun_stands, deed_turn}

-- ---- a plan of a start never owes more than one erase

stands_credit : (places n : ℕ) (l : FlashLayout) (best : Best) (latest : List ℕ) (cells scratch : CellList) (at : FlashMachine) (f : Flash) (step : PlanStep)
    → StepAt l best latest cells scratch at f step → erase_credit places n step ≤ puts_to_bank places n
stands_credit places n l best latest cells scratch at f (Heading bank) h = omega arith
stands_credit places n l best latest cells scratch at f (Copied bank generation done) h = omega arith
stands_credit places n l best latest cells scratch at f (Puts bank generation place) h = omega arith
stands_credit places n l best latest cells scratch at f (Free bank generation next place) h = omega arith
stands_credit places n l best latest cells scratch at f (Erasing bank generation) h = omega arith
stands_credit places n l best latest cells scratch at f (Copying bank generation done) h = omega arith
stands_credit places n l best latest cells scratch at f (Ready bank generation next) h = omega arith
stands_credit places n l best latest cells scratch at f (Clearing bank) h = absurd h
stands_credit places n l best latest cells scratch at f (Filling done) h = absurd h
stands_credit places n l best latest cells scratch at f (Ended end) h = omega arith

-- a read is no erase, and is paid by the start
reads_credit : (banks places n : ℕ) (put : Option WaitingPut) (cells : CellList) (step : PlanStep)
    → ((erases_by (step_operation banks step put cells) ≡ 0) × (erase_credit places n step ≡ puts_to_bank places n)) ⊎ (ReadsAt step → ⊥)
reads_credit banks places n put cells (Heading bank) = inl (refl, refl)
reads_credit banks places n put cells (Copied bank generation done) = inl (refl, refl)
reads_credit banks places n put cells (Puts bank generation place) = inl (refl, refl)
reads_credit banks places n put cells (Free bank generation next place) = inl (refl, refl)
reads_credit banks places n put cells (Erasing bank generation) = inr (λ r. r)
reads_credit banks places n put cells (Copying bank generation done) = inr (λ r. r)
reads_credit banks places n put cells (Ready bank generation next) = inr (λ r. r)
reads_credit banks places n put cells (Clearing bank) = inr (λ r. r)
reads_credit banks places n put cells (Filling done) = inr (λ r. r)
reads_credit banks places n put cells (Ended end) = inr (λ r. r)

-- a put that is programmed counts as one
one_deed : (w : WaitingPut) (outcome : FlashOutcome) → 1 ≡ length (deed_in (Some w) outcome)
one_deed w (Answered answer) = refl
one_deed w Done = refl
one_deed w Failed = refl

put_counts : (put : Option WaitingPut) (outcome : FlashOutcome) → put_left put ≡ length (deed_in put outcome)
put_counts None outcome = refl
put_counts (Some w) outcome = one_deed w outcome

-- an idle plan is ready
pub record ReadyStep (step : PlanStep) : Type 0 where
  pub bank : ℕ
  pub generation : ℕ
  pub next : ℕ
  pub is : step ≡ Ready bank generation next

pub ready_step : (step : PlanStep) → IsIdleStep step → ReadyStep step
ready_step (Heading bank) idle = absurd idle
ready_step (Copied bank generation done) idle = absurd idle
ready_step (Puts bank generation place) idle = absurd idle
ready_step (Free bank generation next place) idle = absurd idle
ready_step (Erasing bank generation) idle = absurd idle
ready_step (Copying bank generation done) idle = absurd idle
ready_step (Ready bank generation next) idle = record { bank = bank; generation = generation; next = next; is = refl }
ready_step (Clearing bank) idle = absurd idle
ready_step (Filling done) idle = absurd idle
ready_step (Ended end) idle = absurd idle

-- ---- one deed

abbrev places_of : FlashSizes → ℕ
places_of s = s.bank_size / line_length s.unit

abbrev credit : FlashSizes → CallState → ℕ
credit s a = erase_credit (places_of s) s.cells (plan_in a.numbers).step

-- what is spent and what is left, and what there was and was earned
abbrev Spends : FlashSizes → CallDeed → CallState → CallState → Type 0
Spends s deed a b = erases_in deed a * bank_puts s + credit s b ≤ credit s a + starts_by deed * bank_puts s + length (call_puts deed)

performs_spends : (s : FlashSizes) (put : Option WaitingPut) (outcome : ℕ) (bytes : List ℕ) (a b : CallState) → length a.cells ≡ s.cells → a.numbers.places ≡ places_of s
    → credit s b ≤ bank_puts s → PerformsNext put outcome bytes a b → Spends s (performs put outcome bytes) a b
performs_spends s put outcome bytes a b count places most d =
    let plan : FlashPlan = plan_in a.numbers in
    elim (reads_credit plan.banks (places_of s) s.cells plan.put a.cells plan.step) [
      | inl read ↦
          let e = ap (λ k. k * bank_puts s) read.0 in
          let full = read.1 in
          omega (arith, e, full, most)
      | inr quiet ↦
          let paid = subst
          (λ p. erases_by (operation_of plan a.cells) * puts_to_bank p s.cells + erase_credit p s.cells (plan_in b.numbers).step
          ≤ erase_credit p s.cells plan.step + put_left (put_in plan)) places
          (subst
          (λ n. erases_by (operation_of plan a.cells) * puts_to_bank a.numbers.places n + erase_credit a.numbers.places n (plan_in b.numbers).step
          ≤ erase_credit a.numbers.places n plan.step + put_left (put_in plan)) count (d.reported.wear quiet)) in
          let one : put_left (put_in plan) ≡ length (deed_in put (program_outcome outcome)) =
          ap put_left d.comes.put_is ∙ put_counts put (program_outcome outcome) in
          omega (arith, paid, one)
    ]

takes_spends : (s : FlashSizes) (cell : ℕ) (payload : List ℕ) (a b : CallState) → a.numbers.places ≡ places_of s → TakesPut cell payload a b → Spends s (takes_put cell payload) a b
takes_spends s cell payload a b places d =
    let r = ready_step (plan_in a.numbers).step d.taken.idle.step in
    elim (cases_lt r.next a.numbers.places) [
      | inl below ↦
          let e : credit s b ≡ credit s a = ap (erase_credit (places_of s) s.cells) (d.taken.programs r.bank r.generation r.next r.is below) in
          omega (arith, e)
      | inr above ↦
          let e : credit s b ≡ bank_puts s = ap (erase_credit (places_of s) s.cells) (d.taken.copies r.bank r.generation r.next r.is (omega (arith, above))) in
          let f : credit s a ≡ bank_puts s - (places_of s - r.next) = ap (erase_credit (places_of s) s.cells) r.is in
          omega (arith, e, f, above, places)
    ]

begun_credit : (s : FlashSizes) (b : CallState) → CallBegun s b → credit s b ≡ bank_puts s
begun_credit s b h = ap (erase_credit (places_of s) s.cells) h.begun.first

deed_spends : (s : FlashSizes) (deed : CallDeed) (a b : CallState) → length a.cells ≡ s.cells → a.numbers.places ≡ places_of s → credit s b ≤ bank_puts s
    → DoesCall s deed a b → Spends s deed a b
deed_spends s (performs put outcome bytes) a b count places most d = performs_spends s put outcome bytes a b count places most d
deed_spends s (takes_put cell payload) a b count places most d = takes_spends s cell payload a b places d
deed_spends s starts a b count places most d = let e = begun_credit s b d.begun in omega (arith, e)
deed_spends s (is_cut put) a b count places most d =
    let e = begun_credit s b d.begun in
    let paid = erase_paid (plan_in a.numbers).banks (places_of s) s.cells (plan_in a.numbers).put a.cells (plan_in a.numbers).step in
    omega (arith, e, paid)

deed_places : (s : FlashSizes) (deed : CallDeed) (a b : CallState) → a.numbers.places ≡ places_of s → DoesCall s deed a b → b.numbers.places ≡ places_of s
deed_places s (performs put outcome bytes) a b places d = d.reported.places_is ∙ places
deed_places s (takes_put cell payload) a b places d = d.taken.places_is ∙ places
deed_places s starts a b places d = d.begun.begun.places_is
deed_places s (is_cut put) a b places d = d.begun.begun.places_is

-- ---- all of them

lives_spend : (s : FlashSizes) (deeds : List CallDeed) (erases : ℕ) (a b : CallState) (at : FlashMachine) → StandsIn s a at → a.numbers.places ≡ places_of s
    → LivesErasing s deeds erases a b
    → erases * bank_puts s + credit s b ≤ credit s a + starts_in deeds * bank_puts s + length (puts_made deeds)
lives_spend s [] erases a b at h places lives =
    let e : credit s b ≡ credit s a = ap (credit s) lives.0 in
    let f = ap (λ k. k * bank_puts s) lives.1 in
    omega (arith, e, f)
lives_spend s (deed ∷ deeds) erases a c at h places lives =
    let b : CallState = lives.0 in
    let later : ℕ = lives.1.0 in
    let does : DoesCall s deed a b = lives.1.1.0 in
    let t = deed_turn s deed a b at h does in
    let most = stands_credit (places_of s) s.cells (sizes_layout s) (plan_in b.numbers).best (plan_in b.numbers).latest b.cells b.scratch t.at b.flash (plan_in b.numbers).step t.stands.stands in
    let one = deed_spends s deed a b h.count places most does in
    let rest = lives_spend s deeds later b c t.at t.stands (deed_places s deed a b places does) lives.1.1.1.1 in
    let e : erases * bank_puts s ≡ erases_in deed a * bank_puts s + later * bank_puts s =
    ap (λ k. k * bank_puts s) lives.1.1.1.0 ∙ add-mul (erases_in deed a) later (bank_puts s) in
    let f = add-mul (starts_by deed) (starts_in deeds) (bank_puts s) in
    let g = length-append (call_puts deed) (puts_made deeds) in
    omega (arith, one, rest, e, f, g)

pub call_erases : (s : FlashSizes) (deeds : List CallDeed) (erases : ℕ) (a b : CallState) → CallBegun s a → LivesErasing s deeds erases a b
    → erases * bank_puts s ≤ suc (starts_in deeds) * bank_puts s + length (puts_made deeds)
call_erases s deeds erases a b begun lives =
    let all = lives_spend s deeds erases a b (machine a.flash off) (begun_stands s a begun) begun.begun.places_is lives in
    let e = begun_credit s a begun in
    let f = suc-mul (starts_in deeds) (bank_puts s) in
    omega (arith, all, e, f)

-- ---- what fails a plan

heads_not : (step : PlanStep) → step ≡ Heading 0 → step ≡ Ended end_failed → ⊥
heads_not step first failed = absurd (let e = sym first ∙ failed in cc)

put_fails_not : (cell : ℕ) (payload : List ℕ) (a b : CallState) → TakesPut cell payload a b → (plan_in b.numbers).step ≡ Ended end_failed → ⊥
put_fails_not cell payload a b d failed =
    let r = ready_step (plan_in a.numbers).step d.taken.idle.step in
    elim (cases_lt r.next a.numbers.places) [
      | inl below ↦ absurd (let e = sym (d.taken.programs r.bank r.generation r.next r.is below ∙ r.is) ∙ failed in cc)
      | inr above ↦ absurd (let e = sym (d.taken.copies r.bank r.generation r.next r.is (omega (arith, above))) ∙ failed in cc)
    ]

deed_fails : (s : FlashSizes) (deed : CallDeed) (deeds : List CallDeed) (a b : CallState) → DoesCall s deed a b → (plan_in b.numbers).step ≡ Ended end_failed
    → starts_in deeds ≡ 0 → ReportsFailure s (deed ∷ deeds) a
deed_fails s (performs put outcome bytes) deeds a b d failed since = record {
  earlier = [];
  put = put;
  outcome = outcome;
  bytes = bytes;
  later = deeds;
  split = refl;
  since = since;
  before = a;
  lives = refl;
  after = b;
  performed = d;
  fails = (if_some (operation_of (plan_in a.numbers) a.cells) (λ it. ((plan_in b.numbers).step ≡ Ended end_failed) ↔ FailsBy it outcome)
      d.comes.operation d.comes.next d.reported.fails).0 failed;
}
deed_fails s (takes_put cell payload) deeds a b d failed since = absurd (put_fails_not cell payload a b d failed)
deed_fails s starts deeds a b d failed since = absurd (heads_not (plan_in b.numbers).step d.begun.begun.first failed)
deed_fails s (is_cut put) deeds a b d failed since = absurd (heads_not (plan_in b.numbers).step d.begun.begun.first failed)

lives_fail : (s : FlashSizes) (deeds : List CallDeed) (a b : CallState) → CallLives s deeds a b → (plan_in b.numbers).step ≡ Ended end_failed
    → (((plan_in a.numbers).step ≡ Ended end_failed) × (starts_in deeds ≡ 0)) ⊎ ReportsFailure s deeds a
lives_fail s [] a b same failed = inl (ap (λ (x : CallState). (plan_in x.numbers).step) (sym same) ∙ failed, refl)
lives_fail s (deed ∷ deeds) a c lives failed = elim (lives_fail s deeds lives.0 c lives.1.1 failed) [
  | inl there ↦ inr (deed_fails s deed deeds a lives.0 lives.1.0 there.0 there.1)
  | inr r ↦ inr (record {
    earlier = deed ∷ r.earlier;
    put = r.put;
    outcome = r.outcome;
    bytes = r.bytes;
    later = r.later;
    split = ap (λ ds. deed ∷ ds) r.split;
    since = r.since;
    before = r.before;
    lives = (lives.0, (lives.1.0, r.lives));
    after = r.after;
    performed = r.performed;
    fails = r.fails;
  })
]

pub call_fails : (s : FlashSizes) (deeds : List CallDeed) (a b : CallState) → CallBegun s a → CallLives s deeds a b
    → (plan_in b.numbers).step ≡ Ended end_failed → ReportsFailure s deeds a
call_fails s deeds a b begun lives failed = elim (lives_fail s deeds a b lives failed) [
  | inl there ↦ absurd (heads_not (plan_in a.numbers).step begun.begun.first there.0)
  | inr r ↦ r
]

-- ---- which banks are read on

abbrev Skips : CallState → Type 0
Skips a = SkipsOlder (plan_in a.numbers).best (plan_in a.numbers).step

begun_skips : (s : FlashSizes) (b : CallState) → CallBegun s b → Skips b
begun_skips s b h = subst (λ (t : PlanStep). SkipsOlder (plan_in b.numbers).best t) (sym h.begun.first) tt

deed_skips : (s : FlashSizes) (deed : CallDeed) (a b : CallState) → DoesCall s deed a b → Skips a → Skips b
deed_skips s (performs put outcome bytes) a b d h = d.reported.skips h
deed_skips s (takes_put cell payload) a b d h =
    let r = ready_step (plan_in a.numbers).step d.taken.idle.step in
    elim (cases_lt r.next a.numbers.places) [
      | inl below ↦ subst (λ (t : PlanStep). SkipsOlder (plan_in b.numbers).best t) (sym (d.taken.programs r.bank r.generation r.next r.is below ∙ r.is)) tt
      | inr above ↦ subst (λ (t : PlanStep). SkipsOlder (plan_in b.numbers).best t) (sym (d.taken.copies r.bank r.generation r.next r.is (omega (arith, above)))) tt
    ]
deed_skips s starts a b d h = begun_skips s b d.begun
deed_skips s (is_cut put) a b d h = begun_skips s b d.begun

lives_skip : (s : FlashSizes) (deeds : List CallDeed) (a b : CallState) → Skips a → CallLives s deeds a b → Skips b
lives_skip s [] a b h same = subst Skips (sym same) h
lives_skip s (deed ∷ deeds) a c h lives = lives_skip s deeds lives.0 c (deed_skips s deed a lives.0 lives.1.0 h) lives.1.1

pub call_skips : (s : FlashSizes) (deeds : List CallDeed) (a b : CallState) → CallBegun s a → CallLives s deeds a b → Skips b
call_skips s deeds a b begun lives = lives_skip s deeds a b (begun_skips s a begun) lives
