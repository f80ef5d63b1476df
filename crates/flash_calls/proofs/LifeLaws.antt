-- The lives of a caller are turns of a plan.
use Rattle.std.proofs.Common.{◌≡◌, ℕ, Option, Some, None, List, [], ◌∷◌, ◌++◌, length, refl, sym, ap, subst, ◌∙◌}
use Rattle.std.proofs.lemmas.Option.{none-some, same_Some}
use Rattle.flash_places.specs.declared.FlashLine.TheVariants.{Entry}
use Rattle.flash_places.specs.Places.{Flash}
use Rattle.flash_laws.specs.CutFormats.{CutFormatted}
use Rattle.flash_laws.specs.Logs.{CellList}
use Rattle.flash_laws.specs.Lives.{FlashLayout, FlashMachine, FlashDeed, off, FlashFormatted, Possible}
use Rattle.flash_log.specs.Going.{machine, Goes}
use Rattle.flash_lines.specs.Lines.{line_length}
use Rattle.flash_plan.specs.declared.operations.Operation.{Operation}
use Rattle.flash_plan.specs.declared.operations.Operation.TheVariants.{Program}
use Rattle.flash_plan.specs.declared.operations.FlashOutcome.{FlashOutcome}
use Rattle.flash_plan.specs.declared.operations.FlashOutcome.TheVariants.{Answered, Done, Failed}
use Rattle.flash_plan.specs.declared.plans.PlanEnd.TheVariants.{NoStore, Formatted}
use Rattle.flash_plan.specs.declared.plans.WaitingPut.{WaitingPut}
use Rattle.flash_plan.specs.declared.plans.PlanStep.{PlanStep}
use Rattle.flash_plan.specs.declared.plans.PlanStep.TheVariants.{Heading, Copied, Puts, Free, Erasing, Copying, Ready, Clearing, Filling, Ended}
use Rattle.flash_plan.specs.declared.plans.FlashPlan.{FlashPlan}
use Rattle.flash_plan.specs.Performing.{DoesOperation, MayBegin}
use Rattle.flash_plan.specs.Plans.{IsIdle, Fails, step_operation, operation_of, put_at, put_in}
use Rattle.flash_plan.specs.Standing.{MovesBy, PlanMovesOn, StandsAt, plan_layout}
use Rattle.flash_plan.specs.Formatting.{FormatStep, FormatsAt}
use Rattle.flash_plan.specs.Turns.{Turn, PlanTurns, deed_in, puts_in}
use Rattle.flash_plan.proofs.CallerLemmas.{step_off, step_may, format_may, broken, if_some, idle_ready, turns_formatted, turns_cut, turns_after, has_store, stays_found}
use Rattle.flash_calls.specs.Numbers.{plan_in}
use Rattle.flash_calls.specs.Operations.{PerformsBytes, Comes}
use Rattle.flash_calls.specs.CallLives.{FlashSizes, sizes_layout, CallState, CallDeed, performs, takes_put, starts, is_cut}
use Rattle.flash_calls.specs.CallLives.{PerformsNext, TakesPut, CallBegun, StartsAgain, IsCutNext, DoesCall, CallLives}
use Rattle.flash_calls.specs.CallLives.{IsFoundStore, program_outcome, call_puts, puts_made, CallFormatBegun, OperationDone, OperationsDone}

-- ---- what a program came to

-- the outcome of a put's program is as its number says
pub put_came : (banks outcome : ℕ) (put : Option WaitingPut) (cells : CellList) (w : WaitingPut) (operation : Operation) (came : FlashOutcome)
    (step : PlanStep) → put_at step put ≡ Some w → step_operation banks step put cells ≡ Some operation → Comes operation outcome came
    → came ≡ program_outcome outcome
put_came banks outcome put cells w operation came (Heading bank) is next comes = absurd (none-some w is)
put_came banks outcome put cells w operation came (Copied bank generation done) is next comes = absurd (none-some w is)
put_came banks outcome put cells w operation came (Puts bank generation place) is next comes = absurd (none-some w is)
put_came banks outcome put cells w operation came (Free bank generation to place) is next comes = absurd (none-some w is)
put_came banks outcome put cells w operation came (Erasing bank generation) is next comes = absurd (none-some w is)
put_came banks outcome put cells w operation came (Copying bank generation done) is next comes = absurd (none-some w is)
put_came banks outcome None cells w operation came (Ready bank generation to) is next comes = absurd (none-some w is)
put_came banks outcome (Some x) cells w operation came (Ready bank generation to) is next comes =
    subst (λ (o : Operation). Comes o outcome came) (sym (same_Some (Program bank to (Entry x.cell x.payload)) operation next)) comes
put_came banks outcome put cells w operation came (Clearing bank) is next comes = absurd (none-some w is)
put_came banks outcome put cells w operation came (Filling done) is next comes = absurd (none-some w is)
put_came banks outcome put cells w operation came (Ended end) is next comes = absurd (none-some w is)

came_deed : (outcome : ℕ) (came : FlashOutcome) (put : Option WaitingPut) → ((w : WaitingPut) → put ≡ Some w → came ≡ program_outcome outcome)
    → deed_in put came ≡ deed_in put (program_outcome outcome)
came_deed outcome came None is = refl
came_deed outcome came (Some w) is = ap (deed_in (Some w)) (is w refl)

-- a put's program that failed counts as cut
program_cut : (bank place : ℕ) (x w : WaitingPut) (outcome : FlashOutcome) → Fails (Program bank place (Entry x.cell x.payload)) outcome
    → deed_in (Some w) outcome ≡ deed_in (Some w) Failed
program_cut bank place x w (Answered answer) fails = refl
program_cut bank place x w Done fails = absurd fails
program_cut bank place x w Failed fails = refl

put_cut : (banks : ℕ) (put : Option WaitingPut) (cells : CellList) (w : WaitingPut) (operation : Operation) (outcome : FlashOutcome)
    (step : PlanStep) → put_at step put ≡ Some w → step_operation banks step put cells ≡ Some operation → Fails operation outcome
    → deed_in (Some w) outcome ≡ deed_in (Some w) Failed
put_cut banks put cells w operation outcome (Heading bank) is next fails = absurd (none-some w is)
put_cut banks put cells w operation outcome (Copied bank generation done) is next fails = absurd (none-some w is)
put_cut banks put cells w operation outcome (Puts bank generation place) is next fails = absurd (none-some w is)
put_cut banks put cells w operation outcome (Free bank generation to place) is next fails = absurd (none-some w is)
put_cut banks put cells w operation outcome (Erasing bank generation) is next fails = absurd (none-some w is)
put_cut banks put cells w operation outcome (Copying bank generation done) is next fails = absurd (none-some w is)
put_cut banks None cells w operation outcome (Ready bank generation to) is next fails = absurd (none-some w is)
put_cut banks (Some x) cells w operation outcome (Ready bank generation to) is next fails =
    program_cut bank to x w outcome
    (subst (λ (o : Operation). Fails o outcome) (sym (same_Some (Program bank to (Entry x.cell x.payload)) operation next)) fails)
put_cut banks put cells w operation outcome (Clearing bank) is next fails = absurd (none-some w is)
put_cut banks put cells w operation outcome (Filling done) is next fails = absurd (none-some w is)
put_cut banks put cells w operation outcome (Ended end) is next fails = absurd (none-some w is)

cut_deed : (outcome : FlashOutcome) (put : Option WaitingPut) → ((w : WaitingPut) → put ≡ Some w → deed_in (Some w) outcome ≡ deed_in (Some w) Failed)
    → deed_in put outcome ≡ deed_in put Failed
cut_deed outcome None is = refl
cut_deed outcome (Some w) is = is w refl

-- ---- where a caller's plan stands

abbrev layout : ℕ → ℕ → FlashLayout
layout banks n = record { banks = banks; cells = n }

same_layout : (banks banks' n n' : ℕ) → banks' ≡ banks → n' ≡ n → layout banks' n' ≡ layout banks n
same_layout banks banks' n n' e h = ap (λ b. layout b n') e ∙ ap (layout banks) h

pub record StandsIn (s : FlashSizes) (a : CallState) (at : FlashMachine) : Type 0 where
  pub banks_is : a.numbers.banks ≡ s.banks
  pub count : length a.cells ≡ s.cells
  pub stands : StandsAt (sizes_layout s) (plan_in a.numbers) a.cells a.scratch at a.flash

-- by the sizes that its own numbers have
own_layout : (s : FlashSizes) (a : CallState) (at : FlashMachine) → StandsIn s a at → plan_layout (plan_in a.numbers) (length a.cells) ≡ sizes_layout s
own_layout s a at h = same_layout s.banks a.numbers.banks s.cells (length a.cells) h.banks_is h.count

own_stands : (s : FlashSizes) (a : CallState) (at : FlashMachine) → StandsIn s a at
    → StandsAt (plan_layout (plan_in a.numbers) (length a.cells)) (plan_in a.numbers) a.cells a.scratch at a.flash
own_stands s a at h = subst (λ (l : FlashLayout). StandsAt l (plan_in a.numbers) a.cells a.scratch at a.flash) (sym (own_layout s a at h)) h.stands

pub begun_stands : (s : FlashSizes) (a : CallState) → CallBegun s a → StandsIn s a (machine a.flash off)
begun_stands s a h = record {
  banks_is = h.begun.banks_is;
  count = h.count;
  stands = subst (λ (l : FlashLayout). StandsAt l (plan_in a.numbers) a.cells a.scratch (machine a.flash off) a.flash)
      (same_layout s.banks a.numbers.banks s.cells s.cells h.begun.banks_is refl) (h.begun.stands a.cells a.scratch a.flash);
}

-- ---- each deed is a turn

pub record DeedTurn (s : FlashSizes) (deed : CallDeed) (from : FlashMachine) (b : CallState) : Type 0 where
  pub turn : Turn
  pub at : FlashMachine
  pub moves : MovesBy (sizes_layout s) turn.put turn.outcome from at
  pub same : deed_in turn.put turn.outcome ≡ call_puts deed
  pub stands : StandsIn s b at

performed : (s : FlashSizes) (put : Option WaitingPut) (outcome : ℕ) (bytes : List ℕ) (a b : CallState) (at : FlashMachine) → StandsIn s a at
    → PerformsNext put outcome bytes a b → DeedTurn s (performs put outcome bytes) at b
performed s put outcome bytes a b at h d =
    let plan : FlashPlan = plan_in a.numbers in
    let came = if_some (operation_of plan a.cells)
    (λ it. PerformsBytes a.numbers.places (line_length a.numbers.unit) it outcome bytes a.flash b.flash
    → (came : FlashOutcome) × (Comes it outcome came × PlanMovesOn (plan_layout plan (length a.cells)) (put_in plan) came
    (plan_in b.numbers) b.cells b.scratch at b.flash))
    d.comes.operation d.comes.next (d.reported.moves at a.flash b.flash (own_stands s a at h)) d.performed in
    let moved : PlanMovesOn (sizes_layout s) (put_in plan) came.0 (plan_in b.numbers) b.cells b.scratch at b.flash =
    subst (λ (l : FlashLayout). PlanMovesOn l (put_in plan) came.0 (plan_in b.numbers) b.cells b.scratch at b.flash)
    (own_layout s a at h) came.1.1 in
    record {
      turn = record { put = put; outcome = came.0 };
      at = moved.at;
      moves = subst (λ (p : Option WaitingPut). MovesBy (sizes_layout s) p came.0 at moved.at) d.comes.put_is moved.moves;
      same = came_deed outcome came.0 put
          (λ w is. put_came plan.banks outcome plan.put a.cells w d.comes.operation came.0 plan.step (d.comes.put_is ∙ is) d.comes.next came.1.0);
      stands = record {
        banks_is = d.reported.banks_is ∙ h.banks_is;
        count = d.reported.count ∙ h.count;
        stands = moved.stands;
      };
    }

took : (s : FlashSizes) (cell : ℕ) (payload : List ℕ) (a b : CallState) (at : FlashMachine) → StandsIn s a at → TakesPut cell payload a b
    → DeedTurn s (takes_put cell payload) at b
took s cell payload a b at h d =
    let stands : StandsAt (sizes_layout s) (plan_in b.numbers) a.cells a.scratch at a.flash =
    subst (λ (l : FlashLayout). StandsAt l (plan_in b.numbers) a.cells a.scratch at a.flash) (own_layout s a at h)
    (d.taken.stands a.scratch at a.flash (own_stands s a at h)) in
    record {
      turn = record { put = None; outcome = Failed };
      at = at;
      moves = record { deeds = []; quiet = tt; lives = refl };
      same = refl;
      stands = record {
        banks_is = d.taken.banks_is ∙ h.banks_is;
        count = ap length d.cells ∙ h.count;
        stands = subst (λ (x : CellList). StandsAt (sizes_layout s) (plan_in b.numbers) x b.scratch at b.flash) (sym d.cells)
            (subst (λ (x : CellList). StandsAt (sizes_layout s) (plan_in b.numbers) a.cells x at b.flash) (sym d.scratch)
            (subst (λ (f : Flash). StandsAt (sizes_layout s) (plan_in b.numbers) a.cells a.scratch at f) (sym d.flash) stands));
      };
    }

started : (s : FlashSizes) (a b : CallState) (at : FlashMachine) → StandsIn s a at → StartsAgain s a b → DeedTurn s starts at b
started s a b at h d =
    let plan : FlashPlan = plan_in a.numbers in
    let goes : Goes (sizes_layout s) at (machine a.flash off) =
    step_off (sizes_layout s) plan.best plan.latest a.cells a.scratch at a.flash plan.step h.stands in
    record {
      turn = record { put = None; outcome = Failed };
      at = machine b.flash off;
      moves = subst (λ (f : Flash). Goes (sizes_layout s) at (machine f off)) (sym d.flash) goes;
      same = refl;
      stands = begun_stands s b d.begun;
    }

cut : (s : FlashSizes) (put : Option WaitingPut) (a b : CallState) (at : FlashMachine) → StandsIn s a at → IsCutNext s put a b
    → DeedTurn s (is_cut put) at b
cut s put a b at h d =
    let plan : FlashPlan = plan_in a.numbers in
    let l : FlashLayout = plan_layout plan (length a.cells) in
    let moves : MovesBy l (put_in plan) d.outcome at (machine b.flash off) =
    if_some (operation_of plan a.cells)
    (λ it. DoesOperation it d.outcome a.flash b.flash → Fails it d.outcome → MovesBy l (put_in plan) d.outcome at (machine b.flash off))
    d.comes.operation d.comes.next
    (broken l plan.best plan.latest a.cells a.scratch at a.flash b.flash d.outcome plan.put plan.step (own_stands s a at h)) d.leaves d.fails in
    record {
      turn = record { put = put; outcome = d.outcome };
      at = machine b.flash off;
      moves = subst (λ (p : Option WaitingPut). MovesBy (sizes_layout s) p d.outcome at (machine b.flash off)) d.comes.put_is
          (subst (λ (m : FlashLayout). MovesBy m (put_in plan) d.outcome at (machine b.flash off)) (own_layout s a at h) moves);
      same = cut_deed d.outcome put
          (λ w is. put_cut plan.banks plan.put a.cells w d.comes.operation d.outcome plan.step (d.comes.put_is ∙ is) d.comes.next d.fails);
      stands = begun_stands s b d.begun;
    }

pub deed_turn : (s : FlashSizes) (deed : CallDeed) (a b : CallState) (at : FlashMachine) → StandsIn s a at → DoesCall s deed a b → DeedTurn s deed at b
deed_turn s (performs put outcome bytes) a b at h d = performed s put outcome bytes a b at h d
deed_turn s (takes_put cell payload) a b at h d = took s cell payload a b at h d
deed_turn s starts a b at h d = started s a b at h d
deed_turn s (is_cut put) a b at h d = cut s put a b at h d

-- ---- and all of them are turns

pub record OnTurns (s : FlashSizes) (deeds : List CallDeed) (from : FlashMachine) (b : CallState) : Type 0 where
  pub turns : List Turn
  pub at : FlashMachine
  pub run : PlanTurns (sizes_layout s) turns from at
  pub same : puts_in turns ≡ puts_made deeds
  pub stands : StandsIn s b at

pub on_turns : (s : FlashSizes) (deeds : List CallDeed) (a b : CallState) (at : FlashMachine) → StandsIn s a at → CallLives s deeds a b
    → OnTurns s deeds at b
on_turns s [] a b at h is = record {
  turns = [];
  at = at;
  run = refl;
  same = refl;
  stands = subst (λ (x : CallState). StandsIn s x at) (sym is) h;
}
on_turns s (deed ∷ deeds) a b at h lives =
    let first = deed_turn s deed a lives.0 at h lives.1.0 in
    let rest = on_turns s deeds lives.0 b first.at first.stands lives.1.1 in
    record {
      turns = first.turn ∷ rest.turns;
      at = rest.at;
      run = (first.at, (first.moves, rest.run));
      same = ap (λ (ds : List FlashDeed). ds ++ puts_in rest.turns) first.same ∙ ap (λ (ds : List FlashDeed). call_puts deed ++ ds) rest.same;
      stands = rest.stands;
    }

-- ---- the laws

pub call_formatted : (s : FlashSizes) (deeds : List CallDeed) (first : CellList) (a b : CallState)
    → FlashFormatted (sizes_layout s) first (machine a.flash off) → CallBegun s a → CallLives s deeds a b → IsIdle (plan_in b.numbers)
    → Possible (puts_made deeds) first b.cells
call_formatted s deeds first a b formatted begun lives idle =
    let t = on_turns s deeds a b (machine a.flash off) (begun_stands s a begun) lives in
    subst (λ (ds : List FlashDeed). Possible ds first b.cells) t.same
    (turns_formatted (sizes_layout s) t.turns first b.cells (machine a.flash off) t.at formatted t.run
    (idle_ready (sizes_layout s) (plan_in b.numbers) b.cells b.scratch t.at b.flash idle.step t.stands.stands))

pub call_cut : (s : FlashSizes) (deeds : List CallDeed) (first : CellList) (a b : CallState)
    → CutFormatted (sizes_layout s) first (machine a.flash off) → CallBegun s a → CallLives s deeds a b → IsIdle (plan_in b.numbers)
    → Possible (puts_made deeds) first b.cells
call_cut s deeds first a b cut begun lives idle =
    let t = on_turns s deeds a b (machine a.flash off) (begun_stands s a begun) lives in
    subst (λ (ds : List FlashDeed). Possible ds first b.cells) t.same
    (turns_cut (sizes_layout s) t.turns first b.cells (machine a.flash off) t.at cut t.run
    (idle_ready (sizes_layout s) (plan_in b.numbers) b.cells b.scratch t.at b.flash idle.step t.stands.stands))

pub call_later : (s : FlashSizes) (deeds : List CallDeed) (first : CellList) (a b : CallState) → IsFoundStore s first a → CallLives s deeds a b
    → IsIdle (plan_in b.numbers) → Possible (puts_made deeds) a.cells b.cells
call_later s deeds first a b found lives idle =
    let e = on_turns s found.deeds found.start a (machine found.start.flash off) (begun_stands s found.start found.begun) found.lives in
    let t = on_turns s deeds a b e.at e.stands lives in
    subst (λ (ds : List FlashDeed). Possible ds a.cells b.cells) t.same
    (turns_after (sizes_layout s) e.turns t.turns first a.cells b.cells (machine found.start.flash off) e.at t.at found.made e.run
    (idle_ready (sizes_layout s) (plan_in a.numbers) a.cells a.scratch e.at a.flash found.idle.step e.stands.stands) t.run
    (idle_ready (sizes_layout s) (plan_in b.numbers) b.cells b.scratch t.at b.flash idle.step t.stands.stands))

-- it stays found
pub call_stays : (s : FlashSizes) (deeds : List CallDeed) (first : CellList) (a b : CallState) → IsFoundStore s first a → CallLives s deeds a b
    → (plan_in b.numbers).step ≡ Ended NoStore → ⊥
call_stays s deeds first a b found lives is =
    let e = on_turns s found.deeds found.start a (machine found.start.flash off) (begun_stands s found.start found.begun) found.lives in
    let t = on_turns s deeds a b e.at e.stands lives in
    stays_found (sizes_layout s) e.turns t.turns first a.cells (machine found.start.flash off) e.at (plan_in b.numbers) b.cells b.scratch t.at b.flash
    found.made e.run (idle_ready (sizes_layout s) (plan_in a.numbers) a.cells a.scratch e.at a.flash found.idle.step e.stands.stands)
    t.run t.stands.stands is

pub call_found : (s : FlashSizes) (deeds : List CallDeed) (first : CellList) (a b : CallState)
    → FlashFormatted (sizes_layout s) first (machine a.flash off) → CallBegun s a → CallLives s deeds a b
    → (plan_in b.numbers).step ≡ Ended NoStore → ⊥
call_found s deeds first a b formatted begun lives is =
    let t = on_turns s deeds a b (machine a.flash off) (begun_stands s a begun) lives in
    has_store (sizes_layout s) t.turns first (machine a.flash off) (plan_in b.numbers) b.cells b.scratch t.at b.flash formatted t.run
    t.stands.stands is

-- ---- a store is made

pub record Formats (s : FlashSizes) (cells : CellList) (a : CallState) : Type 0 where
  pub banks_is : a.numbers.banks ≡ s.banks
  pub count : length a.cells ≡ s.cells
  pub kept : a.cells ≡ cells
  pub formats : FormatsAt (plan_in a.numbers) a.cells a.flash

pub format_goes : (s : FlashSizes) (cells : CellList) (deed : CallDeed) (a b : CallState) → Formats s cells a → OperationDone deed a b → Formats s cells b
format_goes s cells (performs put outcome bytes) a b h d =
    let next = if_some (operation_of (plan_in a.numbers) a.cells)
    (λ it. PerformsBytes a.numbers.places (line_length a.numbers.unit) it outcome bytes a.flash b.flash
    → FormatsAt (plan_in b.numbers) b.cells b.flash × (b.cells ≡ a.cells))
    d.comes.operation d.comes.next (d.reported.formats a.flash b.flash h.formats) d.performed in
    record {
      banks_is = d.reported.banks_is ∙ h.banks_is;
      count = d.reported.count ∙ h.count;
      kept = next.1 ∙ h.kept;
      formats = next.0;
    }
format_goes s cells (takes_put cell payload) a b h d = absurd d
format_goes s cells starts a b h d = absurd d
format_goes s cells (is_cut put) a b h d = absurd d

formats_on : (s : FlashSizes) (cells : CellList) (deeds : List CallDeed) (a b : CallState) → Formats s cells a → OperationsDone deeds a b
    → Formats s cells b
formats_on s cells [] a b h is = subst (λ (x : CallState). Formats s cells x) (sym is) h
formats_on s cells (deed ∷ deeds) a b h all = formats_on s cells deeds all.0 b (format_goes s cells deed a all.0 h all.1.0) all.1.1

pub call_makes : (s : FlashSizes) (deeds : List CallDeed) (a b : CallState) → CallFormatBegun s a → OperationsDone deeds a b
    → (plan_in b.numbers).step ≡ Ended Formatted → FlashFormatted (sizes_layout s) a.cells (machine b.flash off)
call_makes s deeds a b h all is =
    let end = formats_on s a.cells deeds a b
    (record { banks_is = h.begun.banks_is; count = h.count; kept = refl; formats = h.begun.formats a.cells a.flash }) all in
    let made : FlashFormatted (plan_layout (plan_in b.numbers) (length b.cells)) b.cells (machine b.flash off) =
    subst (λ (step : PlanStep). FormatStep (plan_layout (plan_in b.numbers) (length b.cells)) b.cells b.flash step) is end.formats in
    subst (λ (x : CellList). FlashFormatted (sizes_layout s) x (machine b.flash off)) end.kept
    (subst (λ (l : FlashLayout). FlashFormatted l b.cells (machine b.flash off))
    (same_layout s.banks b.numbers.banks s.cells (length b.cells) end.banks_is end.count) made)

-- ---- what is programmed is blank

pub call_blank : (s : FlashSizes) (deeds : List CallDeed) (a b : CallState) (operation : Operation) → CallBegun s a → CallLives s deeds a b
    → operation_of (plan_in b.numbers) b.cells ≡ Some operation → MayBegin operation b.flash
call_blank s deeds a b operation begun lives next =
    let t = on_turns s deeds a b (machine a.flash off) (begun_stands s a begun) lives in
    let plan : FlashPlan = plan_in b.numbers in
    if_some (operation_of plan b.cells) (λ it. MayBegin it b.flash) operation next
    (step_may (plan_layout plan (length b.cells)) plan.best plan.latest b.cells b.scratch t.at b.flash plan.put plan.step
    (own_stands s b t.at t.stands))

pub make_blank : (s : FlashSizes) (deeds : List CallDeed) (a b : CallState) (operation : Operation) → CallFormatBegun s a
    → OperationsDone deeds a b → operation_of (plan_in b.numbers) b.cells ≡ Some operation → MayBegin operation b.flash
make_blank s deeds a b operation h all next =
    let end = formats_on s a.cells deeds a b
    (record { banks_is = h.begun.banks_is; count = h.count; kept = refl; formats = h.begun.formats a.cells a.flash }) all in
    let plan : FlashPlan = plan_in b.numbers in
    if_some (operation_of plan b.cells) (λ it. MayBegin it b.flash) operation next
    (format_may (plan_layout plan (length b.cells)) b.cells b.flash plan.banks plan.put plan.step end.formats)
