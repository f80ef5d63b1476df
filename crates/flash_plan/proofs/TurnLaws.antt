-- What a caller's turns come to.
use Rattle.std.proofs.Common.{◌≡◌, ◌⊎◌, inl, inr, ℕ, Option, Some, None, IfSome, List, [], ◌∷◌, ◌++◌, refl, sym, ap, subst}
use Rattle.flash_places.specs.Places.{Flash}
use Rattle.flash_laws.specs.Logs.{CellList}
use Rattle.flash_laws.specs.Lives.{FlashLayout, FlashMachine, FlashDeed, off, puts, cuts_put, FlashLives, FlashFormatted, IsReadyFlash, Possible}
use Rattle.flash_laws.specs.CutFormats.{CutFormatted, LivesFormatted}
use Rattle.flash_laws.proofs.CallerLemmas.{formatted_lives, later_lives, cut_format_lives, cut_format_found}
use Rattle.flash_log.specs.Going.{machine, ChangesNoCell}
use Rattle.flash_log.proofs.CallerLemmas.{lives_then, possible_split, no_change, store_found}
use Rattle.flash_plan.specs.declared.operations.FlashOutcome.{FlashOutcome}
use Rattle.flash_plan.specs.declared.operations.FlashOutcome.TheVariants.{Answered, Done, Failed}
use Rattle.flash_plan.specs.declared.plans.WaitingPut.{WaitingPut}
use Rattle.flash_plan.specs.declared.plans.PlanStep.{PlanStep}
use Rattle.flash_plan.specs.declared.plans.PlanStep.TheVariants.{Heading, Copied, Puts, Free, Erasing, Copying, Ready, Clearing, Filling, Ended}
use Rattle.flash_plan.specs.declared.plans.PlanEnd.TheVariants.{NoStore}
use Rattle.flash_plan.specs.declared.plans.FlashPlan.{FlashPlan}
use Rattle.flash_plan.specs.declared.operations.Operation.{Operation}
use Rattle.flash_plan.specs.Performing.{Performs, IsWithinFlash}
use Rattle.flash_plan.specs.Plans.{IsIdleStep, put_in}
use Rattle.flash_plan.specs.Standing.{MovesBy, PlanMovesOn, StepAt, StandsAt}
use Rattle.flash_plan.specs.Turns.{Turn, PlanTurns, deed_in, puts_in, IsLived, TurnsTo}

-- deeds that change no cell, before others
possible_quiet : (ds es : List FlashDeed) (a c : CellList) → ChangesNoCell ds → Possible (ds ++ es) a c → Possible es a c
possible_quiet ds es a c quiet p =
    let t = possible_split ds es a c p in
    subst (λ (x : CellList). Possible es x c) (no_change ds a t.0 quiet t.1.0) t.1.1

-- one turn as deeds: what these and more make of the cells, the put and the same more make
record TurnLived (l : FlashLayout) (more : List FlashDeed) (put : Option WaitingPut) (outcome : FlashOutcome) (a b : FlashMachine) : Type 0 where
  deeds : List FlashDeed
  lives : FlashLives l deeds a b
  same : (es : List FlashDeed) (x z : CellList) → Possible (deeds ++ es) x z → Possible (deed_in put outcome ++ es) x z

turn_lived : (l : FlashLayout) (more : List FlashDeed) (put : Option WaitingPut) (outcome : FlashOutcome) (a b : FlashMachine) → MovesBy l put outcome a b → TurnLived l more put outcome a b
turn_lived l more None outcome a b g = record { deeds = g.deeds; lives = g.lives; same = λ es x z p. possible_quiet g.deeds es x z g.quiet p }
turn_lived l more (Some put) (Answered answer) a b d = record { deeds = cuts_put put.cell put.payload ∷ []; lives = (b, (d, refl)); same = λ es x z p. p }
turn_lived l more (Some put) Done a b d = record { deeds = puts put.cell put.payload ∷ []; lives = (b, (d, refl)); same = λ es x z p. p }
turn_lived l more (Some put) Failed a b d = record { deeds = cuts_put put.cell put.payload ∷ []; lives = (b, (d, refl)); same = λ es x z p. p }

possible_deed : (put : Option WaitingPut) (outcome : FlashOutcome) (es fs : List FlashDeed) → ((x z : CellList) → Possible es x z → Possible fs x z)
    → (x z : CellList) → Possible (deed_in put outcome ++ es) x z → Possible (deed_in put outcome ++ fs) x z
possible_deed None outcome es fs h x z p = h x z p
possible_deed (Some put) (Answered answer) es fs h x z p = (p.0, (p.1.0, h p.0 z p.1.1))
possible_deed (Some put) Done es fs h x z p = (p.0, (p.1.0, h p.0 z p.1.1))
possible_deed (Some put) Failed es fs h x z p = (p.0, (p.1.0, h p.0 z p.1.1))

record AllLived (l : FlashLayout) (turns : List Turn) (a b : FlashMachine) : Type 0 where
  deeds : List FlashDeed
  lives : FlashLives l deeds a b
  same : (x z : CellList) → Possible deeds x z → Possible (puts_in turns) x z

all_lived : (l : FlashLayout) (turns : List Turn) (a b : FlashMachine) → PlanTurns l turns a b → AllLived l turns a b
all_lived l [] a b is = record { deeds = []; lives = is; same = λ x z p. p }
all_lived l (turn ∷ turns) a b t =
    let one = turn_lived l [] turn.put turn.outcome a t.0 t.1.0 in
    let rest = all_lived l turns t.0 b t.1.1 in
    record {
      deeds = one.deeds ++ rest.deeds;
      lives = lives_then l one.deeds rest.deeds a t.0 b one.lives rest.lives;
      same = λ x z p. possible_deed turn.put turn.outcome rest.deeds (puts_in turns) rest.same x z (one.same rest.deeds x z p);
    }

pub turns_lived : (l : FlashLayout) (turns : List Turn) (a b : FlashMachine) → PlanTurns l turns a b → IsLived l a b
turns_lived l turns a b t = let all = all_lived l turns a b t in record { deeds = all.deeds; lives = all.lives }

pub turns_formatted : (l : FlashLayout) (turns : List Turn) (cells now : CellList) (a b : FlashMachine) → FlashFormatted l cells a → PlanTurns l turns a b → IsReadyFlash b now
    → Possible (puts_in turns) cells now
turns_formatted l turns cells now a b formatted t is =
    let all = all_lived l turns a b t in all.same cells now (formatted_lives l all.deeds cells now a b formatted all.lives is)

pub turns_cut : (l : FlashLayout) (turns : List Turn) (cells now : CellList) (a b : FlashMachine) → CutFormatted l cells a → PlanTurns l turns a b → IsReadyFlash b now
    → Possible (puts_in turns) cells now
turns_cut l turns cells now a b cut t is =
    let all = all_lived l turns a b t in all.same cells now (cut_format_lives l all.deeds cells now a b cut all.lives is)

pub turns_later : (l : FlashLayout) (earlier turns : List Turn) (first cells now : CellList) (start a b : FlashMachine) → FlashFormatted l first start
    → PlanTurns l earlier start a → IsReadyFlash a cells → PlanTurns l turns a b → IsReadyFlash b now → Possible (puts_in turns) cells now
turns_later l earlier turns first cells now start a b formatted before is t later =
    let old = all_lived l earlier start a before in
    let all = all_lived l turns a b t in
    all.same cells now (later_lives l old.deeds all.deeds first cells now start a b formatted old.lives is all.lives later)

-- after a format, or one whose head was cut
turns_found : (l : FlashLayout) (turns : List Turn) (cells now : CellList) (a b : FlashMachine) → FlashFormatted l cells a ⊎ CutFormatted l cells a → PlanTurns l turns a b
    → IsReadyFlash b now → LivesFormatted l cells b
turns_found l turns cells now a b (inl formatted) t is =
    let all = all_lived l turns a b t in record { start = a; formatted = formatted; deeds = all.deeds; lives = all.lives }
turns_found l turns cells now a b (inr cut) t is =
    let all = all_lived l turns a b t in cut_format_found l all.deeds cells now a b cut all.lives is

pub turns_after : (l : FlashLayout) (earlier turns : List Turn) (first cells now : CellList) (start a b : FlashMachine) → FlashFormatted l first start ⊎ CutFormatted l first start
    → PlanTurns l earlier start a → IsReadyFlash a cells → PlanTurns l turns a b → IsReadyFlash b now → Possible (puts_in turns) cells now
turns_after l earlier turns first cells now start a b made before is t later =
    let old = turns_found l earlier first cells start a made before is in
    let all = all_lived l turns a b t in
    all.same cells now (later_lives l old.deeds all.deeds first cells now old.start a b old.formatted old.lives is all.lives later)

-- an idle plan stands at a store that is ready
idle_step : (l : FlashLayout) (plan : FlashPlan) (cells scratch : CellList) (at : FlashMachine) (f : Flash) (step : PlanStep) → IsIdleStep step
    → StepAt l plan.best plan.latest cells scratch at f step → IsReadyFlash at cells
idle_step l plan cells scratch at f (Heading bank) idle h = absurd idle
idle_step l plan cells scratch at f (Copied bank generation done) idle h = absurd idle
idle_step l plan cells scratch at f (Puts bank generation place) idle h = absurd idle
idle_step l plan cells scratch at f (Free bank generation next place) idle h = absurd idle
idle_step l plan cells scratch at f (Erasing bank generation) idle h = absurd idle
idle_step l plan cells scratch at f (Copying bank generation done) idle h = absurd idle
idle_step l plan cells scratch at f (Ready bank generation next) idle h = record { bank = bank; generation = generation; next = next; is = ap (λ (m : FlashMachine). m.stage) h.is }
idle_step l plan cells scratch at f (Clearing bank) idle h = absurd idle
idle_step l plan cells scratch at f (Filling done) idle h = absurd idle
idle_step l plan cells scratch at f (Ended end) idle h = absurd idle

pub idle_ready : (l : FlashLayout) (plan : FlashPlan) (cells scratch : CellList) (at : FlashMachine) (f : Flash) → IsIdleStep plan.step → StandsAt l plan cells scratch at f
    → IsReadyFlash at cells
idle_ready l plan cells scratch at f idle h = idle_step l plan cells scratch at f plan.step idle h

pub has_store : (l : FlashLayout) (turns : List Turn) (first : CellList) (start : FlashMachine) (plan : FlashPlan) (cells scratch : CellList) (at : FlashMachine) (f : Flash)
    → FlashFormatted l first start → PlanTurns l turns start at → StandsAt l plan cells scratch at f → plan.step ≡ Ended NoStore → ⊥
has_store l turns first start plan cells scratch at f formatted t h is =
    let none = subst (λ (s : PlanStep). StepAt l plan.best plan.latest cells scratch at f s) is h in
    let all = all_lived l turns start at t in
    store_found l all.deeds first start none.first f formatted (subst (λ (m : FlashMachine). FlashLives l all.deeds start m) none.is all.lives) none.reads

pub stays_found : (l : FlashLayout) (earlier turns : List Turn) (first olds : CellList) (start a : FlashMachine) (plan : FlashPlan) (cells scratch : CellList) (at : FlashMachine) (f : Flash)
    → FlashFormatted l first start ⊎ CutFormatted l first start → PlanTurns l earlier start a → IsReadyFlash a olds → PlanTurns l turns a at → StandsAt l plan cells scratch at f
    → plan.step ≡ Ended NoStore → ⊥
stays_found l earlier turns first olds start a plan cells scratch at f made before was t h is =
    let none = subst (λ (s : PlanStep). StepAt l plan.best plan.latest cells scratch at f s) is h in
    let old = turns_found l earlier first olds start a made before was in
    let all = all_lived l turns a at t in
    store_found l (old.deeds ++ all.deeds) first old.start none.first f old.formatted
    (lives_then l old.deeds all.deeds old.start a (machine none.first off) old.lives (subst (λ (m : FlashMachine). FlashLives l all.deeds a m) none.is all.lives)) none.reads

-- ---- one turn more

turns_snoc : (l : FlashLayout) (turns : List Turn) (put : Option WaitingPut) (outcome : FlashOutcome) (a b c : FlashMachine) → PlanTurns l turns a b → MovesBy l put outcome b c
    → PlanTurns l (turns ++ record { put = put; outcome = outcome } ∷ []) a c
turns_snoc l [] put outcome a b c is m = (c, (subst (λ (x : FlashMachine). MovesBy l put outcome x c) is m, refl))
turns_snoc l (turn ∷ turns) put outcome a b c t m = (t.0, (t.1.0, turns_snoc l turns put outcome t.0 b c t.1.1 m))

abbrev layout : ℕ → ℕ → FlashLayout
layout banks n = record { banks = banks; cells = n }

pub stands_as : (banks banks' n n' : ℕ) (plan : FlashPlan) (cells scratch : CellList) (at : FlashMachine) (f : Flash) → banks' ≡ banks → n' ≡ n
    → StandsAt (layout banks n) plan cells scratch at f → StandsAt (layout banks' n') plan cells scratch at f
stands_as banks banks' n n' plan cells scratch at f e h s =
    subst (λ z. StandsAt (layout z n') plan cells scratch at f) (sym e) (subst (λ z. StandsAt (layout banks z) plan cells scratch at f) (sym h) s)

moves_as : (banks banks' n n' : ℕ) (put : Option WaitingPut) (outcome : FlashOutcome) (plan : FlashPlan) (cells scratch : CellList) (at : FlashMachine) (f : Flash) → banks' ≡ banks → n' ≡ n
    → PlanMovesOn (layout banks' n') put outcome plan cells scratch at f → PlanMovesOn (layout banks n) put outcome plan cells scratch at f
moves_as banks banks' n n' put outcome plan cells scratch at f e h m =
    subst (λ z. PlanMovesOn (layout z n) put outcome plan cells scratch at f) e (subst (λ z. PlanMovesOn (layout banks' z) put outcome plan cells scratch at f) h m)

pub if_some : (o : Option Operation) (P : Operation → Type 0) (operation : Operation) → o ≡ Some operation → IfSome o P → P operation
if_some o P operation is h = subst (λ (z : Option Operation). IfSome z P) is h

module _ (banks banks' n n' places : ℕ) (plan new : FlashPlan) (cells scratch now rest : CellList) (f g : Flash) (outcome : FlashOutcome) (o : Option Operation) (operation : Operation)
    (e : banks' ≡ banks) (h : n' ≡ n) (is : o ≡ Some operation) (p : Performs places operation outcome f g)
    (steps : (at : FlashMachine) (f g : Flash) → StandsAt (layout banks' n') plan cells scratch at f
    → IfSome o (λ it. Performs places it outcome f g → PlanMovesOn (layout banks' n') (put_in plan) outcome new now rest at g)) where
  pub turns_more : (from : FlashMachine) → TurnsTo (layout banks n) plan cells scratch from f → TurnsTo (layout banks n) new now rest from g
  turns_more from t =
      let m = moves_as banks banks' n n' (put_in plan) outcome new now rest t.at g e h
      (if_some o (λ it. Performs places it outcome f g → PlanMovesOn (layout banks' n') (put_in plan) outcome new now rest t.at g) operation is
      (steps t.at f g (stands_as banks banks' n n' plan cells scratch t.at f e h t.stands)) p) in
      record {
        turns = t.turns ++ record { put = put_in plan; outcome = outcome } ∷ [];
        at = m.at;
        run = turns_snoc (layout banks n) t.turns (put_in plan) outcome from t.at m.at t.run m.moves;
        stands = m.stands;
      }

pub inside_as : (banks banks' places places' : ℕ) (operation : Operation) → banks' ≡ banks → places' ≡ places → IsWithinFlash banks' places' operation → IsWithinFlash banks places operation
inside_as banks banks' places places' operation e h i = subst (λ z. IsWithinFlash z places operation) e (subst (λ z. IsWithinFlash banks' z operation) h i)
