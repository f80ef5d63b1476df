-- What heads tell over all lives.
use Rattle.std.proofs.Common.{◌≡◌, ◌≢◌, ◌⊎◌, inl, inr, ℕ, suc, ◌<◌, Bool, true, false, nat_eq, if◌then◌else◌, Option, Some, None, List, [], ◌∷◌, length, take, refl, sym, ap, subst, ◌∙◌, arith}
use Rattle.std.proofs.lemmas.Bool.{cases_Bool, cases_eq, cases_lt, eqb-true, eqb-false}
use Rattle.std.proofs.lemmas.Option.{none-some, same_Some}
use Rattle.flash_places.specs.declared.FlashLine.{FlashLine}
use Rattle.flash_places.specs.declared.FlashLine.TheVariants.{Head, Entry}
use Rattle.flash_places.specs.Places.{FlashPlace, Flash, Looks, SameFlash, SameButAt, Erases, CutsErase, blank_place}
use Rattle.flash_laws.specs.Logs.{CellList}
use Rattle.flash_laws.specs.Lives.{FlashFormatted, off}
use Rattle.flash_log.specs.Going.{machine}
use Rattle.flash_log.specs.declared.scanning.Best.{Best}
use Rattle.flash_lines.specs.declared.units.UnitSize.{UnitSize}
use Rattle.flash_lines.specs.declared.units.UnitSize.TheVariants.{Bytes8, Bytes16, Bytes32, Bytes64, Bytes128}
use Rattle.flash_lines.specs.declared.sizes.FlashSizes.{FlashSizes}
use Rattle.flash_lines.specs.Units.{unit_bytes}
use Rattle.flash_lines.specs.Lines.{line_length, untold, HoldsLine, TellsSizes}
use Rattle.flash_lines.specs.Reading.{PlaceReads}
use Rattle.flash_plan.specs.declared.operations.Operation.{Operation}
use Rattle.flash_plan.specs.declared.operations.Operation.TheVariants.{Read, Erase, Program}
use Rattle.flash_plan.specs.declared.operations.FlashOutcome.{FlashOutcome}
use Rattle.flash_plan.specs.declared.operations.FlashOutcome.TheVariants.{Answered, Done, Failed}
use Rattle.flash_plan.specs.declared.plans.WaitingPut.{WaitingPut}
use Rattle.flash_plan.specs.declared.plans.PlanEnd.{PlanEnd}
use Rattle.flash_plan.specs.declared.plans.PlanEnd.TheVariants.{NoStore, Exhausted, Formatted, Failed as end_failed, OtherSizes}
use Rattle.flash_plan.specs.declared.plans.PlanStep.{PlanStep}
use Rattle.flash_plan.specs.declared.plans.PlanStep.TheVariants.{Heading, Copied, Puts, Free, Erasing, Copying, Ready, Clearing, Filling, Ended}
use Rattle.flash_plan.specs.Performing.{DoesOperation}
use Rattle.flash_plan.specs.Formatting.{FormatStep, FormatsAt}
use Rattle.flash_plan.specs.Standing.{plan_layout}
use Rattle.flash_plan.specs.Plans.{Fails, IsIdle, IsIdleStep, StepFits, HeadsAlone, FindsNothing, step_operation, operation_of}
use Rattle.flash_plan.proofs.CallerLemmas.{if_some}
use Rattle.flash_calls.specs.declared.numbers.FlashNumbers.{FlashNumbers}
use Rattle.flash_calls.specs.Numbers.{plan_in, sizes_in, head_sizes}
use Rattle.flash_calls.specs.Operations.{IsProgramUnit, GaveRead, DoesBytes, PerformsBytes, ReadsHead, IsOtherSize}
use Rattle.flash_calls.specs.declared.calls.FlashRefusal.TheVariants.{NoStore as no_store}
use Rattle.flash_calls.specs.Calls.{TakesHead, refusal_of}
use Rattle.flash_calls.specs.CallLives.{ToldHeads, heads_after, KeepsHeads, SameHeads, CallState, CallDeed, performs, takes_put, starts, is_cut}
use Rattle.flash_calls.specs.CallLives.{CallFormatBegun, OperationDone, OperationsDone}
use Rattle.flash_calls.specs.CallLives.{PerformsNext, TakesPut, CallBegun, StartsAgain, IsCutNext, DoesCall, CallLives, EachHeadTells, TellsOwn, TellsOwnOrNone}
use Rattle.flash_calls.proofs.LifeLaws.{Formats, format_goes}
use Rattle.flash_calls.proofs.MoveLaws.{AtHead, heads_next, read_reads, format_keeps}
use Rattle.flash_calls.proofs.WearLives.{ready_step}

-- ---- where a head comes from

-- a place that has this head had it before
abbrev HadHead : ℕ → FlashPlace → FlashPlace → Type 0
HadHead generation p q = q.content ≡ Some (Head generation) → p.content ≡ Some (Head generation)

head_judged : (content : Option FlashLine) (generation : ℕ) → (content ≡ Some (Head generation)) ⊎ (content ≡ Some (Head generation) → ⊥)
head_judged None generation = inr (λ e. none-some _ e)
head_judged (Some (Entry cell payload)) generation = inr (λ e. absurd (let l = same_Some _ _ e in cc))
head_judged (Some (Head g)) generation = elim (cases_eq g generation) [
  | inl is ↦ inl (ap (λ k. Some (Head k)) is)
  | inr ne ↦ inr (λ e. ne (let l = same_Some _ _ e in cc))
]

reads_head : (p q : FlashPlace) (bytes : List ℕ) (generation : ℕ) → PlaceReads p bytes q → HadHead generation p q
reads_head p q bytes generation reads now = elim (head_judged p.content generation) [
  | inl had ↦ had
  | inr hadnt ↦
      let none = λ (line : FlashLine) (h : HoldsLine bytes line).
      hadnt (reads.not_forged line h ∙ ap (λ (r : FlashPlace). r.content) (sym (reads.settled line h)) ∙ now) in
      ap (λ (r : FlashPlace). r.content) (sym (reads.same none)) ∙ now
]

looks_head : (p q : FlashPlace) (answer : Option FlashLine) (generation : ℕ) → Looks p answer q → HadHead generation p q
looks_head p q answer generation (Looks.sees line content is after) now = content ∙ ap (λ (r : FlashPlace). r.content) (sym after) ∙ now
looks_head p q answer generation (Looks.sees_nothing why none same) now = ap (λ (r : FlashPlace). r.content) (sym same) ∙ now

same_place : (p q : FlashPlace) (generation : ℕ) → q ≡ p → HadHead generation p q
same_place p q generation same now = ap (λ (r : FlashPlace). r.content) (sym same) ∙ now

but_at : (bank at : ℕ) (f g : Flash) (generation : ℕ) → SameButAt bank at f g → HadHead generation (f bank at) (g bank at) → (x : ℕ)
    → HadHead generation (f x 0) (g x 0)
but_at bank at f g generation same here x = elim (cases_eq x bank) [
  | inl is ↦ subst (λ z. HadHead generation (f z 0) (g z 0)) (sym is) (elim (cases_eq 0 at) [
    | inl first ↦ subst (λ k. HadHead generation (f bank k) (g bank k)) (sym first) here
    | inr later ↦ same_place (f bank 0) (g bank 0) generation (same.rest 0 later)
  ])
  | inr other ↦ same_place (f x 0) (g x 0) generation (same.others x other 0)
]

read_stays : (bank place outcome : ℕ) (bytes : List ℕ) (f g : Flash) → GaveRead bank place outcome bytes f g → (x generation : ℕ)
    → HadHead generation (f x 0) (g x 0)
read_stays bank place outcome bytes f g (GaveRead.gave_bytes is reads same) x generation =
    but_at bank place f g generation same (reads_head (f bank place) (g bank place) bytes generation reads) x
read_stays bank place outcome bytes f g (GaveRead.gave_blank is at) x generation =
    but_at bank place f g generation at.same (looks_head (f bank place) (g bank place) _ generation at.looks) x
read_stays bank place outcome bytes f g (GaveRead.gave_nothing is at) x generation =
    but_at bank place f g generation at.same (looks_head (f bank place) (g bank place) _ generation at.looks) x
read_stays bank place outcome bytes f g (GaveRead.gave_failure is same) x generation = same_place (f x 0) (g x 0) generation (same x 0)

erase_stays : (bank : ℕ) (f g : Flash) → Erases bank f g → (x generation : ℕ) → HadHead generation (f x 0) (g x 0)
erase_stays bank f g erases x generation = elim (cases_eq x bank) [
  | inl is ↦ λ now. absurd (none-some (Head generation)
      (ap (λ (r : FlashPlace). r.content) (sym (subst (λ z. g z 0 ≡ blank_place) (sym is) (erases.erased 0))) ∙ now))
  | inr other ↦ same_place (f x 0) (g x 0) generation (erases.others x other 0)
]

cut_stays : (bank : ℕ) (f g : Flash) → CutsErase bank f g → (x generation : ℕ) → HadHead generation (f x 0) (g x 0)
cut_stays bank f g cuts x generation = elim (cases_eq x bank) [
  | inl is ↦ subst (λ z. HadHead generation (f z 0) (g z 0)) (sym is) (elim (cuts.left 0) [
    | inl same ↦ λ now. sym same ∙ now
    | inr none ↦ λ now. absurd (none-some (Head generation) (sym none ∙ now))
  ])
  | inr other ↦ same_place (f x 0) (g x 0) generation (cuts.others x other 0)
]

-- a head was there, and tells what it told, or was programmed, and tells this
abbrev HeadsFrom : FlashSizes → Operation → ToldHeads → Flash → Flash → Type 0
HeadsFrom told it heads f g = (x generation : ℕ) → (g x 0).content ≡ Some (Head generation)
    → (((f x 0).content ≡ Some (Head generation)) × (heads_after told it heads x ≡ heads x)) ⊎ (heads_after told it heads x ≡ told)

programs_from : (told : FlashSizes) (bank place : ℕ) (line : FlashLine) (heads : ToldHeads) (f g : Flash) → SameButAt bank place f g
    → HeadsFrom told (Program bank place line) heads f g
programs_from told bank place line heads f g same x generation now = elim (cases_Bool (nat_eq place 0)) [
  | inl zero ↦ elim (cases_Bool (nat_eq bank x)) [
    | inl here ↦ inr (ap (λ (b : Bool). if b then (if nat_eq bank x then told else heads x) else heads x) zero
        ∙ ap (λ (b : Bool). if b then told else heads x) here)
    | inr there ↦ inl (
      same_place (f x 0) (g x 0) generation (same.others x (λ e. eqb-false bank x there (sym e)) 0) now,
      ap (λ (b : Bool). if b then (if nat_eq bank x then told else heads x) else heads x) zero
          ∙ ap (λ (b : Bool). if b then told else heads x) there,
    )
  ]
  | inr later ↦ inl (
    elim (cases_eq x bank) [
      | inl is ↦ subst (λ z. HadHead generation (f z 0) (g z 0)) (sym is)
          (same_place (f bank 0) (g bank 0) generation (same.rest 0 (λ e. eqb-false place 0 later (sym e)))) now
      | inr other ↦ same_place (f x 0) (g x 0) generation (same.others x other 0) now
    ],
    ap (λ (b : Bool). if b then (if nat_eq bank x then told else heads x) else heads x) later,
  )
]

bytes_from : (told : FlashSizes) (it : Operation) (heads : ToldHeads) (outcome : ℕ) (bytes : List ℕ) (f g : Flash) → DoesBytes it outcome bytes f g
    → HeadsFrom told it heads f g
bytes_from told (Read bank place) heads outcome bytes f g does x generation now =
    inl (read_stays bank place outcome bytes f g does x generation now, refl)
bytes_from told (Erase bank) heads outcome bytes f g does x generation now = elim does [
  | inl done ↦ inl (erase_stays bank f g done.1 x generation now, refl)
  | inr cut ↦ inl (cut_stays bank f g cut.1 x generation now, refl)
]
bytes_from told (Program bank place line) heads outcome bytes f g does x generation now = elim does [
  | inl done ↦ programs_from told bank place line heads f g done.1.same x generation now
  | inr cut ↦ programs_from told bank place line heads f g cut.1.same x generation now
]

does_from : (told : FlashSizes) (it : Operation) (heads : ToldHeads) (outcome : FlashOutcome) (f g : Flash) → DoesOperation it outcome f g
    → HeadsFrom told it heads f g
does_from told (Read bank place) heads (Answered answer) f g does x generation now =
    inl (but_at bank place f g generation does.same (looks_head (f bank place) (g bank place) _ generation does.looks) x now, refl)
does_from told (Read bank place) heads Done f g does x generation now = inl (same_place (f x 0) (g x 0) generation (does x 0) now, refl)
does_from told (Read bank place) heads Failed f g does x generation now = inl (same_place (f x 0) (g x 0) generation (does x 0) now, refl)
does_from told (Erase bank) heads (Answered answer) f g does x generation now = inl (cut_stays bank f g does x generation now, refl)
does_from told (Erase bank) heads Done f g does x generation now = inl (erase_stays bank f g does x generation now, refl)
does_from told (Erase bank) heads Failed f g does x generation now = inl (cut_stays bank f g does x generation now, refl)
does_from told (Program bank place line) heads (Answered answer) f g does x generation now =
    programs_from told bank place line heads f g does.same x generation now
does_from told (Program bank place line) heads Done f g does x generation now =
    programs_from told bank place line heads f g does.same x generation now
does_from told (Program bank place line) heads Failed f g does x generation now =
    programs_from told bank place line heads f g does.same x generation now

-- ---- what each head tells

-- what a head tells that is programmed, and what each head told
pub tells_on : (s : FlashSizes) (P : FlashSizes → Type 0) (a b : CallState) (it : Operation) → P (head_sizes a.numbers) → EachHeadTells s P a
    → KeepsHeads a.numbers it a.heads b.heads → HeadsFrom (head_sizes a.numbers) it a.heads a.flash b.flash → EachHeadTells s P b
tells_on s P a b it programmed tell keeps from bank generation inside now = elim (from bank generation now) [
  | inl had ↦ subst P (sym (keeps bank ∙ had.1)) (tell bank generation inside had.0)
  | inr new ↦ subst P (sym (keeps bank ∙ new)) programmed
]

tells_same : (s : FlashSizes) (P : FlashSizes → Type 0) (a b : CallState) → EachHeadTells s P a → b.flash ≡ a.flash → SameHeads a.heads b.heads → EachHeadTells s P b
tells_same s P a b tell flash heads bank generation inside now =
    subst P (sym (heads bank)) (tell bank generation inside (subst (λ (f : Flash). (f bank 0).content ≡ Some (Head generation)) flash now))

-- a head that was read stands there
pub record StandsThere (f : Flash) (bank : ℕ) : Type 0 where
  pub generation : ℕ
  pub there : (f bank 0).content ≡ Some (Head generation)

gave_there : (bank outcome : ℕ) (bytes : List ℕ) (told : FlashSizes) (f g : Flash) → outcome ≡ 0 → TellsSizes bytes told
    → GaveRead bank 0 outcome bytes f g → StandsThere f bank
gave_there bank outcome bytes told f g zero tells (GaveRead.gave_bytes is reads same) = record {
  generation = tells.generation;
  there = reads.not_forged (Head tells.generation)
      (record { is_line = tells.is_head; told = told; sized = tells.sized; bytes_are = tells.bytes_are });
}
gave_there bank outcome bytes told f g zero tells (GaveRead.gave_blank is at) = absurd (omega (arith, zero, is))
gave_there bank outcome bytes told f g zero tells (GaveRead.gave_nothing is at) = absurd (omega (arith, zero, is))
gave_there bank outcome bytes told f g zero tells (GaveRead.gave_failure is same) = absurd (omega (arith, zero, is))

-- what each head tells, one that was read tells
read_tells : (s : FlashSizes) (P : FlashSizes → Type 0) (a b : CallState) (it : Operation) (places size outcome : ℕ) (bytes : List ℕ) (told : FlashSizes)
    → EachHeadTells s P a → PerformsBytes places size it outcome bytes a.flash b.flash → (r : ReadsHead it outcome (take size bytes) told)
    → told ≡ a.heads r.bank → r.bank < s.banks → P told
read_tells s P a b it places size outcome bytes told tell performed r is inside =
    let at = gave_there r.bank outcome (take size bytes) told a.flash b.flash r.done r.tells
    (subst (λ (o : Operation). DoesBytes o outcome (take size bytes) a.flash b.flash) r.is performed.does) in
    subst P (sym is) (tell r.bank at.generation inside at.there)

-- what an operation that was reported does to the plan, by the head that it read
taken_head : (put : Option WaitingPut) (outcome : ℕ) (bytes : List ℕ) (a b : CallState) (d : PerformsNext put outcome bytes a b)
    → TakesHead outcome (take (line_length a.numbers.unit) bytes) a.numbers d.comes.operation b.numbers
taken_head put outcome bytes a b d =
    if_some (operation_of (plan_in a.numbers) a.cells) (λ it. TakesHead outcome (take (line_length a.numbers.unit) bytes) a.numbers it b.numbers)
    d.comes.operation d.comes.next d.reported.head

-- a read is of a bank of the part
read_inside : (banks places n : ℕ) (put : Option WaitingPut) (cells : CellList) (bank place : ℕ) (step : PlanStep)
    → StepFits banks places n step put → step_operation banks step put cells ≡ Some (Read bank place) → bank < banks
read_inside banks places n put cells bank place (Heading b) fits next = subst (λ k. k < banks) (let e = same_Some _ _ next in cc) fits.0
read_inside banks places n put cells bank place (Copied b generation done) fits next = subst (λ k. k < banks) (let e = same_Some _ _ next in cc) fits.0
read_inside banks places n put cells bank place (Puts b generation at) fits next = subst (λ k. k < banks) (let e = same_Some _ _ next in cc) fits.0
read_inside banks places n put cells bank place (Free b generation to at) fits next = subst (λ k. k < banks) (let e = same_Some _ _ next in cc) fits.0
read_inside banks places n put cells bank place (Erasing b generation) fits next = absurd (read_reads banks put cells bank place (Erasing b generation) next).0
read_inside banks places n put cells bank place (Copying b generation done) fits next =
    absurd (read_reads banks put cells bank place (Copying b generation done) next).0
read_inside banks places n put cells bank place (Ready b generation to) fits next =
    absurd (read_reads banks put cells bank place (Ready b generation to) next).0
read_inside banks places n put cells bank place (Clearing b) fits next = absurd (read_reads banks put cells bank place (Clearing b) next).0
read_inside banks places n put cells bank place (Filling done) fits next = absurd (read_reads banks put cells bank place (Filling done) next).0
read_inside banks places n put cells bank place (Ended end) fits next = absurd (read_reads banks put cells bank place (Ended end) next).0

reads_inside : (s : FlashSizes) (put : Option WaitingPut) (outcome : ℕ) (bytes : List ℕ) (a b : CallState) (told : FlashSizes)
    → sizes_in a.numbers ≡ s → (d : PerformsNext put outcome bytes a b)
    → (r : ReadsHead d.comes.operation outcome (take (line_length a.numbers.unit) bytes) told) → r.bank < s.banks
reads_inside s put outcome bytes a b told sizes d r =
    subst (λ k. r.bank < k) (ap (λ (z : FlashSizes). z.banks) sizes)
    (read_inside (plan_in a.numbers).banks (plan_in a.numbers).places (length a.cells) (plan_in a.numbers).put a.cells r.bank 0
    (plan_in a.numbers).step d.reported.was.plan.step (d.comes.next ∙ ap Some r.is))

-- a put ends no plan
put_goes : (cell : ℕ) (payload : List ℕ) (a b : CallState) → TakesPut cell payload a b → (plan_in b.numbers).step ≡ Ended OtherSizes → ⊥
put_goes cell payload a b d ended =
    let r = ready_step (plan_in a.numbers).step d.taken.idle.step in
    elim (cases_lt r.next a.numbers.places) [
      | inl below ↦ absurd (let e = sym (d.taken.programs r.bank r.generation r.next r.is below ∙ r.is) ∙ ended in cc)
      | inr above ↦ absurd (let e = sym (d.taken.copies r.bank r.generation r.next r.is (omega (arith, above))) ∙ ended in cc)
    ]

first_goes : (step : PlanStep) → step ≡ Heading 0 → step ≡ Ended OtherSizes → ⊥
first_goes step first ended = absurd (let e = sym first ∙ ended in cc)

-- ---- no false alarm

own_or_none : (s : FlashSizes) (n : FlashNumbers) → sizes_in n ≡ s → TellsOwnOrNone s (head_sizes n)
own_or_none s n is = elim (cases_Bool (nat_eq n.is_untold 0)) [
  | inl tells ↦ inl (ap (λ (b : Bool). if b then sizes_in n else untold) tells ∙ is)
  | inr silent ↦ inr (ap (λ (b : Bool). if b then sizes_in n else untold) silent)
]

record OfOwn (s : FlashSizes) (a : CallState) : Type 0 where
  sizes : sizes_in a.numbers ≡ s
  tell : EachHeadTells s (TellsOwnOrNone s) a
  goes : (plan_in a.numbers).step ≡ Ended OtherSizes → ⊥

own_deed : (s : FlashSizes) (deed : CallDeed) (a b : CallState) → OfOwn s a → DoesCall s deed a b → OfOwn s b
own_deed s (performs put outcome bytes) a b h d = record {
  sizes = d.reported.sizes_are ∙ h.sizes;
  tell = tells_on s (TellsOwnOrNone s) a b d.comes.operation (own_or_none s a.numbers h.sizes) h.tell d.heads
      (bytes_from (head_sizes a.numbers) d.comes.operation a.heads outcome (take (line_length a.numbers.unit) bytes) a.flash b.flash d.performed.does);
  goes = λ ended.
      let r = (taken_head put outcome bytes a b d).other.0 ended in
      let own = read_tells s (TellsOwnOrNone s) a b d.comes.operation a.numbers.places (line_length a.numbers.unit) outcome bytes r.told h.tell d.performed r.reads
      (d.told r.told r.reads) (reads_inside s put outcome bytes a b r.told h.sizes d r.reads) in
      elim own [
        | inl is ↦ r.other.1 (is ∙ sym h.sizes)
        | inr none ↦ r.other.0 none
      ];
}
own_deed s (takes_put cell payload) a b h d = record {
  sizes = d.taken.sizes_are ∙ h.sizes;
  tell = tells_same s (TellsOwnOrNone s) a b h.tell d.flash d.heads;
  goes = put_goes cell payload a b d;
}
own_deed s starts a b h d = record {
  sizes = d.begun.begun.sizes_are;
  tell = tells_same s (TellsOwnOrNone s) a b h.tell d.flash d.heads;
  goes = first_goes (plan_in b.numbers).step d.begun.begun.first;
}
own_deed s (is_cut put) a b h d = record {
  sizes = d.begun.begun.sizes_are;
  tell = tells_on s (TellsOwnOrNone s) a b d.comes.operation (own_or_none s a.numbers h.sizes) h.tell d.heads
      (does_from (head_sizes a.numbers) d.comes.operation a.heads d.outcome a.flash b.flash d.leaves);
  goes = first_goes (plan_in b.numbers).step d.begun.begun.first;
}

own_lives : (s : FlashSizes) (deeds : List CallDeed) (a b : CallState) → OfOwn s a → CallLives s deeds a b → OfOwn s b
own_lives s [] a b h same = subst (λ (x : CallState). OfOwn s x) (sym same) h
own_lives s (deed ∷ deeds) a c h lives = own_lives s deeds lives.0 c (own_deed s deed a lives.0 h lives.1.0) lives.1.1

pub own_is_kept : (s : FlashSizes) (deeds : List CallDeed) (a b : CallState) → CallBegun s a → EachHeadTells s (TellsOwnOrNone s) a
    → CallLives s deeds a b → ((plan_in b.numbers).step ≡ Ended OtherSizes → ⊥) × EachHeadTells s (TellsOwnOrNone s) b
own_is_kept s deeds a b begun tell lives =
    let h = own_lives s deeds a b
    (record { sizes = begun.begun.sizes_are; tell = tell; goes = first_goes (plan_in a.numbers).step begun.begun.first }) lives in
    (h.goes, h.tell)

-- ---- a store goes on telling its sizes

unit_is_some : (size : UnitSize) → unit_bytes size ≡ 0 → ⊥
unit_is_some Bytes8 e = absurd (omega (arith, e))
unit_is_some Bytes16 e = absurd (omega (arith, e))
unit_is_some Bytes32 e = absurd (omega (arith, e))
unit_is_some Bytes64 e = absurd (omega (arith, e))
unit_is_some Bytes128 e = absurd (omega (arith, e))

sizes_are_some : (s : FlashSizes) → IsProgramUnit s.unit → s ≡ untold → ⊥
sizes_are_some s unit e = unit_is_some unit.0 (unit.1 ∙ ap (λ (z : FlashSizes). z.unit) e)

head_is_own : (s : FlashSizes) (n : FlashNumbers) → sizes_in n ≡ s → n.is_untold ≡ 0 → head_sizes n ≡ s
head_is_own s n is tells = ap (λ k. if nat_eq k 0 then sizes_in n else untold) tells ∙ is

record Telling (s : FlashSizes) (a : CallState) : Type 0 where
  sizes : sizes_in a.numbers ≡ s
  noted : a.numbers.is_untold ≡ 0
  tell : EachHeadTells s (TellsOwn s) a

telling_deed : (s : FlashSizes) (deed : CallDeed) (a b : CallState) → (s ≡ untold → ⊥) → Telling s a → DoesCall s deed a b → Telling s b
telling_deed s (performs put outcome bytes) a b real h d = record {
  sizes = d.reported.sizes_are ∙ h.sizes;
  noted = (taken_head put outcome bytes a b d).kept
      (λ r. real (sym (read_tells s (TellsOwn s) a b d.comes.operation a.numbers.places (line_length a.numbers.unit) outcome bytes untold h.tell d.performed r
      (d.told untold r) (reads_inside s put outcome bytes a b untold h.sizes d r)))) ∙ h.noted;
  tell = tells_on s (TellsOwn s) a b d.comes.operation (head_is_own s a.numbers h.sizes h.noted) h.tell d.heads
      (bytes_from (head_sizes a.numbers) d.comes.operation a.heads outcome (take (line_length a.numbers.unit) bytes) a.flash b.flash d.performed.does);
}
telling_deed s (takes_put cell payload) a b real h d = record {
  sizes = d.taken.sizes_are ∙ h.sizes;
  noted = d.taken.tells ∙ h.noted;
  tell = tells_same s (TellsOwn s) a b h.tell d.flash d.heads;
}
telling_deed s starts a b real h d = record {
  sizes = d.begun.begun.sizes_are;
  noted = d.begun.begun.tells;
  tell = tells_same s (TellsOwn s) a b h.tell d.flash d.heads;
}
telling_deed s (is_cut put) a b real h d = record {
  sizes = d.begun.begun.sizes_are;
  noted = d.begun.begun.tells;
  tell = tells_on s (TellsOwn s) a b d.comes.operation (head_is_own s a.numbers h.sizes h.noted) h.tell d.heads
      (does_from (head_sizes a.numbers) d.comes.operation a.heads d.outcome a.flash b.flash d.leaves);
}

telling_lives : (s : FlashSizes) (deeds : List CallDeed) (a b : CallState) → (s ≡ untold → ⊥) → Telling s a → CallLives s deeds a b → Telling s b
telling_lives s [] a b real h same = subst (λ (x : CallState). Telling s x) (sym same) h
telling_lives s (deed ∷ deeds) a c real h lives = telling_lives s deeds lives.0 c real (telling_deed s deed a lives.0 real h lives.1.0) lives.1.1

pub telling_is_kept : (s : FlashSizes) (deeds : List CallDeed) (a b : CallState) → CallBegun s a → EachHeadTells s (TellsOwn s) a
    → CallLives s deeds a b → EachHeadTells s (TellsOwn s) b
telling_is_kept s deeds a b begun tell lives =
    (telling_lives s deeds a b (sizes_are_some s begun.begun.fits.unit_is)
    (record { sizes = begun.begun.sizes_are; noted = begun.begun.tells; tell = tell }) lives).tell

-- ---- a store of other sizes is never found

idle_finds : (best : Best) (step : PlanStep) → IsIdleStep step → HeadsAlone best step → ⊥
idle_finds best (Heading bank) idle h = idle
idle_finds best (Copied bank generation done) idle h = idle
idle_finds best (Puts bank generation place) idle h = idle
idle_finds best (Free bank generation next place) idle h = idle
idle_finds best (Erasing bank generation) idle h = idle
idle_finds best (Copying bank generation done) idle h = idle
idle_finds best (Ready bank generation next) idle h = h
idle_finds best (Clearing bank) idle h = idle
idle_finds best (Filling done) idle h = idle
idle_finds best (Ended end) idle h = idle

record OfOther (s : FlashSizes) (a : CallState) : Type 0 where
  sizes : sizes_in a.numbers ≡ s
  tell : EachHeadTells s (IsOtherSize s) a
  nothing : FindsNothing (plan_in a.numbers)

head_next : (s : FlashSizes) (a : CallState) (it : Operation) → OfOther s a → operation_of (plan_in a.numbers) a.cells ≡ Some it
    → AtHead (plan_in a.numbers).step it
head_next s a it h next =
    (heads_next (plan_in a.numbers).banks (plan_in a.numbers).put a.cells it (plan_in a.numbers).best (plan_in a.numbers).step h.nothing next).0

-- a read changes no head
other_tells : (s : FlashSizes) (a b : CallState) (bank : ℕ) (it : Operation) → it ≡ Read bank 0 → EachHeadTells s (IsOtherSize s) a
    → KeepsHeads a.numbers it a.heads b.heads → ((x generation : ℕ) → HadHead generation (a.flash x 0) (b.flash x 0))
    → EachHeadTells s (IsOtherSize s) b
other_tells s a b bank it is tell keeps had x generation inside now =
    subst (IsOtherSize s) (sym (subst (λ (o : Operation). b.heads x ≡ heads_after (head_sizes a.numbers) o a.heads x) is (keeps x)))
    (tell x generation inside (had x generation now))

fails_same : (bank : ℕ) (outcome : FlashOutcome) (f g : Flash) → Fails (Read bank 0) outcome → DoesOperation (Read bank 0) outcome f g → SameFlash f g
fails_same bank (Answered answer) f g fails does = absurd fails
fails_same bank Done f g fails does = does
fails_same bank Failed f g fails does = does

other_deed : (s : FlashSizes) (deed : CallDeed) (a b : CallState) → OfOther s a → DoesCall s deed a b → OfOther s b
other_deed s (performs put outcome bytes) a b h d =
    let at = head_next s a d.comes.operation h d.comes.next in
    let line = take (line_length a.numbers.unit) bytes in
    record {
      sizes = d.reported.sizes_are ∙ h.sizes;
      tell = other_tells s a b at.bank d.comes.operation at.reads h.tell d.heads
          (λ x generation. read_stays at.bank 0 outcome line a.flash b.flash
          (subst (λ (o : Operation). DoesBytes o outcome line a.flash b.flash) at.reads d.performed.does) x generation);
      nothing = (taken_head put outcome bytes a b d).nothing h.nothing (λ told r.
          subst (λ (z : FlashSizes). IsOtherSize z told) (sym h.sizes)
          (read_tells s (IsOtherSize s) a b d.comes.operation a.numbers.places (line_length a.numbers.unit) outcome bytes told h.tell d.performed r
          (d.told told r) (reads_inside s put outcome bytes a b told h.sizes d r)));
    }
other_deed s (takes_put cell payload) a b h d =
    absurd (idle_finds (plan_in a.numbers).best (plan_in a.numbers).step d.taken.idle.step h.nothing)
other_deed s starts a b h d = record {
  sizes = d.begun.begun.sizes_are;
  tell = tells_same s (IsOtherSize s) a b h.tell d.flash d.heads;
  nothing = d.begun.begun.nothing;
}
other_deed s (is_cut put) a b h d =
    let at = head_next s a d.comes.operation h d.comes.next in
    let same = fails_same at.bank d.outcome a.flash b.flash
    (subst (λ (o : Operation). Fails o d.outcome) at.reads d.fails)
    (subst (λ (o : Operation). DoesOperation o d.outcome a.flash b.flash) at.reads d.leaves) in
    record {
      sizes = d.begun.begun.sizes_are;
      tell = other_tells s a b at.bank d.comes.operation at.reads h.tell d.heads
          (λ x generation. same_place (a.flash x 0) (b.flash x 0) generation (same x 0));
      nothing = d.begun.begun.nothing;
    }

other_lives : (s : FlashSizes) (deeds : List CallDeed) (a b : CallState) → OfOther s a → CallLives s deeds a b → OfOther s b
other_lives s [] a b h same = subst (λ (x : CallState). OfOther s x) (sym same) h
other_lives s (deed ∷ deeds) a c h lives = other_lives s deeds lives.0 c (other_deed s deed a lives.0 h lives.1.0) lives.1.1

other_begun : (s : FlashSizes) (deeds : List CallDeed) (a b : CallState) → CallBegun s a → EachHeadTells s (IsOtherSize s) a → CallLives s deeds a b
    → OfOther s b
other_begun s deeds a b begun tell lives =
    other_lives s deeds a b (record { sizes = begun.begun.sizes_are; tell = tell; nothing = begun.begun.nothing }) lives

pub other_never_idle : (s : FlashSizes) (deeds : List CallDeed) (a b : CallState) → CallBegun s a → EachHeadTells s (IsOtherSize s) a
    → CallLives s deeds a b → IsIdle (plan_in b.numbers) → ⊥
other_never_idle s deeds a b begun tell lives idle =
    idle_finds (plan_in b.numbers).best (plan_in b.numbers).step idle.step (other_begun s deeds a b begun tell lives).nothing

pub other_reads_heads : (s : FlashSizes) (deeds : List CallDeed) (a b : CallState) (it : Operation) → CallBegun s a
    → EachHeadTells s (IsOtherSize s) a → CallLives s deeds a b → operation_of (plan_in b.numbers) b.cells ≡ Some it
    → (bank : ℕ) × (it ≡ Read bank 0)
other_reads_heads s deeds a b it begun tell lives next =
    let at = head_next s b it (other_begun s deeds a b begun tell lives) next in (at.bank, at.reads)

-- a start that found nothing has ended without a store, or failed
ends_without : (best : Best) (end : PlanEnd) → HeadsAlone best (Ended end)
    → (refusal_of (Ended end) ≡ Some no_store) ⊎ (Ended end ≡ Ended end_failed)
ends_without best NoStore h = inl refl
ends_without best Exhausted h = absurd h
ends_without best Formatted h = absurd h
ends_without best end_failed h = inr refl
ends_without best OtherSizes h = inl refl

rests_without : (banks : ℕ) (put : Option WaitingPut) (cells : CellList) (best : Best) (step : PlanStep) → HeadsAlone best step
    → step_operation banks step put cells ≡ None → (refusal_of step ≡ Some no_store) ⊎ (step ≡ Ended end_failed)
rests_without banks put cells best (Heading bank) h rests = absurd (none-some _ (sym rests))
rests_without banks put cells best (Copied bank generation done) h rests = absurd h
rests_without banks put cells best (Puts bank generation place) h rests = absurd h
rests_without banks put cells best (Free bank generation next place) h rests = absurd h
rests_without banks put cells best (Erasing bank generation) h rests = absurd h
rests_without banks put cells best (Copying bank generation done) h rests = absurd h
rests_without banks put cells best (Ready bank generation next) h rests = absurd h
rests_without banks put cells best (Clearing bank) h rests = absurd h
rests_without banks put cells best (Filling done) h rests = absurd h
rests_without banks put cells best (Ended end) h rests = ends_without best end h

pub other_ends : (s : FlashSizes) (deeds : List CallDeed) (a b : CallState) → CallBegun s a → EachHeadTells s (IsOtherSize s) a
    → CallLives s deeds a b → operation_of (plan_in b.numbers) b.cells ≡ None
    → (refusal_of (plan_in b.numbers).step ≡ Some no_store) ⊎ ((plan_in b.numbers).step ≡ Ended end_failed)
other_ends s deeds a b begun tell lives rests =
    rests_without (plan_in b.numbers).banks (plan_in b.numbers).put b.cells (plan_in b.numbers).best (plan_in b.numbers).step
    (other_begun s deeds a b begun tell lives).nothing rests

-- ---- a store that is made tells its sizes

-- while cells are programmed, no bank has a head
no_heads : (s : FlashSizes) (done : ℕ) (a : CallState) → sizes_in a.numbers ≡ s
    → FormatStep (plan_layout (plan_in a.numbers) (length a.cells)) a.cells a.flash (Filling done) → (x generation : ℕ) → x < s.banks
    → (a.flash x 0).content ≡ Some (Head generation) → ⊥
no_heads s done a sizes h x generation inside had =
    let banks : a.numbers.banks ≡ s.banks = ap (λ (z : FlashSizes). z.banks) sizes in
    let blank : a.flash x 0 ≡ blank_place = elim (cases_eq x 0) [
      | inl zero ↦ subst (λ z. a.flash z 0 ≡ blank_place) (sym zero) h.head
      | inr later ↦ h.spare x (omega (arith, later)) (omega (arith, inside, banks))
    ] in
    none-some (Head generation) (ap (λ (r : FlashPlace). r.content) (sym blank) ∙ had)

record Making (s : FlashSizes) (cells : CellList) (a : CallState) : Type 0 where
  formats : Formats s cells a
  sizes : sizes_in a.numbers ≡ s
  noted : a.numbers.is_untold ≡ 0
  made : (plan_in a.numbers).step ≡ Ended Formatted → EachHeadTells s (TellsOwn s) a

-- what a step of a format leads to, once it has made the store
step_makes : (s : FlashSizes) (cells : CellList) (put : Option WaitingPut) (outcome : ℕ) (bytes : List ℕ) (a b : CallState) (step : PlanStep)
    → Making s cells a → (d : PerformsNext put outcome bytes a b) → (plan_in a.numbers).step ≡ step
    → FormatStep (plan_layout (plan_in a.numbers) (length a.cells)) a.cells a.flash step → (plan_in b.numbers).step ≡ Ended Formatted
    → EachHeadTells s (TellsOwn s) b
step_makes s cells put outcome bytes a b (Heading bank) h d at f made = absurd f
step_makes s cells put outcome bytes a b (Copied bank generation done) h d at f made = absurd f
step_makes s cells put outcome bytes a b (Puts bank generation place) h d at f made = absurd f
step_makes s cells put outcome bytes a b (Free bank generation next place) h d at f made = absurd f
step_makes s cells put outcome bytes a b (Erasing bank generation) h d at f made = absurd f
step_makes s cells put outcome bytes a b (Copying bank generation done) h d at f made = absurd f
step_makes s cells put outcome bytes a b (Ready bank generation next) h d at f made = absurd f
step_makes s cells put outcome bytes a b (Clearing bank) h d at f made = absurd (d.reported.cleared bank at made)
step_makes s cells put outcome bytes a b (Filling done) h d at f made = λ x generation inside now.
    elim (bytes_from (head_sizes a.numbers) d.comes.operation a.heads outcome (take (line_length a.numbers.unit) bytes) a.flash b.flash d.performed.does x generation now) [
      | inl had ↦ absurd (no_heads s done a h.sizes f x generation inside had.0)
      | inr new ↦ d.heads x ∙ new ∙ head_is_own s a.numbers h.sizes h.noted
    ]
step_makes s cells put outcome bytes a b (Ended end) h d at f made =
    absurd (none-some d.comes.operation (subst
    (λ (t : PlanStep). step_operation (plan_in a.numbers).banks t (plan_in a.numbers).put a.cells ≡ Some d.comes.operation) at d.comes.next))

making_deed : (s : FlashSizes) (cells : CellList) (deed : CallDeed) (a b : CallState) → Making s cells a → OperationDone deed a b → Making s cells b
making_deed s cells (performs put outcome bytes) a b h d = record {
  formats = format_goes s cells (performs put outcome bytes) a b h.formats d;
  sizes = d.reported.sizes_are ∙ h.sizes;
  noted = (taken_head put outcome bytes a b d).kept (λ r.
      (format_keeps (plan_layout (plan_in a.numbers) (length a.cells)) a.cells a.flash (plan_in a.numbers).put (plan_in a.numbers).step h.formats.formats).0
      (read_reads (plan_in a.numbers).banks (plan_in a.numbers).put a.cells r.bank 0 (plan_in a.numbers).step (d.comes.next ∙ ap Some r.is)).0)
      ∙ h.noted;
  made = step_makes s cells put outcome bytes a b (plan_in a.numbers).step h d refl h.formats.formats;
}
making_deed s cells (takes_put cell payload) a b h d = absurd d
making_deed s cells starts a b h d = absurd d
making_deed s cells (is_cut put) a b h d = absurd d

making_on : (s : FlashSizes) (cells : CellList) (deeds : List CallDeed) (a b : CallState) → Making s cells a → OperationsDone deeds a b
    → Making s cells b
making_on s cells [] a b h is = subst (λ (x : CallState). Making s cells x) (sym is) h
making_on s cells (deed ∷ deeds) a b h all = making_on s cells deeds all.0 b (making_deed s cells deed a all.0 h all.1.0) all.1.1

pub made_tells : (s : FlashSizes) (deeds : List CallDeed) (a b : CallState) → CallFormatBegun s a → OperationsDone deeds a b
    → (plan_in b.numbers).step ≡ Ended Formatted → EachHeadTells s (TellsOwn s) b
made_tells s deeds a b h all =
    (making_on s a.cells deeds a b (record {
      formats = record { banks_is = h.begun.banks_is; count = h.count; kept = refl; formats = h.begun.formats a.cells a.flash };
      sizes = h.begun.sizes_are;
      noted = h.begun.tells;
      made = λ ended. absurd (let e = sym h.begun.first ∙ ended in cc);
    }) all).made
