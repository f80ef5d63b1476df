-- The lemmas that crates above cite.
use Rattle.std.specs.Prelude.{◌≡◌, ℕ, ◌+◌, ◌<◌, ◌≤◌, length, List, [], Some, ◌≢◌, ◌⊎◌, ◌==◌, false, ◌++◌}
use Rattle.std.proofs.Common.{inl, inr, refl, arith, ap, subst, sym, length-append, ◌∙◌}
use Rattle.std.proofs.lemmas.Bool.Decides.{nat_tests}
use Rattle.bus_port.specs.Source.{SourceState, Came}
use Rattle.bus_port.specs.Fault.{last_count}
use Rattle.bus_port.specs.Whole.{ReadsAll, CameWithin, CameBeyond}
use Rattle.program_edge.specs.Input.{input_limit, input_fault_status}
use Rattle.program_edge.specs.declared.input.InputFault.{InputFault}
use Rattle.program_edge.specs.Inputs.{Reading, IsUnread, ReadsWhole, Lacks, CountsFault, CountsTooMuch, Offers}
use Rattle.bus_port.specs.Sink.{SinkState}
use Rattle.bus_port.proofs.CallerLemmas.{Appended-nothing, Appended-more}
use Rattle.program_edge.specs.Told.{EndingTold, AppendedWell}
use Rattle.program_edge.specs.Rows.{Row, memory_row}
use Rattle.program_edge.specs.Endings.{Ending, PrintsWhole, SinkFailed, CountsWriteFault, EndsIn, MayEndIn, EndsInRow}
use Rattle.program_edge.specs.Endings.{PrintsFront}
use Rattle.program_edge.specs.declared.input.InputFault.TheVariants as input

-- ---- laws of inputs: what a cause says of a source

-- nothing came from a source that was left alone
came_nothing : (state : SourceState) → Came state state []
came_nothing state = record { next = λ left told. (left, told, refl); counted = omega arith; later = omega arith }

-- of a source that nothing was asked of memory is wanted at most
pub Lacks-unread : (r : Reading) → IsUnread r → Lacks r input.Memory
Lacks-unread r unread =
    subst (λ (s : SourceState). Lacks (record { before = r.before; after = s }) input.Memory) (sym unread)
    (refl, ([], omega arith, came_nothing r.before))

-- a whole input that came without a fault came within the limit
pub Lacks-whole : (r : Reading) (read : List ℕ) → ReadsWhole r read → Lacks r input.Memory
Lacks-whole r read whole = (whole.no_fault, (read, whole.within, whole.came))

-- a whole input is the one that the source tells
pub Offers-whole : (r : Reading) (text read : List ℕ) → Offers r text → ReadsWhole r read → read ≡ text
Offers-whole r text read (told, within, well) whole = (whole.whole text told).0

-- if the count of faults rose, the source failed
pub CountsFault-is : (r : Reading) (fault : InputFault) → CountsFault r → Lacks r fault → fault ≡ input.ReadFault
CountsFault-is r input.ReadFault counts lacks = refl
CountsFault-is r input.TooLong counts (same, beyond) = absurd (omega (arith, counts, same))
CountsFault-is r input.Memory counts (same, within) = absurd (omega (arith, counts, same))

not_within : (r : Reading) → CountsTooMuch r → CameWithin r.before r.after input_limit → ⊥
not_within r (room, more) (bytes, within, came) = omega (arith, room, more, within, came.counted)

-- if more came than an input may have, that is the fault
pub CountsTooMuch-is : (r : Reading) (fault : InputFault) → CountsTooMuch r → Lacks r fault
    → fault ≡ input.TooLong
CountsTooMuch-is r input.TooLong counts lacks = refl
CountsTooMuch-is r input.ReadFault counts (rose, within) = absurd (not_within r counts within)
CountsTooMuch-is r input.Memory counts (same, within) = absurd (not_within r counts within)

not_beyond : (r : Reading) (text : List ℕ) → Offers r text → CameBeyond r.before r.after input_limit → ⊥
not_beyond r text (told, within, well) (bytes, more, came) =
    let (rest, left, parts) = came.next text told in
    omega (arith, within, more, ap length parts, length-append bytes rest)

-- a source that tells a text within the limit, and didn't fail, lacks memory at most
pub Offers-is : (r : Reading) (text : List ℕ) (fault : InputFault) → Offers r text → Lacks r fault
    → fault ≡ input.Memory
Offers-is r text input.ReadFault (told, within, well) (rose, came) = absurd (well rose)
Offers-is r text input.TooLong offers (same, beyond) = absurd (not_beyond r text offers beyond)
Offers-is r text input.Memory offers lacks = refl

-- a source that tells a text within the limit, and counted no fault up to the end, offers it
pub Offers-clean : (r : Reading) (text : List ℕ) → r.before.told ≡ Some text → length text ≤ input_limit
    → r.after.faults ≡ 0 → Offers r text
Offers-clean r text told short calm = (
  told,
  short,
  λ rose. elim rose [ inl more ↦ absurd (omega (arith, more, calm)) | inr last ↦ absurd (omega (arith, last, calm)) ],
)

-- ---- laws of a source that was read: what a status says of it

-- at most so many bytes were counted
abbrev pub TakesAtMost : ℕ → Reading → Type 0
TakesAtMost limit r = r.before.taken + limit < last_count → r.after.taken ≤ r.before.taken + limit

-- no fault was counted
abbrev pub CountsNone : Reading → Type 0
CountsNone r = r.after.faults ≡ r.before.faults

-- 5, and not a byte too many; 8, and no fault; or neither
abbrev pub SourceTells : ℕ → Reading → ℕ → Type 0
SourceTells limit r status = ((status ≡ 5) × TakesAtMost limit r) ⊎ ((status ≡ 8) × CountsNone r) ⊎ (CountsNone r × TakesAtMost limit r)

TakesAtMost-came : (limit : ℕ) (r : Reading) → CameWithin r.before r.after limit → TakesAtMost limit r
TakesAtMost-came limit r came below = omega (arith, came.1, came.2.counted, below)

pub SourceTells-rose : (limit : ℕ) (r : Reading) → CameWithin r.before r.after limit → SourceTells limit r 5
SourceTells-rose limit r within = inl (refl, TakesAtMost-came limit r within)

pub SourceTells-beyond : (limit : ℕ) (r : Reading) → CountsNone r → SourceTells limit r 8
SourceTells-beyond limit r calm = inr (inl (refl, calm))

pub SourceTells-within : (limit : ℕ) (r : Reading) (status : ℕ) → CountsNone r → CameWithin r.before r.after limit → SourceTells limit r status
SourceTells-within limit r status calm within = inr (inr (calm, TakesAtMost-came limit r within))

pub SourceTells-unread : (limit : ℕ) (r : Reading) (status : ℕ) → IsUnread r → SourceTells limit r status
SourceTells-unread limit r status same =
    inr (inr (ap (λ (s : SourceState). s.faults) same, λ below. omega (arith, ap (λ (s : SourceState). s.taken) same)))

pub SourceTells-whole : (limit : ℕ) (r : Reading) (status : ℕ) (text : List ℕ) → ReadsAll r.before r.after limit text → SourceTells limit r status
SourceTells-whole limit r status text whole = SourceTells-within limit r status whole.no_fault (text, whole.within, whole.came)

pub SourceTells-lacks : (r : Reading) (fault : InputFault) → Lacks r fault → SourceTells input_limit r (input_fault_status fault)
SourceTells-lacks r input.ReadFault (rose, within) = SourceTells-rose input_limit r within
SourceTells-lacks r input.TooLong (same, beyond) = SourceTells-beyond input_limit r same
SourceTells-lacks r input.Memory (same, within) = SourceTells-within input_limit r 7 same within

-- if the count of faults rose it is 5
pub SourceTells-fault : (limit : ℕ) (r : Reading) (status : ℕ) → SourceTells limit r status → CountsFault r → status ≡ 5
SourceTells-fault limit r status (inl five) counts = five.0
SourceTells-fault limit r status (inr (inl (eight, calm))) counts = absurd (omega (arith, calm, counts))
SourceTells-fault limit r status (inr (inr (calm, within))) counts = absurd (omega (arith, calm, counts))

-- if a byte too many was counted it is 8
pub SourceTells-long : (limit : ℕ) (r : Reading) (status : ℕ) → SourceTells limit r status
    → (r.before.taken + limit < last_count) × (r.before.taken + limit < r.after.taken) → status ≡ 8
SourceTells-long limit r status (inl (five, within)) (room, more) = absurd (let most = within room in omega (arith, most, more))
SourceTells-long limit r status (inr (inl (eight, calm))) counts = eight
SourceTells-long limit r status (inr (inr (calm, within))) (room, more) = absurd (let most = within room in omega (arith, most, more))

-- ---- laws of endings, whatever rows a program has

-- a run that ends in a row of these ends in one of those that have them all
pub EndsInRow-more : {P Q : Row → Type 0} {e : Ending} → ((row : Row) → P row → Q row)
    → EndsInRow P e → EndsInRow Q e
EndsInRow-more more ends = record { row = ends.row; comes = more ends.row ends.comes; told = ends.told }

-- out of memory that a program finds before it has anything to tell
pub EndsInRow-memory : (Comes : Row → Type 0) (sink : SinkState) → Comes memory_row
    → EndsInRow Comes (record { before = sink; after = sink; status = 7 })
EndsInRow-memory Comes sink comes =
    record { row = memory_row; comes = comes; told = inl (refl, (refl, Appended-nothing sink)) }

may_end : (e : Ending) (n status : ℕ) → e.status ≡ status → (status ≡ n) ⊎ (status ≡ 7) → MayEndIn n e
may_end e n status same (inl is) = inl (same ∙ is)
may_end e n status same (inr seven) = inr (inr (same ∙ seven))

module _ {Comes : Row → Type 0} {e : Ending} where
  -- what was printed, if the status isn't 6
  pub told_at : (n : ℕ) (A : Type 0) (row : Row) → (n == 6) ≡ false → Comes row
      → ((row : Row) → Comes row → row.status ≡ n → PrintsWhole e row.text → A)
      → EndingTold e.before e.after row.text row.status e.status → e.status ≡ n → A
  told_at n A row other comes each (inl (status_is, well)) is = each row comes (sym status_is ∙ is) well
  told_at n A row other comes each (inr (six, rose, part)) is = absurd (grind (arith, nat_tests, other, is, six))

  -- a status other than 6 is that of a row that comes, and was printed
  pub EndsInRow-at : EndsInRow Comes e → (n : ℕ) → (n == 6) ≡ false → {A : Type 0}
      → ((row : Row) → Comes row → row.status ≡ n → PrintsWhole e row.text → A) → e.status ≡ n → A
  EndsInRow-at ends n other {A} each is = told_at n A ends.row other ends.comes each ends.told is

  front_of : (row : Row) → Comes row → row.status ≢ 6 → EndingTold e.before e.after row.text row.status e.status
      → e.status ≡ 6 → SinkFailed e × PrintsFront Comes e
  front_of row comes none (inl (status_is, well)) six = absurd (none (sym status_is ∙ six))
  front_of row comes none (inr (is, rose, part)) six = (rose, (row, comes, part))

  -- 6 is a prefix, if no row that comes has it for its status
  pub EndsInRow-front : EndsInRow Comes e → ((row : Row) → Comes row → row.status ≢ 6) → e.status ≡ 6
      → SinkFailed e × PrintsFront Comes e
  EndsInRow-front ends none six = front_of ends.row ends.comes (none ends.row ends.comes) ends.told six

  -- if the sink's count rose it is 6
  pub EndsInRow-rose : EndsInRow Comes e → CountsWriteFault e → e.status ≡ 6
  EndsInRow-rose ends rose = elim ends.told [
    | inl (status_is, well) ↦ absurd (omega (arith, well.0, rose))
    | inr (is, front, part) ↦ is
  ]

  -- if the sink didn't fail, a row that comes was printed whole
  pub EndsInRow-well : EndsInRow Comes e → ¬ SinkFailed e
      → (row : Row) × Comes row × (e.status ≡ row.status) × PrintsWhole e row.text
  EndsInRow-well ends well = elim ends.told [
    | inl (status_is, printed) ↦ (ends.row, ends.comes, status_is, printed)
    | inr (is, rose, part) ↦ absurd (well rose)
  ]

  -- if all rows that come have this status, it is the run's, or 6
  pub EndsInRow-only : EndsInRow Comes e → (n : ℕ) → ((row : Row) → Comes row → row.status ≡ n) → EndsIn n e
  EndsInRow-only ends n each = elim ends.told [
    | inl (status_is, well) ↦ inl (status_is ∙ each ends.row ends.comes)
    | inr (is, front, part) ↦ inr is
  ]

  -- if all have this one or 7, it is the run's, or 6, or 7
  pub EndsInRow-may : EndsInRow Comes e → (n : ℕ)
      → ((row : Row) → Comes row → (row.status ≡ n) ⊎ (row.status ≡ 7)) → MayEndIn n e
  EndsInRow-may ends n each = elim ends.told [
    | inl (status_is, well) ↦ may_end e n ends.row.status status_is (each ends.row ends.comes)
    | inr (is, front, part) ↦ inr (inl is)
  ]

  -- if all have this one or 7, and the sink didn't fail, it is the run's, or 7
  pub EndsInRow-done : EndsInRow Comes e → ¬ SinkFailed e → (n : ℕ)
      → ((row : Row) → Comes row → (row.status ≡ n) ⊎ (row.status ≡ 7)) → (e.status ≡ n) ⊎ (e.status ≡ 7)
  EndsInRow-done ends well n each = elim ends.told [
    | inl (status_is, told) ↦ subst (λ s. (s ≡ n) ⊎ (s ≡ 7)) (sym status_is) (each ends.row ends.comes)
    | inr (is, rose, part) ↦ absurd (well rose)
  ]

-- ---- laws of what is printed, piece by piece

-- nothing was written to a sink that nothing was done to
pub AppendedWell-nothing : (before after : SinkState) → after ≡ before → AppendedWell before after []
AppendedWell-nothing before after same =
    subst (λ t. AppendedWell before t []) (sym same) (refl, Appended-nothing before)

-- what was written first, and then what was written next
pub AppendedWell-more : (first before after : SinkState) (some more : List ℕ) → AppendedWell first before some
    → AppendedWell before after more → AppendedWell first after (some ++ more)
AppendedWell-more first before after some more p q = (q.0 ∙ p.0, Appended-more p.1 q.1)
