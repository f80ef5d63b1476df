-- What holds of all runs of a file
use Rattle.std.proofs.Common.{◌≡◌, ◌⊎◌, inl, inr, ℕ, zero, suc, ◌+◌, ◌<◌, ◌≤◌, Bool, true, false, cond, Option, None, Some, List, [], ◌∷◌, All, Any, Contains, refl, sym, ap, subst, subst₂, ◌∙◌, arith}
use Rattle.std.specs.Prelude.{◌==◌}
use Rattle.std.specs.Str.{bytes_eq}
use Rattle.std.proofs.Math.Nat.{le_refl}
use Rattle.std.proofs.lemmas.List.Elements.{All-nil, All-cons}
use Rattle.std.proofs.lemmas.List.Kept.{AllPairs-cons}
use Rattle.std.proofs.lemmas.List.Sorted.{Contains-permutation, IsPermutation-sym}
use Rattle.std.proofs.lemmas.Bool.{and_from, and_parts}
use Rattle.std.proofs.lemmas.Bool.Decides.{Decides-eqb}
use Rattle.std.proofs.lemmas.Option.{none-some}
use Rattle.std.proofs.lemmas.Slice.Eq.{bytes_eq-Decides}
use Rattle.machine_runs.specs.Run.{Run}
use Rattle.key_campaign.specs.Entries.{same_slot}
use Rattle.key_campaign.specs.Steps.{ConfirmsWith}
use Rattle.ledger_rows.specs.declared.kinds.RowKind.TheVariants.{Issued, Confirmed, Failed, Raised}
use Rattle.ledger_rows.specs.declared.remarks.RemarkKind.{RemarkKind}
use Rattle.ledger_rows.specs.declared.remarks.RemarkKind.TheVariants.{Raise, Fail}
use Rattle.ledger_rows.specs.Rows.{LedgerRow, slot_rows, last_counter}
use Rattle.ledger_rows.specs.Steps.{AddsRow, IssuesRow, RemarksRow, MayRemark, issued_row, confirmed_row, remarked_kind, remarked_row}
use Rattle.ledger_rows.specs.Files.{RowCommand, IssueBy, ConfirmBy, RemarkBy, AddsBy, FileStep, FileMoment, raised_by, answered_for, AnsweredCountersRise, StillHasRows, NoRowGoes, CarriesAnswer}
use Rattle.ledger_rows.proofs.Counters.{added}

-- ---- a step adds at most a row

adds_row : (old : List LedgerRow) (command : RowCommand) (counter : ℕ) (new : List LedgerRow) → AddsBy old command counter new → (row : LedgerRow) × AddsRow row old new
adds_row old (IssueBy i origin) counter new h = (issued_row i origin counter, h.adds)
adds_row old (ConfirmBy k origin) counter new h = (confirmed_row k origin counter, h.adds)
adds_row old (RemarkBy r origin) counter new h = (remarked_row r origin, h.adds)

abbrev Grows : List LedgerRow → List LedgerRow → Type 0
Grows old new = (new ≡ old) ⊎ ((row : LedgerRow) × AddsRow row old new)

grows : (old : List LedgerRow) (command : RowCommand) (answer : Option ℕ) (new : List LedgerRow) → FileStep old command answer new → Grows old new
grows old command (Some counter) new step = inr (adds_row old command counter new step)
grows old command None new (inl same) = inl same
grows old command None new (inr it) = inr (adds_row old command it.0 new it.1)

rises : (old new : List LedgerRow) (uid : List ℕ) (id : ℕ) → Grows old new → last_counter uid id old ≤ last_counter uid id new
rises old new uid id (inl same) = subst (λ rows. last_counter uid id old ≤ last_counter uid id rows) (sym same) (le_refl _)
rises old new uid id (inr it) = (added it.0 old new it.1 uid id).1

-- ---- the counters rise

slot_is : (uid : List ℕ) (id : ℕ) (other : List ℕ) (other_id : ℕ) → same_slot uid id other other_id ≡ true → (other ≡ uid) × (other_id ≡ id)
slot_is uid id other other_id e =
    let parts = and_parts (bytes_eq other uid) (other_id == id) e in
    ((bytes_eq-Decides other uid).0 parts.0, (Decides-eqb other_id id).0 parts.1)

slot_itself : (uid : List ℕ) (id : ℕ) → same_slot uid id uid id ≡ true
slot_itself uid id = and_from (bytes_eq uid uid) (id == id) ((bytes_eq-Decides uid uid).1 refl) ((Decides-eqb id id).1 refl)

chosen : (b : Bool) (answer : Option ℕ) (counter : ℕ) → cond b answer None ≡ Some counter → (b ≡ true) × (answer ≡ Some counter)
chosen true answer counter e = (refl, e)
chosen false answer counter e = absurd (none-some counter e)

of_raise : (kind : RemarkKind) (answer : Option ℕ) (counter : ℕ) → raised_by kind answer ≡ Some counter → (kind ≡ Raise) × (answer ≡ Some counter)
of_raise Raise answer counter e = (refl, e)
of_raise Fail answer counter e = absurd (none-some counter e)

answered_now : (old : List LedgerRow) (command : RowCommand) (answer : Option ℕ) (new : List LedgerRow) (uid : List ℕ) (id counter : ℕ)
    → FileStep old command answer new → answered_for uid id command answer ≡ Some counter → (last_counter uid id old < counter) × (counter ≤ last_counter uid id new)
answered_now old (IssueBy i origin) answer new uid id counter step e =
    let chose = chosen (same_slot uid id i.uid i.id) answer counter e in
    let is = slot_is uid id i.uid i.id chose.0 in
    let h : IssuesRow i origin counter old new = subst (λ a. FileStep old (IssueBy i origin) a new) chose.1 step in
    let up = added (issued_row i origin counter) old new h.adds i.uid i.id in
    let next : counter ≡ last_counter i.uid i.id old + 1 = h.next in
    subst₂ (λ u j. (last_counter u j old < counter) × (counter ≤ last_counter u j new)) is.0 is.1 (omega (arith, next), up.0 (slot_itself i.uid i.id))
answered_now old (ConfirmBy k origin) answer new uid id counter step e = absurd (none-some counter e)
answered_now old (RemarkBy r origin) answer new uid id counter step e =
    let chose = chosen (same_slot uid id r.uid r.id) (raised_by r.kind answer) counter e in
    let is = slot_is uid id r.uid r.id chose.0 in
    let raise = of_raise r.kind answer counter chose.1 in
    let h : RemarksRow r origin counter old new = subst (λ a. FileStep old (RemarkBy r origin) a new) raise.1 step in
    let up = added (remarked_row r origin) old new h.adds r.uid r.id in
    let above : last_counter r.uid r.id old < r.counter = subst (λ kind. MayRemark kind r.counter (slot_rows r.uid r.id old)) raise.0 h.may in
    let there : r.counter ≤ last_counter r.uid r.id new = up.0 (slot_itself r.uid r.id) in
    let same = h.is in
    subst₂ (λ u j. (last_counter u j old < counter) × (counter ≤ last_counter u j new)) is.0 is.1 (omega (arith, above, same), omega (arith, there, same))

abbrev Answers : List ℕ → ℕ → FileMoment → ℕ → Type 0
Answers uid id m counter = answered_for uid id m.command m.line ≡ Some counter

-- what is answered later is above the last counter now
above : (start : List LedgerRow) (ms : List FileMoment) (last : List LedgerRow) (uid : List ℕ) (id : ℕ) → Run FileStep start ms last
    → All (λ m. (later : ℕ) → Answers uid id m later → last_counter uid id start < later) ms
above start [] last uid id run = All-nil _
above start (m ∷ ms) last uid id run =
    let rest = above m.after ms last uid id run.1 in
    let rose = rises start m.after uid id (grows start m.command m.line m.after run.0) in
    All-cons (λ (n : FileMoment). (later : ℕ) → Answers uid id n later → last_counter uid id start < later) m ms
    (λ later e. let now = answered_now start m.command m.line m.after uid id later run.0 e in omega (arith, now.0))
    (λ k d inside later e. let up = rest k d inside later e in omega (arith, rose, up))

pub counters_rise : (start : List LedgerRow) (ms : List FileMoment) (last : List LedgerRow) → Run FileStep start ms last → AnsweredCountersRise ms
counters_rise start [] last run = λ i j d before inside. absurd (omega (arith, inside))
counters_rise start (m ∷ ms) last run =
    AllPairs-cons (λ (a b : FileMoment). (uid : List ℕ) (id counter later : ℕ) → Answers uid id a counter → Answers uid id b later → counter < later) m ms
    (λ k d inside uid id counter later mine yours.
    let now = answered_now start m.command m.line m.after uid id counter run.0 mine in
    let up = above m.after ms last uid id run.1 k d inside later yours in
    omega (arith, now.1, up))
    (counters_rise m.after ms last run.1)

-- ---- rows stay

behind : (first row : LedgerRow) (rows : List LedgerRow) → Contains rows row → Contains (first ∷ rows) row
behind first row rows it = (suc it.0, omega (arith, it.1), it.2)

keeps : (old new : List LedgerRow) → Grows old new → StillHasRows old new
keeps old new (inl same) row there = subst (λ rows. Contains rows row) (sym same) there
keeps old new (inr it) row there = Contains-permutation (it.0 ∷ old) new row it.1 (behind it.0 row old there)

stays : (start : List LedgerRow) (ms : List FileMoment) (last : List LedgerRow) → Run FileStep start ms last → StillHasRows start last
stays start [] last run row there = subst (λ rows. Contains rows row) (sym run) there
stays start (m ∷ ms) last run row there = stays m.after ms last run.1 row (keeps start m.after (grows start m.command m.line m.after run.0) row there)

each_stays : (start : List LedgerRow) (ms : List FileMoment) (last : List LedgerRow) → Run FileStep start ms last → All (λ m. StillHasRows m.after last) ms
each_stays start [] last run = All-nil _
each_stays start (m ∷ ms) last run =
    All-cons (λ (n : FileMoment). StillHasRows n.after last) m ms (stays m.after ms last run.1) (each_stays m.after ms last run.1)

pub none_goes : (start : List LedgerRow) (ms : List FileMoment) (last : List LedgerRow) → Run FileStep start ms last → NoRowGoes start ms last
none_goes start ms last run = (stays start ms last run, each_stays start ms last run)

-- ---- what is confirmed has its reply

first_or_behind : (first row : LedgerRow) (rows : List LedgerRow) → Contains (first ∷ rows) row → (first ≡ row) ⊎ Contains rows row
first_or_behind first row rows (zero, inside, is) = inl is
first_or_behind first row rows (suc k, inside, is) = inr (k, omega (arith, inside), is)

no_confirmation : (kind : RemarkKind) → remarked_kind kind ≡ Confirmed → ⊥
no_confirmation Raise e = let f : Raised ≡ Confirmed = e in cc
no_confirmation Fail e = let f : Failed ≡ Confirmed = e in cc

carries : (old : List LedgerRow) (command : RowCommand) (counter : ℕ) (new : List LedgerRow) (h : AddsBy old command counter new) (row : LedgerRow)
    → (adds_row old command counter new h).0 ≡ row → row.kind ≡ Confirmed → CarriesAnswer row command
unfolding adds_row
carries old (IssueBy i origin) counter new h row is confirmed = absurd (let e : Issued ≡ Confirmed = ap (λ (r : LedgerRow). r.kind) is ∙ confirmed in cc)
carries old (RemarkBy r origin) counter new h row is confirmed = absurd (no_confirmation r.kind (ap (λ (it : LedgerRow). it.kind) is ∙ confirmed))
carries old (ConfirmBy k origin) counter new h row is confirmed =
    let found = h.answers in (
      sym (ap (λ (r : LedgerRow). r.uid) is),
      sym (ap (λ (r : LedgerRow). r.id) is),
      sym (ap (λ (r : LedgerRow). r.check) is),
      subst (ConfirmsWith k) (found.4.1 ∙ ap (λ (r : LedgerRow). r.counter) is) found.4.0.confirms,
    )

was_or_came : (old : List LedgerRow) (command : RowCommand) (counter : ℕ) (new : List LedgerRow) → AddsBy old command counter new → (row : LedgerRow) → Contains new row → row.kind ≡ Confirmed
    → Contains old row ⊎ CarriesAnswer row command
was_or_came old command counter new h row there confirmed =
    let it = adds_row old command counter new h in
    elim (first_or_behind it.0 row old (Contains-permutation new (it.0 ∷ old) row (IsPermutation-sym (it.0 ∷ old) new it.1) there)) [
      | inl is ↦ inr (carries old command counter new h row is confirmed)
      | inr before ↦ inl before
    ]

one_confirmed : (old : List LedgerRow) (command : RowCommand) (answer : Option ℕ) (new : List LedgerRow) → FileStep old command answer new → (row : LedgerRow) → Contains new row → row.kind ≡ Confirmed
    → Contains old row ⊎ CarriesAnswer row command
one_confirmed old command (Some counter) new step row there confirmed = was_or_came old command counter new step row there confirmed
one_confirmed old command None new (inl same) row there confirmed = inl (subst (λ rows. Contains rows row) same there)
one_confirmed old command None new (inr it) row there confirmed = was_or_came old command it.0 new it.1 row there confirmed

abbrev Carries : LedgerRow → FileMoment → Type 0
Carries row m = CarriesAnswer row m.command

pub confirmed_by_answer : (start : List LedgerRow) (ms : List FileMoment) (last : List LedgerRow) → Run FileStep start ms last → (row : LedgerRow) → Contains last row → row.kind ≡ Confirmed
    → Contains start row ⊎ Any (λ m. CarriesAnswer row m.command) ms
confirmed_by_answer start [] last run row there confirmed = inl (subst (λ rows. Contains rows row) run there)
confirmed_by_answer start (m ∷ ms) last run row there confirmed = elim (confirmed_by_answer m.after ms last run.1 row there confirmed) [
  | inl after ↦ elim (one_confirmed start m.command m.line m.after run.0 row after confirmed) [
    | inl before ↦ inl before
    | inr came ↦ inr (0, m, omega arith, refl, came)
  ]
  | inr any ↦ inr (suc any.0, any.1, omega (arith, any.2), any.3, any.4)
]
