-- The greatest counter of a unit and slot, and a row that is added
use Rattle.std.proofs.Common.{◌≡◌, ◌∙◌, ℕ, ◌<◌, ◌≤◌, ◌&&◌, not, Bool, true, false, cond, Option, None, Some, List, [], ◌∷◌, length, map, filter, All, Any, refl, sym, ap, subst, arith}
use Rattle.std.specs.List.{AllByRecursion}
use Rattle.std.specs.List.Sorted.{IsPermutation}
use Rattle.std.proofs.Math.Nat.{le_refl, le-max_left, le-max_right, max-le}
use Rattle.std.proofs.lemmas.List.Elements.{All-from_recursion, recursion_from_All, filter_agree}
use Rattle.std.proofs.lemmas.List.Sorted.{All-permutation, Contains-permutation, IsPermutation-sym, IsPermutation-trans, length_permutation, list_any-IsPermutation}
use Rattle.key_campaign.specs.declared.commands.Confirm.{Confirm}
use Rattle.key_campaign.specs.declared.lines.LedgerRefusal.{LedgerRefusal}
use Rattle.key_campaign.specs.declared.lines.LedgerRefusal.TheVariants as refusal
use Rattle.ledger_rows.specs.declared.kinds.RowKind.TheVariants.{Issued, Confirmed}
use Rattle.ledger_rows.specs.declared.kinds.SlotRow.{SlotRow}
use Rattle.ledger_rows.specs.declared.remarks.RemarkKind.{RemarkKind}
use Rattle.ledger_rows.specs.declared.remarks.RemarkKind.TheVariants.{Raise, Fail}
use Rattle.ledger_rows.specs.declared.remarks.RemarkRefusal.{RemarkRefusal}
use Rattle.ledger_rows.specs.declared.remarks.RemarkRefusal.TheVariants as unsaid
use Rattle.ledger_rows.specs.declared.lists.ListKind.{ListKind}
use Rattle.ledger_rows.specs.declared.lists.ListKind.TheVariants.{History, Open}
use Rattle.ledger_rows.specs.Lists.{says_issued, confirms_counter, is_unconfirmed, ListsRows}
use Rattle.ledger_rows.specs.Rows.{LedgerRow, is_row_of, slot_row, greatest_in, last_counter}
use Rattle.ledger_rows.specs.Steps.{AddsRow, AnswersRow, HasConfirmed, RefusesAnswer, HasIssued, MayRemark, RefusesRemark, IsShown}

-- the greatest counter of the rows, with one before them if b holds
abbrev greatest_if : Bool → LedgerRow → List LedgerRow → ℕ
greatest_if b row kept = greatest_in (map slot_row (cond b (row ∷ kept) kept))

up_to_it : (b : Bool) (row : LedgerRow) (kept : List LedgerRow) → (b ≡ true → row.counter ≤ greatest_if b row kept) × (greatest_in (map slot_row kept) ≤ greatest_if b row kept)
up_to_it true row kept = (λ e. le-max_left _ _, le-max_right _ _)
up_to_it false row kept = (λ e. absurd cc, le_refl _)

no_more : (b : Bool) (row : LedgerRow) (kept : List LedgerRow) (m : ℕ) → (b ≡ true → row.counter ≤ m) → greatest_in (map slot_row kept) ≤ m → greatest_if b row kept ≤ m
no_more true row kept m first rest = max-le (first refl) rest
no_more false row kept m first rest = rest

abbrev pub AtMost : List ℕ → ℕ → ℕ → LedgerRow → Type 0
AtMost uid id m row = is_row_of uid id row ≡ true → row.counter ≤ m

pub all_at_most : (uid : List ℕ) (id m : ℕ) (rows : List LedgerRow) → last_counter uid id rows ≤ m → AllByRecursion (AtMost uid id m) rows
all_at_most uid id m [] most = tt
all_at_most uid id m (row ∷ rows) most =
    let it = up_to_it (is_row_of uid id row) row (filter (is_row_of uid id) rows) in
    (λ e. let low = it.0 e in omega (arith, low, most), all_at_most uid id m rows (let low = it.1 in omega (arith, low, most)))

pub last_at_most : (uid : List ℕ) (id m : ℕ) (rows : List LedgerRow) → AllByRecursion (AtMost uid id m) rows → last_counter uid id rows ≤ m
last_at_most uid id m [] all = omega arith
last_at_most uid id m (row ∷ rows) all =
    no_more (is_row_of uid id row) row (filter (is_row_of uid id) rows) m all.0 (last_at_most uid id m rows all.1)

-- no counter falls by a row that is added, and its own is no greater than the last
pub added : (row : LedgerRow) (old new : List LedgerRow) → AddsRow row old new → (uid : List ℕ) (id : ℕ)
    → (is_row_of uid id row ≡ true → row.counter ≤ last_counter uid id new) × (last_counter uid id old ≤ last_counter uid id new)
added row old new adds uid id =
    let m = last_counter uid id new in
    let all : All (AtMost uid id m) new = All-from_recursion (AtMost uid id m) new (all_at_most uid id m new (le_refl m)) in
    let both : AllByRecursion (AtMost uid id m) (row ∷ old) = recursion_from_All (AtMost uid id m) (row ∷ old) (All-permutation (AtMost uid id m) new (row ∷ old) (IsPermutation-sym (row ∷ old) new adds) all) in
    (both.0, last_at_most uid id m old both.1)

-- ---- the rows of a unit and slot, in any order

abbrev UpTo : ℕ → SlotRow → Type 0
UpTo m row = row.counter ≤ m

all_up_to : (m : ℕ) (rows : List SlotRow) → greatest_in rows ≤ m → AllByRecursion (UpTo m) rows
all_up_to m [] most = tt
all_up_to m (row ∷ rows) most =
    let first = le-max_left row.counter (greatest_in rows) in
    let rest = le-max_right row.counter (greatest_in rows) in
    (omega (arith, first, most), all_up_to m rows (omega (arith, rest, most)))

greatest_up_to : (m : ℕ) (rows : List SlotRow) → AllByRecursion (UpTo m) rows → greatest_in rows ≤ m
greatest_up_to m [] all = omega arith
greatest_up_to m (row ∷ rows) all = max-le all.0 (greatest_up_to m rows all.1)

no_greater : (xs ys : List SlotRow) → IsPermutation xs ys → greatest_in ys ≤ greatest_in xs
no_greater xs ys same =
    let m = greatest_in xs in
    greatest_up_to m ys (recursion_from_All (UpTo m) ys (All-permutation (UpTo m) xs ys same (All-from_recursion (UpTo m) xs (all_up_to m xs (le_refl m)))))

pub greatest_permuted : (xs ys : List SlotRow) → IsPermutation xs ys → greatest_in xs ≡ greatest_in ys
greatest_permuted xs ys same =
    let one = no_greater xs ys same in
    let other = no_greater ys xs (IsPermutation-sym xs ys same) in
    omega (arith, one, other)

-- ---- what a reply answers, of rows in any order

pub any_permuted : {X : Type 0} (P : X → Type 0) (xs ys : List X) → IsPermutation xs ys → Any P xs → Any P ys
any_permuted P xs ys same it =
    let there = Contains-permutation xs ys it.1 same (it.0, it.2, it.3) in
    (there.0, it.1, there.1, there.2, it.4)

pub unconfirmed_permuted : (counter : ℕ) (xs ys : List SlotRow) → IsPermutation xs ys → ¬ HasConfirmed counter xs → ¬ HasConfirmed counter ys
unconfirmed_permuted counter xs ys same none has =
    none (any_permuted (λ (row : SlotRow). (row.kind ≡ Confirmed) × (row.counter ≡ counter)) ys xs (IsPermutation-sym xs ys same) has)

pub refuses_permuted : (k : Confirm) (xs ys : List SlotRow) → IsPermutation xs ys → (why : LedgerRefusal) → RefusesAnswer xs k why → RefusesAnswer ys k why
refuses_permuted k xs ys same refusal.Unknown h = All-permutation (λ (row : SlotRow). ¬ (row.kind ≡ Issued)) xs ys same h
refuses_permuted k xs ys same refusal.NotConfirmed h = (
  any_permuted (λ (row : SlotRow). row.kind ≡ Issued) xs ys same h.0,
  All-permutation (λ (row : SlotRow). ¬ AnswersRow k row) xs ys same h.1,
)
refuses_permuted k xs ys same refusal.AlreadyConfirmed h =
    any_permuted (λ (row : SlotRow). AnswersRow k row × HasConfirmed row.counter ys) xs ys same
    (h.0, h.1, h.2, h.3, (h.4.0, any_permuted (λ (row : SlotRow). (row.kind ≡ Confirmed) × (row.counter ≡ h.1.counter)) xs ys same h.4.1))
refuses_permuted k xs ys same refusal.Down h = absurd h
refuses_permuted k xs ys same refusal.BadPair h = absurd h
refuses_permuted k xs ys same refusal.Full h = absurd h
refuses_permuted k xs ys same refusal.Spent h = absurd h
refuses_permuted k xs ys same refusal.MemoryFailure h = absurd h
refuses_permuted k xs ys same refusal.NotFormatted h = absurd h
refuses_permuted k xs ys same (refusal.Damaged cell) h = absurd h
refuses_permuted k xs ys same (refusal.BadEntry cell) h = absurd h

-- ---- what an operator says

issued_permuted : (counter : ℕ) (xs ys : List SlotRow) → IsPermutation xs ys → HasIssued counter xs → HasIssued counter ys
issued_permuted counter xs ys same h = any_permuted (λ (row : SlotRow). (row.kind ≡ Issued) × (row.counter ≡ counter)) xs ys same h

pub remark_permuted : (kind : RemarkKind) (counter : ℕ) (xs ys : List SlotRow) → IsPermutation xs ys → MayRemark kind counter xs → MayRemark kind counter ys
remark_permuted Raise counter xs ys same h = subst (λ n. n < counter) (greatest_permuted xs ys same) h
remark_permuted Fail counter xs ys same h = (issued_permuted counter xs ys same h.0, unconfirmed_permuted counter xs ys same h.1)

pub refuses_remark_permuted : (kind : RemarkKind) (counter : ℕ) (xs ys : List SlotRow) → IsPermutation xs ys → (why : RemarkRefusal) → RefusesRemark kind counter xs why → RefusesRemark kind counter ys why
refuses_remark_permuted Raise counter xs ys same (unsaid.Behind last) h = (h.0 ∙ greatest_permuted xs ys same, h.1)
refuses_remark_permuted Raise counter xs ys same unsaid.Unknown h = absurd h
refuses_remark_permuted Raise counter xs ys same unsaid.AlreadyConfirmed h = absurd h
refuses_remark_permuted Fail counter xs ys same (unsaid.Behind last) h = absurd h
refuses_remark_permuted Fail counter xs ys same unsaid.Unknown h = λ has. h (issued_permuted counter ys xs (IsPermutation-sym xs ys same) has)
refuses_remark_permuted Fail counter xs ys same unsaid.AlreadyConfirmed h =
    (issued_permuted counter xs ys same h.0, any_permuted (λ (row : SlotRow). (row.kind ≡ Confirmed) × (row.counter ≡ counter)) xs ys same h.1)

-- ---- what is shown

no_rows : (xs ys : List SlotRow) → IsPermutation xs ys → xs ≡ [] → ys ≡ []
no_rows xs [] same none = refl
no_rows xs (y ∷ ys) same none = absurd (let long = length_permutation xs (y ∷ ys) same in let short = ap length none in omega (arith, long, short))

pub shown_permuted : (xs ys : List SlotRow) → IsPermutation xs ys → (told : Option (ℕ × Bool)) → IsShown xs told → IsShown ys told
shown_permuted xs ys same None h = no_rows xs ys same h
shown_permuted xs ys same (Some (counter, confirmed)) h =
    let P = λ (row : SlotRow). (row.kind ≡ Confirmed) × (row.counter ≡ counter) in (
      λ none. h.0 (no_rows ys xs (IsPermutation-sym xs ys same) none),
      h.1 ∙ greatest_permuted xs ys same,
      (λ yes. any_permuted P xs ys same (h.2.0 yes), λ has. h.2.1 (any_permuted P ys xs (IsPermutation-sym xs ys same) has)),
    )

-- ---- what is listed

pub lists_permuted : (kind : ListKind) (xs ys listed : List SlotRow) → IsPermutation xs ys → ListsRows kind ys listed → ListsRows kind xs listed
lists_permuted History xs ys listed same h = IsPermutation-trans xs ys listed same h
lists_permuted Open xs ys listed same (order, mixed, is) = (
  order,
  IsPermutation-trans xs ys order same mixed,
  is ∙ filter_agree (is_unconfirmed ys) (is_unconfirmed xs)
      (λ row. ap (λ b. says_issued row.kind && not b) (sym (list_any-IsPermutation (confirms_counter row.counter) xs ys same))) order,
)
