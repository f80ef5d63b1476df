-- The rows that a query by unit and slot shows are the ledger's
use Rattle.std.proofs.Common.{◌≡◌, ◌≢◌, ℕ, pos, negsuc, List, [], ◌∷◌, ◌++◌, map, flat_map, Bool, true, false, not, ◌&&◌, ◌==◌, cond, Option, Some, None, refl, sym, ap, subst, subst₂, ◌∙◌, arith, unwrap_or}
use Rattle.std.specs.Ordering.{is_eq, int_cmp}
use Rattle.std.specs.Option.{option_and_then}
use Rattle.std.specs.Str.{bytes_eq}
use Rattle.std.specs.List.{AllByRecursion, list_all, cons_option}
use Rattle.std.specs.List.Sorted.{IsPermutation}
use Rattle.std.proofs.lemmas.List.Elements.{All-from_recursion, recursion_from_All}
use Rattle.std.proofs.lemmas.List.Sorted.{All-permutation, IsPermutation-sym, IsPermutation-map}
use Rattle.std.proofs.lemmas.Map.Text.{is_eq-slice_cmp}
use Rattle.std.proofs.lemmas.Bool.Decides.{nat_tests}
use Rattle.std.proofs.lemmas.Option.{none-some}
use Rattle.sqlite_value.specs.declared.value.Value.{Value}
use Rattle.sqlite_value.specs.declared.value.Value.TheVariants.{Null, Int, Real, Text, Blob}
use Rattle.sqlite_value.specs.declared.keys.Collation.TheVariants.{Binary}
use Rattle.sqlite_value.specs.Order.{Row, column, value_cmp}
use Rattle.sqlite_value.proofs.OrderLemmas.{value_cmp-Int, value_cmp-Blob, value_cmp-apart}
use Rattle.sqlite_sql.specs.declared.ops.CompareOp.TheVariants.{Eq}
use Rattle.sqlite_sql.specs.declared.ops.BinaryOp.TheVariants.{Compare}
use Rattle.sqlite_sql.specs.Ops.{binary, is_true, is_null, from_truth}
use Rattle.sqlite_sql.specs.Term.{holds, Env}
use Rattle.sqlite_sql.specs.Query.{IsAnswer, output, Output}
use Rattle.sqlite_sql.specs.Program.{overlay}
use Rattle.sqlite.specs.State.{State, Shown}
use Rattle.sqlite.proofs.Callers.{reads_as}
use Rattle.key_campaign.specs.Entries.{same_slot}
use Rattle.ledger_rows.specs.declared.kinds.RowKind.TheVariants.{Issued}
use Rattle.ledger_rows.specs.declared.kinds.SlotRow.{SlotRow}
use Rattle.ledger_rows.specs.Rows.{RowOrigin, LedgerRow, slot_rows}
use Rattle.ledger_tables.specs.Table.{ledger_schema}
use Rattle.ledger_tables.specs.Held.{number_held, blob_held, slot_row_in, ledger_row_in, origin_in, ledger_of, ledger_in}
use Rattle.ledger_tables.specs.Reading.{shown_slot_row}
use Rattle.ledger_tables.proofs.Texts.{slot_text, slot_filter, slot_query, slot_is, slot_plain}

-- ---- what SQL compares

same_bool : (b : Bool) → is_true (from_truth (Some b)) ≡ b
same_bool true = refl
same_bool false = refl

compared : (a b : Value) → is_null b ≡ false → is_true (binary (Compare Eq Binary) a b) ≡ (not (is_null a) && is_eq (value_cmp a b))
unfolding binary
compared Null b some = refl
compared (Int n) b some = rw some (same_bool _)
compared (Real x) b some = rw some (same_bool _)
compared (Text t) b some = rw some (same_bool _)
compared (Blob t) b some = rw some (same_bool _)

-- a column is this value
abbrev equals : Value → Value → Bool
equals a b = is_true (binary (Compare Eq Binary) a b)

blob_equals : (u uid : List ℕ) → equals (Blob u) (Blob uid) ≡ bytes_eq u uid
blob_equals u uid = compared (Blob u) (Blob uid) refl ∙ ap is_eq (value_cmp-Blob u uid) ∙ is_eq-slice_cmp u uid

number_equal : (n id : ℕ) → is_eq (int_cmp (pos n) (pos id)) ≡ (n == id)
number_equal n id = grind (arith, nat_tests)

int_equals : (n id : ℕ) → equals (Int (pos n)) (Int (pos id)) ≡ (n == id)
int_equals n id = compared (Int (pos n)) (Int (pos id)) refl ∙ ap is_eq (value_cmp-Int (pos n) (pos id)) ∙ number_equal n id

no_blob : (a : Value) (uid : List ℕ) → blob_held a ≡ None → equals a (Blob uid) ≡ false
no_blob Null uid none = compared Null (Blob uid) refl
no_blob (Int n) uid none = compared (Int n) (Blob uid) refl ∙ ap is_eq (value_cmp-apart (Int n) (Blob uid) (λ e. omega (arith, e)))
no_blob (Real x) uid none = compared (Real x) (Blob uid) refl ∙ ap is_eq (value_cmp-apart (Real x) (Blob uid) (λ e. omega (arith, e)))
no_blob (Text t) uid none = compared (Text t) (Blob uid) refl ∙ ap is_eq (value_cmp-apart (Text t) (Blob uid) (λ e. omega (arith, e)))
no_blob (Blob b) uid none = absurd (none-some b (sym none))

-- ---- one row

-- what stands before the others if b holds
abbrev front : Bool → Option SlotRow → List (Option SlotRow) → List (Option SlotRow)
front b o more = cond b (o ∷ more) more

abbrev IsThere : Option SlotRow → Type 0
IsThere o = o ≢ None

module _ (uid : List ℕ) (id : ℕ) where
  abbrev pub asked : Row
  asked = Blob uid ∷ Int (pos id) ∷ []

  abbrev pub test_of : Value → Value → Bool
  test_of a b = equals a (Blob uid) && (equals b (Int (pos id)) && true)

  abbrev taken_in : Value → Option SlotRow → Option SlotRow
  taken_in b o = option_and_then (λ (_ : ℕ). o) (number_held b)

  abbrev Meant : Bool → Option SlotRow → Option LedgerRow → Type 0
  Meant b o entry = (more : List (Option SlotRow)) (rows : List LedgerRow) → more ≡ map Some (slot_rows uid id rows) → AllByRecursion IsThere (front b o more)
      → front b o more ≡ map Some (slot_rows uid id (cons_option entry rows))

  passed_over : (b : Bool) (o : Option SlotRow) → b ≡ false → Meant b o None
  passed_over true o e = absurd cc
  passed_over false o e = λ more rows is all. is

  lost : (b : Bool) → Meant b None None
  lost true = λ more rows is all. absurd (all.0 refl)
  lost false = λ more rows is all. is

  met : (b : Bool) (it : SlotRow) (u : List ℕ) (n auth : ℕ) (origin : RowOrigin) → same_slot uid id u n ≡ b
      → Meant b (Some it) (Some (record { uid = u; id = n; counter = it.counter; kind = it.kind; check = it.check; auth = auth; origin = origin }))
  met true it u n auth origin e = λ more rows is all. rw e (ap (λ xs. Some it ∷ xs) is)
  met false it u n auth origin e = λ more rows is all. rw e is

  and_true : (b : Bool) → (b && true) ≡ b
  and_true true = refl
  and_true false = refl

  same_test : (u : List ℕ) (n : ℕ) → same_slot uid id u n ≡ test_of (Blob u) (Int (pos n))
  same_test u n = sym (rw (blob_equals u uid, int_equals n id, and_true (n == id)) refl)

  row_meant : (a b : Value) (o : Option SlotRow) (auth : ℕ) (origin : RowOrigin) → Meant (test_of a b) (taken_in b o) (ledger_row_in a b o auth origin)
  row_meant Null b o auth origin = passed_over _ _ (ap (λ t. t && (equals b (Int (pos id)) && true)) (no_blob Null uid refl))
  row_meant (Int n) b o auth origin = passed_over _ _ (ap (λ t. t && (equals b (Int (pos id)) && true)) (no_blob (Int n) uid refl))
  row_meant (Real x) b o auth origin = passed_over _ _ (ap (λ t. t && (equals b (Int (pos id)) && true)) (no_blob (Real x) uid refl))
  row_meant (Text t) b o auth origin = passed_over _ _ (ap (λ t. t && (equals b (Int (pos id)) && true)) (no_blob (Text t) uid refl))
  row_meant (Blob u) Null o auth origin = lost _
  row_meant (Blob u) (Int (negsuc n)) o auth origin = lost _
  row_meant (Blob u) (Real x) o auth origin = lost _
  row_meant (Blob u) (Text t) o auth origin = lost _
  row_meant (Blob u) (Blob b) o auth origin = lost _
  row_meant (Blob u) (Int (pos n)) None auth origin = lost _
  row_meant (Blob u) (Int (pos n)) (Some it) auth origin = met _ it u n auth origin (same_test u n)

  -- ---- all rows

  abbrev pub found : List Row → List Env
  found rows = flat_map (λ r. cond (list_all (holds (asked ∷ r ∷ [])) slot_filter) ((asked ∷ r ∷ []) ∷ []) []) rows

  abbrev pieces_of : List Env → List (Option SlotRow)
  pieces_of envs = map shown_slot_row (map (λ (o : Output). o.1) (map (output slot_query) envs))

  first_piece : (b : Bool) (r : Row) (more : List Env)
      → pieces_of (cond b ((asked ∷ r ∷ []) ∷ []) [] ++ more) ≡ front b (taken_in (column r 2) (slot_row_in (column r 3) (column r 4) (column r 5))) (pieces_of more)
  first_piece true r more = refl
  first_piece false r more = refl

  rest_of : (b : Bool) (o : Option SlotRow) (more : List (Option SlotRow)) → AllByRecursion IsThere (front b o more) → AllByRecursion IsThere more
  rest_of true o more all = all.1
  rest_of false o more all = all

  pieces_are : (rows : List Row) → AllByRecursion IsThere (pieces_of (found rows)) → pieces_of (found rows) ≡ map Some (slot_rows uid id (ledger_of rows))
  pieces_are [] all = refl
  pieces_are (r ∷ rows) all =
      let b = test_of (column r 1) (column r 2) in
      let it = slot_row_in (column r 3) (column r 4) (column r 5) in
      let is = first_piece b r (found rows) in
      let each = subst (AllByRecursion IsThere) is all in
      let rest = pieces_are rows (rest_of b (taken_in (column r 2) it) (pieces_of (found rows)) each) in
      is ∙ row_meant (column r 1) (column r 2) it (unwrap_or (number_held (column r 6)) 0) (origin_in r) (pieces_of (found rows)) (ledger_of rows) rest each

  -- ---- the answer

  abbrev back : Option SlotRow → SlotRow
  back None = record { counter = 0; kind = Issued; check = [] }
  back (Some it) = it

  back_again : (xs : List SlotRow) → map back (map Some xs) ≡ xs
  back_again [] = refl
  back_again (x ∷ xs) = ap (λ ys. x ∷ ys) (back_again xs)

  all_there : (xs : List SlotRow) → AllByRecursion IsThere (map Some xs)
  all_there [] = tt
  all_there (x ∷ xs) = (λ e. none-some x (sym e), all_there xs)

  pub reads : (old new : State) (rows : List Row) (read : List SlotRow) → old.now.schema ≡ ledger_schema → Shown slot_text asked old new rows → map shown_slot_row rows ≡ map Some read
      → IsPermutation (slot_rows uid id (ledger_in old)) read
  reads old new rows read has h each =
      let got = reads_as slot_text asked old new ledger_schema has _ slot_is.0 slot_plain slot_is.1 rows h in
      let a : IsAnswer slot_query (overlay old.now.trees []) asked rows = got.answer Null in
      let shuffled = IsPermutation-map shown_slot_row _ _ (IsPermutation-map (λ (o : Output). o.1) a.kept a.ordered a.same) in
      let staged : a.staged ≡ found (old.now.trees 0) = a.grouped in
      let first : map shown_slot_row (map (λ (o : Output). o.1) a.kept) ≡ pieces_of (found (old.now.trees 0)) = ap (λ k. map shown_slot_row (map (λ (o : Output). o.1) k)) (a.distinct ∙ ap (map (output slot_query)) staged) in
      let second : map shown_slot_row (map (λ (o : Output). o.1) a.ordered) ≡ map Some read = ap (map shown_slot_row) (sym a.shown) ∙ each in
      let mixed : IsPermutation (pieces_of (found (old.now.trees 0))) (map Some read) = subst₂ IsPermutation first second shuffled in
      let there = recursion_from_All IsThere _ (All-permutation IsThere _ _ (IsPermutation-sym _ _ mixed) (All-from_recursion IsThere _ (all_there read))) in
      let is = pieces_are (old.now.trees 0) there in
      let both = IsPermutation-map back _ _ (subst (λ xs. IsPermutation xs (map Some read)) is mixed) in
      subst₂ IsPermutation (back_again _) (back_again read) both
