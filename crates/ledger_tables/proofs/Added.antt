-- What the statement that adds a row does
use Rattle.std.proofs.Common.{◌≡◌, ◌⊎◌, inl, inr, ℕ, ℤ, pos, List, [], ◌∷◌, append-nil, Bool, true, false, not, ◌&&◌, ◌||◌, cond, Some, None, Option, Ok, Err, Result, OnOk, IsTrue, refl, sym, ap, subst, subst₂, ◌∙◌}
use Rattle.std.specs.declared.cmp.Ordering.{Ordering}
use Rattle.std.specs.declared.cmp.Ordering.TheVariants.{Less, Equal, Greater}
use Rattle.std.specs.Ordering.{is_eq, match_ordering}
use Rattle.std.specs.List.{cons_option}
use Rattle.std.specs.List.Sorted.{IsPermutation}
use Rattle.std.proofs.lemmas.List.Sorted.{IsPermutation-refl, IsPermutation-trans, IsPermutation-cons, IsPermutation-insert}
use Rattle.sqlite_value.specs.declared.value.Value.{Value}
use Rattle.sqlite_value.specs.declared.value.Value.TheVariants.{Null, Int, Text, Blob}
use Rattle.sqlite_value.specs.Order.{Row, value_cmp}
use Rattle.sqlite_sql.specs.Ops.{unary}
use Rattle.sqlite_schema.specs.declared.schema.Kind.TheVariants.{Integer}
use Rattle.sqlite_schema.specs.declared.command.Source.TheVariants.{Values}
use Rattle.sqlite_schema.specs.declared.command.Command.{Command}
use Rattle.sqlite_schema.specs.declared.command.Command.TheVariants.{Insert}
use Rattle.sqlite_rules.specs.Edit.{edit_of, edited, next_rowid, is_taken, are_fresh}
use Rattle.sqlite_rules.specs.Cast.{cast}
use Rattle.sqlite_rules.specs.declared.error.Rowids.TheVariants.{Chosen}
use Rattle.sqlite_trees.specs.Tree.{Trees, put_row, rowid}
use Rattle.sqlite.specs.declared.error.Error.{Error}
use Rattle.sqlite.specs.declared.run.Mode.{Mode}
use Rattle.sqlite.specs.Does.{Tally, Does}
use Rattle.sqlite.specs.Rows.{Written}
use Rattle.sqlite.specs.Effect.{Database}
use Rattle.sqlite.specs.Listing.{understood}
use Rattle.sqlite.specs.State.{State, mode_of, Writes, Executes, CommitsBy, MayCommit}
use Rattle.sqlite.proofs.Callers.{IsPlain, command_of, statement_of, runs_as, one_step}
use Rattle.ledger_rows.specs.declared.kinds.RowKind.{RowKind}
use Rattle.ledger_rows.specs.declared.kinds.RowKind.TheVariants.{Issued, Confirmed, Failed, Imported, Raised}
use Rattle.ledger_rows.specs.Kinds.{row_word, row_kind_of}
use Rattle.ledger_rows.specs.Rows.{LedgerRow}
use Rattle.ledger_rows.specs.Steps.{AddsRow}
use Rattle.ledger_tables.specs.declared.adding.NewRow.{NewRow}
use Rattle.ledger_tables.specs.Table.{entry_table, ledger_schema}
use Rattle.ledger_tables.specs.Held.{entry_in, ledger_of, ledger_in, HasLedgerTable}
use Rattle.ledger_tables.specs.Adding.{origin_by, row_of_new}
use Rattle.ledger_tables.proofs.Texts.{insert_text, terms, insert_is, insert_plain}

-- ---- small facts

either : (b : Bool) (x : Value) → cond b x x ≡ x
either true x = refl
either false x = refl

pub cast_null : cast Integer Null ≡ Null
unfolding unary
cast_null = either _ Null

pub cast_int : (n : ℤ) → cast Integer (Int n) ≡ Int n
unfolding unary
cast_int n = either _ (Int n)

pub went : {B E R : Type 0} {b : B} {Stops : E → Type 0} → ((stop : E) × Stops stop × (Ok b ≡ Err stop)) ⊎ R → R
went (inl stopped) = absurd (let e = stopped.2 in cc)
went (inr on) = on

pub same_value : {B E : Type 0} {a b : B} → ◌≡◌ {A = Result B E} (Ok a) (Ok b) → a ≡ b
same_value e = cc

no_taken : (a b : Bool) → (not a && b) ≡ true → a ≡ false
no_taken true b h = absurd cc
no_taken false b h = refl

-- ---- a row among the others

pub kind_read : (kind : RowKind) → row_kind_of (row_word kind) ≡ Some kind
unfolding row_kind_of
kind_read Issued = refl
kind_read Confirmed = refl
kind_read Failed = refl
kind_read Imported = refl
kind_read Raised = refl

behind : (e : LedgerRow) (o : Option LedgerRow) (rows put : List LedgerRow) → IsPermutation (e ∷ rows) put → IsPermutation (e ∷ cons_option o rows) (cons_option o put)
behind e None rows put h = h
behind e (Some x) rows put h =
    IsPermutation-trans _ (x ∷ e ∷ rows) _ (IsPermutation-insert (x ∷ rows) 1 e) (IsPermutation-cons x (e ∷ rows) put h)

placed : (o : Ordering) (new r : Row) (e : LedgerRow) (rs put : List Row) (rest : Bool) → entry_in new ≡ Some e → (is_eq o || rest) ≡ false → (rest ≡ false → IsPermutation (e ∷ ledger_of rs) (ledger_of put))
    → IsPermutation (e ∷ ledger_of (r ∷ rs)) (ledger_of (match_ordering o (r ∷ put) (new ∷ rs) (new ∷ r ∷ rs)))
placed Less new r e rs put rest is h more = behind e (entry_in r) (ledger_of rs) (ledger_of put) (more h)
placed Equal new r e rs put rest is h more = absurd cc
placed Greater new r e rs put rest is h more = subst (λ o. IsPermutation (e ∷ ledger_of (r ∷ rs)) (cons_option o (ledger_of (r ∷ rs)))) (sym is) (IsPermutation-refl _)

-- a row whose rowid is not taken is put among the others, and they stay
only_adds : (new : Row) (e : LedgerRow) (rows : List Row) → entry_in new ≡ Some e → is_taken rows new ≡ false → IsPermutation (e ∷ ledger_of rows) (ledger_of (put_row new rows))
only_adds new e [] is free = subst (λ o. IsPermutation (e ∷ []) (cons_option o [])) (sym is) (IsPermutation-refl _)
only_adds new e (r ∷ rs) is free =
    placed (value_cmp (rowid r) (rowid new)) new r e rs (put_row new rs) (is_taken rs new) is free (only_adds new e rs is)

module _ (row : NewRow) (station operator time : List ℕ) where
  abbrev pub given : Row
  given = Blob row.uid ∷ Int (pos row.id) ∷ Int (pos row.counter) ∷ Text (row_word row.kind) ∷ Blob row.check ∷ Int (pos row.auth) ∷ Text station ∷ Text operator ∷ Text time ∷ []

  abbrev pub stored : List Row → Row
  stored rows =
      Int (next_rowid rows) ∷ Blob row.uid ∷ Int (pos row.id) ∷ Int (pos row.counter) ∷ Text (row_word row.kind) ∷ Blob row.check ∷ Int (pos row.auth) ∷ Text station ∷ Text operator ∷ Text time ∷ Null ∷ []

  abbrev pub entered : LedgerRow
  entered = row_of_new row (origin_by station operator time)

  stands : (rows : List Row) → entry_in (stored rows) ≡ Some entered
  stands rows = rw (kind_read row.kind) refl

  abbrev pub command : Command
  command = Insert 0 (Values terms 11)

  abbrev pub text : List ℕ
  text = statement_of insert_text (understood ledger_schema insert_text)

  pub does : (limit : Option ℕ) (mode : Mode) (db after : Database) (tally : Tally) → db.schema ≡ ledger_schema → Does limit mode given db text None command (Ok (tally, after))
      → (after.schema ≡ ledger_schema) × AddsRow entered (ledger_of (db.trees 0)) (ledger_of (after.trees 0))
  does limit mode db after tally has h =
      let done = went (subst (λ s. Does limit mode given (record db { schema = s }) text None command (Ok (tally, after))) has h) in
      let now = ap (λ (p : Tally × Database). p.1) (same_value (went (went done.2).2).2) in
      let sourced = went done.1 in
      let written = went (went sourced.2).2 in
      let counted = went written.2 in
      let trees : done.0.trees ≡ written.0 = ap (λ (it : Written). it.trees) (same_value counted.2) ∙ same_value counted.1 in
      let applied = one_step ledger_schema _ db.trees written.0 (edit_of db.trees entry_table [] Chosen 0 sourced.0) refl written.1 in
      let new = stored (db.trees 0) in
      let news : (edit_of db.trees entry_table [] Chosen 0 sourced.0).news ≡ new ∷ []
      = ap (λ all. (edit_of db.trees entry_table [] Chosen 0 all).news) sourced.1.1 ∙ rw (cast_null, cast_int (pos row.id), cast_int (pos row.counter), cast_int (pos row.auth)) in
      let fresh : are_fresh (db.trees 0) (new ∷ []) ≡ true = subst (λ all. are_fresh (db.trees 0) all ≡ true) news applied.fresh in
      let edit : edited db.trees (edit_of db.trees entry_table [] Chosen 0 sourced.0) ≡ put_row new (db.trees 0)
      = ap (λ all. edited db.trees (edit_of db.trees entry_table [] Chosen 0 all)) sourced.1.1 ∙ rw (cast_null, cast_int (pos row.id), cast_int (pos row.counter), cast_int (pos row.auth)) in
      let rows = ap (λ (d : Database). d.trees 0) now ∙ ap (λ (t : Trees). t 0) trees ∙ applied.rows ∙ edit in (
        ap (λ (d : Database). d.schema) now,
        subst (λ all. AddsRow entered (ledger_of (db.trees 0)) (ledger_of all)) (sym rows) (only_adds new entered (db.trees 0) (stands (db.trees 0)) (no_taken _ _ fresh)),
      )

  pub writes : (old new : State) (count : ℕ) → old.now.schema ≡ ledger_schema → Executes insert_text given old new (Ok count) → Writes old new None command text given count
  writes old new count has h = runs_as insert_text given old new ledger_schema has command insert_is insert_plain count h

  pub adds : (old new : State) (r : Result ℕ Error) → HasLedgerTable old → Executes insert_text given old new r → OnOk r (AddsRow entered (ledger_in old) (ledger_in new)) × OnOk r (HasLedgerTable new)
  adds old new (Err e) has h = (tt, tt)
  adds old new (Ok count) has h =
      let w = writes old new count has.schema h in
      let d = does old.step_limit (mode_of old) old.now new.now w.tally has.schema w.changed in (
        d.1,
        record {
          schema = d.0;
          alone = w.shown.mode ∙ has.alone;
          settled = subst (λ b. new.committed ≡ cond b old.committed new.now) has.alone w.shown.committed_is;
        },
      )

  -- outside a transaction a crash leaves the row
  pub keeps : (old new : State) (r : Result ℕ Error) → HasLedgerTable old → ((db : Trees) → IsTrue new.is_open → new.may_leave db → db ≡ new.committed.trees)
      → Executes insert_text given old new r → OnOk r ((left : Trees) → new.may_leave left → left ≡ new.now.trees)
  keeps old new (Err e) has settled h = tt
  keeps old new (Ok count) has settled h = λ left may.
      let w = writes old new count has.schema h in
      settled left w.shown.is_open may ∙ ap (λ (d : Database). d.trees) (subst (λ b. new.committed ≡ cond b old.committed new.now) has.alone w.shown.committed_is)

  pub commits : (s : State) (left : Trees) → s.now.schema ≡ ledger_schema → CommitsBy insert_text given s left → AddsRow entered (ledger_in s) (ledger_of (left 0))
  unfolding CommitsBy
  commits s left has h =
      let known = sym h.1.is ∙ ap (λ t. understood t insert_text) has in
      let bare = subst IsPlain (sym known) insert_plain in
      let it = rw (bare.0, bare.1, append-nil given) at h.2 in
      settle (subst₂ (λ k t. MayCommit s None k t given left) (ap command_of known ∙ insert_is) (ap (statement_of insert_text) known) it)
    where
      settle : MayCommit s None command text given left → AddsRow entered (ledger_in s) (ledger_of (left 0))
      settle (inl (inl is, same)) = absurd (let e = is in cc)
      settle (inl (inr named, same)) = absurd (let e = named.2 in cc)
      settle (inr may) = subst (λ (t : Trees). AddsRow entered (ledger_in s) (ledger_of (t 0))) (sym may.5) (does s.step_limit (mode_of s) s.now may.2 may.1 has may.3).1
