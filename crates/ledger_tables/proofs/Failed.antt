-- Why the statements fail, and what they leave
use Rattle.std.proofs.Common.{◌≡◌, ◌≢◌, ◌⊎◌, inl, inr, ℕ, zero, suc, pos, ◌≤◌, List, [], ◌∷◌, codes, append-nil, length-append, length, true, false, Some, None, Option, option_map, Ok, Err, Result, Any, IfErr, OnErr, IsSome, refl, sym, ap, subst, subst₂, ◌∙◌, arith, Bool, ◌&&◌, not, cond, ◌||◌}
use Rattle.std.specs.List.{AllByRecursion, list_any}
use Rattle.std.specs.declared.cmp.Ordering.{Ordering}
use Rattle.std.specs.declared.cmp.Ordering.TheVariants.{Less, Equal, Greater}
use Rattle.std.specs.Ordering.{is_eq, is_ne}
use Rattle.std.proofs.lemmas.List.Folds.{Any-from_list_any}
use Rattle.sqlite_value.specs.declared.value.Value.{Value}
use Rattle.sqlite_value.specs.declared.value.Value.TheVariants.{Null, Int}
use Rattle.sqlite_value.specs.declared.keys.Collation.TheVariants.{Binary}
use Rattle.sqlite_value.specs.Keys.{plain, first_key}
use Rattle.sqlite_sql.specs.Ops.{binary, is_true, is_null, from_truth, fits_i64}
use Rattle.sqlite_schema.specs.declared.schema.Constraint.TheVariants.{Datatype, NotNull, Check, PrimaryKey, Unique, ForeignKey}
use Rattle.sqlite_rules.specs.declared.error.Refusal.TheVariants.{Violates, Mismatch, NoRowid, BadReference, TooDeep}
use Rattle.sqlite_value.specs.Order.{Row, column, value_cmp}
use Rattle.sqlite_trees.specs.Tree.{Trees, rowid, with_tree}
use Rattle.sqlite_trees.specs.declared.error.StoreError.{StoreError}
use Rattle.sqlite_trees.specs.declared.error.StoreError.TheVariants.{OutOfMemory, Io, Corrupt, Full, Broken, Unstorable}
use Rattle.sqlite_schema.specs.declared.schema.Among.{Among}
use Rattle.sqlite_schema.specs.declared.schema.Among.TheVariants.{All}
use Rattle.sqlite_schema.specs.declared.command.Source.TheVariants.{Values}
use Rattle.sqlite_schema.specs.declared.command.Command.{Command}
use Rattle.sqlite_schema.specs.declared.command.Command.TheVariants.{Insert, Select}
use Rattle.sqlite_schema.specs.Rules.{Refers, equal, differ, agree, passes}
use Rattle.sqlite_resolve.specs.declared.compiled.Compiled.{Compiled}
use Rattle.sqlite_rules.specs.declared.error.Rowids.TheVariants.{Chosen}
use Rattle.sqlite_rules.specs.declared.error.Refusal.{Refusal}
use Rattle.sqlite_rules.specs.Lists.{Has}
use Rattle.sqlite_rules.specs.Edit.{Edit, edit_of, edited, next_rowid, IsRefused, IsOversized}
use Rattle.sqlite_typing.specs.Types.{accepts_program}
use Rattle.sqlite.specs.declared.error.ErrorCode.TheVariants as code
use Rattle.sqlite.specs.declared.error.Error.{Error}
use Rattle.sqlite.specs.declared.error.Error.TheVariants.{SqliteFailure}
use Rattle.sqlite.specs.declared.run.Mode.{Mode}
use Rattle.sqlite.specs.Clock.{timed}
use Rattle.sqlite.specs.Does.{Does, Concludes}
use Rattle.sqlite.specs.Rows.{Task, Written, Sourced, Edited, Inserts}
use Rattle.sqlite.specs.Calls.{IsWrite}
use Rattle.sqlite_rules.specs.Action.{Leads, Writes}
use Rattle.sqlite_schema.specs.declared.command.Returning.{Returning}
use Rattle.sqlite_schema.specs.declared.schema.Keys.TheVariants.{Enforced}
use Rattle.sqlite.specs.Effect.{Database, value_rows, edit_error, RefusesToRead}
use Rattle.sqlite.specs.Listing.{understood, reads_listing, IsSourceOf}
use Rattle.sqlite.specs.State.{State, HasCause, Fails, IsRolledBack, IsUnchanged, IsNoStatement, IsMisplaced, IsNotRun, FailsToQuery, shows_rows, RunsCommand, ExecutesIn, Executes, store_error}
use Rattle.sqlite.proofs.Callers.{IsPlain, command_of, statement_of}
use Rattle.ledger_rows.specs.Rows.{LedgerRow}
use Rattle.ledger_tables.specs.declared.adding.NewRow.{NewRow}
use Rattle.ledger_tables.specs.Table.{entry_table, ledger_schema}
use Rattle.ledger_tables.specs.Held.{HasLedgerTable}
use Rattle.ledger_tables.specs.Failing.{StoreFailed, FailsToLook, table_row, IsTooLong, FailsToAdd, IsUndone, HasNoNumber}
use Rattle.ledger_tables.proofs.Texts.{IsOneStatement, slot_text, slot_query, slot_is, slot_plain, slot_one, insert_text, terms, insert_is, insert_plain, insert_one}
use Rattle.ledger_tables.proofs.Stated.{still}
use Rattle.ledger_tables.proofs.Matching.{asked}
use Rattle.ledger_tables.proofs.Added.{cast_null, cast_int, given, entered, command, text}

-- ---- what a failed call leaves

pub undone_same : (old new : State) → HasLedgerTable old → IsUnchanged old new → IsUndone old new
undone_same old new has same = record { same = λ _. same.0.now_is; ready = λ _. still old new same has }

pub undone_back : (old new : State) → HasLedgerTable old → IsRolledBack old new → IsUndone old new
undone_back old new has back = record {
  same = λ is_open. (back.undone is_open).0 ∙ has.settled;
  ready = λ is_open. record {
    schema = ap (λ (d : Database). d.schema) ((back.undone is_open).0 ∙ has.settled) ∙ has.schema;
    alone = back.autocommit;
    settled = (back.undone is_open).1 ∙ sym (back.undone is_open).0;
  };
}

-- ---- a text that is one statement runs

pub one_runs : (sql : List ℕ) (params : Row) (s : State) (e : Error) → IsOneStatement sql (length params) (understood s.now.schema sql) → ¬ IsNoStatement s sql params e
one_runs sql params s e one (inl (fault, is, same)) = absurd (subst (IsOneStatement sql (length params)) is one)
one_runs sql params s e one (inr (c, is, inl (long, same))) = let it = subst (IsOneStatement sql (length params)) is one in long (omega (arith, it.0))
one_runs sql params s e one (inr (c, is, inr (inl (other, same)))) = other (subst (IsOneStatement sql (length params)) is one).1
one_runs sql params s e one (inr (c, is, inr (inr (timed, same)))) = timed (subst (IsOneStatement sql (length params)) is one).2

one_at : (sql : List ℕ) (count : ℕ) (s : State) → s.now.schema ≡ ledger_schema → IsOneStatement sql count (understood ledger_schema sql) → IsOneStatement sql count (understood s.now.schema sql)
one_at sql count s has one = subst (λ t. IsOneStatement sql count (understood t sql)) (sym has) one

-- ---- the query

slot_accepts : (uid : List ℕ) (id : ℕ) → accepts_program ledger_schema [] slot_query (asked uid id) ≡ true
slot_accepts uid id = refl

no_any : {X : Type 0} (xs : List X) → ¬ Any (λ _. ⊥) xs
no_any xs h = h.4

abbrev slot_names : List (List ℕ)
slot_names = codes "slot" ∷ codes "counter" ∷ codes "what" ∷ codes "kcv" ∷ []

query_refuses : (limit : Option ℕ) (db : Database) (uid : List ℕ) (id : ℕ) (e : Error) → db.schema ≡ ledger_schema
    → RefusesToRead limit (command_of (understood ledger_schema slot_text)) db (asked uid id) e → (e ≡ SqliteFailure code.OperationInterrupted) × IsSome limit
query_refuses limit db uid id e has h = settle (subst (λ k. RefusesToRead limit k db (asked uid id) e) slot_is.0 h)
  where
    settle : RefusesToRead limit (Select (record { lets = []; body = slot_query }) slot_names) db (asked uid id) e → (e ≡ SqliteFailure code.OperationInterrupted) × IsSome limit
    settle (inl (is, refuses)) = absurd (let yes = subst (λ s. accepts_program s [] slot_query (asked uid id) ≡ false) has refuses in let same = slot_accepts uid id in cc)
    settle (inr (inl (is, inl none))) = absurd none
    settle (inr (inl (is, inr some))) = absurd (no_any _ some)
    settle (inr (inr gave)) = gave

pub look_fails : (uid : List ℕ) (id : ℕ) (old new : State) (e : Error) → HasLedgerTable old → FailsToQuery slot_text (asked uid id) old new e → FailsToLook uid id old new e × IsUndone old new
unfolding FailsToQuery IsNotRun
look_fails uid id old new e has (inl (inl (none, same))) = absurd (one_runs slot_text (asked uid id) old e (one_at slot_text 2 old has.schema slot_one) none)
look_fails uid id old new e has (inl (inr (cause, is, why, back, tells))) = (inl (cause, is, why), undone_back old new has back)
look_fails uid id old new e has (inr (c, it, shows)) =
    let known = sym it.is ∙ ap (λ s. understood s slot_text) has.schema in
    let bare = subst IsPlain (sym known) slot_plain in
    let h = rw (bare.0, bare.1, append-nil (asked uid id)) at shows in
    let db : h.0 ≡ old.now = subst (λ b. IsSourceOf b old.now h.0) (ap (λ s. reads_listing s slot_text) has.schema ∙ slot_is.1) h.1 in
    let refuses = subst (λ k. RefusesToRead old.step_limit k h.0 (asked uid id) e) (ap command_of known) h.2 in
    (inr (inl (query_refuses old.step_limit h.0 uid id e (ap (λ (d : Database). d.schema) db ∙ has.schema) refuses)), undone_same old new has h.3)

-- ---- the row that is added

runs_quiet : (c : Compiled) → c.command ≡ Insert 0 (Values terms 11) → c.returning ≡ None → shows_rows false c ≡ false
runs_quiet c is none = rw (is, none) refl

all_refer : (rows : List Row) → AllByRecursion (λ (row : Row). true ≡ true) rows
all_refer [] = tt
all_refer (r ∷ rows) = (refl, all_refer rows)

refers : (among : Among) (db : Trees) → Refers among ledger_schema db
refers among db = (all_refer (db 0), tt)

only_row : {X : Type 0} (x y : X) → Has (y ∷ []) x → x ≡ y
only_row x y (inl is) = is
only_row x y (inr none) = absurd none

told : {x y : Error} → Some x ≡ Some y → x ≡ y
told e = cc

untold : {x : Error} → ◌≢◌ {A = Option Error} (Some x) None
untold e = cc

stopped_by : {A : Type 0} {x y : Option Refusal} → ◌≡◌ {A = Result A (Option Refusal)} (Err x) (Err y) → x ≡ y
stopped_by e = cc

abbrev mode : Mode
mode = record { keys = Enforced; in_doubt = false; may_wait = false }

abbrev pub no_returning : Option Returning
no_returning = None

abbrev task_of : Option ℕ → Row → Task
task_of limit params = record { limit = limit; keys = Enforced; schema = ledger_schema; table = entry_table; params = params }

abbrev adding_row : LedgerRow → Trees → Edit
adding_row it db = record { table = entry_table; gone = []; news = table_row it (db 0) ∷ [] }

-- ---- why a rule of the table refuses the row

never_both : (none : Bool) (o : Ordering) → (is_true (cond none Null (from_truth (Some (is_eq o)))) && is_true (cond none Null (from_truth (Some (is_ne o))))) ≡ false
never_both true o = refl
never_both false Less = refl
never_both false Equal = refl
never_both false Greater = refl

no_twin : (a b : Value) → (equal Binary a b && differ a b) ≡ false
unfolding binary
no_twin a b = never_both (is_null a || is_null b) (value_cmp a b)

ends_by : (a b c d e : Bool) → (d && e) ≡ false → ((a && (b && (c && (d && true)))) && e) ≡ false
ends_by false b c d e h = refl
ends_by true false c d e h = refl
ends_by true true false d e h = refl
ends_by true true true false e h = refl
ends_by true true true true e h = h

never_clashes : (others : List Row) (row : Row) → list_any (λ other. agree plain (1 ∷ 2 ∷ 3 ∷ 0 ∷ []) other (1 ∷ 2 ∷ 3 ∷ 0 ∷ []) row && differ (rowid other) (rowid row)) others ≡ false
unfolding binary first_key value_cmp
never_clashes [] row = refl
never_clashes (other ∷ others) row =
    rw (
      ends_by (equal Binary (column other 1) (column row 1)) (equal Binary (column other 2) (column row 2)) (equal Binary (column other 3) (column row 3)) (equal Binary (column other 0) (column row 0))
          (differ (rowid other) (rowid row)) (no_twin (column other 0) (column row 0)),
      never_clashes others row,
    ) refl

all_unique : (db : Trees) (rows : List Row) → AllByRecursion (λ row. passes Unique ledger_schema db entry_table row ≡ true) rows
all_unique db [] = tt
all_unique db (row ∷ rows) = (ap (λ b. not b && true) (never_clashes (db 0) row), all_unique db rows)

taken_if : (b : Bool) → (not b && true) ≡ false → b ≡ true
taken_if true h = refl
taken_if false h = absurd cc

unfit_if : (b : Bool) → (b && true) ≡ false → b ≡ false
unfit_if true h = absurd cc
unfit_if false h = refl

numbers : (it : LedgerRow) (old : State) (why : Refusal) → IsRefused ledger_schema Enforced old.now.trees (adding_row it old.now.trees) why → HasNoNumber old (edit_error why)
numbers it old (Violates Datatype) h = absurd (let e = h in cc)
numbers it old (Violates NotNull) h = absurd (let e = h in cc)
numbers it old (Violates Check) h = absurd (let e = h in cc)
numbers it old (Violates PrimaryKey) h =
    inl (refl, Any-from_list_any (λ r. is_eq (value_cmp (rowid r) (Int (next_rowid (old.now.trees 0))))) (old.now.trees 0) (taken_if _ h))
numbers it old (Violates Unique) h =
    absurd (let db = with_tree old.now.trees 0 (edited old.now.trees (adding_row it old.now.trees)) in h (all_unique db (db 0), tt))
numbers it old (Violates ForeignKey) h = absurd h
numbers it old Mismatch h = absurd (let e = h in cc)
numbers it old NoRowid h = inr (refl, unfit_if _ h)
numbers it old BadReference h = absurd (let e = h in cc)
numbers it old TooDeep h = absurd h

module _ (row : NewRow) (station operator time : List ℕ) where
  abbrev params : Row
  params = given row station operator time

  abbrev it : LedgerRow
  it = entered row station operator time

  -- why the statement stops: a limit, a row that is too long, or a rule
  abbrev Stops : Option ℕ → Trees → Option Error → Type 0
  Stops limit db stop =
      ((stop ≡ Some (SqliteFailure code.OperationInterrupted)) × IsSome limit)
      ⊎ (((stop ≡ None) × IsOversized ledger_schema entry_table (table_row it (db 0)))
      ⊎ ((why : Refusal) × IsRefused ledger_schema Enforced db (adding_row it db) why × (stop ≡ Some (edit_error why))))

  abbrev edit_by : Trees → List Row → Edit
  edit_by db rows = edit_of db entry_table [] Chosen 0 rows

  abbrev task_at : Option ℕ → Task
  task_at limit = task_of limit params

  edit_is : (db : Trees) (rows : List Row) → rows ≡ value_rows params 11 1 terms → edit_by db rows ≡ adding_row it db
  edit_is db rows is = ap (edit_by db) is ∙ rw (cast_null, cast_int (pos row.id), cast_int (pos row.counter), cast_int (pos row.auth)) refl

  ends : {A : Type 0} {a : A} {stop : Option Error} → ◌≡◌ {A = Result A (Option Error)} (Err stop) (Ok a) → ⊥
  ends e = cc

  same_stop : {A : Type 0} {x y : Option Error} → ◌≡◌ {A = Result A (Option Error)} (Err x) (Err y) → x ≡ y
  same_stop e = cc

  no_work : (n : ℕ) (db : Trees) (why : Option Refusal) → ¬ Leads ledger_schema Enforced n db [] (Err why)
  no_work zero db why h = absurd (let e = h.1 in cc)
  no_work (suc n) db why h = absurd (omega (arith, ap length h.2, length-append h.0 (h.1 ∷ [])))

  edit_stops : (limit : Option ℕ) (db : Trees) (rows : List Row) (stop : Option Error) → rows ≡ value_rows params 11 1 terms → Edited ledger_schema Enforced db (edit_by db rows) (Err stop) → Stops limit db stop
  edit_stops limit db rows stop is (why, writes, same) = settle why (subst (λ edit. Writes ledger_schema Enforced db edit (Err why)) (edit_is db rows is) writes) same
    where
      settle : (why : Option Refusal) → Writes ledger_schema Enforced db (adding_row it db) (Err why) → stop ≡ option_map edit_error why → Stops limit db stop
      settle why (inl (reason, refused, is)) same = inr (inr (reason, refused, same ∙ ap (option_map edit_error) (stopped_by is)))
      settle why (inr (inl (new, has, long, is))) same =
          inr (inl (same ∙ ap (option_map edit_error) (stopped_by is), subst (IsOversized ledger_schema entry_table) (only_row new _ has) long))
      settle why (inr (inr (next, applies, (n, leads)))) same = absurd (no_work n next why leads)

  insert_stops : (limit : Option ℕ) (db : Trees) (stop : Option Error) → Inserts (task_at limit) (Values terms 11) db (Err stop) → Stops limit db stop
  insert_stops limit db stop (inl (first, sourced, is)) = subst (Stops limit db) (sym (same_stop is)) (source_stops first sourced)
    where
      source_stops : (first : Option Error) → Sourced limit (record { schema = ledger_schema; trees = db }) params (Values terms 11) (Err first) → Stops limit db first
      source_stops None none = absurd none
      source_stops (Some e) (inl (is, untyped)) = absurd (let e = untyped in cc)
      source_stops (Some e) (inr (is, some)) = inl (ap Some is, some)
  insert_stops limit db stop (inr (rows, sourced, inl (first, counted, is))) = absurd (ends counted)
  insert_stops limit db stop (inr (rows, sourced, inr (counter, counted, inl (first, edited, is)))) =
      subst (Stops limit db) (sym (same_stop is)) (edit_stops limit db rows first sourced.1 edited)
  insert_stops limit db stop (inr (rows, sourced, inr (counter, counted, inr (mid, edited, inl (first, counts, is))))) = absurd (ends counts)
  insert_stops limit db stop (inr (rows, sourced, inr (counter, counted, inr (mid, edited, inr (next, counts, is))))) = absurd (ends is)

  concludes : (limit : Option ℕ) (db : Trees) (w : Written) (stop : Option Error) → ¬ Concludes (task_at limit) mode None w (Err stop)
  concludes limit db w stop (inl (first, (fails, is), same)) = fails (refers All w.trees)
  concludes limit db w stop (inr (doubt, tested, inl (first, returns, same))) = ends returns
  concludes limit db w stop (inr (doubt, tested, inr (rows, returns, same))) = ends same

  does_stops : (limit : Option ℕ) (db : Database) (stop : Option Error) → db.schema ≡ ledger_schema → Does limit mode params db (text row station operator time) None (command row station operator time) (Err stop)
      → Stops limit db.trees stop
  does_stops limit db stop has h =
      settle (subst (λ s. Does limit mode params (record db { schema = s }) (text row station operator time) None (command row station operator time) (Err stop)) has h)
    where
      settle : Does limit mode params (record db { schema = ledger_schema }) (text row station operator time) None (command row station operator time) (Err stop) → Stops limit db.trees stop
      settle (inl (first, inserts, is)) = subst (Stops limit db.trees) (sym (same_stop is)) (insert_stops limit db.trees first inserts)
      settle (inr (w, inserts, is)) = absurd (concludes limit db.trees w stop is)

  refused : (old new : State) (e : Error) → Stops old.step_limit old.now.trees (Some e) → FailsToAdd it old new e
  refused old new e (inl (is, some)) = inr (inl (told is, some))
  refused old new e (inr (inl (is, long))) = absurd (untold is)
  refused old new e (inr (inr (why, refuses, is))) = inr (inr (inr (subst (HasNoNumber old) (sym (told is)) (numbers it old why refuses))))

  too_long : (old : State) → Stops old.step_limit old.now.trees None → IsOversized ledger_schema entry_table (table_row it (old.now.trees 0))
  too_long old (inl (is, some)) = absurd (untold (sym is))
  too_long old (inr (inl (is, long))) = long
  too_long old (inr (inr (why, refuses, is))) = absurd (untold (sym is))

  caused : (old new : State) (cause : StoreError) → HasCause old new (Does old.step_limit mode params old.now (text row station operator time) None (command row station operator time) (Err None)) cause
      → old.now.schema ≡ ledger_schema → StoreFailed old new (store_error cause) ⊎ IsTooLong it old (store_error cause)
  caused old new OutOfMemory why has = inl (OutOfMemory, refl, why)
  caused old new Io why has = inl (Io, refl, why)
  caused old new Corrupt why has = inl (Corrupt, refl, why)
  caused old new Full why has = inl (Full, refl, why)
  caused old new Broken why has = inl (Broken, refl, why)
  caused old new Unstorable why has = inr (refl, too_long old (does_stops old.step_limit old.now None has why))

  failed_add : (old new : State) (e : Error) → StoreFailed old new e ⊎ IsTooLong it old e → FailsToAdd it old new e
  failed_add old new e (inl h) = inl h
  failed_add old new e (inr h) = inr (inr (inl h))

  pub add_fails : (old new : State) (e : Error) → HasLedgerTable old → Executes insert_text params old new (Err e) → FailsToAdd it old new e × IsUndone old new
  unfolding ExecutesIn IsNotRun
  add_fails old new e has (inl (inl (none, same))) = absurd (one_runs insert_text params old e (one_at insert_text 9 old has.schema insert_one) none)
  add_fails old new e has (inl (inr (cause, is, why, back, tells))) = (inl (cause, is, why), undone_back old new has back)
  add_fails old new e has (inr (c, st, runs)) =
      let known = sym st.is ∙ ap (λ s. understood s insert_text) has.schema in
      let bare = subst IsPlain (sym known) insert_plain in
      let is = ap command_of known ∙ insert_is in
      let ran : RunsCommand old new insert_text c (timed params c.formats st.now) (Err e) = rw (runs_quiet c is bare.0) at runs in
      settle (subst₂ (λ k t. Failing k t) is (ap (statement_of insert_text) known) (rw (bare.0, bare.1, append-nil params) at ran))
    where
      Failing : Command → List ℕ → Type 0
      Failing k t =
          ((IsMisplaced old k e ⊎ ((IsWrite k ⊎ IsSome no_returning) × Does old.step_limit mode params old.now t None k (Err (Some e)))) × IsUnchanged old new)
          ⊎ Fails old new (Does old.step_limit mode params old.now t None k (Err None)) e

      settle : Failing (command row station operator time) (text row station operator time) → FailsToAdd it old new e × IsUndone old new
      settle (inl (inl (inl (is, inl (named, open_))), same)) = absurd (let e = named in cc)
      settle (inl (inl (inl (is, inr (inl named, shut))), same)) = absurd (let e = named in cc)
      settle (inl (inl (inl (is, inr (inr named, shut))), same)) = absurd (let e = named in cc)
      settle (inl (inl (inr (is, name, inl named, unnamed)), same)) = absurd (let e = named in cc)
      settle (inl (inl (inr (is, name, inr named, unnamed)), same)) = absurd (let e = named in cc)
      settle (inl (inr (may, does), same)) = (refused old new e (does_stops old.step_limit old.now (Some e) has.schema does), undone_same old new has same)
      settle (inr (cause, is, why, back, tells)) =
          (failed_add old new e (subst (λ x. StoreFailed old new x ⊎ IsTooLong it old x) (sym is) (caused old new cause why has.schema)), undone_back old new has back)

  pub add_failed : (old new : State) (r : Result ℕ Error) → HasLedgerTable old → Executes insert_text params old new r → IfErr r (FailsToAdd it old new) × OnErr r (IsUndone old new)
  add_failed old new (Ok n) has h = (tt, tt)
  add_failed old new (Err e) has h = add_fails old new e has h

-- ---- after a look that changed nothing

abbrev NumbersNone : Database → Error → Type 0
NumbersNone d e =
    ((e ≡ SqliteFailure (code.ConstraintViolation PrimaryKey)) × Any (λ r. is_eq (value_cmp (rowid r) (Int (next_rowid (d.trees 0)))) ≡ true) (d.trees 0))
    ⊎ ((e ≡ SqliteFailure code.NoRowid) × (fits_i64 (next_rowid (d.trees 0)) ≡ false))

pub looked_fails : (old mid new : State) (row : LedgerRow) (e : Error) → IsUnchanged old mid → old.faults ≤ mid.faults → mid.step_limit ≡ old.step_limit → FailsToAdd row mid new e → FailsToAdd row old new e
looked_fails old mid new row e same more limit (inl (cause, is, why)) = inl (cause, is, earlier cause why)
  where
    earlier : (cause : StoreError) → HasCause mid new ⊥ cause → HasCause old new ⊥ cause
    earlier OutOfMemory why = why
    earlier Io why = omega (arith, more, why)
    earlier Corrupt why = omega (arith, more, why)
    earlier Full why = omega (arith, more, why)
    earlier Broken why = absurd (let open_ = same.0.is_open in cc)
    earlier Unstorable why = absurd why
looked_fails old mid new row e same more limit (inr (inl (is, some))) = inr (inl (is, subst IsSome limit some))
looked_fails old mid new row e same more limit (inr (inr (inl (is, long)))) =
    inr (inr (inl (is, subst (λ (d : Database). IsOversized ledger_schema entry_table (table_row row (d.trees 0))) same.0.now_is long)))
looked_fails old mid new row e same more limit (inr (inr (inr numbered))) =
    inr (inr (inr (subst (λ (d : Database). NumbersNone d e) same.0.now_is numbered)))

pub looked_undone : (old mid new : State) → IsUnchanged old mid → IsUndone mid new → IsUndone old new
looked_undone old mid new same undone = record { same = λ is_open. undone.same is_open ∙ same.0.now_is; ready = undone.ready }
