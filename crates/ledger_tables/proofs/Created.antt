-- What the statement that creates the table does
use Rattle.std.proofs.Common.{◌≡◌, ◌⊎◌, inl, inr, ℕ, ◌+◌, ◌*◌, ◌^◌, ◌≤◌, List, [], codes, Bool, length, cond, true, false, Option, None, Some, Ok, Err, Result, IfErr, IsSome, OnOk, refl, sym, ap, subst, subst₂, ◌∙◌, append-nil, arith}
use Rattle.std.proofs.lemmas.Fmt.{decimal_digit}
use Rattle.std.specs.Str.{IsUtf8}
use Rattle.sqlite_value.specs.declared.value.Value.TheVariants.{Text}
use Rattle.sqlite_schema.specs.declared.schema.Table.{Table}
use Rattle.sqlite_schema.specs.Names.{same_name as same_names}
use Rattle.sqlite_schema.specs.Rules.{table_reals, index_reals}
use Rattle.sqlite_schema.specs.declared.command.Command.{Command}
use Rattle.sqlite_resolve.specs.declared.compiled.Compiled.{Compiled}
use Rattle.sqlite_resolve.specs.Compile.{table_defined_by}
use Rattle.sqlite_rules.specs.Lists.{Has}
use Rattle.sqlite_trees.specs.declared.error.StoreError.{StoreError}
use Rattle.sqlite_trees.specs.declared.error.StoreError.TheVariants.{OutOfMemory, Io, Corrupt, Full, Broken, Unstorable}
use Rattle.sqlite_catalog.specs.declared.error.Refusal.{Refusal}
use Rattle.sqlite_catalog.specs.declared.error.Refusal.TheVariants.{Invalid, NameTaken, BadName, BadKey, BadText, TooBig, Violates}
use Rattle.sqlite_catalog.specs.Calls.{RefusesTable, IsLongTable}
use Rattle.sqlite_catalog.specs.Change.{is_reserved}
use Rattle.sqlite_catalog.specs.Listing.{is_formed, is_fit}
use Rattle.sqlite.specs.Calls.{IsWrite}
use Rattle.sqlite.specs.Clock.{timed}
use Rattle.sqlite_schema.specs.declared.command.Command.TheVariants.{CreateTable}
use Rattle.sqlite.specs.Change.{created, next_tree}
use Rattle.sqlite_trees.specs.Tree.{Trees}
use Rattle.sqlite_trees.specs.Sound.{fits_kind, is_free_name, same_name, begins}
use Rattle.sqlite_value.specs.Order.{value_cmp}
use Rattle.sqlite.specs.declared.error.Error.{Error}
use Rattle.sqlite.specs.declared.run.Mode.{Mode}
use Rattle.sqlite.specs.Does.{Tally, Does, MakesTable, lacks_sequence}
use Rattle.sqlite.specs.Effect.{Database}
use Rattle.sqlite.specs.Listing.{understood}
use Rattle.sqlite.specs.State.{State, mode_of, HasCause, Fails, IsUnchanged, IsMisplaced, IsNotRun, shows_rows, RunsCommand, ExecutesIn, Writes, Executes, CommitsBy, MayCommit}
use Rattle.sqlite.proofs.Callers.{IsPlain, command_of, statement_of, runs_as}
use Rattle.ledger_tables.specs.Table.{entry_table, ledger_schema, no_schema}
use Rattle.ledger_tables.specs.Held.{ledger_of, ledger_in, HasLedgerTable}
use Rattle.ledger_tables.specs.Failing.{StoreFailed}
use Rattle.ledger_tables.proofs.Texts.{IsOneStatement, create_text, create_is, create_plain, create_one}
use Rattle.ledger_tables.proofs.Failed.{one_runs, no_returning}
use Rattle.ledger_tables.proofs.Added.{went, same_value}

named : created no_schema entry_table ≡ ledger_schema
named = rw (decimal_digit 1 (omega arith)) refl

makes : (limit : Option ℕ) (mode : Mode) (db after : Database) (tally : Tally) → db.schema ≡ no_schema → Does limit mode [] db create_text None CreateTable (Ok (tally, after))
    → (after.schema ≡ ledger_schema) × (after.trees 0 ≡ [])
makes limit mode db after tally has h =
    let all = went h in
    let first = went all.1 in
    let made = first.1 in
    let both : Ok made.table ≡ Ok entry_table = sym made.defined ∙ create_is.2 in
    let same : made.table ≡ entry_table = cc in
    let schema : first.0.schema ≡ ledger_schema = made.is ∙ ap (λ s. created s made.table) has ∙ ap (created no_schema) same ∙ named in
    let plain : lacks_sequence first.0.schema ≡ false = ap lacks_sequence schema in
    let now : after ≡ first.0 = ap (λ (p : Tally × Database). p.1) (same_value all.2) ∙ same_value (rw plain at first.2) in
    (ap (λ (d : Database). d.schema) now ∙ schema, ap (λ (d : Database). d.trees 0) now ∙ subst (λ s. first.0.trees (next_tree s) ≡ []) has made.empty)

writes : (old new : State) (count : ℕ) → old.now.schema ≡ no_schema → Executes create_text [] old new (Ok count) → Writes old new None CreateTable create_text [] count
writes old new count has h = subst (λ t. Writes old new None CreateTable t [] count) create_is.1 (runs_as create_text [] old new no_schema has CreateTable create_is.0 create_plain count h)

pub creates : (old new : State) (r : Result ℕ Error) → old.now.schema ≡ no_schema → old.in_transaction ≡ false → Executes create_text [] old new r
    → OnOk r (HasLedgerTable new) × OnOk r (ledger_in new ≡ [])
creates old new (Err e) has alone h = (tt, tt)
creates old new (Ok count) has alone h =
    let w = writes old new count has h in
    let it = makes old.step_limit (mode_of old) old.now new.now w.tally has w.changed in (
      record {
        schema = it.0;
        alone = w.shown.mode ∙ alone;
        settled = subst (λ b. new.committed ≡ cond b old.committed new.now) alone w.shown.committed_is;
      },
      ap ledger_of it.1,
    )

-- a crash leaves what was there, or an empty ledger
pub commits_empty : (s : State) (left : Trees) → s.now.schema ≡ no_schema → CommitsBy create_text [] s left → ledger_of (left 0) ≡ []
unfolding CommitsBy
commits_empty s left has h =
    let known = sym h.1.is ∙ ap (λ t. understood t create_text) has in
    let bare = subst IsPlain (sym known) create_plain in
    let it = rw (bare.0, bare.1, append-nil []) at h.2 in
    settle (subst₂ (λ k t. MayCommit s None k t [] left) (ap command_of known ∙ create_is.0) (ap (statement_of create_text) known ∙ create_is.1) it)
  where
    settle : MayCommit s None CreateTable create_text [] left → ledger_of (left 0) ≡ []
    settle (inl (inl is, same)) = absurd (let e = is in cc)
    settle (inl (inr named, same)) = absurd (let e = named.2 in cc)
    settle (inr may) = ap (λ (t : Trees). ledger_of (t 0)) may.5 ∙ ap ledger_of (makes s.step_limit (mode_of s) s.now may.2 may.1 has may.3).1

-- ---- the statement isn't refused

create_utf8 : IsUtf8 create_text
unfolding lib.Utf8.encode
create_utf8 = (create_text, (refl, refl))

name_utf8 : IsUtf8 entry_table.name
unfolding lib.Utf8.encode
name_utf8 = (entry_table.name, (refl, refl))

create_fit : is_fit (Text (codes "table")) (Text entry_table.name) (Text entry_table.name) (Text create_text) ≡ true
unfolding fits_kind is_free_name same_name begins value_cmp lib.Ieee.is_nan lib.Ieee.lt
create_fit = refl

name_free : is_reserved entry_table.name ≡ false
unfolding same_names
name_free = refl

apart : {b : Bool} → b ≡ true → b ≡ false → ⊥
apart holds fails = absurd (let e = sym holds ∙ fails in cc)

it_is : (table : Table) → table_defined_by create_text ≡ Ok table → table ≡ entry_table
it_is table defined = let both = sym defined ∙ create_is.2 in same_value both

no_key : (key : List ℕ) → Has entry_table.uniques key → index_reals (table_reals entry_table) key ≡ 0
no_key key (inl is) = rw is refl
no_key key (inr none) = absurd none

never_refused : (why : Refusal) → ¬ RefusesTable no_schema create_text why
never_refused (Invalid e) defined = absurd (let both = sym defined ∙ create_is.2 in cc)
never_refused NameTaken (table, defined, inl used) = absurd (let e = used in cc)
never_refused NameTaken (table, defined, inr (index, has, used)) = absurd (let e = used in cc)
never_refused BadName (table, defined, inl none) = none (subst (λ (t : Table). IsUtf8 t.name) (sym (it_is table defined)) name_utf8)
never_refused BadName (table, defined, inr (reserved, own)) = apart (subst (λ (t : Table). is_reserved t.name ≡ true) (it_is table defined) reserved) name_free
never_refused TooBig (table, defined, inl many) = absurd (let e = subst (λ (t : Table). 65536 ≤ next_tree no_schema + length t.uniques) (it_is table defined) many in omega (arith, e))
never_refused TooBig (table, defined, inr (inl reals)) = absurd (let e = subst (λ t. 2 ^ 64 ≤ table_reals t) (it_is table defined) reals in omega (arith, e))
never_refused TooBig (table, defined, inr (inr (key, has, reals))) =
    absurd (let no = no_key key (subst (λ (t : Table). Has t.uniques key) (it_is table defined) has) in let e = subst (λ t. 2 ^ 64 ≤ index_reals (table_reals t) key) (it_is table defined) reals in omega (arith, no, e))
never_refused BadKey (table, defined, unformed) = absurd (let e = subst (λ t. is_formed t ≡ false) (it_is table defined) unformed in cc)
never_refused BadText (table, defined, unfit) = apart create_fit (subst (λ (t : Table). is_fit (Text (codes "table")) (Text t.name) (Text t.name) (Text create_text) ≡ false) (it_is table defined) unfit)
never_refused (Violates rule) none = none

never_long : ¬ IsLongTable create_text
never_long (table, defined, long) = absurd (let e = subst (λ (t : Table). 10 ^ 9 ≤ 2 * length t.name + length create_text + 200) (it_is table defined) long in omega (arith, e))

never_made : (db : Database) (stop : Option Error) → db.schema ≡ no_schema → ¬ MakesTable create_text db (Err stop)
never_made db None has long = never_long long
never_made db (Some e) has (inl (none, is)) = none create_utf8
never_made db (Some e) has (inr (why, refuses, is)) = never_refused why (subst (λ s. RefusesTable s create_text why) has refuses)

no_end : {A : Type 0} {a : A} {stop : Option Error} → ◌≡◌ {A = Result A (Option Error)} (Err stop) (Ok a) → ⊥
no_end e = cc

never_stops : (limit : Option ℕ) (mode : Mode) (db : Database) (stop : Option Error) → db.schema ≡ no_schema → ¬ Does limit mode [] db create_text None CreateTable (Err stop)
never_stops limit mode db stop has (inl (s, inl (t, makes, same), is)) = never_made db t has makes
never_stops limit mode db stop has (inl (s, inr (after, made, sequences), is)) =
    let both : Ok made.table ≡ Ok entry_table = sym made.defined ∙ create_is.2 in
    let same : made.table ≡ entry_table = cc in
    let schema : after.schema ≡ ledger_schema = made.is ∙ ap (λ x. created x made.table) has ∙ ap (created no_schema) same ∙ named in
    let plain : lacks_sequence after.schema ≡ false = ap lacks_sequence schema in
    no_end (rw plain at sequences)
never_stops limit mode db stop has (inr (after, made, is)) = no_end is

quiet_create : (c : Compiled) → c.command ≡ CreateTable → c.returning ≡ None → shows_rows false c ≡ false
quiet_create c is none = rw (is, none) refl

pub create_fails : (old new : State) (e : Error) → old.now.schema ≡ no_schema → Executes create_text [] old new (Err e) → StoreFailed old new e
unfolding ExecutesIn IsNotRun
create_fails old new e has (inl (inl (none, same))) = absurd (one_runs create_text [] old e (subst (λ t. IsOneStatement create_text 0 (understood t create_text)) (sym has) create_one) none)
create_fails old new e has (inl (inr (cause, is, why, back, tells))) = (cause, is, why)
create_fails old new e has (inr (c, st, runs)) =
    let known = sym st.is ∙ ap (λ s. understood s create_text) has in
    let bare = subst IsPlain (sym known) create_plain in
    let is = ap command_of known ∙ create_is.0 in
    let ran : RunsCommand old new create_text c (timed [] c.formats st.now) (Err e) = rw (quiet_create c is bare.0) at runs in
    settle (subst₂ (λ k t. Failing k t) is (ap (statement_of create_text) known ∙ create_is.1) (rw (bare.0, bare.1, append-nil []) at ran))
  where
    Failing : Command → List ℕ → Type 0
    Failing k t =
        ((IsMisplaced old k e ⊎ ((IsWrite k ⊎ IsSome no_returning) × Does old.step_limit (mode_of old) [] old.now t None k (Err (Some e)))) × IsUnchanged old new)
        ⊎ Fails old new (Does old.step_limit (mode_of old) [] old.now t None k (Err None)) e

    caused : (cause : StoreError) → HasCause old new (Does old.step_limit (mode_of old) [] old.now create_text None CreateTable (Err None)) cause → HasCause old new ⊥ cause
    caused OutOfMemory why = why
    caused Io why = why
    caused Corrupt why = why
    caused Full why = why
    caused Broken why = why
    caused Unstorable why = never_stops old.step_limit (mode_of old) old.now None has why

    settle : Failing CreateTable create_text → StoreFailed old new e
    settle (inl (inl (inl (is, inl (named, begun))), same)) = absurd (let e = named in cc)
    settle (inl (inl (inl (is, inr (inl named, shut))), same)) = absurd (let e = named in cc)
    settle (inl (inl (inl (is, inr (inr named, shut))), same)) = absurd (let e = named in cc)
    settle (inl (inl (inr (is, name, inl named, unnamed)), same)) = absurd (let e = named in cc)
    settle (inl (inl (inr (is, name, inr named, unnamed)), same)) = absurd (let e = named in cc)
    settle (inl (inr (may, does), same)) = absurd (never_stops old.step_limit (mode_of old) old.now (Some e) has does)
    settle (inr (cause, is, why, back, tells)) = (cause, is, caused cause why)

pub create_failed : (old new : State) (r : Result ℕ Error) → old.now.schema ≡ no_schema → Executes create_text [] old new r → IfErr r (StoreFailed old new)
create_failed old new (Ok n) has h = tt
create_failed old new (Err e) has h = create_fails old new e has h
