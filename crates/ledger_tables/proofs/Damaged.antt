-- A row that a look shows and that isn't whole is damage in the table
use Rattle.std.proofs.Common.{◌≡◌, ◌⊎◌, inl, inr, ℕ, zero, suc, List, [], ◌∷◌, ◌++◌, map, Bool, true, false, ◌&&◌, cond, Any, refl, sym, ap, subst, ◌∙◌, arith}
use Rattle.std.proofs.lemmas.List.Sorted.{IsPermutation-sym, IsPermutation-map}
use Rattle.sqlite_value.specs.declared.value.Value.TheVariants.{Null}
use Rattle.sqlite_value.specs.Order.{Row, column}
use Rattle.sqlite_sql.specs.Term.{Env}
use Rattle.sqlite_sql.specs.Query.{IsAnswer, output, Output}
use Rattle.sqlite_sql.specs.Program.{overlay}
use Rattle.sqlite.specs.State.{State, Shown}
use Rattle.sqlite.proofs.Callers.{reads_as}
use Rattle.ledger_rows.proofs.CallerLemmas.{any_permuted}
use Rattle.ledger_tables.specs.Table.{ledger_schema}
use Rattle.ledger_tables.specs.Reading.{IsShownWhole}
use Rattle.ledger_tables.specs.Failing.{IsDamagedFor}
use Rattle.ledger_tables.proofs.Texts.{slot_text, slot_query, slot_is, slot_plain}
use Rattle.ledger_tables.proofs.Matching.{asked, found, test_of}

-- ---- one of a list

first_or_later : {X : Type 0} (P : X → Type 0) (x : X) (xs : List X) → Any P (x ∷ xs) → P x ⊎ Any P xs
first_or_later P x xs (zero, y, low, is, p) = inl (subst P (sym is) p)
first_or_later P x xs (suc k, y, low, is, p) = inr (k, y, omega (arith, low), is, p)

first_is : {X : Type 0} (P : X → Type 0) (x : X) (xs : List X) → P x → Any P (x ∷ xs)
first_is P x xs p = (0, x, omega arith, refl, p)

later_is : {X : Type 0} (P : X → Type 0) (x : X) (xs : List X) → Any P xs → Any P (x ∷ xs)
later_is P x xs (k, y, low, is, p) = (suc k, y, omega (arith, low), is, p)

both_hold : (a b : Bool) → (a && (b && true)) ≡ true → (a ≡ true) × (b ≡ true)
both_hold true true is = (refl, refl)
both_hold true false is = absurd cc
both_hold false b is = absurd cc

module _ (uid : List ℕ) (id : ℕ) where
  abbrev IsBad : Row → Type 0
  IsBad row = ¬ IsShownWhole row

  abbrev shown_by : List Env → List Row
  shown_by envs = map (λ (o : Output). o.1) (map (output slot_query) envs)

  by_row : (b : Bool) (r : Row) (envs : List Env) → test_of uid id (column r 1) (column r 2) ≡ b → Any IsBad (shown_by (cond b ((asked uid id ∷ r ∷ []) ∷ []) [] ++ envs))
      → IsDamagedFor uid id r ⊎ Any IsBad (shown_by envs)
  by_row true r envs is h =
      let both = both_hold _ _ is in
      elim (first_or_later IsBad _ _ h) [
        | inl bad ↦ inl (record { unit = both.0; slot = both.1; damaged = bad })
        | inr rest ↦ inr rest
      ]
  by_row false r envs is h = inr h

  damage_in : (rows : List Row) → Any IsBad (shown_by (found uid id rows)) → Any (IsDamagedFor uid id) rows
  damage_in [] h = absurd (omega (arith, h.2))
  damage_in (r ∷ rows) h = elim (by_row (test_of uid id (column r 1) (column r 2)) r (found uid id rows) refl h) [
    | inl bad ↦ first_is (IsDamagedFor uid id) r rows bad
    | inr rest ↦ later_is (IsDamagedFor uid id) r rows (damage_in rows rest)
  ]

  pub damaged : (old new : State) (rows : List Row) → old.now.schema ≡ ledger_schema → Shown slot_text (asked uid id) old new rows → Any IsBad rows → Any (IsDamagedFor uid id) (old.now.trees 0)
  damaged old new rows has h bad =
      let got = reads_as slot_text (asked uid id) old new ledger_schema has _ slot_is.0 slot_plain slot_is.1 rows h in
      let a : IsAnswer slot_query (overlay old.now.trees []) (asked uid id) rows = got.answer Null in
      let shuffled = IsPermutation-map (λ (o : Output). o.1) a.kept a.ordered a.same in
      let staged : a.staged ≡ found uid id (old.now.trees 0) = a.grouped in
      let first : map (λ (o : Output). o.1) a.kept ≡ shown_by (found uid id (old.now.trees 0)) = ap (map (λ (o : Output). o.1)) (a.distinct ∙ ap (map (output slot_query)) staged) in
      let second : rows ≡ map (λ (o : Output). o.1) a.ordered = a.shown in
      damage_in (old.now.trees 0) (subst (Any IsBad) first (any_permuted IsBad _ _ (IsPermutation-sym _ _ shuffled) (subst (Any IsBad) second bad)))
