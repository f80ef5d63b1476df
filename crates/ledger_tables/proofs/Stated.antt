-- What leaves the database as it was
use Rattle.std.proofs.Common.{◌≡◌, ℕ, List, Result, Ok, Err, OnErr, OnOk, sym, ap, subst, ◌∙◌, arith}
use Rattle.sqlite_value.specs.Order.{Row}
use Rattle.sqlite_schema.specs.declared.schema.Schema.{Schema}
use Rattle.sqlite.specs.Effect.{Database}
use Rattle.sqlite.specs.Listing.{understood}
use Rattle.sqlite.specs.Clock.{timed}
use Rattle.sqlite.specs.State.{State, HasCleanDisk, ShowsRows, CommitsShowing, Shown, IsUnchanged, Survives}
use Rattle.sqlite.proofs.StateLemmas.{survives_weaker}
use Rattle.sqlite.proofs.Callers.{IsPlain, never_commits}
use Rattle.ledger_tables.specs.Table.{ledger_schema}
use Rattle.ledger_tables.specs.Held.{HasLedgerTable}

pub plain_at : (sql : List ℕ) (schema : Schema) → schema ≡ ledger_schema → IsPlain (understood ledger_schema sql) → IsPlain (understood schema sql)
plain_at sql schema has plain = subst (λ t. IsPlain (understood t sql)) (sym has) plain

pub quiet : (sql : List ℕ) (params : Row) (old new : State) → IsPlain (understood ledger_schema sql) → (HasCleanDisk old → HasLedgerTable old)
    → Survives old new (CommitsShowing sql params old) → Survives old new (λ _. ⊥)
quiet sql params old new plain has s =
    survives_weaker old new _ _ (λ clean db h. never_commits sql params old db (plain_at sql _ (has (omega (arith, s.clean))).schema plain) h) s

pub shown_same : (sql : List ℕ) (params : Row) (old new : State) (rows : List Row) → IsPlain (understood old.now.schema sql) → Shown sql params old new rows → IsUnchanged old new
unfolding Shown
shown_same sql params old new rows plain h =
    let none = (subst IsPlain h.1.is plain).0 in
    let it = subst (ShowsRows old new sql h.0 (timed params h.0.formats h.1.now) rows) none h.2 in
    it.3

-- a connection that is unchanged still has the table
pub still : (old new : State) → IsUnchanged old new → HasLedgerTable old → HasLedgerTable new
still old new same has = record {
  schema = ap (λ (d : Database). d.schema) same.0.now_is ∙ has.schema;
  alone = same.0.mode ∙ has.alone;
  settled = same.0.committed_is ∙ has.settled ∙ sym same.0.now_is;
}

pub on_ok : {T E P : Type 0} (r : Result T E) → P → OnOk r P
on_ok (Ok x) p = p
on_ok (Err e) p = tt

pub on_err : {T E P : Type 0} (r : Result T E) → P → OnErr r P
on_err (Ok x) p = tt
on_err (Err e) p = p
