-- What a verb adds, from what it read and what it added
use Rattle.std.proofs.Common.{◌≡◌, ℕ, ◌+◌, ◌≤◌, true, List, Any, sym, ap, subst, ◌∙◌, arith}
use Rattle.std.specs.List.Sorted.{IsPermutation}
use Rattle.key_slots.specs.Authority.{is_pair}
use Rattle.key_campaign.specs.declared.commands.Issue.{Issue}
use Rattle.key_campaign.specs.declared.commands.Confirm.{Confirm}
use Rattle.key_campaign.specs.Entries.{greatest_counter}
use Rattle.sqlite_trees.specs.Tree.{Trees}
use Rattle.sqlite.specs.Effect.{Database}
use Rattle.sqlite.specs.State.{State, HasCleanDisk, IsUnchanged, Survives}
use Rattle.sqlite.proofs.StateLemmas.{survives_then}
use Rattle.ledger_rows.specs.declared.kinds.SlotRow.{SlotRow}
use Rattle.ledger_rows.specs.declared.remarks.Remark.{Remark}
use Rattle.ledger_rows.specs.Rows.{RowOrigin, LedgerRow, slot_rows, greatest_in}
use Rattle.ledger_rows.specs.Steps.{AddsRow, issued_row, confirmed_row, remarked_row, IssuesRow, AnswersRow, HasConfirmed, ConfirmsRow, MayRemark, RemarksRow}
use Rattle.ledger_rows.proofs.CallerLemmas.{greatest_permuted, any_permuted, unconfirmed_permuted, remark_permuted}
use Rattle.std.proofs.lemmas.List.Sorted.{IsPermutation-sym}
use Rattle.ledger_tables.specs.Held.{ledger_of, ledger_in}

pub issues : (i : Issue) (origin : RowOrigin) (counter : ℕ) (old new : List LedgerRow) (read : List SlotRow) → is_pair i.id i.auth ≡ true → IsPermutation (slot_rows i.uid i.id old) read
    → counter ≡ greatest_in read + 1 → counter ≤ greatest_counter → AddsRow (issued_row i origin counter) old new → IssuesRow i origin counter old new
issues i origin counter old new read pair same next fits adds = record {
  pair = pair;
  next = next ∙ ap (λ n. n + 1) (sym (greatest_permuted (slot_rows i.uid i.id old) read same));
  fits = fits;
  adds = adds;
}

pub confirms : (k : Confirm) (origin : RowOrigin) (counter : ℕ) (old new : List LedgerRow) (read : List SlotRow) → IsPermutation (slot_rows k.uid k.id old) read
    → Any (λ row. AnswersRow k row × (row.counter ≡ counter)) read → ¬ HasConfirmed counter read → AddsRow (confirmed_row k origin counter) old new → ConfirmsRow k origin counter old new
confirms k origin counter old new read same answers none adds = record {
  answers = any_permuted (λ (row : SlotRow). AnswersRow k row × (row.counter ≡ counter)) read (slot_rows k.uid k.id old) (IsPermutation-sym _ _ same) answers;
  unconfirmed = unconfirmed_permuted counter read (slot_rows k.uid k.id old) (IsPermutation-sym _ _ same) none;
  adds = adds;
}

pub remarks : (r : Remark) (origin : RowOrigin) (counter : ℕ) (old new : List LedgerRow) (read : List SlotRow) → IsPermutation (slot_rows r.uid r.id old) read → counter ≡ r.counter
    → MayRemark r.kind r.counter read → AddsRow (remarked_row r origin) old new → RemarksRow r origin counter old new
remarks r origin counter old new read same is may adds = record {
  is = is;
  may = remark_permuted r.kind r.counter read (slot_rows r.uid r.id old) (IsPermutation-sym _ _ same) may;
  adds = adds;
}

-- a look that changes nothing, and then a row
pub unlooked : (old mid : State) → IsUnchanged old mid → ledger_in mid ≡ ledger_in old
unlooked old mid same = ap (λ (d : Database). ledger_of (d.trees 0)) same.0.now_is

pub from_old : (old mid : State) (row : LedgerRow) (new : List LedgerRow) → IsUnchanged old mid → AddsRow row (ledger_in mid) new → AddsRow row (ledger_in old) new
from_old old mid row new same adds = subst (λ rows. AddsRow row rows new) (unlooked old mid same) adds

-- what a look and a call leave
pub looked_then : (old mid new : State) (row : LedgerRow) (R : Trees → Type 0) → (HasCleanDisk mid → IsUnchanged old mid) → Survives old mid (λ _. ⊥)
    → Survives mid new (λ left. AddsRow row (ledger_in mid) (ledger_of (left 0)))
    → (HasCleanDisk new → (left : Trees) → AddsRow row (ledger_in old) (ledger_of (left 0)) → R left) → Survives old new R
looked_then old mid new row R same first second gives =
    survives_then old mid new (λ _. ⊥) (λ left. AddsRow row (ledger_in mid) (ledger_of (left 0))) R (λ _ db none. absurd none)
    (λ clean left adds. gives clean left (from_old old mid row (ledger_of (left 0)) (same (omega (arith, second.clean))) adds)) first second
