-- What reading ledgers promises, by the row that it ends in
use Rattle.std.proofs.Common.{◌≡◌, ◌⊎◌, ℕ, Bool, true, false, List, [], ◌∷◌, ◌++◌, length, refl, sym, subst, ◌∙◌, inl, inr, arith}
use Rattle.std.specs.Prelude.{if◌then◌else◌, All, Any, Option, Some, None, Result, Ok, Err, codes, ◌<◌}
use Rattle.std.specs.List.{list_all}
use Rattle.std.proofs.lemmas.List.Elements.{All-get_or}
use Rattle.std.proofs.lemmas.List.Quantifiers.{Any-push}
use Rattle.std.proofs.Math.Seq.{get_or-append_seam}
use Rattle.std.proofs.lemmas.List.{length-append}
use Rattle.program_edge.specs.Rows.{Row}
use Rattle.program_edge.specs.Inputs.{Reading, SourceFailed, CountsFault, GivesTooMuch, CountsTooMuch}
use Rattle.program_edge.specs.Endings.{Ending, EndsInRow, PrintsWhole}
use Rattle.program_edge.proofs.CallerLemmas.{EndsInRow-at, EndsInRow-front, EndsInRow-rose, EndsInRow-only, EndsInRow-may, EndsInRow-well}
use Rattle.key_campaign.specs.declared.entries.LedgerEntry.{LedgerEntry}
use Rattle.ledger_commands.specs.declared.tasks.ReadTask.{ReadTask}
use Rattle.ledger_commands.specs.LedgerTasks.{ledger_asked}
use Rattle.ledger_commands.specs.LedgerRows.{LedgerInputs, ledger_usage, ledger_value_text, ReadsLedger, ReadsLedgers, LacksLedgerFile, answers_row, is_found, ComesOfLedgers, no_form, bad_value, no_ledger, no_room, answered}
use Rattle.ledger_commands.specs.LedgerReads.{HasNoLedger, OffersLedger, OffersNone, AnswersLedgers, ReadsLedgerFiles}
use Rattle.ledger_commands.proofs.FileLaws.{any_last, none_of_read, read_no_fault, read_not_long, read_not_none, lacks_fault, lacks_long, lacks_status, lacks_none, lacks_offered, lacks_5, lacks_7, lacks_8, lacks_9}

-- ---- what is asked is one thing

not_none : {A : Type 0} (o : Option A) (x : A) → o ≡ None → o ≡ Some x → ⊥
not_none o x none some = absurd (cc)

not_wrong : (o : Option (Result ReadTask ℕ)) (number : ℕ) (task : ReadTask) → o ≡ Some (Err number) → o ≡ Some (Ok task) → ⊥
not_wrong o number task wrong right = absurd (cc)

-- ---- the rows

zero_or_one : (asked : ReadTask) (ledgers : List (List (Option LedgerEntry))) → ((answers_row asked ledgers).status ≡ 0) ⊎ ((answers_row asked ledgers).status ≡ 1)
zero_or_one asked ledgers = by_case (list_all (is_found asked) ledgers)
  where
    by_case : (b : Bool) → let n : ℕ = if b then 0 else 1 in (n ≡ 0) ⊎ (n ≡ 1)
    by_case true = inl refl
    by_case false = inr refl

module _ (i : LedgerInputs) (e : Ending) where
  -- no row has another status
  row_status : (row : Row) → ComesOfLedgers i row
      → (row.status ≡ 0) ⊎ (row.status ≡ 1) ⊎ (row.status ≡ 2) ⊎ (row.status ≡ 3) ⊎ (row.status ≡ 5) ⊎ (row.status ≡ 7) ⊎ (row.status ≡ 8) ⊎ (row.status ≡ 9)
  row_status row comes = grind (arith, lacks_status, zero_or_one)

  at_answered : (row : Row) → ComesOfLedgers i row → (row.status ≡ 0) ⊎ (row.status ≡ 1) → PrintsWhole e row.text → e.status ≡ row.status → AnswersLedgers i e
  at_answered row (no_form none files) is prints same = absurd (omega (arith, is))
  at_answered row (bad_value number wrong files) is prints same = absurd (omega (arith, is))
  at_answered row (no_ledger asked front ledgers r _ asks reads lacks files) is prints same = absurd (omega (arith, is, lacks_status r row lacks))
  at_answered row (no_room asked asks files) is prints same = absurd (omega (arith, is))
  at_answered row (answered asked ledgers asks reads number) is prints same = (asked, ledgers, asks, reads, number, same, prints)

  at_2 : (row : Row) → ComesOfLedgers i row → row.status ≡ 2 → PrintsWhole e row.text → (ledger_asked i.words ≡ None) × (i.files ≡ []) × PrintsWhole e ledger_usage
  at_2 row comes is prints = grind (arith, lacks_status, zero_or_one)

  at_3 : (row : Row) → ComesOfLedgers i row → row.status ≡ 3 → PrintsWhole e row.text
      → (number : ℕ) × (ledger_asked i.words ≡ Some (Err number)) × (i.files ≡ []) × PrintsWhole e (ledger_value_text number)
  at_3 row comes is prints = grind (arith, lacks_status, zero_or_one)

  -- the last of the files
  last_has : (P : Reading → Type 0) (front : List Reading) (r : Reading) → i.files ≡ front ++ r ∷ [] → P r → Any P i.files
  last_has P front r files holds = subst (Any P) (sym files) (Any-push P front r holds)

  at_5 : (row : Row) → ComesOfLedgers i row → row.status ≡ 5 → PrintsWhole e row.text → Any SourceFailed i.files × PrintsWhole e (codes "read fault\n")
  at_5 row (no_ledger asked front ledgers r _ asks reads lacks files) is prints =
      let failed = lacks_5 r row lacks is in
      (last_has SourceFailed front r files failed.0, subst (PrintsWhole e) failed.1 prints)
  at_5 row comes is prints = absurd (grind (arith, zero_or_one))

  at_7 : (row : Row) → ComesOfLedgers i row → row.status ≡ 7 → PrintsWhole e row.text → PrintsWhole e []
  at_7 row comes is prints = grind (arith, lacks_7, zero_or_one)

  at_8 : (row : Row) → ComesOfLedgers i row → row.status ≡ 8 → PrintsWhole e row.text → Any GivesTooMuch i.files × PrintsWhole e (codes "input too long\n")
  at_8 row (no_ledger asked front ledgers r _ asks reads lacks files) is prints =
      let long = lacks_8 r row lacks is in
      (last_has GivesTooMuch front r files long.0, subst (PrintsWhole e) long.1 prints)
  at_8 row comes is prints = absurd (grind (arith, zero_or_one))

  at_9 : (row : Row) → ComesOfLedgers i row → row.status ≡ 9 → PrintsWhole e row.text → (r : Row) × Any (HasNoLedger r) i.files × PrintsWhole e r.text
  at_9 row (no_ledger asked front ledgers r _ asks reads lacks files) is prints =
      (row, last_has (HasNoLedger row) front r files (lacks_9 r row lacks is), prints)
  at_9 row comes is prints = absurd (grind (arith, zero_or_one))

  -- ---- which rows come

  only_2 : ledger_asked i.words ≡ None → (row : Row) → ComesOfLedgers i row → row.status ≡ 2
  only_2 malformed row comes = grind (arith, not_none)

  only_3 : (value : ℕ) → ledger_asked i.words ≡ Some (Err value) → (row : Row) → ComesOfLedgers i row → row.status ≡ 3
  only_3 value is row comes = grind (arith, not_none, not_wrong)

  -- no file, so none that has this
  none_open : (P : Reading → Type 0) → i.files ≡ [] → Any P i.files → ⊥
  none_open P files any = none_at (subst (Any P) files any)
    where
      none_at : Any P [] → ⊥
      none_at (k, r, inside, at, holds) = absurd (omega (arith, inside))

  -- what no file that was read has, the last has
  module _ (P : Reading → Type 0) (never : (r : Reading) (places : List (Option LedgerEntry)) → ReadsLedger r places → P r → ⊥) (any : Any P i.files) where
    last_one : (front : List Reading) (ledgers : List (List (Option LedgerEntry))) (r : Reading) → ReadsLedgers front ledgers → i.files ≡ front ++ r ∷ [] → P r
    last_one front ledgers r reads files = elim (any_last P front r (subst (Any P) files any)) [
      | inl before ↦ absurd (none_of_read P never front ledgers reads before)
      | inr here ↦ here
    ]

    -- so a row comes of the last, and has the status that it has there
    only_at : (Q : Row → Type 0) → ((r : Reading) (row : Row) → LacksLedgerFile r row → P r → Q row) → (row : Row) → ComesOfLedgers i row → Q row
    only_at Q each row (no_form none files) = absurd (none_open P files any)
    only_at Q each row (bad_value number wrong files) = absurd (none_open P files any)
    only_at Q each row (no_ledger asked front ledgers r _ asks reads lacks files) = each r row lacks (last_one front ledgers r reads files)
    only_at Q each row (no_room asked asks files) = absurd (none_open P files any)
    only_at Q each row (answered asked ledgers asks reads number) = absurd (none_of_read P never i.files ledgers reads any)

  completes : (asked : ReadTask) → ledger_asked i.words ≡ Some (Ok asked) → All OffersLedger i.files → (row : Row) → ComesOfLedgers i row
      → (row.status ≡ 0) ⊎ (row.status ≡ 1) ⊎ (row.status ≡ 7)
  completes asked is offers row (no_form none files) = absurd (not_none (ledger_asked i.words) (Ok asked) none is)
  completes asked is offers row (bad_value number wrong files) = absurd (not_wrong (ledger_asked i.words) number asked wrong is)
  completes asked is offers row (no_ledger other front ledgers r _ asks reads lacks files) =
      let inside : length front < length (front ++ r ∷ []) = omega (arith, length-append front (r ∷ [])) in
      let offered : OffersLedger r = subst OffersLedger (get_or-append_seam front r [] r) (All-get_or OffersLedger (front ++ r ∷ []) (length front) r inside (subst (All OffersLedger) files offers)) in
      inr (inr (lacks_offered r row lacks offered))
  completes asked is offers row (no_room other asks files) = inr (inr refl)
  completes asked is offers row (answered other ledgers asks reads number) = elim (zero_or_one other ledgers) [ inl zero ↦ inl zero | inr one ↦ inr (inl one) ]

  pub reads_row : EndsInRow (ComesOfLedgers i) e → ReadsLedgerFiles i e
  reads_row ends = record {
    ends = ends;
    answered = λ is. elim is [
      | inl zero ↦ EndsInRow-at ends 0 refl (λ row comes at prints. at_answered row comes (inl at) prints (zero ∙ sym at)) zero
      | inr one ↦ EndsInRow-at ends 1 refl (λ row comes at prints. at_answered row comes (inr at) prints (one ∙ sym at)) one
    ];
    usage = EndsInRow-at ends 2 refl at_2;
    usage_only = λ malformed. EndsInRow-only ends 2 (only_2 malformed);
    value = EndsInRow-at ends 3 refl at_3;
    value_only = λ number is. EndsInRow-only ends 3 (only_3 number is);
    read_fault = EndsInRow-at ends 5 refl at_5;
    read_fault_only = λ counts. EndsInRow-only ends 5 (only_at CountsFault read_no_fault counts (λ row. row.status ≡ 5) lacks_fault);
    too_long = EndsInRow-at ends 8 refl at_8;
    too_long_only = λ counts. EndsInRow-only ends 8 (only_at CountsTooMuch read_not_long counts (λ row. row.status ≡ 8) lacks_long);
    no_ledger = EndsInRow-at ends 9 refl at_9;
    no_ledger_only = λ offers. EndsInRow-may ends 9 (only_at OffersNone read_not_none offers (λ row. (row.status ≡ 9) ⊎ (row.status ≡ 7)) lacks_none);
    write_fault = EndsInRow-front ends (λ row comes six. omega (arith, six, row_status row comes));
    write_fault_only = EndsInRow-rose ends;
    no_memory = EndsInRow-at ends 7 refl at_7;
    complete = λ asked is offers well.
        let told = EndsInRow-well ends well in
        let among = completes asked is offers told.0 told.1 in
        elim among [
          | inl zero ↦ inl (told.2 ∙ zero)
          | inr rest ↦ elim rest [ inl one ↦ inr (inl (told.2 ∙ one)) | inr seven ↦ inr (inr (told.2 ∙ seven)) ]
        ];
  }
