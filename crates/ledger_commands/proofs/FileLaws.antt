-- Files that were read, one after another
use Rattle.std.proofs.Common.{◌≡◌, ◌⊎◌, ℕ, List, [], ◌∷◌, ◌++◌, length, refl, sym, ap, subst, ◌∙◌, inl, inr, arith}
use Rattle.std.specs.Prelude.{Any, Option, codes}
use Rattle.std.proofs.lemmas.Bool.{cases_lt}
use Rattle.std.proofs.Math.ListN.{get_or, get_or-append}
use Rattle.std.proofs.Math.Seq.{get_or-append_seam}
use Rattle.std.proofs.lemmas.List.{length-append}
use Rattle.program_edge.specs.Input.{input_limit, input_fault_status}
use Rattle.program_edge.specs.Rows.{Row, memory_row}
use Rattle.program_edge.specs.Inputs.{Reading, ReadsWhole, SourceFailed, CountsFault, GivesTooMuch, CountsTooMuch}
use Rattle.program_edge.proofs.CallerLemmas.{Offers-is, Offers-whole, SourceTells, SourceTells-lacks, SourceTells-whole, SourceTells-fault, SourceTells-long}
use Rattle.key_campaign.specs.declared.entries.LedgerEntry.{LedgerEntry}
use Rattle.ledger_commands.specs.LedgerBytes.{NoLedgerIn}
use Rattle.ledger_commands.specs.LedgerRows.{ReadsLedger, ReadsLedgers, LacksLedgerFile, no_files, one_file_more, unread, none_there, unkept}
use Rattle.ledger_commands.specs.LedgerReads.{HasNoLedger, OffersLedger, OffersNone}
use Rattle.ledger_commands.proofs.BytesLaws.{holds_or_lacks}

-- of a list with one more
pub any_last : {A : Type 0} (P : A → Type 0) (xs : List A) (y : A) → Any P (xs ++ y ∷ []) → Any P xs ⊎ P y
any_last P xs y (k, x, inside, at, holds) = elim (cases_lt k (length xs)) [
  | inl before ↦ inl (k, x, before, sym (get_or-append xs (y ∷ []) x k before) ∙ at, holds)
  | inr past ↦
      let here : k ≡ length xs = omega (arith, past, inside, length-append xs (y ∷ [])) in
      inr (subst P (sym at ∙ ap (λ n. get_or (xs ++ y ∷ []) n x) here ∙ get_or-append_seam xs y [] x) holds)
]

-- what no file that was read has, none of them has
pub none_of_read : (P : Reading → Type 0) → ((r : Reading) (places : List (Option LedgerEntry)) → ReadsLedger r places → P r → ⊥)
    → (files : List Reading) (ledgers : List (List (Option LedgerEntry))) → ReadsLedgers files ledgers → Any P files → ⊥
none_of_read P never files ledgers no_files (k, r, inside, at, holds) = absurd (omega (arith, inside))
none_of_read P never files ledgers (one_file_more front earlier r places reads last) any = elim (any_last P front r any) [
  | inl before ↦ none_of_read P never front earlier reads before
  | inr here ↦ never r places last here
]

-- ---- a file that was read whole

pub read_no_fault : (r : Reading) (places : List (Option LedgerEntry)) → ReadsLedger r places → CountsFault r → ⊥
read_no_fault r places (x, whole, holds) counts = (let same = whole.no_fault in omega (arith, counts, same))

pub read_not_long : (r : Reading) (places : List (Option LedgerEntry)) → ReadsLedger r places → CountsTooMuch r → ⊥
read_not_long r places (x, whole, holds) counts =
    omega (arith, SourceTells-long input_limit r 0 (SourceTells-whole input_limit r 0 x whole) counts)

pub read_not_none : (r : Reading) (places : List (Option LedgerEntry)) → ReadsLedger r places → OffersNone r → ⊥
read_not_none r places (x, whole, holds) (text, row, offers, lacks) =
    holds_or_lacks x places row holds (subst (λ t. NoLedgerIn t row) (sym (Offers-whole r text x offers whole)) lacks)

-- ---- one that gives no ledger

-- what its row says of it
lacks_tells : (r : Reading) (row : Row) → LacksLedgerFile r row → SourceTells input_limit r row.status
lacks_tells r row comes = grind (arith, SourceTells-lacks, SourceTells-whole)

pub lacks_fault : (r : Reading) (row : Row) → LacksLedgerFile r row → CountsFault r → row.status ≡ 5
lacks_fault r row lacks counts = SourceTells-fault input_limit r row.status (lacks_tells r row lacks) counts

pub lacks_long : (r : Reading) (row : Row) → LacksLedgerFile r row → CountsTooMuch r → row.status ≡ 8
lacks_long r row lacks counts = SourceTells-long input_limit r row.status (lacks_tells r row lacks) counts

none_9 : (x : List ℕ) (row : Row) → NoLedgerIn x row → row.status ≡ 9
none_9 x row comes = grind arith

-- the statuses of such rows
pub lacks_status : (r : Reading) (row : Row) → LacksLedgerFile r row → (row.status ≡ 5) ⊎ (row.status ≡ 7) ⊎ (row.status ≡ 8) ⊎ (row.status ≡ 9)
lacks_status r row comes = grind (arith, none_9)

pub lacks_none : (r : Reading) (row : Row) → LacksLedgerFile r row → OffersNone r → (row.status ≡ 9) ⊎ (row.status ≡ 7)
lacks_none r row comes offers = grind (arith, Offers-is, none_9)

pub lacks_offered : (r : Reading) (row : Row) → LacksLedgerFile r row → OffersLedger r → row.status ≡ 7
lacks_offered r row (unread fault lacks) (text, places, offers, holds) = ap input_fault_status (Offers-is r text fault offers lacks)
lacks_offered r row (none_there x _ whole lacking) (text, places, offers, holds) =
    absurd (holds_or_lacks text places row holds (subst (λ t. NoLedgerIn t row) (Offers-whole r text x offers whole) lacking))
lacks_offered r row (unkept x whole) offers = refl

-- ---- what each status says of the file

pub lacks_5 : (r : Reading) (row : Row) → LacksLedgerFile r row → row.status ≡ 5 → SourceFailed r × (row.text ≡ codes "read fault\n")
lacks_5 r row comes is = grind (arith, none_9)

pub lacks_7 : (r : Reading) (row : Row) → LacksLedgerFile r row → row.status ≡ 7 → row.text ≡ []
lacks_7 r row comes is = grind (arith, none_9)

pub lacks_8 : (r : Reading) (row : Row) → LacksLedgerFile r row → row.status ≡ 8 → GivesTooMuch r × (row.text ≡ codes "input too long\n")
lacks_8 r row comes is = grind (arith, none_9)

pub lacks_9 : (r : Reading) (row : Row) → LacksLedgerFile r row → row.status ≡ 9 → HasNoLedger row r
lacks_9 r row comes is = grind arith

-- a file that was read whole, and what was made of its bytes
pub lacks_read : (r : Reading) (x : List ℕ) (row : Row) → ReadsWhole r x → NoLedgerIn x row ⊎ (row ≡ memory_row) → LacksLedgerFile r row
lacks_read r x row whole (inl lacking) = none_there x row whole lacking
lacks_read r x row whole (inr memory) = subst (LacksLedgerFile r) (sym memory) (unkept x whole)
