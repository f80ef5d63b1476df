-- Ledgers that are opened and read, one after another
use Rattle.std.proofs.Common.{◌≡◌, ℕ, ◌+◌, ◌<◌, Bool, true, List, [], ◌∷◌, ◌++◌, length, take, map, refl, sym, ap, ap₂, subst, ◌∙◌, add-one, append-nil}
use Rattle.std.specs.Prelude.{Some, Ok, Err, ◌&&◌, Option}
use Rattle.std.specs.List.{flat_map, list_all}
use Rattle.std.proofs.Math.ListN.{get_or}
use Rattle.std.proofs.Math.Seq.{take-suc}
use Rattle.std.proofs.lemmas.List.{map-append, take-map, length-append}
use Rattle.std.proofs.Math.Bool.{and-true}
use Rattle.std.proofs.lemmas.List.Folds.{list_all-append}
use Rattle.std.proofs.lemmas.Grind.{flat_map-append}
use Rattle.bus_port.specs.Source.{SourceState}
use Rattle.program_edge.specs.NamedSources.{Openings, behind, IsNamed}
use Rattle.program_edge.specs.Inputs.{Reading}
use Rattle.program_edge.specs.Rows.{Row}
use Rattle.key_campaign.specs.declared.entries.LedgerEntry.{LedgerEntry}
use Rattle.ledger_commands.specs.declared.tasks.ReadTask.{ReadTask}
use Rattle.ledger_commands.specs.LedgerRows.{ReadsLedgers, LacksLedgerFile, task_text, is_found}
use Rattle.ledger_commands.specs.LedgerRows as rows
use Rattle.ledger_commands.specs.Named.{AllNamed, none_yet, one_more}
use Rattle.ledger_commands.specs.ReadSteps.{AnswersLedger, AllAnswered, PushesLedgers}

-- the elements of a list that were gone through, with one more
pub words_more : {A : Type 0} (f : A → List ℕ) (xs : List A) (k : ℕ) (x : A) → k < length xs → x ≡ get_or xs k x
    → take (k + 1) (map f xs) ≡ take k (map f xs) ++ f x ∷ []
words_more f xs k x inside is =
    take-map f (k + 1) xs
    ∙ ap (map f) (ap (λ n. take n xs) (add-one k) ∙ take-suc xs k x inside)
    ∙ map-append f (take k xs) (get_or xs k x ∷ [])
    ∙ ap₂ (λ front y. front ++ f y ∷ []) (sym (take-map f k xs)) (sym is)

named_before : (opens now : List ℕ → SourceState → Type 0) (o : Openings) (word : List ℕ) (source : SourceState)
    → ((next : List ℕ) (s : SourceState) → now next s → opens next s) → IsNamed now o (Some word) source → IsNamed opens o (Some word) source
named_before opens now o word source keeps named = record {
  is_none = named.is_none;
  is_input = named.is_input;
  is_opened = λ name is not. keeps name source (named.is_opened name is not);
}

-- the ledgers of the first arguments were read, and what the task comes to over them is there
pub record PushedSoFar (opens now : List ℕ → SourceState → Type 0) (before mid : Openings) (asked : ReadTask) (words : List (List ℕ))
    (left : List SourceState) (text : List ℕ) (found : Bool) : Type 0 where
  pub files : List Reading
  pub named : AllNamed opens before words files mid
  pub keeps : (next : List ℕ) (s : SourceState) → now next s → opens next s
  pub left_is : map (λ r. r.after) files ≡ left
  pub answers : AllAnswered asked files text found

pub pushed_none : (opens : List ℕ → SourceState → Type 0) (o : Openings) (asked : ReadTask) → PushedSoFar opens opens o o asked [] [] [] true
pushed_none opens o asked = record {
  files = [];
  named = none_yet;
  keeps = λ next s is. is;
  left_is = refl;
  answers = record { ledgers = []; reads = rows.no_files; text_is = refl; found_is = refl };
}

answers_more : (asked : ReadTask) (files : List Reading) (r : Reading) (text text2 : List ℕ) (found found2 : Bool) → AllAnswered asked files text found
    → AnswersLedger asked r text text2 found2 → AllAnswered asked (files ++ r ∷ []) text2 (found && found2)
answers_more asked files r text text2 found found2 all (places, reads, text_is, found_is) = record {
  ledgers = all.ledgers ++ places ∷ [];
  reads = rows.one_file_more files all.ledgers r places all.reads reads;
  text_is = text_is ∙ ap (λ t. t ++ task_text asked places) all.text_is ∙ sym (flat_more (task_text asked) all.ledgers places);
  found_is = ap₂ (λ b d. b && d) all.found_is found_is ∙ sym (all_more (is_found asked) all.ledgers places);
}
  where
    flat_more : {A : Type 0} (f : A → List ℕ) (xs : List A) (x : A) → flat_map f (xs ++ x ∷ []) ≡ flat_map f xs ++ f x
    flat_more f xs x = flat_map-append f xs (x ∷ []) ∙ ap (λ l. flat_map f xs ++ l) (append-nil (f x))

    all_more : {A : Type 0} (p : A → Bool) (xs : List A) (x : A) → list_all p (xs ++ x ∷ []) ≡ list_all p xs && p x
    all_more p xs x = list_all-append p xs (x ∷ []) ∙ ap (λ b. list_all p xs && b) (and-true (p x))

module _ (opens now after : List ℕ → SourceState → Type 0) (before mid : Openings) (asked : ReadTask) (words : List (List ℕ)) (left : List SourceState)
    (text : List ℕ) (found : Bool) (so_far : PushedSoFar opens now before mid asked words left text found)
    (word : List ℕ) (r : Reading) (named : IsNamed now mid (Some word) r.before) where
  named_more : AllNamed opens before (words ++ word ∷ []) (so_far.files ++ r ∷ []) (behind (Some word) mid)
  named_more = one_more words so_far.files mid word r so_far.named (named_before opens now mid word r.before so_far.keeps named)

  left_more : map (λ (x : Reading). x.after) (so_far.files ++ r ∷ []) ≡ left ++ r.after ∷ []
  left_more = map-append (λ (x : Reading). x.after) so_far.files (r ∷ []) ∙ ap (λ l. l ++ r.after ∷ []) so_far.left_is

  pub pushed_one : ((next : List ℕ) (s : SourceState) → after next s → now next s) → (text2 : List ℕ) (found2 : Bool) → AnswersLedger asked r text text2 found2
      → PushedSoFar opens after before (behind (Some word) mid) asked (words ++ word ∷ []) (left ++ r.after ∷ []) text2 (found && found2)
  pushed_one keeps text2 found2 answers = record {
    files = so_far.files ++ r ∷ [];
    named = named_more;
    keeps = λ next s is. so_far.keeps next s (keeps next s is);
    left_is = left_more;
    answers = answers_more asked so_far.files r text text2 found found2 so_far.answers answers;
  }

  pub pushes_none : (all : List (List ℕ)) (number : ℕ) (text2 : List ℕ) (row : Row) → take number all ≡ words ++ word ∷ [] → LacksLedgerFile r row
      → PushesLedgers opens before (behind (Some word) mid) asked all (left ++ r.after ∷ []) text2 (Err row)
  pushes_none all number text2 row is lacks = record {
    files = so_far.files ++ r ∷ [];
    number = number;
    named = subst (λ ws. AllNamed opens before ws (so_far.files ++ r ∷ []) (behind (Some word) mid)) (sym is) named_more;
    left_is = left_more;
    has = record { front = so_far.files; ledgers = so_far.answers.ledgers; last = r; reads = so_far.answers.reads; lacks = lacks; files_are = refl };
  }

pub pushes_all : (opens now : List ℕ → SourceState → Type 0) (before mid : Openings) (asked : ReadTask) (all : List (List ℕ)) (left : List SourceState) (text : List ℕ)
    (found : Bool) (number : ℕ) → number ≡ length all → PushedSoFar opens now before mid asked (take number all) left text found
    → PushesLedgers opens before mid asked all left text (Ok found)
pushes_all opens now before mid asked all left text found number is so_far = record {
  files = so_far.files;
  number = number;
  named = so_far.named;
  left_is = so_far.left_is;
  has = (is, so_far.answers);
}

-- as many ledgers as arguments
pub named_number : (opens : List ℕ → SourceState → Type 0) (before after : Openings) (words : List (List ℕ)) (files : List Reading)
    → AllNamed opens before words files after → length files ≡ length words
named_number opens before after words files none_yet = refl
named_number opens before after words files (one_more front earlier mid word r named is) =
    length-append earlier (r ∷ []) ∙ ap (λ n. n + 1) (named_number opens before mid front earlier named) ∙ sym (length-append front (word ∷ []))

pub reads_number : (files : List Reading) (ledgers : List (List (Option LedgerEntry))) → ReadsLedgers files ledgers → length ledgers ≡ length files
reads_number files ledgers rows.no_files = refl
reads_number files ledgers (rows.one_file_more front earlier r places reads is) =
    length-append earlier (places ∷ []) ∙ ap (λ n. n + 1) (reads_number front earlier reads) ∙ sym (length-append front (r ∷ []))

-- the same, if what is there is known by equations
module _ (opens now : List ℕ → SourceState → Type 0) (before mid : Openings) (asked : ReadTask) (all : List (List ℕ)) (k : ℕ) (left : List SourceState)
    (text : List ℕ) (found : Bool) (so_far : PushedSoFar opens now before mid asked (take k all) left text found)
    (word : List ℕ) (r : Reading) (named : IsNamed now mid (Some word) r.before)
    (words_are : take (k + 1) all ≡ take k all ++ word ∷ []) (later : Openings) (later_is : later ≡ behind (Some word) mid)
    (left2 : List SourceState) (left_is : left2 ≡ left ++ r.after ∷ []) (text2 : List ℕ) where
  pub pushed_at : (after : List ℕ → SourceState → Type 0) → ((next : List ℕ) (s : SourceState) → after next s → now next s)
      → (found2 both : Bool) → both ≡ (found && found2) → AnswersLedger asked r text text2 found2
      → PushedSoFar opens after before later asked (take (k + 1) all) left2 text2 both
  pushed_at after keeps found2 both both_is answers =
      let one = pushed_one opens now after before mid asked (take k all) left text found so_far word r named keeps text2 found2 answers in
      subst (λ b. PushedSoFar opens after before later asked (take (k + 1) all) left2 text2 b) (sym both_is)
      (subst (λ o. PushedSoFar opens after before o asked (take (k + 1) all) left2 text2 (found && found2)) (sym later_is)
      (subst (λ ws. PushedSoFar opens after before (behind (Some word) mid) asked ws left2 text2 (found && found2)) (sym words_are)
      (subst (λ l. PushedSoFar opens after before (behind (Some word) mid) asked (take k all ++ word ∷ []) l text2 (found && found2)) (sym left_is) one)))

  pub lacked_at : (row : Row) → LacksLedgerFile r row → PushesLedgers opens before later asked all left2 text2 (Err row)
  lacked_at row lacks =
      subst (λ o. PushesLedgers opens before o asked all left2 text2 (Err row)) (sym later_is)
      (subst (λ l. PushesLedgers opens before (behind (Some word) mid) asked all l text2 (Err row)) (sym left_is)
      (pushes_none opens now now before mid asked (take k all) left text found so_far word r named all (k + 1) text2 row words_are lacks))
