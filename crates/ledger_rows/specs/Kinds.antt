-- What a row of a ledger says was done (own)
use Rattle.std.specs.Prelude.{ℕ, List, [], ◌∷◌, Option, codes, find}
use Rattle.std.specs.Str.{bytes_eq}
use Rattle.ledger_rows.specs.declared.kinds.RowKind.{RowKind}
use Rattle.ledger_rows.specs.declared.kinds.RowKind.TheVariants.{Issued, Confirmed, Failed, Imported, Raised}

abbrev pub row_word : RowKind → List ℕ
row_word Issued = codes "issued"
row_word Confirmed = codes "confirmed"
row_word Failed = codes "failed"
row_word Imported = codes "imported"
row_word Raised = codes "raised"

abbrev pub row_kinds : List RowKind
row_kinds = Issued ∷ Confirmed ∷ Failed ∷ Imported ∷ Raised ∷ []

-- the kind that a word names
unfoldable pub row_kind_of : List ℕ → Option RowKind
row_kind_of word = find (λ kind. bytes_eq word (row_word kind)) row_kinds
