-- The table of a ledger's file (own; a schema is SQLite's)
use Rattle.std.specs.Prelude.{◌≡◌, ℕ, Bool, true, false, List, [], ◌∷◌, Some, codes}
use Rattle.sqlite_value.specs.declared.value.Value.TheVariants.{Null}
use Rattle.sqlite_value.specs.declared.keys.Collation.TheVariants.{Binary}
use Rattle.sqlite_value.specs.Keys.{plain}
use Rattle.sqlite_schema.specs.declared.schema.Table.{Table}
use Rattle.sqlite_schema.specs.declared.schema.Column.{Column}
use Rattle.sqlite_schema.specs.declared.schema.Kind.{Kind}
use Rattle.sqlite_schema.specs.declared.schema.Kind.TheVariants.{Integer, Text, Blob}
use Rattle.sqlite_schema.specs.declared.schema.Index.{Index}
use Rattle.sqlite_schema.specs.declared.schema.Schema.{Schema}

-- a column that takes values of its type alone, and no NULL
abbrev pub strict_column : List ℕ → Kind → Bool → Column
strict_column name kind not_null =
    record { name = name; kind = kind; is_strict = true; not_null = not_null; default = Null; collation = Binary }

-- the columns, from the first on, from what was done on, and from the station on
abbrev pub origin_columns : List Column
origin_columns = strict_column (codes "station") Text true ∷ strict_column (codes "operator") Text true
    ∷ strict_column (codes "time") Text true ∷ strict_column (codes "id") Integer false ∷ []

abbrev pub deed_columns : List Column
deed_columns = strict_column (codes "what") Text true ∷ strict_column (codes "kcv") Blob true
    ∷ strict_column (codes "auth") Integer true ∷ origin_columns

abbrev pub entry_columns : List Column
entry_columns = strict_column (codes "uid") Blob true ∷ strict_column (codes "slot") Integer true
    ∷ strict_column (codes "counter") Integer true ∷ deed_columns

-- the rows of a ledger, each under a number of its own
abbrev pub entry_table : Table
entry_table = record {
  name = codes "entry";
  tree = 0;
  columns = entry_columns;
  key = Some 9;
  primary = 0 ∷ [];
  uniques = (1 ∷ 2 ∷ 3 ∷ 0 ∷ []) ∷ [];
  orders = plain ∷ [];
  checks = [];
  references = [];
  computed = [];
  stamps = record { places = []; terms = []; formats = [] };
  is_counted = false;
}

-- the keys of the table: its numbers, and what a unit's slot is found by
pub record HasEntryKeys (table : Table) : Type 0 where
  pub primary : table.primary ≡ 0 ∷ []
  pub uniques : table.uniques ≡ (1 ∷ 2 ∷ 3 ∷ 0 ∷ []) ∷ []
  pub orders : table.orders ≡ plain ∷ []

-- all of the table but what reads expressions
pub record HasEntryShape (table : Table) : Type 0 where
  pub name : table.name ≡ codes "entry"
  pub tree : table.tree ≡ 0
  pub columns : table.columns ≡ entry_columns
  pub key : table.key ≡ Some 9
  pub keys : HasEntryKeys table
  pub references : table.references ≡ []
  pub computed : table.computed ≡ []
  pub counted : table.is_counted ≡ false

-- by which a unit's slot is found
abbrev pub entry_index : Index
entry_index = record {
  name = codes "sqlite_autoindex_entry_1";
  tree = 1;
  table = 0;
  columns = 1 ∷ 2 ∷ 3 ∷ 0 ∷ [];
  order = plain;
  is_unique = true;
}

abbrev pub ledger_schema : Schema
ledger_schema = record { tables = entry_table ∷ []; indexes = entry_index ∷ []; views = [] }

abbrev pub no_schema : Schema
no_schema = record { tables = []; indexes = []; views = [] }
