-- What the texts of the statements mean
use Rattle.std.proofs.Common.{◌≡◌, ℕ, pos, negsuc, List, [], ◌∷◌, length, codes, false, None, Ok, Err, Result, refl}
use Rattle.sqlite_value.specs.declared.value.Value.TheVariants.{Null, Int}
use Rattle.sqlite_value.specs.declared.keys.Collation.TheVariants.{Binary}
use Rattle.sqlite_sql.specs.Term.{Term, lit, col, op2}
use Rattle.sqlite_sql.specs.declared.ops.CompareOp.TheVariants.{Eq}
use Rattle.sqlite_sql.specs.declared.ops.BinaryOp.TheVariants.{Compare}
use Rattle.sqlite_sql.specs.Query.{Query, inner, end}
use Rattle.sqlite_schema.specs.declared.command.Source.TheVariants.{Values}
use Rattle.sqlite_schema.specs.declared.command.Command.TheVariants.{Insert, Select, CreateTable}
use Rattle.sqlite_resolve.specs.Compile.{table_defined_by}
use Rattle.sqlite_resolve.specs.declared.compiled.Compiled.{Compiled}
use Rattle.sqlite_resolve.specs.declared.error.CompileError.{CompileError}
use Rattle.sqlite_tied.specs.Compute.{everything}
use Rattle.sqlite.specs.Listing.{understood, reads_listing}
use Rattle.sqlite.proofs.Callers.{IsPlain, command_of, statement_of}
use Rattle.ledger_tables.specs.Table.{entry_table, ledger_schema, no_schema}

abbrev pub create_text : List ℕ
create_text = codes "CREATE TABLE entry (uid BLOB NOT NULL, slot INTEGER NOT NULL, counter INTEGER NOT NULL, what TEXT NOT NULL, kcv BLOB NOT NULL, auth INTEGER NOT NULL, station TEXT NOT NULL, operator TEXT NOT NULL, time TEXT NOT NULL, id INTEGER PRIMARY KEY, UNIQUE (uid, slot, counter, id)) STRICT"

abbrev pub slot_text : List ℕ
slot_text = codes "SELECT slot, counter, what, kcv FROM entry WHERE uid = ?1 AND slot = ?2"

abbrev pub insert_text : List ℕ
insert_text = codes "INSERT INTO entry (uid, slot, counter, what, kcv, auth, station, operator, time) VALUES (?1, ?2, ?3, ?4, ?5, ?6, ?7, ?8, ?9)"

abbrev pub terms : List Term
terms = lit Null ∷ col 0 0 ∷ col 0 1 ∷ col 0 2 ∷ col 0 3 ∷ col 0 4 ∷ col 0 5 ∷ col 0 6 ∷ col 0 7 ∷ col 0 8 ∷ lit Null ∷ []

abbrev pub slot_filter : List Term
slot_filter = op2 (Compare Eq Binary) (col 1 1) (col 0 0) ∷ op2 (Compare Eq Binary) (col 1 2) (col 0 1) ∷ []

abbrev pub slot_query : Query
slot_query = record {
  from = inner 0 end;
  filter = slot_filter;
  group = None;
  project = col 1 2 ∷ col 1 3 ∷ col 1 4 ∷ col 1 5 ∷ [];
  distinct = false;
  collations = [];
  order = [];
  limit = lit (Int (negsuc 0));
  offset = lit (Int (pos 0));
}

-- the text is one statement with this many parameters, and reads no clock
abbrev pub IsOneStatement : List ℕ → ℕ → Result Compiled CompileError → Type 0
IsOneStatement sql count (Ok c) = (c.tail ≡ length sql) × (count ≡ length c.names) × (c.formats ≡ [])
IsOneStatement sql count (Err e) = ⊥

pub create_is : (command_of (understood no_schema create_text) ≡ CreateTable) × (statement_of create_text (understood no_schema create_text) ≡ create_text) × (table_defined_by create_text ≡ Ok entry_table)
unfolding understood everything
create_is = (refl, refl, refl)

pub slot_is : (command_of (understood ledger_schema slot_text) ≡ Select (record { lets = []; body = slot_query }) (codes "slot" ∷ codes "counter" ∷ codes "what" ∷ codes "kcv" ∷ [])) × (reads_listing ledger_schema slot_text ≡ false)
unfolding understood everything
slot_is = (refl, refl)

pub insert_is : command_of (understood ledger_schema insert_text) ≡ Insert 0 (Values terms 11)
unfolding understood everything
insert_is = refl

pub create_plain : IsPlain (understood no_schema create_text)
unfolding understood everything
create_plain = (refl, refl)

pub slot_plain : IsPlain (understood ledger_schema slot_text)
unfolding understood everything
slot_plain = (refl, refl)

pub insert_plain : IsPlain (understood ledger_schema insert_text)
unfolding understood everything
insert_plain = (refl, refl)

pub create_one : IsOneStatement create_text 0 (understood no_schema create_text)
unfolding understood everything
create_one = (refl, refl, refl)

pub slot_one : IsOneStatement slot_text 2 (understood ledger_schema slot_text)
unfolding understood everything
slot_one = (refl, refl, refl)

pub insert_one : IsOneStatement insert_text 9 (understood ledger_schema insert_text)
unfolding understood everything
insert_one = (refl, refl, refl)
