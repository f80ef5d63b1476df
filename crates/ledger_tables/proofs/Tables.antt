-- A table is that of a ledger if its parts are
use Rattle.std.proofs.Common.{◌≡◌, [], refl, ap, ◌∙◌}
use Rattle.sqlite_schema.specs.declared.schema.Table.{Table}
use Rattle.ledger_tables.specs.Table.{HasEntryShape, entry_table}

pub table_is : (t : Table) → HasEntryShape t → t.checks ≡ [] → t.stamps ≡ record { places = []; terms = []; formats = [] } → t ≡ entry_table
table_is t shape none stamps =
    let same : t ≡ record {
      name = t.name;
      tree = t.tree;
      columns = t.columns;
      key = t.key;
      primary = t.primary;
      uniques = t.uniques;
      orders = t.orders;
      checks = t.checks;
      references = t.references;
      computed = t.computed;
      stamps = t.stamps;
      is_counted = t.is_counted;
    } = refl in
    same ∙ rw (shape.name, shape.tree, shape.columns, shape.key, shape.keys.primary, shape.keys.uniques, shape.keys.orders, none, shape.references, shape.computed, stamps, shape.counted) refl

pub shape_of : (t : Table) → t ≡ entry_table → HasEntryShape t
shape_of t same = record {
  name = ap (λ (x : Table). x.name) same;
  tree = ap (λ (x : Table). x.tree) same;
  columns = ap (λ (x : Table). x.columns) same;
  key = ap (λ (x : Table). x.key) same;
  keys = record {
    primary = ap (λ (x : Table). x.primary) same;
    uniques = ap (λ (x : Table). x.uniques) same;
    orders = ap (λ (x : Table). x.orders) same;
  };
  references = ap (λ (x : Table). x.references) same;
  computed = ap (λ (x : Table). x.computed) same;
  counted = ap (λ (x : Table). x.is_counted) same;
}
