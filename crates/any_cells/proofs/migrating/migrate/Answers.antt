use Rattle.std.proofs.Common.{◌≡◌, length, arith, refl, inl, inr}
use Rattle.cell_store.proofs.CallerLemmas.{below-same}
use Rattle.any_cells.proofs.MigratingLaws.{kept-none}
use Rattle.any_cells.proofs.migrating.migrate.Goals as goal

pub returns-then-size-store_size-clause-refused : goal.returns-then-size-store_size-clause-refused
returns-then-size-store_size-clause-refused g c =
    record {
      cause = (omega (arith, c.if-size-store_size.true, c.size.ensures, c.store_size.ensures), refl);
      only = λ b cells told count stands. inl refl;
      images = kept-none c.args.kind c.args.cells _;
      besides = below-same c.args.kind c.args.cells _ _ refl;
    }

pub returns-in-Err-clause-refused : goal.returns-in-Err-clause-refused
returns-in-Err-clause-refused g c =
    record {
      cause = (omega (arith, c.if-size-store_size.false, c.size.ensures, c.store_size.ensures), refl);
      only = λ b cells told count stands. inr (inl refl);
      images = kept-none c.args.kind c.args.cells _;
      besides = below-same c.args.kind c.args.cells _ _ refl;
    }

pub returns-in-Ok-clause-migrated : goal.returns-in-Ok-clause-migrated
returns-in-Ok-clause-migrated g c =
    let e : length c.in-Ok.room.items ≡ c.args.cells = omega (arith, c.in-Ok.ensures.len, c.from.ensures) in
    rw e at c.migrate_into.ensures.migrated

pub returns-in-Ok-clause-refused : goal.returns-in-Ok-clause-refused
returns-in-Ok-clause-refused g c =
    let e : length c.in-Ok.room.items ≡ c.args.cells = omega (arith, c.in-Ok.ensures.len, c.from.ensures) in
    rw e at c.migrate_into.ensures.refused
