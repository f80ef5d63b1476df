-- What a move of a store to version 2 is as a migration.
use Rattle.std.proofs.Common.{◌≡◌, ℕ, ◌≤◌, inr, Option, Some, List, [], length, sym, subst, ap, ◌∙◌, arith}
use Rattle.std.proofs.lemmas.Option.{same_Some}
use Rattle.cut_disk.specs.State.{DiskState, Told}
use Rattle.cut_disk.specs.Images.{firm, Image, EachImage}
use Rattle.cut_disk.proofs.CallerLemmas.{image_of_firm}
use Rattle.cut_disk.specs.Calls.{Runs}
use Rattle.cell_store.specs.declared.kinds.Kind.{Kind}
use Rattle.cell_store.specs.declared.kinds.Kind.TheVariants.{Twin, Log}
use Rattle.cell_store.specs.declared.kinds.Version.{Version}
use Rattle.cell_store.specs.declared.kinds.Version.TheVariants.{One, Two}
use Rattle.cell_store.specs.declared.faults.Reread.{Reread}
use Rattle.cell_store.specs.declared.faults.Reread.TheVariants as reread
use Rattle.cell_store.specs.Layout.{layout}
use Rattle.cell_store.specs.Faults.{store_fault}
use Rattle.cell_store.specs.Store.{FewCells, Stands, store_size, size_from_base}
use Rattle.cell_store.specs.Moving.{StandsAsCounted, AfterMove, Moves, Unmoved, OnlyDisk, KeepsCounted, move_calls}
use Rattle.any_cells.specs.Migrating.{FewToMigrate, StandsInTwo, Migrates, NotMigrated, OnlyRoomOrDisk}

-- few enough for the room below 32768
pub few-cells : (n : ℕ) → FewToMigrate n → FewCells n
few-cells n few = record { some = few.some; most = (let m = few.most in omega arith) }

pub ends-low : (kind : Kind) (n : ℕ) → FewToMigrate n → size_from_base kind n ≤ 32768
ends-low Twin n few = let m = few.most in omega arith
ends-low Log n few = let m = few.most in omega arith

-- bytes that stand in version 2 and aren't loose are their only image
pub in-two : (kind : Kind) (cells : List (List ℕ)) (bytes : List ℕ) (new : Option Told) → new ≡ Some (firm bytes) → Stands (layout kind Two) bytes cells → EachImage new (StandsInTwo kind cells)
in-two kind cells bytes new is stands t told x image =
    let e : t ≡ firm bytes = same_Some _ _ (sym told ∙ is) in
    let f : x ≡ bytes = image_of_firm (subst (λ (u : Told). Image u x) e image) in
    subst (λ (y : List ℕ). StandsInTwo kind cells y) (sym f) (record { counting = stands.head; stands = stands })

by-version : (kind : Kind) (cells : List (List ℕ)) (t : Told) (new : Option Told) (version : Version) → Stands (layout kind version) t.bytes cells → AfterMove kind cells t new version → t ≡ firm t.bytes → EachImage new (StandsInTwo kind cells)
by-version kind cells t new One stands after is_firm = in-two kind cells after.bytes new after.told after.stands
by-version kind cells t new Two stands after is_firm = in-two kind cells t.bytes new (after ∙ ap Some is_firm) stands

pub migrates : (kind : Kind) (n : ℕ) (cells : List (List ℕ)) (old new : Option Told) → length cells ≡ n → Moves kind cells old new → Migrates kind n old new
migrates kind n cells old new count moves t is =
    let m = moves t is in
    record { cells = cells; count = count; moved = m; images = by-version kind cells t new m.before.version m.before.stands m.after }

pub not-migrated : (kind : Kind) (n : ℕ) (before after : DiskState) (fault : Reread) → store_size (layout kind Two) n ≤ before.size → Runs [] (move_calls kind n) before after → Unmoved kind n before after fault → NotMigrated kind n before after (store_fault fault)
not-migrated kind n before after reread.DiskFailed room runs u = record { room = room; runs = runs; unmoved = u }
not-migrated kind n before after reread.NotFormatted room runs u = record { room = room; runs = runs; unmoved = u }
not-migrated kind n before after (reread.Damaged i) room runs u = record { room = room; runs = runs; unmoved = u }

pub only-disk : (kind : Kind) (n : ℕ) (old : Option Told) (fault : Reread) → OnlyDisk kind n old fault → OnlyRoomOrDisk kind n old (store_fault fault)
only-disk kind n old fault only b cells is m stands = inr (inr (ap store_fault (only b cells is m stands)))

-- if nothing is read, nothing has changed
pub kept-none : (kind : Kind) (n : ℕ) (old : Option Told) → KeepsCounted kind n old old
kept-none kind n old b cells is count stands t told x image =
    let e : t ≡ firm b = same_Some _ _ (sym told ∙ is) in
    let f : x ≡ b = image_of_firm (subst (λ (u : Told). Image u x) e image) in
    subst (λ (y : List ℕ). StandsAsCounted kind cells y) (sym f) stands
