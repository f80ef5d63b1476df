use Rattle.std.proofs.Common.{◌≡◌, length, arith, ◌∙◌}
use Rattle.std.proofs.lemmas.Result.{err_from_is_err_and}
use Rattle.cut_disk.proofs.CallerLemmas.{runs_join, runs_more, grows_after, grows_then}
use Rattle.cell_store.specs.ReadOrder.{reads, reads_to}
use Rattle.cell_store.specs.Moving.{move_calls}
use Rattle.cell_store.proofs.TwinSteps.{leaves-runs}
use Rattle.cell_store.proofs.ReadingLaws.{leaves-told}
use Rattle.cell_store.proofs.MovingLaws.{kept-same, below-same, damaged-unmoved, only-disk, one-read, not-two, second-unmoved, read-moves, torn-counted, fresh-counted, fresh-below, fresh-moves}
use Rattle.cell_store.proofs.moving.move_up.Goals as goal

pub returns-in-Ok-clause-runs : goal.returns-in-Ok-clause-runs
returns-in-Ok-clause-runs g c = runs_more (move_calls c.args.kind (length c.args.cells.now)) (omega arith) c.in-Ok.ensures.same.runs

pub returns-in-Ok-clause-moved : goal.returns-in-Ok-clause-moved
returns-in-Ok-clause-moved g c = read-moves c.args.kind c.read_cells.new.cells _ _ c.in-Ok.ensures.same.told c.in-Ok.ensures.stands

pub returns-in-Ok-clause-images : goal.returns-in-Ok-clause-images
returns-in-Ok-clause-images g c = kept-same c.args.kind (length c.args.cells.now) _ _ c.in-Ok.ensures.same.told

pub returns-in_err-read_cells-clause-runs : goal.returns-in_err-read_cells-clause-runs
returns-in_err-read_cells-clause-runs g c =
    let count : length c.read_cells.new.cells ≡ length c.args.cells.now = omega arith in
    let first = one-read c.args.kind (length c.args.cells.now) _ _ c.in-Err-NotFormatted.field-0 c.in-Err-NotFormatted.field-0-is c.in-Err-NotFormatted.ensures.leaves c.in-Err-NotFormatted.ensures.finds in
    runs_more (move_calls c.args.kind (length c.args.cells.now)) (omega arith)
    (runs_join first.runs (leaves-runs (reads c.args.kind (length c.args.cells.now)) (reads_to c.args.kind (length c.args.cells.now)) _ _ c.in_err-read_cells.field-0.0 (rw count at c.in_err-read_cells.ensures.leaves)))

pub returns-in_err-read_cells-clause-refused : goal.returns-in_err-read_cells-clause-refused
returns-in_err-read_cells-clause-refused g c =
    let count : length c.read_cells.new.cells ≡ length c.args.cells.now = omega arith in
    let p = err_from_is_err_and c.from_residual.result c.from_residual.ensures.1 in
    rw (p.1, p.2) (second-unmoved c.args.kind (length c.args.cells.now) _ _ c.in-Err-NotFormatted.field-0 c.in-Err-NotFormatted.field-0-is c.in-Err-NotFormatted.ensures.leaves c.in-Err-NotFormatted.ensures.finds _ c.in_err-read_cells.field-0.0 (rw count at c.in_err-read_cells.ensures.leaves) (rw count at c.in_err-read_cells.ensures.finds))

pub returns-in_err-read_cells-clause-only : goal.returns-in_err-read_cells-clause-only
returns-in_err-read_cells-clause-only g c =
    let count : length c.read_cells.new.cells ≡ length c.args.cells.now = omega arith in
    let p = err_from_is_err_and c.from_residual.result c.from_residual.ensures.1 in
    rw (p.1, p.2) (only-disk c.args.kind (length c.args.cells.now) _ _ _ (second-unmoved c.args.kind (length c.args.cells.now) _ _ c.in-Err-NotFormatted.field-0 c.in-Err-NotFormatted.field-0-is c.in-Err-NotFormatted.ensures.leaves c.in-Err-NotFormatted.ensures.finds _ c.in_err-read_cells.field-0.0 (rw count at c.in_err-read_cells.ensures.leaves) (rw count at c.in_err-read_cells.ensures.finds)))

pub returns-in_err-read_cells-clause-images : goal.returns-in_err-read_cells-clause-images
returns-in_err-read_cells-clause-images g c =
    let count : length c.read_cells.new.cells ≡ length c.args.cells.now = omega arith in
    let first = one-read c.args.kind (length c.args.cells.now) _ _ c.in-Err-NotFormatted.field-0 c.in-Err-NotFormatted.field-0-is c.in-Err-NotFormatted.ensures.leaves c.in-Err-NotFormatted.ensures.finds in
    kept-same c.args.kind (length c.args.cells.now) _ _ (leaves-told (reads c.args.kind (length c.args.cells.now)) (reads_to c.args.kind (length c.args.cells.now)) _ _ c.in_err-read_cells.field-0.0 (rw count at c.in_err-read_cells.ensures.leaves) ∙ first.told)

pub returns-in_err-read_cells-clause-besides : goal.returns-in_err-read_cells-clause-besides
returns-in_err-read_cells-clause-besides g c =
    let count : length c.read_cells.new.cells ≡ length c.args.cells.now = omega arith in
    let first = one-read c.args.kind (length c.args.cells.now) _ _ c.in-Err-NotFormatted.field-0 c.in-Err-NotFormatted.field-0-is c.in-Err-NotFormatted.ensures.leaves c.in-Err-NotFormatted.ensures.finds in
    below-same c.args.kind (length c.args.cells.now) _ _ (leaves-told (reads c.args.kind (length c.args.cells.now)) (reads_to c.args.kind (length c.args.cells.now)) _ _ c.in_err-read_cells.field-0.0 (rw count at c.in_err-read_cells.ensures.leaves) ∙ first.told)

pub returns-in_err-write_header_last-clause-runs : goal.returns-in_err-write_header_last-clause-runs
returns-in_err-write_header_last-clause-runs g c =
    let count : length c.read_cells.new.cells ≡ length c.args.cells.now = omega arith in
    let first = one-read c.args.kind (length c.args.cells.now) _ _ c.in-Err-NotFormatted.field-0 c.in-Err-NotFormatted.field-0-is c.in-Err-NotFormatted.ensures.leaves c.in-Err-NotFormatted.ensures.finds in
    let more : length c.read_cells-2.new.cells ≡ length c.args.cells.now = omega arith in
    runs_more (move_calls c.args.kind (length c.args.cells.now)) (omega arith)
    (runs_join (runs_join first.runs (rw count at c.in_ok-read_cells.ensures.same).runs) (rw more at c.write_header_last.ensures.runs))

pub returns-in_err-write_header_last-clause-images : goal.returns-in_err-write_header_last-clause-images
returns-in_err-write_header_last-clause-images g c =
    let count : length c.read_cells.new.cells ≡ length c.args.cells.now = omega arith in
    let first = one-read c.args.kind (length c.args.cells.now) _ _ c.in-Err-NotFormatted.field-0 c.in-Err-NotFormatted.field-0-is c.in-Err-NotFormatted.ensures.leaves c.in-Err-NotFormatted.ensures.finds in
    torn-counted c.args.kind c.read_cells-2.new.cells (length c.args.cells.now) (omega arith) c.write_header_last.ensures.sized c.requires.few c.requires.low _ _ _ (c.in_ok-read_cells.ensures.same.told ∙ first.told)
    (λ t is. let sized = (g.met.D.Disk.is_disk c.args.disk.now).bytes_sized t is in omega (arith, sized, c.requires.room))
    (not-two c.args.kind (length c.args.cells.now) _ _ c.in-Err-NotFormatted.field-0 c.in-Err-NotFormatted.field-0-is c.in-Err-NotFormatted.ensures.leaves c.in-Err-NotFormatted.ensures.finds)
    (λ t is. c.in_ok-read_cells.ensures.stands t (first.told ∙ is))
    c.in_err-write_header_last.ensures.torn

pub returns-clause-moved : goal.returns-clause-moved
returns-clause-moved g c =
    let count : length c.read_cells.new.cells ≡ length c.args.cells.now = omega arith in
    let first = one-read c.args.kind (length c.args.cells.now) _ _ c.in-Err-NotFormatted.field-0 c.in-Err-NotFormatted.field-0-is c.in-Err-NotFormatted.ensures.leaves c.in-Err-NotFormatted.ensures.finds in
    fresh-moves c.args.kind c.read_cells-2.new.cells (length c.args.cells.now) (omega arith) c.write_header_last.ensures.sized c.requires.few c.requires.low _ _ _ ((rw count at c.in_ok-read_cells.ensures.same).told ∙ first.told)
    (λ t is. let sized = (g.met.D.Disk.is_disk c.args.disk.now).bytes_sized t is in omega (arith, sized, c.requires.room))
    (not-two c.args.kind (length c.args.cells.now) _ _ c.in-Err-NotFormatted.field-0 c.in-Err-NotFormatted.field-0-is c.in-Err-NotFormatted.ensures.leaves c.in-Err-NotFormatted.ensures.finds)
    (λ t is. c.in_ok-read_cells.ensures.stands t (first.told ∙ is))
    c.in_ok-write_header_last.ensures.fresh

pub returns-clause-images : goal.returns-clause-images
returns-clause-images g c =
    let count : length c.read_cells.new.cells ≡ length c.args.cells.now = omega arith in
    let first = one-read c.args.kind (length c.args.cells.now) _ _ c.in-Err-NotFormatted.field-0 c.in-Err-NotFormatted.field-0-is c.in-Err-NotFormatted.ensures.leaves c.in-Err-NotFormatted.ensures.finds in
    fresh-counted c.args.kind c.read_cells-2.new.cells (length c.args.cells.now) (omega arith) c.write_header_last.ensures.sized c.requires.few c.requires.low _ _ _ ((rw count at c.in_ok-read_cells.ensures.same).told ∙ first.told)
    (λ t is. let sized = (g.met.D.Disk.is_disk c.args.disk.now).bytes_sized t is in omega (arith, sized, c.requires.room))
    (not-two c.args.kind (length c.args.cells.now) _ _ c.in-Err-NotFormatted.field-0 c.in-Err-NotFormatted.field-0-is c.in-Err-NotFormatted.ensures.leaves c.in-Err-NotFormatted.ensures.finds)
    (λ t is. c.in_ok-read_cells.ensures.stands t (first.told ∙ is))
    c.in_ok-write_header_last.ensures.fresh

pub returns-clause-besides : goal.returns-clause-besides
returns-clause-besides g c =
    let count : length c.read_cells.new.cells ≡ length c.args.cells.now = omega arith in
    let first = one-read c.args.kind (length c.args.cells.now) _ _ c.in-Err-NotFormatted.field-0 c.in-Err-NotFormatted.field-0-is c.in-Err-NotFormatted.ensures.leaves c.in-Err-NotFormatted.ensures.finds in
    fresh-below c.args.kind c.read_cells-2.new.cells (length c.args.cells.now) (omega arith) c.write_header_last.ensures.sized c.requires.few c.requires.low _ _ _ ((rw count at c.in_ok-read_cells.ensures.same).told ∙ first.told)
    (λ t is. let sized = (g.met.D.Disk.is_disk c.args.disk.now).bytes_sized t is in omega (arith, sized, c.requires.room))
    (not-two c.args.kind (length c.args.cells.now) _ _ c.in-Err-NotFormatted.field-0 c.in-Err-NotFormatted.field-0-is c.in-Err-NotFormatted.ensures.leaves c.in-Err-NotFormatted.ensures.finds)
    (λ t is. c.in_ok-read_cells.ensures.stands t (first.told ∙ is))
    c.in_ok-write_header_last.ensures.fresh

pub returns-clause-runs : goal.returns-clause-runs
returns-clause-runs g c =
    let count : length c.read_cells.new.cells ≡ length c.args.cells.now = omega arith in
    let first = one-read c.args.kind (length c.args.cells.now) _ _ c.in-Err-NotFormatted.field-0 c.in-Err-NotFormatted.field-0-is c.in-Err-NotFormatted.ensures.leaves c.in-Err-NotFormatted.ensures.finds in
    let more : length c.read_cells-2.new.cells ≡ length c.args.cells.now = omega arith in
    runs_more (move_calls c.args.kind (length c.args.cells.now)) (omega arith)
    (runs_join (runs_join first.runs (rw count at c.in_ok-read_cells.ensures.same).runs) (rw more at c.write_header_last.ensures.runs))

pub returns-clause-grows : goal.returns-clause-grows
returns-clause-grows g c =
    let count : length c.read_cells.new.cells ≡ length c.args.cells.now = omega arith in
    let first = one-read c.args.kind (length c.args.cells.now) _ _ c.in-Err-NotFormatted.field-0 c.in-Err-NotFormatted.field-0-is c.in-Err-NotFormatted.ensures.leaves c.in-Err-NotFormatted.ensures.finds in
    grows_then (grows_after first.runs c.in_ok-read_cells.ensures.grows) c.write_header_last.ensures.runs

pub returns-in-Err-DiskFailed-clause-runs : goal.returns-in-Err-DiskFailed-clause-runs
returns-in-Err-DiskFailed-clause-runs g c =
    runs_more (move_calls c.args.kind (length c.args.cells.now)) (omega arith) (leaves-runs (reads c.args.kind (length c.args.cells.now)) (reads_to c.args.kind (length c.args.cells.now)) _ _ c.in-Err-DiskFailed.field-0 c.in-Err-DiskFailed.ensures.leaves)

pub returns-in-Err-DiskFailed-clause-images : goal.returns-in-Err-DiskFailed-clause-images
returns-in-Err-DiskFailed-clause-images g c =
    kept-same c.args.kind (length c.args.cells.now) _ _ (leaves-told (reads c.args.kind (length c.args.cells.now)) (reads_to c.args.kind (length c.args.cells.now)) _ _ c.in-Err-DiskFailed.field-0 c.in-Err-DiskFailed.ensures.leaves)

pub returns-in-Err-Damaged-clause-runs : goal.returns-in-Err-Damaged-clause-runs
returns-in-Err-Damaged-clause-runs g c =
    runs_more (move_calls c.args.kind (length c.args.cells.now)) (omega arith) (leaves-runs (reads c.args.kind (length c.args.cells.now)) (reads_to c.args.kind (length c.args.cells.now)) _ _ c.in-Err-Damaged.field-0 c.in-Err-Damaged.ensures.leaves)

pub returns-in-Err-Damaged-clause-refused : goal.returns-in-Err-Damaged-clause-refused
returns-in-Err-Damaged-clause-refused g c =
    damaged-unmoved c.args.kind (length c.args.cells.now) _ _ c.in-Err-Damaged.number c.in-Err-Damaged.field-0 c.in-Err-Damaged.field-0-is c.in-Err-Damaged.ensures.leaves c.in-Err-Damaged.ensures.finds

pub returns-in-Err-Damaged-clause-only : goal.returns-in-Err-Damaged-clause-only
returns-in-Err-Damaged-clause-only g c =
    only-disk c.args.kind (length c.args.cells.now) _ _ _ (damaged-unmoved c.args.kind (length c.args.cells.now) _ _ c.in-Err-Damaged.number c.in-Err-Damaged.field-0 c.in-Err-Damaged.field-0-is c.in-Err-Damaged.ensures.leaves c.in-Err-Damaged.ensures.finds)

pub returns-in-Err-Damaged-clause-images : goal.returns-in-Err-Damaged-clause-images
returns-in-Err-Damaged-clause-images g c =
    kept-same c.args.kind (length c.args.cells.now) _ _ (leaves-told (reads c.args.kind (length c.args.cells.now)) (reads_to c.args.kind (length c.args.cells.now)) _ _ c.in-Err-Damaged.field-0 c.in-Err-Damaged.ensures.leaves)

pub returns-in-Err-Damaged-clause-besides : goal.returns-in-Err-Damaged-clause-besides
returns-in-Err-Damaged-clause-besides g c =
    below-same c.args.kind (length c.args.cells.now) _ _ (leaves-told (reads c.args.kind (length c.args.cells.now)) (reads_to c.args.kind (length c.args.cells.now)) _ _ c.in-Err-Damaged.field-0 c.in-Err-Damaged.ensures.leaves)
