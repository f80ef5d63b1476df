use Rattle.std.proofs.Common.{◌≡◌, ◌<◌, ◌≤◌, ◌⊎◌, inl, inr, length, refl, sym, ◌∙◌, arith}
use Rattle.std.proofs.lemmas.Result.{err_from_is_err_and}
use Rattle.cell_store.specs.Log.{number}
use Rattle.cell_store.proofs.ReadingLaws.{failed_more, failed_after}
use Rattle.cell_store.proofs.LogReadingLaws.{read-places-none, read-places-closed, read-places-live, read-places-wrong}
use Rattle.cell_store.proofs.log_reading.read_places.Goals.{then-used-p-via-then-used-p, then-used-p-via-else-used-p+then-number-count, then-is_live_place+else-used-p+else-number-count, else-is_live_place}
use Rattle.cell_store.proofs.log_reading.read_places.Goals as goal

pub loop-p-init : goal.loop-p-init
loop-p-init g c = read-places-none c.args.version (length c.args.cells.now) c.args.side c.args.cells.now (g.D.Disk.state c.args.disk.now) refl c.requires.read

pub returns-in_err-bytes-clause-fault : goal.returns-in_err-bytes-clause-fault
returns-in_err-bytes-clause-fault g c =
    let p = err_from_is_err_and c.from_residual.result c.from_residual.ensures.1 in
    rw (p.1, p.2) (failed_more 64 (omega arith) (failed_after c.loop-p.invariant.as_before c.in_err-bytes.ensures.failed))

pub returns-then-used-p-clause-fault : goal.returns-then-used-p-clause-fault
returns-then-used-p-clause-fault g c =
    let few = c.loop-p.invariant.few in
    let wrong : (c.loop-p.used < c.loop-p.p) ⊎ (length c.args.cells.now ≤ number c.in_ok-bytes.bytes) = elim c.then-used-p.branch [
      | then-used-p-via-then-used-p w ↦ inl (omega (arith, few, w.if-used-p))
      | then-used-p-via-else-used-p+then-number-count w ↦ inr (omega (arith, w.if-number-count, c.number_of-number.ensures))
    ] in
    rw c.from.ensures
    (read-places-wrong c.args.version (length c.args.cells.now) c.args.side c.loop-p.p c.loop-p.used c.loop-p.cells _ _ _ c.loop-p.invariant c.in_ok-bytes.bytes c.in_ok-bytes.ensures.same c.in_ok-bytes.ensures.is c.requires.counting (omega arith) (sym c.is_live_place.ensures ∙ c.if-is_live_place.true) wrong)

pub loop-p-preserved : goal.loop-p-preserved
loop-p-preserved g c = elim c.if-is_live_place.branch [
  | then-is_live_place+else-used-p+else-number-count w ↦
      rw (w.used-is, w.cells-is, w.content_of.ensures, w.number_of-number.ensures)
      (read-places-live c.args.version (length c.args.cells.now) c.args.side c.loop-p.p c.loop-p.used c.loop-p.cells _ _ _ c.loop-p.invariant c.in_ok-bytes.bytes c.in_ok-bytes.ensures.same c.in_ok-bytes.ensures.is (sym c.is_live_place.ensures ∙ w.if-is_live_place.true) (omega (arith, w.if-used-p)) (omega (arith, w.if-number-count, w.number_of-number.ensures)))
  | else-is_live_place w ↦
      rw (w.used-is, w.cells-is)
      (read-places-closed c.args.version (length c.args.cells.now) c.args.side c.loop-p.p c.loop-p.used c.loop-p.cells _ _ _ c.loop-p.invariant c.in_ok-bytes.bytes c.in_ok-bytes.ensures.same c.in_ok-bytes.ensures.is (sym c.is_live_place.ensures ∙ w.if-is_live_place.false))
]

pub returns-clause-is : goal.returns-clause-is
returns-clause-is g c t h = let e : c.loop-p.p ≡ 64 = omega arith in (rw e at c.loop-p.invariant).each t h
