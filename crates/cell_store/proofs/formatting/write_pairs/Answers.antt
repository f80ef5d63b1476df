-- One write a cell.
use Rattle.std.proofs.Common.{◌≡◌, ◌+◌, ◌*◌, ◌∙◌, sym, refl, length, arith}
use Rattle.cut_disk.proofs.CallerLemmas.{runs_then, runs_more}
use Rattle.cell_store.specs.Layout.{base}
use Rattle.cell_store.proofs.WritingLaws.{outside-none, outside-more, writes-tear}
use Rattle.cell_store.proofs.FormatLaws.{pairs_none, pairs_more, writes_same}
use Rattle.cell_store.proofs.formatting.write_pairs.Goals as goal

pub loop-cell-init : goal.loop-cell-init
loop-cell-init g c = record {
  faults = refl;
  so_far = pairs_none c.args.version c.args.cells.now (g.D.Disk.state c.args.disk.now);
  outside = outside-none (base c.args.version + 32) (68 * length c.args.cells.now) _;
}

pub returns-in_err-write-clause-runs : goal.returns-in_err-write-clause-runs
returns-in_err-write-clause-runs g c = runs_more _ (omega arith) (runs_then c.loop-cell.invariant.so_far.runs c.write.ensures.call)

pub returns-in_err-write-clause-outside : goal.returns-in_err-write-clause-outside
returns-in_err-write-clause-outside g c = outside-more (base c.args.version + 32) (68 * length c.args.cells.now) (c.base-base.result + c.pair_place.result) (length c.fresh_cell.result) _ _ _
    (let b = c.base-base.ensures in let e = c.pair_place.ensures in omega arith)
    (let b = c.base-base.ensures in let e = c.pair_place.ensures in let l : length c.fresh_cell.result ≡ 68 = omega arith in let t = c.loop-cell-test.true in omega (arith, l))
    (λ t h. let d = g.met.D.Disk.is_disk c.loop-cell.disk in let z = d.bytes_sized t h in let l = d.loose_sized t h in let s = c.loop-cell.invariant.so_far.runs.size in let r = c.requires.room in (omega arith, l ∙ sym z))
    c.write.ensures.call.tells c.loop-cell.invariant.outside c.in_err-write.ensures.torn

pub loop-cell-preserved : goal.loop-cell-preserved
loop-cell-preserved g c = record {
  faults = c.in_ok-write.ensures.count ∙ c.loop-cell.invariant.faults;
  so_far = pairs_more c.args.version c.args.cells.now c.loop-cell.cell (c.base-base.result + c.pair_place.result) (omega (arith, c.base-base.ensures, c.pair_place.ensures)) c.told-cells c.loop-cell-test.true
      (λ t is. let sized = (g.met.D.Disk.is_disk c.args.disk.now).bytes_sized t is in omega (arith, sized, c.requires.room))
      c.loop-cell.invariant.so_far
      c.write.ensures.call
      (writes_same _ _ _ _ _ _ refl c.fresh_cell.ensures c.in_ok-write.ensures.written);
  outside = outside-more (base c.args.version + 32) (68 * length c.args.cells.now) (c.base-base.result + c.pair_place.result) (length c.fresh_cell.result) _ _ _
      (let b = c.base-base.ensures in let e = c.pair_place.ensures in omega arith)
      (let b = c.base-base.ensures in let e = c.pair_place.ensures in let l : length c.fresh_cell.result ≡ 68 = omega arith in let t = c.loop-cell-test.true in omega (arith, l))
      (λ t h. let d = g.met.D.Disk.is_disk c.loop-cell.disk in let z = d.bytes_sized t h in let l = d.loose_sized t h in let s = c.loop-cell.invariant.so_far.runs.size in let r = c.requires.room in (omega arith, l ∙ sym z))
      c.write.ensures.call.tells c.loop-cell.invariant.outside (writes-tear _ (length c.fresh_cell.result) c.fresh_cell.result _ _ refl c.in_ok-write.ensures.written);
}
