use Rattle.std.proofs.Common.{◌≡◌, ◌+◌, ℕ, List, get_or, sym, subst}
use Rattle.cell_store.specs.Layout.{base}
use Rattle.cell_store.specs.Store.{fresh_cells}
use Rattle.kept_starts.proofs.LookedUnfinished.{begun_unfinished}
use Rattle.kept_starts.proofs.unfinished.is_unfinished.Goals as goal

pub returns-clause-unfinished : goal.returns-clause-unfinished
returns-clause-unfinished g c =
    begun_unfinished c.args.kind c.args.version c.args.cells.now c.as_slice.result.now (g.D.Disk.state c.args.disk.now).told c.read_begun.result
    (subst (λ (ys : List ℕ). (k : ℕ) → get_or ys (base c.args.version + 32 + k) 0 ≡ get_or (fresh_cells c.args.kind c.args.cells.now) k 0)
    (sym c.as_slice.ensures.value) c.in-Ok.ensures) c.requires.headless c.read_begun.ensures.begun
