-- What a change of a bound leaves, from its cases.
use Rattle.std.proofs.Common.{ℕ, ◌^◌, ◌<◌, Some, List, length, set, refl, inl, inr, arith, get_or-set_same}
use Rattle.std.proofs.Math.ListN.{length-set}
use Rattle.cut_disk.specs.Images.{EachImage}
use Rattle.cell_store.specs.Cells.{CellsState, Settled}
use Rattle.freshness_routes.specs.declared.routes.Direction.{Direction}
use Rattle.freshness_store.specs.Bound.{bound_cell}
use Rattle.freshness_manager.specs.Counters.{KeepsBound}
use Rattle.freshness_manager.specs.Changing.{FailsChange, KeepsEither}

-- the cell of a bound, put at its place
kept_there : (cells : List (List ℕ)) (place id : ℕ) (direction : Direction) (bound moved : ℕ) → KeepsBound cells place id direction bound → moved < 2 ^ 64
    → KeepsBound (set cells place (bound_cell id direction moved)) place id direction moved
kept_there cells place id direction bound moved kept fits =
    let inside : place < length cells = kept.inside in
    record {
      inside = omega (arith, length-set {A = List ℕ}, inside);
      holds = record {
        id_fits = kept.holds.id_fits;
        bound_fits = fits;
        cell_is = rw get_or-set_same refl;
      };
    }

pub either_kept : (old new : CellsState) (place id : ℕ) (direction : Direction) (bound moved : ℕ) → moved < 2 ^ 64 → Settled old → KeepsBound old.cells place id direction bound
    → FailsChange place id direction (Some moved) old new → EachImage new.disk.told (λ x. KeepsEither old.layout x place id direction bound moved)
either_kept old new place id direction bound moved fits settled kept h t told x image =
    elim (h.images settled t told x image) [
      | inl stands ↦ record { cells = old.cells; stands = stands; keeps = inl kept }
      | inr stands ↦ record {
        cells = set old.cells place (bound_cell id direction moved);
        stands = stands;
        keeps = inr (kept_there old.cells place id direction bound moved kept fits);
      }
    ]
