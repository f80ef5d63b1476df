-- Of a reserve that says so if there is nothing to reserve.
use Rattle.std.proofs.Common.{ℕ, ◌+◌, ◌<◌, ◌≤◌, List, arith}
use Rattle.freshness_routes.specs.Changes.{bound_ahead}
use Rattle.freshness_routes.specs.declared.routes.Direction.{Direction}
use Rattle.secured_pdu.specs.declared.frame.TheConstants.{WIDEST_WINDOW}
use Rattle.rathonsi_c.specs.declared.route.RathonsiRoute.{RathonsiRoute}
use Rattle.rathonsi_c.specs.Images.{ImageBound}
use Rattle.rathonsi_c.specs.Routes.{IsFarAhead}
use Rattle.rathonsi_c.specs.Reserving.{CoversReserve, LeavesAtLeast}
use Rattle.rathonsi_c.proofs.ImageLaws.{bound_alone}

module _ (r : RathonsiRoute) (image : List ℕ) (d : Direction) (bound : ℕ) (kept : ImageBound image r.cell r.data_id d bound) where
  pub reserved-high : (freshness : ℕ) → CoversReserve r image d freshness → bound_ahead r.reserve freshness ≤ bound
  reserved-high freshness h =
      let same = bound_alone image r.cell r.data_id d d h.bound bound h.kept kept in
      let high = h.high in
      omega arith

  pub far-above : (freshness : ℕ) → IsFarAhead r image freshness → bound + WIDEST_WINDOW < freshness
  far-above freshness h =
      let same = bound_alone image r.cell r.data_id h.direction d h.bound bound h.kept kept in
      let far = h.far in
      omega arith

  pub left-least : (least : ℕ) → LeavesAtLeast r image least → r.counter + least ≤ bound
  left-least least h =
      let same = bound_alone image r.cell r.data_id h.direction d h.bound bound h.kept kept in
      let left = h.left in
      omega arith
