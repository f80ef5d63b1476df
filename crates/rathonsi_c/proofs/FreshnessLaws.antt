-- The answers of the calls of a freshness manager
use Rattle.std.proofs.Common.{◌≡◌, ℕ, ◌^◌, ◌≤◌, List, arith}
use Rattle.freshness_routes.specs.declared.routes.Direction.{Direction}
use Rattle.freshness_routes.specs.declared.routes.Direction.TheVariants.{Receives}
use Rattle.secured_pdu.specs.Frame.{AheadWithBits}
use Rattle.secured_pdu.proofs.CallerLemmas.{same_from_AheadWithBits}
use Rattle.rathonsi_c.specs.declared.route.RathonsiRoute.{RathonsiRoute}
use Rattle.rathonsi_c.specs.Images.{ImageBound}
use Rattle.rathonsi_c.specs.Routes.{BoundBelow}
use Rattle.rathonsi_c.specs.Freshness.{AheadOfBound}
use Rattle.rathonsi_c.proofs.ImageLaws.{bound_once}

-- a bound that is as high is below no such freshness
pub covered_here : (r : RathonsiRoute) (image : List ℕ) (d : Direction) (bound freshness : ℕ) → ImageBound image r.cell r.data_id d bound → freshness ≤ bound → ¬ BoundBelow r image d freshness
covered_here r image d bound freshness kept covers under =
    let e : under.bound ≡ bound = bound_once image r.cell r.data_id d under.bound bound under.kept kept in
    let l = under.below in
    absurd (omega arith)

-- nor is any candidate above it
pub candidate_covered : (r : RathonsiRoute) (image : List ℕ) (b t bound freshness : ℕ) → r.window ≤ 2 ^ b → AheadWithBits r.counter r.window b t freshness → ImageBound image r.cell r.data_id Receives bound → freshness ≤ bound → ¬ AheadOfBound r image b t
candidate_covered r image b t bound freshness small ahead kept covers over =
    let same : over.freshness ≡ freshness = same_from_AheadWithBits r.counter r.window b t over.freshness freshness small over.ahead ahead in
    covered_here r image Receives bound over.freshness kept (omega (arith, same, covers)) over.below
