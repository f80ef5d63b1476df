use Rattle.std.proofs.Common.{◌<◌, ◌^◌, ◌≡◌, length, slice_index, ℕ, arith}
use Rattle.std.proofs.Common.{w32}
use borrow.Author.Rules.{elem_Fits}
use Rattle.she_aes.proofs.PlaneLanes.{substituted_is}
use Rattle.she_aes.proofs.planes.sub_bytes.Goals as goal

pub returns : goal.returns
returns c =
    λ s block is.
    let long : length c.planes_of-planes.result ≡ 8 = omega arith in
    let fits : (i : ℕ) → i < 4 → slice_index c.columns_of-boxed.result i < 2 ^ 32 = (λ i h. (elem_Fits w32 w32 c.columns_of-boxed.result c.columns_of-boxed.type_inv.0 i c.columns_of-boxed.type_inv.1.1 tt).fits) in
    substituted_is s c.args.columns.now c.planes_of-planes.result c.substituted.result c.columns_of-boxed.result block is long c.planes_of-planes.ensures c.substituted.ensures c.columns_of-boxed.ensures fits
